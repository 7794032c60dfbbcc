-- Frames that change at most how far a content that is lent has come: methods that have nothing to do with requests, and
-- the frames of a content that answers none. Read before: `VerdictView`, and what is known of a lent content
-- (`LentView`).
use Rattle.std.specs.Prelude.{◌≡◌, None}
use Rattle.amqp_model.specs.End.Channels.{Channel}
use Rattle.amqp_model.specs.Wire.Readings.{Reading}
use Rattle.amqp_channel.specs.Roles.{role_of}
use Rattle.amqp_channel.specs.Verdict.LentView.{stands_on}
use Rattle.amqp_channel.specs.Verdict.VerdictView.{Rules}
use Rattle.amqp_channel.specs.declared.site.Site.{Site}
use Rattle.amqp_channel.specs.declared.verdict.Told.{Told}
use Rattle.amqp_channel.specs.declared.verdict.Told.TheVariants as told
use Rattle.amqp_channel.specs.declared.verdict.Verdict.TheVariants.{Proceeds}

-- a header, or a part of a body
abbrev pub IsOfContent : Told → Type 0
IsOfContent told.Headed = Unit {0}
IsOfContent told.Continued = Unit {0}
IsOfContent told.Completed = Unit {0}
IsOfContent told = ⊥

-- a method without content, or a frame of a content
abbrev pub IsOfMessage : Told → Type 0
IsOfMessage told.Method = Unit {0}
IsOfMessage told.Begun = Unit {0}
IsOfMessage told = IsOfContent told

pub record Passes (site : Site) (channel : Channel) (reading : Reading) (said : Told) : Type 0 where
  -- The rules let the frame through, and owe it no reply.
  pub rules : Rules site channel reading (Proceeds said None)
  -- It is a method without content, or a frame of a content.
  pub message : IsOfMessage said
  -- Nothing changes beside the content.
  pub stands : stands_on (role_of site.side) reading said channel ≡ channel
