-- Frames that are taken without memory: a header, a body or a heartbeat that is dropped, and a heartbeat that changes
-- nothing.
use Rattle.std.specs.Prelude.{◌≡◌, ◌≤◌, ◌⊎◌, true, ℕ, List, [], ◌++◌}
use Rattle.amqp_frame.specs.Frame.{Fits, frame_length, octets}
use Rattle.amqp_frame.specs.declared.frames.FrameKind.{FrameKind}
use Rattle.amqp_frame.specs.declared.frames.FrameKind.TheVariants.{Method, Header, Body, Heartbeat}
use Rattle.amqp_model.specs.End.Channels as model
use Rattle.amqp_model.specs.Stream.Endpoint.{Endpoint}
use Rattle.amqp_model.specs.Wire.Frame.{Frame}
use Rattle.amqp_model.specs.History.Negotiation.{frame_limit}
use Rattle.amqp_model.specs.Wire.Notes.{Role}
use Rattle.amqp_model.specs.Stream.Pieces.{reads_frames}
use Rattle.amqp_model.specs.Wire.Readings.{Reading, HeaderOf, MalformedHeader, BodyOf, Beat}
use Rattle.amqp_channel.specs.Channels.Used.{is_closing_at}
use Rattle.amqp_core.specs.Connection.Stages.{leaves}

-- The end has put connection.close; or it has closed the channel; or the heartbeat is as it is to be.
abbrev pub IsDropped : model.Phase → model.Channel → (number : ℕ) → FrameKind → (payload : List ℕ) → Type 0
IsDropped phase channel number Method payload = ⊥
IsDropped phase channel number Header payload = (leaves phase ≡ true) ⊎ (is_closing_at channel ≡ true)
IsDropped phase channel number Body payload = (leaves phase ≡ true) ⊎ (is_closing_at channel ≡ true)
IsDropped phase channel number Heartbeat payload = (leaves phase ≡ true) ⊎ ((number ≡ 0) × (payload ≡ []))

-- the same of what the frame says
abbrev pub DropsReading : model.Phase → model.Channel → (number : ℕ) → Reading → Type 0
DropsReading phase channel number (HeaderOf size properties) = (leaves phase ≡ true) ⊎ (is_closing_at channel ≡ true)
DropsReading phase channel number MalformedHeader = (leaves phase ≡ true) ⊎ (is_closing_at channel ≡ true)
DropsReading phase channel number (BodyOf octets) = (leaves phase ≡ true) ⊎ (is_closing_at channel ≡ true)
DropsReading phase channel number (Beat empty) = (leaves phase ≡ true) ⊎ ((number ≡ 0) × (empty ≡ true))
DropsReading phase channel number reading = ⊥

-- nothing is unfinished, and a whole frame that is dropped stands at the start of the piece
pub record DropsInPlace (role : Role) (endpoint : Endpoint) (piece : List ℕ) : Type 0 where
  pub reads : reads_frames role endpoint.end.phase ≡ true
  pub none : endpoint.unfinished ≡ []
  pub frame : Frame
  pub later : List ℕ
  pub fits : Fits frame
  pub within : frame_length frame ≤ frame_limit endpoint.end.agreed
  pub at_start : piece ≡ octets frame ++ later
  pub dropped :
      IsDropped endpoint.end.phase (endpoint.end.channels frame.channel) frame.channel frame.kind frame.payload
