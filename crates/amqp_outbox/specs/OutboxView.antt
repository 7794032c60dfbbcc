-- What callers see of an outbox.
use Rattle.std.specs.Prelude.{◌≡◌, ℕ, List, [], ◌∷◌, ◌++◌}
use Rattle.amqp_frame.specs.Frame.{Frame}
use Rattle.amqp_model.specs.Output.Outputs.{Output, after_put, after_puts}
use Rattle.amqp_model.specs.Stream.Endpoint.{output_of}

-- Frames are staged first, which may want memory, and then put all at once, which does not.
pub record Outgoing : Type 0 where
  pub output : Output
  -- the frames that are to be put next, in order
  pub staged : List Frame

-- an output with nothing staged
abbrev pub only : Output → Outgoing
only output = record { output = output; staged = [] }

-- these octets to write, and nothing else
abbrev pub begins_with : List ℕ → Outgoing
begins_with octets = only (output_of octets)

-- with frames staged after those that are
abbrev pub with_staged : Outgoing → List Frame → Outgoing
with_staged outgoing frames = record { output = outgoing.output; staged = outgoing.staged ++ frames }

-- with another output
abbrev pub with_output : Outgoing → Output → Outgoing
with_output outgoing output = record { output = output; staged = outgoing.staged }

-- what is staged is put
abbrev pub all_put : Outgoing → Outgoing
all_put outgoing = only (after_puts outgoing.staged outgoing.output)

-- the first frame that was staged is put
abbrev pub IsPutOfFirst : (old new : Outgoing) → Type 0
IsPutOfFirst old new = (f : Frame) (later : List Frame) → old.staged ≡ f ∷ later → new ≡ record { output = after_put f old.output; staged = later }
