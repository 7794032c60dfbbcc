-- A content whose body is lent: what stands before its parts, and the parts.
use Rattle.std.specs.Prelude.{◌≡◌, ℕ, List, [], ◌∷◌, ◌++◌, length, take, drop, All}
use Rattle.amqp_frame.specs.Frame.{Frame, header, octets, END}
use Rattle.amqp_frame.specs.Splitting.{stream}
use Rattle.amqp_frame.specs.declared.frames.FrameKind.TheVariants.{Body}
use Rattle.amqp_method.specs.Properties.{ContentHeader}
use Rattle.amqp_model.specs.Output.Outputs.{Output, output_octets, after_writing}
use Rattle.amqp_outbox.specs.OutboxFrames.{header_frame, body_frames}

-- what stands around the parts of a body: before each what begins its frame, and after each the octet that ends it
abbrev pub around : (channel : ℕ) → (parts : List (List ℕ)) → List ℕ
around channel [] = []
around channel (part ∷ later) = header Body channel (length part) ++ END ∷ around channel later

-- octets with the parts in them: the first part stands after `before` of them, each later one after 8 more
abbrev pub braided : (before : ℕ) → (between : List ℕ) → (parts : List (List ℕ)) → List ℕ
braided before between [] = between
braided before between (part ∷ later) = take before between ++ (part ++ braided 8 (drop before between) later)

-- the octets of all frames of a content
abbrev pub content_octets : (method : Frame) → (channel : ℕ) → ContentHeader → (room : ℕ) → (body : List ℕ) → List ℕ
content_octets method channel header room body =
    octets method ++ (octets (header_frame channel header) ++ stream (body_frames channel room body))

-- all of an output is written
abbrev pub all_written : Output → Output
all_written output = after_writing (length (output_octets output)) output

abbrev pub AllOn : (channel : ℕ) → List Frame → Type 0
AllOn channel frames = All (λ (f : Frame). f.channel ≡ channel) frames
