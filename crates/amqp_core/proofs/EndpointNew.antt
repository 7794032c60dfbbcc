-- A new end.
use Rattle.std.proofs.Common.{◌≡◌, ℕ, List, [], None, refl, sym, ap, ◌∙◌, subst, arith}
use Rattle.std.proofs.lemmas.Bool.{true≢false}
use Rattle.amqp_frame.specs.Stream.{Stream}
use Rattle.amqp_model.specs.End.Channels.{End}
use Rattle.amqp_model.specs.Stream.Endpoint.{new_endpoint, output_of}
use Rattle.amqp_model.specs.End.Machine.{new_end}
use Rattle.amqp_model.specs.Wire.Notes.{Role, Client, Server}
use Rattle.amqp_model.specs.Stream.Octets.{opening_written}
use Rattle.amqp_model.specs.Output.Outputs.{Output}
use Rattle.amqp_core.specs.End.EndpointView.{FieldsFit, unfinished_of}

pub new_is : (role : Role) (end : End) (pending : List ℕ) (output : Output) → end ≡ new_end role → pending ≡ [] → output ≡ output_of (opening_written role) → record { end = end; unfinished = unfinished_of 0 pending; output = output } ≡ new_endpoint role
new_is role end pending output e p o =
    ap (λ (x : End). record { end = x; unfinished = unfinished_of 0 pending; output = output }) e
    ∙ (ap (λ (x : List ℕ). record { end = new_end role; unfinished = x; output = output }) p
    ∙ ap (λ (x : Output). record { end = new_end role; unfinished = []; output = x }) o)

fields_new : (role : Role) (stream : Stream) → stream.pending ≡ [] → stream.fault ≡ None → stream.limit ≡ 4096 → FieldsFit role (new_end role) 0 stream
fields_new Client stream p f l = record { agreed = tt; opening = λ e. p; opened = λ e. refl; awaited = λ e. refl; within = omega arith; over = λ e. p; ready = λ e. record { running = f; limit_is = l } }
fields_new Server stream p f l = record { agreed = tt; opening = λ e. p; opened = λ e. refl; awaited = λ e. absurd (true≢false e); within = omega arith; over = λ e. p; ready = λ e. record { running = f; limit_is = l } }

pub fields_begin : (role : Role) (end : End) (stream : Stream) → end ≡ new_end role → stream.pending ≡ [] → stream.fault ≡ None → stream.limit ≡ 4096 → FieldsFit role end 0 stream
fields_begin role end stream e p f l = subst (λ (x : End). FieldsFit role x 0 stream) (sym e) (fields_new role stream p f l)
