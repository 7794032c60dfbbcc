use Rattle.std.proofs.Common.{◌≡◌, ◌<◌, [], ◌∷◌, ◌++◌, min, length, take, drop, List, ℕ, sym, ap, ◌∙◌, arith, append_assoc, append-nil, rules}
use Rattle.std.proofs.lemmas.List.{length-take-le, nil_from_length}
use Rattle.amqp_frame.specs.Frame.{header, END}
use Rattle.amqp_frame.specs.declared.frames.FrameKind.TheVariants.{Body}
use Rattle.amqp_model.specs.Wire.Contents.{pieces}
use Rattle.amqp_outbox.specs.LentContent.{around}
use Rattle.amqp_outbox.proofs.BodyParts.{cut_once, pieces_none}
use Rattle.amqp_outbox.proofs.lent.append_around.Goals as goal

pub loop-rest-preserved : goal.loop-rest-preserved
loop-rest-preserved c =
    let octets = c.loop-rest.octets.items in
    let rest = c.loop-rest.rest.now in
    let size = c.min-size.result in
    let channel = c.args.channel in
    let room = c.args.room in
    let some : 0 < room = c.requires in
    let more : 0 < length rest = search rules in
    let size_is : size ≡ min (length rest) room = omega arith in
    let later : List ℕ = around channel (pieces room (drop size rest)) in
    let part : size ≡ length (take size rest) = sym (length-take-le size rest (omega arith)) in
    let there : c.split_at.result.1.now ≡ drop size rest = c.split_at.ensures.back in
    let pushed : c.push.new.self.items ≡ (octets ++ header Body channel size) ++ END ∷ [] =
    c.in_ok-push.ensures.items ∙ ap (λ xs. xs ++ END ∷ []) (c.in_ok-extend_from_slice.ensures.items ∙ ap (λ s. octets ++ s) c.start_of.ensures) in
    ap (λ r. c.push.new.self.items ++ around channel (pieces room r)) there
    ∙ (ap (λ xs. xs ++ later) pushed
    ∙ (append_assoc (octets ++ header Body channel size) (END ∷ []) later
    ∙ (append_assoc octets (header Body channel size) (END ∷ later)
    ∙ (ap (λ k. octets ++ (header Body channel k ++ END ∷ later)) part
    ∙ (ap (λ ps. octets ++ around channel ps) (sym (cut_once room size rest some more size_is))
    ∙ c.loop-rest.invariant)))))

pub returns-clause-ok : goal.returns-clause-ok
returns-clause-ok c =
    let rest = c.loop-rest.rest.now in
    let empty : length rest ≡ 0 = search rules in
    let none : pieces c.args.room rest ≡ [] = ap (pieces c.args.room) (nil_from_length rest empty) ∙ pieces_none c.args.room c.requires in
    sym (append-nil c.loop-rest.octets.items) ∙ (ap (λ ps. c.loop-rest.octets.items ++ around c.args.channel ps) (sym none) ∙ c.loop-rest.invariant)
