use Rattle.std.proofs.Common.{◌≡◌, ℕ, ◌++◌, length, map, take, drop, sym, ap, subst, ◌∙◌, arith}
use Rattle.std.proofs.Math.Seq.{take-append_seam}
use Rattle.std.proofs.lemmas.List.{length-map}
use Rattle.std.proofs.lemmas.Slice.{drop-append-drop}
use Rattle.amqp_method.specs.HeaderRefView.{lent_header}
use Rattle.amqp_method.specs.Properties.{property_kinds}
use Rattle.amqp_calls.specs.Values.{argument_there}
use Rattle.amqp_calls.proofs.LentHeaders.{as_many}
use Rattle.amqp_calls.proofs.codec.headers.tell_properties.Goals as goal

pub returns-clause-properties : goal.returns-clause-properties
returns-clause-properties c =
    let front = c.copy_from_slice.new.self in
    let all = (lent_header c.args.header).properties in
    let long : length front ≡ 14 =
    ap length c.copy_from_slice.ensures.after ∙ sym (length-map c.properties-told.result argument_there) ∙ ap length c.properties-told.ensures ∙ as_many all property_kinds c.requires.kinds in
    let first : take 14 (front ++ drop 14 c.args.values.now) ≡ front =
    subst (λ (n : ℕ). take n (front ++ drop 14 c.args.values.now) ≡ front) long (take-append_seam front (drop 14 c.args.values.now)) in
    ap (map argument_there) (first ∙ c.copy_from_slice.ensures.after) ∙ c.properties-told.ensures

pub returns-clause-others : goal.returns-clause-others
returns-clause-others c =
    let front = c.copy_from_slice.new.self in
    let all = (lent_header c.args.header).properties in
    let long : length front ≡ 14 =
    ap length c.copy_from_slice.ensures.after ∙ sym (length-map c.properties-told.result argument_there) ∙ ap length c.properties-told.ensures ∙ as_many all property_kinds c.requires.kinds in
    drop-append-drop 14 c.args.values.now front 14 (omega arith) long
