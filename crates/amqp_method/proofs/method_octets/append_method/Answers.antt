use Rattle.std.proofs.Common.{map, subst, sym, ap, ◌∙◌}
use Rattle.amqp_method.specs.Kinds.{fields_of}
use Rattle.amqp_method.specs.MethodView.{method_view}
use Rattle.amqp_method.specs.Methods.{row}
use Rattle.amqp_method.specs.Plain.{CountsAllFit}
use Rattle.amqp_method.specs.Rows.{field_view}
use Rattle.amqp_method.specs.Views.{args_view}
use Rattle.amqp_method.specs.declared.kinds.Kind.{Kind}
use Rattle.amqp_method.proofs.CompleteLemmas.{complete-counts, method_written, method_encoded}
use Rattle.amqp_method.proofs.WritingLemmas.{on_ok}
use Rattle.amqp_method.proofs.method_octets.append_method.Goals as goal

pub returns-clause-ok : goal.returns-clause-ok
returns-clause-ok c =
    let k = c.kind-kind.ensures in
    on_ok c.append_args.result
    (method_written (method_view c.args.method.now) c.args.out.now.items c.append_short.new.out.items c.append_short-2.new.out.items c.append_args.new.out.items c.class_id.result c.method_id.result
    (map field_view c.schema.result.now) (args_view c.args-2.result.now)
    (c.class_id.ensures ∙ ap (λ (x : Kind). (row x).class) k) (c.method_id.ensures ∙ ap (λ (x : Kind). (row x).id) k) (c.schema.ensures ∙ ap fields_of k) c.args-2.ensures.args
    c.in_ok-append_short.ensures.ok c.in_ok-append_short-2.ensures.ok) c.append_args.ensures.ok

pub returns-clause-encoded : goal.returns-clause-encoded
returns-clause-encoded c =
    let k = c.kind-kind.ensures in
    on_ok c.append_args.result
    (method_encoded (method_view c.args.method.now) c.class_id.result c.method_id.result
    (map field_view c.schema.result.now) (args_view c.args-2.result.now)
    (c.class_id.ensures ∙ ap (λ (x : Kind). (row x).class) k) (c.method_id.ensures ∙ ap (λ (x : Kind). (row x).id) k) (c.schema.ensures ∙ ap fields_of k) c.args-2.ensures.args
    c.args-2.ensures.fit c.in_ok-append_short.ensures.fits c.in_ok-append_short-2.ensures.fits) c.append_args.ensures.fits

pub returns-clause-too_long : goal.returns-clause-too_long
returns-clause-too_long c = λ h fits.
    c.append_args.ensures.too_long h
    (complete-counts (map field_view c.schema.result.now) (args_view c.args-2.result.now) (subst CountsAllFit (sym c.args-2.ensures.args) fits))
