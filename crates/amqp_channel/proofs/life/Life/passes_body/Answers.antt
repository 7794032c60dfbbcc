use Rattle.std.proofs.Common.{rules, ◌≡◌, false, IfSome, ap, sym, ◌∙◌, subst}
use Rattle.amqp_method.specs.CarrierView.{carrier_view}
use Rattle.amqp_method.specs.HeaderView.{properties_view}
use Rattle.amqp_method.specs.declared.contents.Content.{Content}
use Rattle.amqp_model.specs.Wire.Gathering.{Gathering, BodyDue}
use Rattle.amqp_model.specs.Wire.Methods.{MethodKind, is_reply}
use Rattle.amqp_model.specs.Wire.Notes.{Client}
use Rattle.amqp_channel.specs.Channel.LifeView.{life_view}
use Rattle.amqp_channel.specs.Roles.{role_of}
use Rattle.amqp_channel.specs.Verdict.VerdictView.{replies_in}
use Rattle.amqp_channel.specs.declared.verdict.Told.TheVariants as told
use Rattle.amqp_channel.proofs.OneWayLemmas.{all_of_content}
use Rattle.amqp_channel.proofs.life.Life.passes_body.Goals as goal

pub returns-in-BodyDue-clause-passes : goal.returns-in-BodyDue-clause-passes
returns-in-BodyDue-clause-passes c =
    let life = life_view c.args.self.now in
    let kept = c.in-BodyDue.content.value in
    let method = carrier_view kept.method in
    let due : life.content ≡ BodyDue method kept.header.body_size (properties_view kept.header.properties) kept.body.items = search rules in
    let there : c.deref.result.now ≡ c.in-BodyDue.content.value = search rules in
    let role = role_of c.args.site.side in
    let passes = c.passes_content.ensures in
    all_of_content c.args.site _ life c.judge_part.result c.passes_content.result passes.verdict passes.content
    (subst (λ (g : Gathering). IfSome c.passes_content.result (λ it. it ≡ told.Completed → role ≡ Client → replies_in g ≡ false)) (sym due)
    (subst (λ (k : MethodKind). IfSome c.passes_content.result (λ it. it ≡ told.Completed → role ≡ Client → is_reply k ≡ false))
    (c.kind.ensures ∙ ap (λ (d : Content). (carrier_view d.method).kind) there) passes.completes))
    (c.judge_part.ensures life method (properties_view kept.header.properties) kept.body.items (search rules) (search rules))
