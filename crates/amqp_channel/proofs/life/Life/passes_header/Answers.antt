use Rattle.std.proofs.Common.{◌≡◌, false, IfSome, ap, sym, subst}
use Rattle.amqp_method.specs.BegunView.{begun_view}
use Rattle.amqp_model.specs.Wire.Gathering.{Gathering, HeaderDue}
use Rattle.amqp_model.specs.Wire.Methods.{MethodKind, is_reply}
use Rattle.amqp_model.specs.Wire.Notes.{Client}
use Rattle.amqp_channel.specs.Contents.GatheringView.{gathering_view}
use Rattle.amqp_channel.specs.Channel.LifeView.{life_view}
use Rattle.amqp_channel.specs.Roles.{role_of}
use Rattle.amqp_channel.specs.Verdict.VerdictView.{replies_in}
use Rattle.amqp_channel.specs.declared.verdict.Told.TheVariants as told
use Rattle.amqp_channel.proofs.OneWayLemmas.{all_of_content}
use Rattle.amqp_channel.proofs.life.Life.passes_header.Goals as goal

pub returns-in-HeaderDue : goal.returns-in-HeaderDue
returns-in-HeaderDue c =
    let life = life_view c.args.self.now in
    let method = begun_view c.in-HeaderDue.begun in
    let due : life.content ≡ HeaderDue method = ap gathering_view c.in-HeaderDue.is in
    let role = role_of c.args.site.side in
    let passes = c.passes_content.ensures in
    all_of_content c.args.site _ life c.judge_awaited.result c.passes_content.result passes.verdict passes.content
    (subst (λ (g : Gathering). IfSome c.passes_content.result (λ it. it ≡ told.Completed → role ≡ Client → replies_in g ≡ false)) (sym due)
    (subst (λ (k : MethodKind). IfSome c.passes_content.result (λ it. it ≡ told.Completed → role ≡ Client → is_reply k ≡ false))
    c.kind.ensures passes.completes))
    (c.judge_awaited.ensures life method due)
