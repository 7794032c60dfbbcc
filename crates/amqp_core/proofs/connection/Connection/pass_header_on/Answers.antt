-- A header that passes where it is read in one walk, if it does: its verdict is by the rules, and leaves its channel so.
use Rattle.std.proofs.Common.{◌≡◌, ◌<◌, ℕ, Option, None, Some, IfSome, sym, subst}
use Rattle.amqp_method.specs.declared.header_ref.HeaderRef.{HeaderRef}
use Rattle.amqp_channel.specs.Channels.Applies.{PassesGathered}
use Rattle.amqp_channel.specs.Channels.ChannelsView.{channels_view}
use Rattle.amqp_channel.specs.ReadingView.{header_said}
use Rattle.amqp_channel.specs.declared.events.Agreed.{Agreed}
use Rattle.amqp_channel.specs.declared.channels.Channels.{Channels}
use Rattle.amqp_channel.specs.declared.site.Site.{Site}
use Rattle.amqp_channel.specs.declared.verdict.Told.TheVariants.{Headed}
use Rattle.amqp_channel.specs.declared.verdict.Verdict.TheVariants.{Proceeds}
use Rattle.amqp_core.specs.Config.Settings.{role_for}
use Rattle.amqp_core.specs.Connection.Rulings.{OnChannel}
use Rattle.amqp_core.specs.Connection.Verdicts.{end_at, end_left, FrameRules}
use Rattle.amqp_core.specs.Connection.View.{site_at}
use Rattle.amqp_core.specs.declared.settings.Settings.{Settings}
use Rattle.amqp_core.specs.declared.stage.Stage.{Stage}
use Rattle.amqp_core.specs.declared.stage.Stage.TheVariants.{Running}
use Rattle.amqp_core.proofs.ReceiveLemmas.{with_channel_is}
use Rattle.amqp_core.proofs.VerdictLemmas.{channel_rules}
use Rattle.amqp_core.proofs.connection.Connection.pass_header_on.Goals as goal

module _ (settings : Settings) (stage : Stage) (old new : Channels) (number : ℕ) (site : Site) where
  ruled : (agreed : Agreed) (answer : Option HeaderRef) → stage ≡ Running agreed → site ≡ site_at settings number agreed.channel_max → 0 < number
      → IfSome answer (λ header. PassesGathered site (header_said header) old Headed None new)
      → IfSome answer (λ header. FrameRules settings (end_at stage old) number (header_said header) (OnChannel (Proceeds Headed None)))
  ruled agreed None running here above passes = tt
  ruled agreed (Some header) running here above passes =
      subst (λ (s : Stage). FrameRules settings (end_at s old) number (header_said header) (OnChannel (Proceeds Headed None))) (sym running)
      (channel_rules settings agreed old number site (header_said header) (Proceeds Headed None) here above passes.passes.rules)

  left : (most : ℕ) (answer : Option HeaderRef) → site ≡ site_at settings number most
      → IfSome answer (λ header. PassesGathered site (header_said header) old Headed None new)
      → IfSome answer (λ header. end_at stage new ≡ end_left (role_for settings) number (header_said header) (OnChannel (Proceeds Headed None)) (end_at stage old))
  left most None here passes = tt
  left most (Some header) here passes =
      let at : PassesGathered (site_at settings number most) (header_said header) old Headed None new =
      subst (λ (s : Site). PassesGathered s (header_said header) old Headed None new) here passes in
      with_channel_is (end_at stage old) number (channels_view new) _ at.others at.left

pub returns-clause-rules : goal.returns-clause-rules
returns-clause-rules c =
    ruled c.args.self.now.settings c.args.self.now.stage c.args.self.now.channels c.pass_header.new.self c.args.number c.site-site.result c.args.agreed c.pass_header.result
    c.requires.running c.site-site.ensures c.requires.above c.pass_header.ensures.passes

pub returns-clause-left : goal.returns-clause-left
returns-clause-left c =
    left c.args.self.now.settings c.args.self.now.stage c.args.self.now.channels c.pass_header.new.self c.args.number c.site-site.result c.args.agreed.channel_max c.pass_header.result
    c.site-site.ensures c.pass_header.ensures.passes
