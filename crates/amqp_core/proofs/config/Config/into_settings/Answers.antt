use Rattle.std.proofs.Common.{None, false, refl, sym}
use Rattle.std.proofs.lemmas.Result.{err_from_is_err_and}
use Rattle.amqp_core.specs.Config.Configs.{settings_of}
use Rattle.amqp_core.specs.declared.settings.Settings.{Settings}
use Rattle.amqp_core.proofs.SettingsLemmas.{fault_limited}
use Rattle.amqp_core.proofs.config.Config.into_settings.Goals as goal

pub returns-in-Some-clause-fault : goal.returns-in-Some-clause-fault
returns-in-Some-clause-fault g c =
    fault_limited (settings_of g.R.Role.hello_of c.args.self) c.into_hello-hello.result _ c.into_hello-hello.ensures c.in-Some.ensures.fault

pub returns-in_err-new-clause-fault : goal.returns-in_err-new-clause-fault
returns-in_err-new-clause-fault g c =
    let p = err_from_is_err_and c.from_residual.result c.from_residual.ensures.1 in
    rw (p.1, p.2)
    (fault_limited (settings_of g.R.Role.hello_of c.args.self) c.into_hello-hello.result None c.into_hello-hello.ensures
    (sym (c.in_default.ensures.none.0 refl)))

pub returns-clause-faultless : goal.returns-clause-faultless
returns-clause-faultless g c =
    let settings : Settings = record {
      frame_max = c.args.self.frame_max;
      channel_max = c.args.self.channel_max;
      max_body = c.args.self.max_body;
      heartbeat = c.args.self.heartbeat;
      gated = c.args.self.gated;
      lends = false;
      hello = c.in_ok-new.field-0;
    } in
    sym (fault_limited settings c.into_hello-hello.result None (sym c.in_ok-new.ensures) (sym (c.in_default.ensures.none.0 refl)))
