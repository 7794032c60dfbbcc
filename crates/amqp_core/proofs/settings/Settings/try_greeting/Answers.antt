use Rattle.amqp_core.specs.Config.Settings.{role_for, config_view}
use Rattle.amqp_core.proofs.SettingsWrite.{writes}
use Rattle.amqp_core.proofs.settings.Settings.try_greeting.Goals as goal

pub returns : goal.returns
returns c =
    let settings = c.args.self.now in
    writes c.encoded_is_read.ensures.method (role_for settings) (config_view settings) _
    (record {
      faultless = c.requires;
      channel = c.fits_fields.ensures.channel;
      heartbeat = c.fits_fields.ensures.heartbeat;
      host = c.fits_fields.ensures.host;
      made_is = c.in_ok-method.ensures;
      encoded = c.in-Ok.ensures.encoded;
    })
