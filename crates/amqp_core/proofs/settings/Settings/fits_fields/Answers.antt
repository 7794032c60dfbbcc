use Rattle.std.proofs.Common.{subst, refl}
use Rattle.amqp_method.specs.Fitting.{FitsShort}
use Rattle.amqp_core.proofs.SettingsLemmas.{boxed_as, client_host, kept_as, server_host}
use Rattle.amqp_core.proofs.settings.Settings.fits_fields.Goals as goal

pub returns-in-Client-clause-host : goal.returns-in-Client-clause-host
returns-in-Client-clause-host c = client_host c.args.self.now.hello _ (boxed_as (kept_as c.in-Client.is c.self.view_is refl) c.deref.ensures) (subst FitsShort c.as_bytes.ensures.octets c.fits_field.ensures)

pub returns-in-Server-clause-host : goal.returns-in-Server-clause-host
returns-in-Server-clause-host c = server_host c.args.self.now.hello _ (kept_as c.in-Server.is c.self.view_is refl)
