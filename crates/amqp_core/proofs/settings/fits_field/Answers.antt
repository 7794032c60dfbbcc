use Rattle.std.proofs.Common.{arith}
use Rattle.amqp_core.proofs.SettingsWrite.{are_octets}
use Rattle.amqp_core.proofs.settings.fits_field.Goals as goal

pub returns : goal.returns
returns c = (omega (arith, c.requires), are_octets c.args.octets.now (λ k. omega (arith, c.type_inv.octets k)))
