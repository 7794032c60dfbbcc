-- Methods that leave each channel as it was.
use Rattle.std.proofs.Common.{◌≡◌, false, refl}
use Rattle.amqp_model.specs.End.Channels.{Channel, Free, Opening, Closing, Open}
use Rattle.amqp_model.specs.Wire.Methods.{Method, is_reply, is_request}
use Rattle.amqp_model.specs.Wire.Notes.{Client, Server}
use Rattle.amqp_model.specs.Wire.Readings.{Calls}
use Rattle.amqp_channel.specs.Verdict.VerdictView.{goes_on}
use Rattle.amqp_channel.specs.declared.verdict.Told.TheVariants as told

pub no_reply : (method : Method) (channel : Channel) → is_reply method.kind ≡ false → channel ≡ goes_on Client (Calls method) told.Method channel
no_reply method Free other = refl
no_reply method Opening other = refl
no_reply method Closing other = refl
no_reply method (Open life) other = rw other refl

pub no_request : (method : Method) (channel : Channel) → is_request method ≡ false → channel ≡ goes_on Server (Calls method) told.Method channel
no_request method Free other = refl
no_request method Opening other = refl
no_request method Closing other = refl
no_request method (Open life) other = rw other refl
