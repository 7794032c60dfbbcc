-- An end that gives whole contents keeps none whose octets it has lent.
use Rattle.std.specs.Prelude.{◌≡◌, false}
use Rattle.amqp_channel.specs.Channels.ChannelsView.{NoneLent}
use Rattle.amqp_channel.specs.declared.channels.Channels.{Channels}
use Rattle.amqp_core.specs.declared.settings.Settings.{Settings}

abbrev pub GathersWhole : Settings → Channels → Type 0
GathersWhole settings channels = settings.lends ≡ false → NoneLent channels
