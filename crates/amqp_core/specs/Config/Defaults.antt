-- What a configuration has by default.
use Rattle.std.specs.Prelude.{◌≡◌, false}
use Rattle.amqp_core.specs.declared.config.Config.{Config}

pub record HasDefaults {R H : Type 0} (hello : H) (config : Config R H) : Type 0 where
  -- Its frames have at most 131,072 octets.
  pub frame : config.frame_max ≡ 131072
  -- Its channels are those up to 2,047.
  pub channels : config.channel_max ≡ 2047
  -- The bodies of its contents have at most 16,777,216 octets.
  pub body : config.max_body ≡ 16777216
  -- It wants no heartbeat.
  pub heartbeat : config.heartbeat ≡ 0
  -- It isn't gated.
  pub gated : config.gated ≡ false
  -- It says this of itself.
  pub hello_is : config.hello ≡ hello
