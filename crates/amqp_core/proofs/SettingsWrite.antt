-- What settings say can be written, where there is no fault and the greeting was written on trial.
use Rattle.std.proofs.Common.{◌≡◌, ◌≢◌, ◌<◌, ◌^◌, ◌==◌, ◌||◌, Bool, true, false, cond, nat_lt, ℕ, arith, List, get_or}
use Rattle.std.proofs.Common.{Some, None, refl, ap, subst}
use Rattle.std.proofs.lemmas.Bool.{ltb-false, eqb-false}
use Rattle.std.proofs.lemmas.List.Elements.{All-from_get_or, recursion_from_All}
use Rattle.amqp_method.specs.Encoding.{EncodesMethod}
use Rattle.amqp_method.specs.Fitting.{AreOctets}
use Rattle.amqp_method.specs.Laws.{MethodIsRead}
use Rattle.amqp_method.specs.Plain as plain
use Rattle.amqp_model.specs.End.Fitting.{FrameMax, ChannelMax, HelloTooLong, ConfigWrites, FRAME_MOST, HostFits, config_fault, greeting}
use Rattle.amqp_model.specs.Wire.Methods.{Method, ReadsBack, method_at, method_read, plain_method}
use Rattle.amqp_model.specs.History.Negotiation.{Config, FRAME_MIN}
use Rattle.amqp_model.specs.Wire.Notes.{Role}
use Rattle.amqp_core.specs.Connection.HandshakeMethods.{greeting_length}

-- numbers below 256 are octets
pub are_octets : (octets : List ℕ) → ((k : ℕ) → get_or octets k 0 < 256) → AreOctets octets
are_octets octets small =
    let IsOctet : ℕ → Type 0 = λ octet. octet < 2 ^ 8 in
    recursion_from_All IsOctet octets (All-from_get_or IsOctet octets 0 (λ k within. small k))

-- the plain octets of a method encode it
abbrev pub Encoded : Method → Type 0
Encoded method = EncodesMethod method (plain.plain_method method)

-- such a method reads back
encoded_reads_back : MethodIsRead → (method : Method) → Encoded method → ReadsBack method
unfolding method_at plain_method
encoded_reads_back read method encoded = ap method_read (read method (plain.plain_method method) encoded)

-- none of four tests, made one after another, finds its fault
abbrev NoneHolds : (a b c d : Bool) → Type 0
NoneHolds a b c d = (a ≡ false) × (b ≡ false) × (c ≡ false) × (d ≡ false)

none_holds : (a b c d : Bool) → cond (a || b) (Some FrameMax) (cond c (Some ChannelMax) (cond d (Some HelloTooLong) None)) ≡ None → NoneHolds a b c d
none_holds true b c d e = absurd cc
none_holds false true c d e = absurd cc
none_holds false false true d e = absurd cc
none_holds false false false true e = absurd cc
none_holds false false false false e = (refl, refl, refl, refl)

-- what is known of a configuration whose greeting was made and written
pub record IsTried (role : Role) (config : Config role) (made : Method) : Type 0 where
  pub faultless : config_fault role config ≡ None
  pub channel : config.channel_max < 2 ^ 16
  pub heartbeat : config.heartbeat < 2 ^ 16
  pub host : HostFits config.hello
  pub made_is : made ≡ greeting role config
  pub encoded : Encoded made

pub writes : MethodIsRead → (role : Role) (config : Config role) (made : Method) → IsTried role config made → ConfigWrites config
writes read role config made tried =
    let long = nat_lt FRAME_MIN (greeting_length role config) in
    let none = none_holds (nat_lt config.frame_max FRAME_MIN) (nat_lt FRAME_MOST config.frame_max) (config.channel_max == 0) long tried.faultless in
    let some : config.channel_max ≢ 0 = eqb-false config.channel_max 0 none.2 in
    record {
      channel_least = omega arith;
      channel_most = tried.channel;
      frame_least = ltb-false config.frame_max FRAME_MIN none.0;
      frame_most = ltb-false FRAME_MOST config.frame_max none.1;
      heartbeat_most = tried.heartbeat;
      host = tried.host;
      greeting_back = subst ReadsBack tried.made_is (encoded_reads_back read made tried.encoded);
      greeting_short = ltb-false FRAME_MIN (greeting_length role config) none.3;
    }
