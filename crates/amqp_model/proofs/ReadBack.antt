-- What is written of what fits its fields reads as it.
use Rattle.std.proofs.Common.{◌≡◌, ◌≢◌, ◌<◌, ◌^◌, Bool, true, false, cond, ◌||◌, ◌==◌}
use Rattle.std.proofs.Common.{nat_lt, ℕ, List, Some, None, refl, ap, arith, le-ltb}
use Rattle.std.proofs.lemmas.Bool.{ltb-false, eqb-false, ne_eqb}
use Rattle.amqp_frame.specs.Frame.{frame_length}
use Rattle.amqp_method.specs.Fitting.{FitsShort}
use Rattle.amqp_method.specs.Laws.{MethodIsRead, HeaderIsRead, MethodIsEncoded, HeaderIsEncoded}
use Rattle.amqp_method.specs.Plain as plain
use Rattle.amqp_method.specs.declared.kinds.Kind.TheVariants as kinds
use Rattle.amqp_model.specs.Wire.Notes.{Role, Client, Server}
use Rattle.amqp_model.specs.Wire.Methods.{Header, ReadsBack, method_read, header_read, method_at, header_at}
use Rattle.amqp_model.specs.Wire.Methods.{plain_method, plain_header}
use Rattle.amqp_model.specs.History.Negotiation.{FRAME_MIN, Hello, OfClient, OfServer, Config, start, start_ok}
use Rattle.amqp_model.specs.History.Negotiation.{connection_open}
use Rattle.amqp_model.specs.End.Closes.{Cause, no_cause, close_for, method_frame}
use Rattle.amqp_model.specs.End.Events.{Message, Plain, Whole}
use Rattle.amqp_model.specs.End.Asks.{Ask, Open, Send, Flow, CloseChannel, Close, Blocked, Unblocked, method_asked}
use Rattle.amqp_model.specs.End.ReadingBack.{header_of, HeaderAskedReadsBack, TextAskedFits}
use Rattle.amqp_model.specs.End.Fitting.{MethodFits, CauseFits, HelloFits, greeting, HostFits, PartsFit, FRAME_MOST}
use Rattle.amqp_model.specs.End.Fitting.{FrameMax, ChannelMax, HelloTooLong}
use Rattle.amqp_model.specs.Laws.FittingLaws.{MethodReadsBack, HeaderReadsBack, FittingConfigWrites, AskedReadsBack}
use Rattle.amqp_model.specs.Laws.FittingLaws.{FaultlessConfigFits, FittingConfigIsFaultless}

pub method-reads : MethodIsEncoded → MethodIsRead → MethodReadsBack
unfolding method_at plain_method
method-reads encoded read method fits =
    ap method_read (read method (plain.plain_method method) (encoded method fits.of_kind fits.arguments))

pub header-reads : HeaderIsEncoded → HeaderIsRead → (header : Header) → HeaderReadsBack header
unfolding header_at plain_header
header-reads encoded read header fits =
    ap header_read (read header (plain.plain_header header) (encoded header fits.size fits.of_kinds fits.properties))

-- The methods of the handshake.

-- an end that is set up with this hello: it wants no heartbeat, and is not gated, of which its methods say nothing
abbrev pub configured : {role : Role} → (frame_max channel_max max_body : ℕ) → Hello role → Config role
configured frame_max channel_max max_body hello =
    record {
      frame_max = frame_max;
      channel_max = channel_max;
      max_body = max_body;
      heartbeat = 0;
      gated = false;
      hello = hello;
    }

start-says : (a b c : ℕ) (hello : Hello Server) → HelloFits hello → MethodFits (start (configured a b c hello))
start-says a b c (OfServer properties mechanisms locales) fits =
    record { of_kind = refl; arguments = (omega arith, (omega arith, (fits.0, (fits.1, (fits.2, tt))))) }

start_ok-says : (a b c : ℕ) (hello : Hello Client) → HelloFits hello
    → MethodFits (start_ok (configured a b c hello))
start_ok-says a b c (OfClient properties mechanism response locale virtual_host) fits =
    record { of_kind = refl; arguments = (fits.0, (fits.1, (fits.2, (fits.3, tt)))) }

open-says : (a b c : ℕ) (hello : Hello Client) → HostFits hello
    → MethodFits (connection_open (configured a b c hello))
open-says a b c (OfClient properties mechanism response locale virtual_host) fits =
    record { of_kind = refl; arguments = (fits, tt) }

pub start-fits : (config : Config Server) → HelloFits config.hello → MethodFits (start config)
start-fits config fits = start-says config.frame_max config.channel_max config.max_body config.hello fits

pub start_ok-fits : (config : Config Client) → HelloFits config.hello → MethodFits (start_ok config)
start_ok-fits config fits = start_ok-says config.frame_max config.channel_max config.max_body config.hello fits

pub open-fits : (config : Config Client) → HostFits config.hello → MethodFits (connection_open config)
open-fits config fits = open-says config.frame_max config.channel_max config.max_body config.hello fits

host-fits : (role : Role) (hello : Hello role) → HelloFits hello → HostFits hello
host-fits Client (OfClient properties mechanism response locale virtual_host) fits = fits.4
host-fits Server (OfServer properties mechanisms locales) fits = tt

greeting-reads : MethodReadsBack → (role : Role) (config : Config role) → HelloFits config.hello
    → ReadsBack (greeting role config)
greeting-reads reads Client config fits = reads (start_ok config) (start_ok-fits config fits)
greeting-reads reads Server config fits = reads (start config) (start-fits config fits)

pub config-writes : MethodReadsBack → FittingConfigWrites
config-writes reads role config fits =
    record {
      channel_least = fits.channel_least;
      channel_most = fits.channel_most;
      frame_least = fits.frame_least;
      frame_most = fits.frame_most;
      heartbeat_most = fits.heartbeat_most;
      host = host-fits role config.hello fits.hello;
      greeting_back = greeting-reads reads role config fits.hello;
      greeting_short = fits.greeting_short;
    }

-- The method of an ask.

pub no_cause-fits : CauseFits no_cause
no_cause-fits = record { class_id = omega arith; method_id = omega arith }

pub connection_close-fits : (code : ℕ) (text : List ℕ) (cause : Cause) → code < 2 ^ 16 → FitsShort text
    → CauseFits cause → MethodFits (close_for kinds.ConnectionClose code text cause)
connection_close-fits code text cause small fits caused =
    record { of_kind = refl; arguments = (small, (fits, (caused.class_id, (caused.method_id, tt)))) }

pub channel_close-fits : (code : ℕ) (text : List ℕ) (cause : Cause) → code < 2 ^ 16 → FitsShort text
    → CauseFits cause → MethodFits (close_for kinds.ChannelClose code text cause)
channel_close-fits code text cause small fits caused =
    record { of_kind = refl; arguments = (small, (fits, (caused.class_id, (caused.method_id, tt)))) }

message-fits : (channel : ℕ) (message : Message) → PartsFit (Send channel message)
    → MethodFits (method_asked (Send channel message))
message-fits channel (Plain method) fits = fits.1
message-fits channel (Whole content) fits = fits.1.method

pub asked-fits : (ask : Ask) → PartsFit ask → MethodFits (method_asked ask)
asked-fits Open fits = record { of_kind = refl; arguments = tt }
asked-fits (Send channel message) fits = message-fits channel message fits
asked-fits (Flow channel active) fits = record { of_kind = refl; arguments = (tt, tt) }
asked-fits (CloseChannel channel code text cause) fits = channel_close-fits code text cause fits.1 fits.2 fits.3
asked-fits (Close code text cause) fits = connection_close-fits code text cause fits.0 fits.1 fits.2
asked-fits (Blocked reason) fits = record { of_kind = refl; arguments = (fits, tt) }
asked-fits Unblocked fits = record { of_kind = refl; arguments = tt }

header-asked : ((header : Header) → HeaderReadsBack header) → (ask : Ask) → PartsFit ask
    → HeaderAskedReadsBack ask
header-asked reads Open fits = tt
header-asked reads (Send channel (Plain method)) fits = tt
header-asked reads (Send channel (Whole content)) fits = reads (header_of content) fits.1.header
header-asked reads (Flow channel active) fits = tt
header-asked reads (CloseChannel channel code text cause) fits = tt
header-asked reads (Close code text cause) fits = tt
header-asked reads (Blocked reason) fits = tt
header-asked reads Unblocked fits = tt

text-asked : (ask : Ask) → PartsFit ask → TextAskedFits ask
text-asked Open fits = tt
text-asked (Send channel message) fits = tt
text-asked (Flow channel active) fits = tt
text-asked (CloseChannel channel code text cause) fits = fits.2
text-asked (Close code text cause) fits = fits.1
text-asked (Blocked reason) fits = fits
text-asked Unblocked fits = tt

pub asked-reads : MethodReadsBack → ((header : Header) → HeaderReadsBack header) → AskedReadsBack
asked-reads methods headers ask fits =
    record {
      method = methods (method_asked ask) (asked-fits ask fits.parts);
      header = header-asked headers ask fits.parts;
      text = text-asked ask fits.parts;
    }

-- A configuration without a fault.
faultless : (a b c d : Bool)
    → cond (a || b) (Some FrameMax) (cond c (Some ChannelMax) (cond d (Some HelloTooLong) None)) ≡ None
    → (a ≡ false) × (b ≡ false) × (c ≡ false) × (d ≡ false)
faultless true b c d e = absurd cc
faultless false true c d e = absurd cc
faultless false false true d e = absurd cc
faultless false false false true e = absurd cc
faultless false false false false e = (refl, refl, refl, refl)

pub faultless-fits : FaultlessConfigFits
faultless-fits role config e channels body heartbeat hello =
    let none = faultless (nat_lt config.frame_max FRAME_MIN) (nat_lt FRAME_MOST config.frame_max)
    (config.channel_max == 0) (nat_lt FRAME_MIN (frame_length (method_frame 0 (greeting role config)))) e in
    let some : config.channel_max ≢ 0 = eqb-false config.channel_max 0 none.2 in
    record {
      channel_least = omega arith;
      channel_most = channels;
      frame_least = ltb-false config.frame_max FRAME_MIN none.0;
      frame_most = ltb-false FRAME_MOST config.frame_max none.1;
      body_most = body;
      heartbeat_most = heartbeat;
      hello = hello;
      greeting_short = ltb-false FRAME_MIN (frame_length (method_frame 0 (greeting role config))) none.3;
    }

pub fitting-faultless : FittingConfigIsFaultless
fitting-faultless role config fits =
    let a = le-ltb config.frame_max FRAME_MIN fits.frame_least in
    let b = le-ltb FRAME_MOST config.frame_max fits.frame_most in
    let c = ne_eqb config.channel_max 0 (λ e. let h : config.channel_max ≡ 0 = e in
    let l = fits.channel_least in absurd (omega arith)) in
    let d = le-ltb FRAME_MIN (frame_length (method_frame 0 (greeting role config))) fits.greeting_short in
    simp (a, b, c, d)
