-- Where two ends are with their connection, and what is in flight between them on channel 0.
--
-- There are twenty-three cases: eleven of the handshake, one of which goes on for as long as both run, and twelve of
-- closes. From its open-ok on the server may say that it is blocked, and is no more; an end that runs may put
-- heartbeats. A server that is gated may refuse a login, or an open.
use Rattle.std.proofs.Common.{◌≡◌, Bool, true, false, not, ◌&&◌, ℕ, ◌==◌, min, ◌≤◌, arith, List}
use Rattle.std.proofs.Common.{[], ◌∷◌, ◌++◌, Option, Some, None, refl, ap, ◌∙◌}
use Rattle.std.proofs.lemmas.Bool.{le-ltb, ne_eqb, and_from, lt-ltb, le-leb}
use Rattle.amqp_method.specs.Arguments.{Argument, short, long, short_string}
use Rattle.amqp_method.specs.declared.kinds.Kind.TheVariants as kinds
use Rattle.amqp_model.specs.Wire.Frame.{Frame}
use Rattle.amqp_model.specs.Wire.Notes.{Client, Server}
use Rattle.amqp_model.specs.Wire.Methods.{Method}
use Rattle.amqp_model.specs.Wire.Readings.{Reading, Calls, Beat, reading}
use Rattle.amqp_model.specs.End.Channels.{Phase, Handshake, Running, Closed, Agreed, AwaitsProtocolHeader, AwaitsStart}
use Rattle.amqp_model.specs.End.Channels.{AwaitsStartOk, AwaitsTune, AwaitsTuneOk, AwaitsOpen, AwaitsOpenOk, HoldsStart}
use Rattle.amqp_model.specs.End.Channels.{HoldsLogin, HoldsOpen}
use Rattle.amqp_model.specs.History.Negotiation.{Config, FRAME_MIN, smaller, tune, settled, tunes_too_small, in_range}
use Rattle.amqp_model.specs.History.Negotiation as negotiation
use Rattle.amqp_model.specs.End.Closes.{Cause, Owed, close_for, without_arguments, method_frame}
use Rattle.amqp_model.specs.End.FrameVerdict.{on_zero}
use Rattle.amqp_model.specs.End.Controls.{heartbeat_frame}
use Rattle.amqp_model.specs.End.Fitting.{ConfigWrites}
use Rattle.amqp_model.proofs.Footings.{Footing}

-- what is said on channel 0
pub data Word : Type 0 where
  Start StartOk OpenAsked : (args : List Argument) → Word
  Tune : (channel_max frame_max heartbeat : ℕ) → Word
  TuneOk : Agreed → Word
  OpenOk CloseOk Unblocked : Word
  Close : (code : ℕ) (text : List ℕ) (cause : Cause) → Word
  Blocked : (reason : List ℕ) → Word

abbrev pub said : Word → Method
said (Start args) = record { kind = kinds.ConnectionStart; args = args }
said (StartOk args) = record { kind = kinds.ConnectionStartOk; args = args }
said (OpenAsked args) = record { kind = kinds.ConnectionOpen; args = args }
said (Tune channel_max frame_max heartbeat) =
    record { kind = kinds.ConnectionTune; args = short channel_max ∷ long frame_max ∷ short heartbeat ∷ [] }
said (TuneOk agreed) = negotiation.tune_ok agreed
said OpenOk = negotiation.connection_open_ok
said CloseOk = without_arguments kinds.ConnectionCloseOk
said Unblocked = without_arguments kinds.ConnectionUnblocked
said (Close code text cause) = close_for kinds.ConnectionClose code text cause
said (Blocked reason) = record { kind = kinds.ConnectionBlocked; args = short_string reason ∷ [] }

abbrev pub owes : Word → Owed
owes word = on_zero (said word)

abbrev pub spoken : Word → Frame
spoken word = method_frame 0 (said word)

-- what passes on channel 0: words, and heartbeats
pub data Signal : Type 0 where
  Says : Word → Signal
  Beats : Signal

abbrev pub passing : Signal → Frame
passing (Says word) = spoken word
passing Beats = heartbeat_frame

abbrev pub tells : Signal → Reading
tells (Says word) = Calls (said word)
tells Beats = Beat true

abbrev pub IsRead : Signal → Type 0
IsRead signal = reading (passing signal) ≡ tells signal

abbrev pub AllRead : List Signal → Type 0
AllRead [] = Unit {0}
AllRead (signal ∷ later) = IsRead signal × AllRead later

-- what a Running server may put, and a Running client, that leaves either as it is
pub data IsBlock : Signal → Type 0 where
  blocks : (reason : List ℕ) → IsBlock (Says (Blocked reason))
  unblocks : IsBlock (Says Unblocked)
  beats : IsBlock Beats

pub data IsBeat : Signal → Type 0 where
  a_beat : IsBeat Beats

-- signals of a sort, and then these
pub data Passes (Is : Signal → Type 0) (rest : List Signal) : List Signal → Type 0 where
  none : Passes Is rest rest
  first : {signal : Signal} {later : List Signal} → Is signal → Passes Is rest later
      → Passes Is rest (signal ∷ later)

pub passes-then : (Is : Signal → Type 0) (rest more signals : List Signal) → Passes Is rest signals
    → Passes Is (rest ++ more) (signals ++ more)
passes-then Is rest more signals none = none
passes-then Is rest more signals (first {later = later} is p) = first is (passes-then Is rest more later p)

pub one-more : (Is : Signal → Type 0) (signal : Signal) (signals : List Signal) → Is signal → Passes Is [] signals
    → Passes Is [] (signals ++ signal ∷ [])
one-more Is signal signals is none = first is none
one-more Is signal signals is (first {later = later} other p) = first other (one-more Is signal later is p)

abbrev pub Blocks : (rest signals : List Signal) → Type 0
Blocks rest signals = Passes IsBlock rest signals

abbrev pub Beaten : (rest signals : List Signal) → Type 0
Beaten rest signals = Passes IsBeat rest signals

abbrev pub at : Phase → Option Agreed → Footing
at phase agreed = record { phase = phase; agreed = agreed }

-- what the two settle
abbrev pub both_settle : Config Client → Config Server → Agreed
both_settle client_config server_config = settled client_config (tune server_config)

-- what is agreed where the connection is closed: what the two settle, or nothing where the server refused the login
pub data Settles (client_config : Config Client) (server_config : Config Server) : Option Agreed → Type 0 where
  settles : Settles client_config server_config (Some (both_settle client_config server_config))
  refused : server_config.gated ≡ true → Settles client_config server_config None

-- the client's footing and the server's, what is in flight to the server and what to the client, the oldest first
pub data Together (client_config : Config Client) (server_config : Config Server) : (client server : Footing)
    → (to_server to_client : List Signal) → Type 0 where
  new : Together client_config server_config (at (Handshake AwaitsStart) None)
      (at (Handshake AwaitsProtocolHeader) None) [] []
  greeted : (args : List Argument) → Together client_config server_config (at (Handshake AwaitsStart) None)
      (at (Handshake AwaitsStartOk) None) [] (Says (Start args) ∷ [])
  start_held : Together client_config server_config (at (Handshake HoldsStart) None)
      (at (Handshake AwaitsStartOk) None) [] []
  answered : (args : List Argument) → Together client_config server_config (at (Handshake AwaitsTune) None)
      (at (Handshake AwaitsStartOk) None) (Says (StartOk args) ∷ []) []
  login_held : server_config.gated ≡ true → Together client_config server_config (at (Handshake AwaitsTune) None)
      (at (Handshake HoldsLogin) None) [] []
  tuned : Together client_config server_config (at (Handshake AwaitsTune) None) (at (Handshake AwaitsTuneOk) None) []
      (Says (Tune server_config.channel_max server_config.frame_max server_config.heartbeat) ∷ [])
  settled_once : (args : List Argument)
      → Together client_config server_config
      (at (Handshake AwaitsOpenOk) (Some (both_settle client_config server_config))) (at (Handshake AwaitsTuneOk) None)
      (Says (TuneOk (both_settle client_config server_config)) ∷ Says (OpenAsked args) ∷ []) []
  settled_twice : (args : List Argument)
      → Together client_config server_config
      (at (Handshake AwaitsOpenOk) (Some (both_settle client_config server_config)))
      (at (Handshake AwaitsOpen) (Some (both_settle client_config server_config))) (Says (OpenAsked args) ∷ []) []
  open_held : Together client_config server_config
      (at (Handshake AwaitsOpenOk) (Some (both_settle client_config server_config)))
      (at (Handshake HoldsOpen) (Some (both_settle client_config server_config))) [] []
  opened : {later : List Signal} → Blocks [] later
      → Together client_config server_config
      (at (Handshake AwaitsOpenOk) (Some (both_settle client_config server_config)))
      (at Running (Some (both_settle client_config server_config))) [] (Says OpenOk ∷ later)
  both_run : {due later : List Signal} → Beaten [] due → Blocks [] later
      → Together client_config server_config (at Running (Some (both_settle client_config server_config)))
      (at Running (Some (both_settle client_config server_config))) due later
  login_refused : server_config.gated ≡ true → (code : ℕ) (text : List ℕ) (cause : Cause)
      → Together client_config server_config (at (Handshake AwaitsTune) None) (at Phase.Closing None) []
      (Says (Close code text cause) ∷ [])
  open_refused : (code : ℕ) (text : List ℕ) (cause : Cause)
      → Together client_config server_config
      (at (Handshake AwaitsOpenOk) (Some (both_settle client_config server_config)))
      (at Phase.Closing (Some (both_settle client_config server_config))) [] (Says (Close code text cause) ∷ [])
  closed_early : {later : List Signal} (code : ℕ) (text : List ℕ) (cause : Cause)
      → Blocks (Says (Close code text cause) ∷ []) later
      → Together client_config server_config
      (at (Handshake AwaitsOpenOk) (Some (both_settle client_config server_config)))
      (at Phase.Closing (Some (both_settle client_config server_config))) [] (Says OpenOk ∷ later)
  server_closes : {due later : List Signal} (code : ℕ) (text : List ℕ) (cause : Cause) → Beaten [] due
      → Blocks (Says (Close code text cause) ∷ []) later
      → Together client_config server_config (at Running (Some (both_settle client_config server_config)))
      (at Phase.Closing (Some (both_settle client_config server_config))) due later
  client_closes : {due later : List Signal} (code : ℕ) (text : List ℕ) (cause : Cause)
      → Beaten (Says (Close code text cause) ∷ []) due → Blocks [] later
      → Together client_config server_config (at Phase.Closing (Some (both_settle client_config server_config)))
      (at Running (Some (both_settle client_config server_config))) due later
  crossing : {due later : List Signal} (code : ℕ) (text : List ℕ) (cause : Cause) (other_code : ℕ)
      (other_text : List ℕ) (other_cause : Cause) → Beaten (Says (Close code text cause) ∷ []) due
      → Blocks (Says (Close other_code other_text other_cause) ∷ []) later
      → Together client_config server_config (at Phase.Closing (Some (both_settle client_config server_config)))
      (at Phase.Closing (Some (both_settle client_config server_config))) due later
  client_heard : {due : List Signal} (code : ℕ) (text : List ℕ) (cause : Cause)
      → Beaten (Says (Close code text cause) ∷ Says CloseOk ∷ []) due
      → Together client_config server_config (at Phase.Closing (Some (both_settle client_config server_config)))
      (at Phase.Closing (Some (both_settle client_config server_config))) due []
  server_heard : {later : List Signal} (code : ℕ) (text : List ℕ) (cause : Cause)
      → Blocks (Says (Close code text cause) ∷ Says CloseOk ∷ []) later
      → Together client_config server_config (at Phase.Closing (Some (both_settle client_config server_config)))
      (at Phase.Closing (Some (both_settle client_config server_config))) [] later
  both_heard : Together client_config server_config (at Phase.Closing (Some (both_settle client_config server_config)))
      (at Phase.Closing (Some (both_settle client_config server_config))) (Says CloseOk ∷ []) (Says CloseOk ∷ [])
  client_closed : {due : List Signal} {agreed : Option Agreed} → Settles client_config server_config agreed
      → Beaten (Says CloseOk ∷ []) due
      → Together client_config server_config (at Closed agreed) (at Phase.Closing agreed) due []
  server_closed : {later : List Signal} → Blocks (Says CloseOk ∷ []) later
      → Together client_config server_config (at Phase.Closing (Some (both_settle client_config server_config)))
      (at Closed (Some (both_settle client_config server_config))) [] later
  both_closed : {agreed : Option Agreed} → Settles client_config server_config agreed
      → Together client_config server_config (at Closed agreed) (at Closed agreed) [] []

-- The limits.

-- a tune of a server that is well set up is no fault
pub tune-large : (server_config : Config Server) → ConfigWrites server_config
    → tunes_too_small (tune server_config) ≡ false
tune-large server_config writes =
    ap (λ b. not (server_config.frame_max == 0) && b) (le-ltb server_config.frame_max FRAME_MIN writes.frame_least)
    ∙ never (not (server_config.frame_max == 0))
  where
    never : (b : Bool) → (b && false) ≡ false
    never true = refl
    never false = refl

pub smaller-is : (own others : ℕ) → 1 ≤ others → smaller own others ≡ min own others
smaller-is own others least = simp (ne_eqb others 0 (λ e. let h : others ≡ 0 = e in omega arith))

-- and what a client settles on it is in the server's range
pub settled-in : (client_config : Config Client) (server_config : Config Server) → ConfigWrites client_config
    → ConfigWrites server_config → in_range server_config (both_settle client_config server_config) ≡ true
settled-in client_config server_config client server =
    let c = smaller-is client_config.channel_max server_config.channel_max server.channel_least in
    let f = smaller-is client_config.frame_max server_config.frame_max (let h = server.frame_least in omega arith) in
    let a = client.channel_least in
    let b = server.channel_least in
    let d = client.frame_least in
    let e = server.frame_least in
    and_from _ _
    (and_from _ _
    (and_from _ _ (lt-ltb 0 _ (rw c (omega arith))) (le-leb _ server_config.channel_max (rw c (omega arith))))
    (le-leb FRAME_MIN _ (rw f (omega arith)))) (le-leb _ server_config.frame_max (rw f (omega arith)))
