-- What comes next on channel 0 goes on, and leaves the two ends together.
use Rattle.std.proofs.Common.{◌≡◌, Bool, true, false, ◌||◌, ℕ, List, [], ◌∷◌, ◌++◌, map, Option}
use Rattle.std.proofs.Common.{Some, None, refl, sym, ap, subst, append-nil}
use Rattle.std.proofs.lemmas.Bool.{false≢true}
use Rattle.amqp_method.specs.Arguments.{Argument}
use Rattle.amqp_model.specs.Wire.Notes.{Role, Client, Server, is_client}
use Rattle.amqp_model.specs.Wire.Methods.{sends}
use Rattle.amqp_model.specs.Output.Arrangement.{is_leaving}
use Rattle.amqp_model.specs.End.Channels.{Phase, Handshake, Running, Closed, Agreed, AwaitsStart, AwaitsStartOk}
use Rattle.amqp_model.specs.End.Channels.{AwaitsTune, AwaitsTuneOk, AwaitsOpen, AwaitsOpenOk, HoldsStart, HoldsLogin}
use Rattle.amqp_model.specs.End.Channels.{HoldsOpen}
use Rattle.amqp_model.specs.History.Negotiation.{Config, Hello, OfClient, OfServer, start, start_ok, start_ok_choosing}
use Rattle.amqp_model.specs.History.Negotiation.{connection_open}
use Rattle.amqp_model.specs.End.Asks.{is_running}
use Rattle.amqp_model.specs.End.FrameVerdict.{on_zero}
use Rattle.amqp_model.specs.End.EndVerdict.{goes_on, takes_frames}
use Rattle.amqp_model.specs.End.Closes.{Cause}
use Rattle.amqp_model.specs.End.Fitting.{ConfigWrites}
use Rattle.amqp_model.proofs.Footings.{Footing, footing_owed, verdict_of, owed_of, footing_heard}
use Rattle.amqp_model.proofs.PutLast.{leaving-is}
use Rattle.amqp_model.proofs.Together.{Word, Start, StartOk, OpenAsked, Tune, TuneOk, OpenOk, CloseOk, Close, said}
use Rattle.amqp_model.proofs.Together.{owes, Signal, Says, passing, tells, IsBlock, blocks, unblocks, beats, IsBeat}
use Rattle.amqp_model.proofs.Together.{a_beat, none, first, passes-then, at, both_settle, settles, refused, Together}
use Rattle.amqp_model.proofs.Together.{greeted, start_held, answered, login_held, tuned, settled_once, settled_twice}
use Rattle.amqp_model.proofs.Together.{open_held, opened, both_run, login_refused, open_refused, closed_early}
use Rattle.amqp_model.proofs.Together.{server_closes, client_closes, crossing, client_heard, server_heard, both_heard}
use Rattle.amqp_model.proofs.Together.{client_closed, server_closed, both_closed, tune-large, settled-in}

abbrev pub is_shut : Phase → Bool
is_shut Closed = true
is_shut phase = false

abbrev pub shakes_hands : Phase → Bool
shakes_hands (Handshake step) = true
shakes_hands phase = false

abbrev pub is_none : Option Agreed → Bool
is_none None = true
is_none (Some agreed) = false

-- the end shakes hands, or nothing is agreed: then it has put nothing above channel 0
abbrev pub is_early : Footing → Bool
is_early footing = shakes_hands footing.phase || is_none footing.agreed

-- words that an end in this role may send
abbrev pub AllSent : Role → List Word → Type 0
AllSent role [] = Unit {0}
AllSent role (word ∷ later) = (sends (is_client role) (said word).kind ≡ true) × AllSent role later

-- A signal comes next to an end of this footing: the end goes on, its footing is the next, and it puts these words.
pub record Hears (role : Role) (config : Config role) (footing : Footing) (signal : Signal) (next : Footing)
    (words : List Word) : Type 0 where
  pub takes : takes_frames footing.phase ≡ true
  pub goes : goes_on (verdict_of config footing (tells signal)) ≡ true
  pub heard : footing_heard role config footing (tells signal) (passing signal) ≡ next
  pub puts : owed_of config footing (tells signal) ≡ map owes words
  pub sent : AllSent role words
  -- only a close, or its answer, closes the connection; and no end begins to shake hands again
  pub closes : is_shut next.phase ≡ true → is_leaving (passing signal) ≡ true
  pub begins : is_early next ≡ true → is_early footing ≡ true

-- What an end says of itself.
pub start_ok-is : (config : Config Client) → start_ok config ≡ said (StartOk (start_ok config).args)
start_ok-is config = go config.hello
  where
    go : (hello : Hello Client) → start_ok (record config { hello = hello })
        ≡ said (StartOk (start_ok (record config { hello = hello })).args)
    go (OfClient properties mechanism response locale virtual_host) = refl

pub choosing-is : (config : Config Client) (mechanism response locale : List ℕ)
    → start_ok_choosing config mechanism response locale
    ≡ said (StartOk (start_ok_choosing config mechanism response locale).args)
choosing-is config mechanism response locale = go config.hello
  where
    go : (hello : Hello Client) → start_ok_choosing (record config { hello = hello }) mechanism response locale
        ≡ said (StartOk (start_ok_choosing (record config { hello = hello }) mechanism response locale).args)
    go (OfClient properties own_mechanism own_response own_locale virtual_host) = refl

pub open-is : (config : Config Client) → connection_open config ≡ said (OpenAsked (connection_open config).args)
open-is config = go config.hello
  where
    go : (hello : Hello Client) → connection_open (record config { hello = hello })
        ≡ said (OpenAsked (connection_open (record config { hello = hello })).args)
    go (OfClient properties mechanism response locale virtual_host) = refl

pub start-is : (config : Config Server) → start config ≡ said (Start (start config).args)
start-is config = go config.hello
  where
    go : (hello : Hello Server) → start (record config { hello = hello })
        ≡ said (Start (start (record config { hello = hello })).args)
    go (OfServer properties mechanisms locales) = refl

pub record ClientHears (client_config : Config Client) (server_config : Config Server) (client server : Footing)
    (to_server to_client : List Signal) (signal : Signal) : Type 0 where
  pub next : Footing
  pub words : List Word
  pub hears : Hears Client client_config client signal next words
  pub together : Together client_config server_config next server (to_server ++ map Says words) to_client

pub record ServerHears (client_config : Config Client) (server_config : Config Server) (client server : Footing)
    (to_server to_client : List Signal) (signal : Signal) : Type 0 where
  pub next : Footing
  pub words : List Word
  pub hears : Hears Server server_config server signal next words
  pub together : Together client_config server_config client next to_server (to_client ++ map Says words)

-- where nothing is put, nothing more is in flight
still : (client_config : Config Client) (server_config : Config Server) {client server : Footing}
    {to_server to_client : List Signal} → Together client_config server_config client server to_server to_client
    → Together client_config server_config client server (to_server ++ []) to_client
still client_config server_config {client} {server} {to_server} {to_client} together =
    subst (λ l. Together client_config server_config client server l to_client) (sym (append-nil to_server)) together

still-server : (client_config : Config Client) (server_config : Config Server) {client server : Footing}
    {to_server to_client : List Signal} → Together client_config server_config client server to_server to_client
    → Together client_config server_config client server to_server (to_client ++ [])
still-server client_config server_config {client} {server} {to_server} {to_client} together =
    subst (λ l. Together client_config server_config client server to_server l) (sym (append-nil to_client)) together

-- a signal that moves nothing
client-block : (client_config : Config Client) (agreed : Option Agreed) {signal : Signal} → IsBlock signal
    → Hears Client client_config (at Running agreed) signal (at Running agreed) ([])
client-block client_config agreed (blocks reason) =
    record {
      takes = refl;
      goes = refl;
      heard = refl;
      puts = refl;
      sent = tt;
      closes = λ e. absurd (false≢true e);
      begins = λ e. e;
    }
client-block client_config agreed unblocks =
    record {
      takes = refl;
      goes = refl;
      heard = refl;
      puts = refl;
      sent = tt;
      closes = λ e. absurd (false≢true e);
      begins = λ e. e;
    }
client-block client_config agreed beats =
    record {
      takes = refl;
      goes = refl;
      heard = refl;
      puts = refl;
      sent = tt;
      closes = λ e. absurd (false≢true e);
      begins = λ e. e;
    }

server-beat : (server_config : Config Server) (agreed : Option Agreed) {signal : Signal} → IsBeat signal
    → Hears Server server_config (at Running agreed) signal (at Running agreed) ([])
server-beat server_config agreed a_beat =
    record {
      takes = refl;
      goes = refl;
      heard = refl;
      puts = refl;
      sent = tt;
      closes = λ e. absurd (false≢true e);
      begins = λ e. e;
    }

-- and one that is dropped
closing-block : (client_config : Config Client) (agreed : Option Agreed) {signal : Signal} → IsBlock signal
    → Hears Client client_config (at Phase.Closing agreed) signal (at Phase.Closing agreed) ([])
closing-block client_config agreed (blocks reason) =
    record {
      takes = refl;
      goes = refl;
      heard = refl;
      puts = refl;
      sent = tt;
      closes = λ e. absurd (false≢true e);
      begins = λ e. e;
    }
closing-block client_config agreed unblocks =
    record {
      takes = refl;
      goes = refl;
      heard = refl;
      puts = refl;
      sent = tt;
      closes = λ e. absurd (false≢true e);
      begins = λ e. e;
    }
closing-block client_config agreed beats =
    record {
      takes = refl;
      goes = refl;
      heard = refl;
      puts = refl;
      sent = tt;
      closes = λ e. absurd (false≢true e);
      begins = λ e. e;
    }

closing-beat : (server_config : Config Server) (agreed : Option Agreed) {signal : Signal} → IsBeat signal
    → Hears Server server_config (at Phase.Closing agreed) signal (at Phase.Closing agreed) ([])
closing-beat server_config agreed a_beat =
    record {
      takes = refl;
      goes = refl;
      heard = refl;
      puts = refl;
      sent = tt;
      closes = λ e. absurd (false≢true e);
      begins = λ e. e;
    }

-- closes
running-close : (role : Role) (config : Config role) (agreed : Option Agreed) (code : ℕ) (text : List ℕ)
    (cause : Cause) → Hears role config (at Running agreed) (Says (Close code text cause))
    (at Closed agreed) (CloseOk ∷ [])
running-close Client config agreed code text cause =
    record {
      takes = refl;
      goes = refl;
      heard = refl;
      puts = refl;
      sent = (refl, tt);
      closes = λ e. leaving-is 0 (said (Close code text cause));
      begins = λ e. e;
    }
running-close Server config agreed code text cause =
    record {
      takes = refl;
      goes = refl;
      heard = refl;
      puts = refl;
      sent = (refl, tt);
      closes = λ e. leaving-is 0 (said (Close code text cause));
      begins = λ e. e;
    }

closing-close : (role : Role) (config : Config role) (agreed : Option Agreed) (code : ℕ) (text : List ℕ)
    (cause : Cause) → Hears role config (at Phase.Closing agreed) (Says (Close code text cause))
    (at Phase.Closing agreed) (CloseOk ∷ [])
closing-close Client config agreed code text cause =
    record {
      takes = refl;
      goes = refl;
      heard = refl;
      puts = refl;
      sent = (refl, tt);
      closes = λ e. absurd (false≢true e);
      begins = λ e. e;
    }
closing-close Server config agreed code text cause =
    record {
      takes = refl;
      goes = refl;
      heard = refl;
      puts = refl;
      sent = (refl, tt);
      closes = λ e. absurd (false≢true e);
      begins = λ e. e;
    }

closing-answered : (role : Role) (config : Config role) (agreed : Option Agreed)
    → Hears role config (at Phase.Closing agreed) (Says CloseOk) (at Closed agreed) ([])
closing-answered Client config agreed =
    record {
      takes = refl;
      goes = refl;
      heard = refl;
      puts = refl;
      sent = tt;
      closes = λ e. leaving-is 0 (said CloseOk);
      begins = λ e. e;
    }
closing-answered Server config agreed =
    record {
      takes = refl;
      goes = refl;
      heard = refl;
      puts = refl;
      sent = tt;
      closes = λ e. leaving-is 0 (said CloseOk);
      begins = λ e. e;
    }

-- a refusal in the handshake
refused-login : (client_config : Config Client) (code : ℕ) (text : List ℕ) (cause : Cause)
    → Hears Client client_config (at (Handshake AwaitsTune) None) (Says (Close code text cause))
    (at Closed None) (CloseOk ∷ [])
refused-login client_config code text cause =
    record {
      takes = refl;
      goes = refl;
      heard = refl;
      puts = refl;
      sent = (refl, tt);
      closes = λ e. leaving-is 0 (said (Close code text cause));
      begins = λ e. refl;
    }

refused-open : (client_config : Config Client) (agreed : Agreed) (code : ℕ) (text : List ℕ) (cause : Cause)
    → Hears Client client_config (at (Handshake AwaitsOpenOk) (Some agreed)) (Says (Close code text cause))
    (at Closed (Some agreed)) (CloseOk ∷ [])
refused-open client_config agreed code text cause =
    record {
      takes = refl;
      goes = refl;
      heard = refl;
      puts = refl;
      sent = (refl, tt);
      closes = λ e. leaving-is 0 (said (Close code text cause));
      begins = λ e. refl;
    }

-- The handshake.

hears-start : (client_config : Config Client) (args : List Argument) → client_config.gated ≡ false
    → Hears Client client_config (at (Handshake AwaitsStart) None) (Says (Start args))
    (at (Handshake AwaitsTune) None) (StartOk (start_ok client_config).args ∷ [])
hears-start client_config args open_gate = record {
  takes = refl;
  goes = simp open_gate;
  heard = simp open_gate
      (ap (λ m. footing_owed Client client_config (on_zero m ∷ []) (at (Handshake HoldsStart) None))
      (start_ok-is client_config));
  puts = simp open_gate (ap (λ m. on_zero m ∷ []) (start_ok-is client_config));
  sent = (refl, tt);
  closes = λ e. absurd (false≢true e);
  begins = λ e. e;
}

holds-start : (client_config : Config Client) (args : List Argument) → client_config.gated ≡ true
    → Hears Client client_config (at (Handshake AwaitsStart) None) (Says (Start args))
    (at (Handshake HoldsStart) None) []
holds-start client_config args gate =
    record {
      takes = refl;
      goes = simp gate;
      heard = simp gate;
      puts = simp gate;
      sent = tt;
      closes = λ e. absurd (false≢true e);
      begins = λ e. e;
    }

hears-start_ok : (server_config : Config Server) (args : List Argument) → server_config.gated ≡ false
    → Hears Server server_config (at (Handshake AwaitsStartOk) None) (Says (StartOk args))
    (at (Handshake AwaitsTuneOk) None)
    (Tune server_config.channel_max server_config.frame_max server_config.heartbeat ∷ [])
hears-start_ok server_config args open_gate =
    record {
      takes = refl;
      goes = simp open_gate;
      heard = simp open_gate;
      puts = simp open_gate;
      sent = (refl, tt);
      closes = λ e. absurd (false≢true e);
      begins = λ e. e;
    }

holds-login : (server_config : Config Server) (args : List Argument) → server_config.gated ≡ true
    → Hears Server server_config (at (Handshake AwaitsStartOk) None) (Says (StartOk args))
    (at (Handshake HoldsLogin) None) []
holds-login server_config args gate =
    record {
      takes = refl;
      goes = simp gate;
      heard = simp gate;
      puts = simp gate;
      sent = tt;
      closes = λ e. absurd (false≢true e);
      begins = λ e. e;
    }

hears-tune : (client_config : Config Client) (server_config : Config Server) → ConfigWrites server_config
    → Hears Client client_config (at (Handshake AwaitsTune) None)
    (Says (Tune server_config.channel_max server_config.frame_max server_config.heartbeat))
    (at (Handshake AwaitsOpenOk) (Some (both_settle client_config server_config)))
    (TuneOk (both_settle client_config server_config) ∷ OpenAsked (connection_open client_config).args ∷ [])
hears-tune client_config server_config writes =
    let large = tune-large server_config writes in
    record {
      takes = refl;
      goes = simp large;
      heard = simp large
          (ap (λ m. footing_owed Client client_config (on_zero m ∷ [])
          (at (Handshake AwaitsOpenOk) (Some (both_settle client_config server_config)))) (open-is client_config));
      puts = simp large
          (ap (λ m. owes (TuneOk (both_settle client_config server_config)) ∷ on_zero m ∷ [])
          (open-is client_config));
      sent = (refl, (refl, tt));
      closes = λ e. absurd (false≢true e);
      begins = λ e. refl;
    }

hears-tune_ok : (client_config : Config Client) (server_config : Config Server) → ConfigWrites client_config
    → ConfigWrites server_config
    → Hears Server server_config (at (Handshake AwaitsTuneOk) None)
    (Says (TuneOk (both_settle client_config server_config)))
    (at (Handshake AwaitsOpen) (Some (both_settle client_config server_config))) ([])
hears-tune_ok client_config server_config client server =
    let within = settled-in client_config server_config client server in
    record {
      takes = refl;
      goes = simp within;
      heard = simp within;
      puts = simp within;
      sent = tt;
      closes = λ e. absurd (false≢true e);
      begins = λ e. refl;
    }

hears-open : (server_config : Config Server) (agreed : Agreed) (args : List Argument) → server_config.gated ≡ false
    → Hears Server server_config (at (Handshake AwaitsOpen) (Some agreed)) (Says (OpenAsked args))
    (at Running (Some agreed)) (OpenOk ∷ [])
hears-open server_config agreed args open_gate =
    record {
      takes = refl;
      goes = simp open_gate;
      heard = simp open_gate;
      puts = simp open_gate;
      sent = (refl, tt);
      closes = λ e. absurd (false≢true e);
      begins = λ e. refl;
    }

holds-open : (server_config : Config Server) (agreed : Agreed) (args : List Argument) → server_config.gated ≡ true
    → Hears Server server_config (at (Handshake AwaitsOpen) (Some agreed)) (Says (OpenAsked args))
    (at (Handshake HoldsOpen) (Some agreed)) []
holds-open server_config agreed args gate =
    record {
      takes = refl;
      goes = simp gate;
      heard = simp gate;
      puts = simp gate;
      sent = tt;
      closes = λ e. absurd (false≢true e);
      begins = λ e. refl;
    }

hears-open_ok : (client_config : Config Client) (agreed : Agreed)
    → Hears Client client_config (at (Handshake AwaitsOpenOk) (Some agreed)) (Says OpenOk)
    (at Running (Some agreed)) ([])
hears-open_ok client_config agreed =
    record {
      takes = refl;
      goes = refl;
      heard = refl;
      puts = refl;
      sent = tt;
      closes = λ e. absurd (false≢true e);
      begins = λ e. refl;
    }

module _ (client_config : Config Client) (server_config : Config Server) (client_writes : ConfigWrites client_config)
    (server_writes : ConfigWrites server_config) where
  -- a gated end holds what comes, any other answers it
  client-starts : (args : List Argument) (gated : Bool) → client_config.gated ≡ gated
      → ClientHears client_config server_config (at (Handshake AwaitsStart) None)
      (at (Handshake AwaitsStartOk) None) [] [] (Says (Start args))
  client-starts args true e =
      record { next = _; words = _; hears = holds-start client_config args e; together = start_held }
  client-starts args false e =
      record {
        next = _;
        words = _;
        hears = hears-start client_config args e;
        together = answered (start_ok client_config).args;
      }

  server-logs : (args : List Argument) (gated : Bool) → server_config.gated ≡ gated
      → ServerHears client_config server_config (at (Handshake AwaitsTune) None) (at (Handshake AwaitsStartOk) None)
      [] [] (Says (StartOk args))
  server-logs args true e =
      record { next = _; words = _; hears = holds-login server_config args e; together = login_held e }
  server-logs args false e =
      record { next = _; words = _; hears = hears-start_ok server_config args e; together = tuned }

  server-opens : (args : List Argument) (gated : Bool) → server_config.gated ≡ gated
      → ServerHears client_config server_config
      (at (Handshake AwaitsOpenOk) (Some (both_settle client_config server_config)))
      (at (Handshake AwaitsOpen) (Some (both_settle client_config server_config))) [] [] (Says (OpenAsked args))
  server-opens args true e =
      record {
        next = _;
        words = _;
        hears = holds-open server_config (both_settle client_config server_config) args e;
        together = open_held;
      }
  server-opens args false e =
      record {
        next = _;
        words = _;
        hears = hears-open server_config (both_settle client_config server_config) args e;
        together = opened none;
      }

  pub client-hears : {client server : Footing} {to_server to_client : List Signal} {signal : Signal}
      → Together client_config server_config client server to_server (signal ∷ to_client)
      → ClientHears client_config server_config client server to_server to_client signal
  client-hears (greeted args) = client-starts args client_config.gated refl
  client-hears tuned =
      record {
        next = _;
        words = _;
        hears = hears-tune client_config server_config server_writes;
        together = settled_once (connection_open client_config).args;
      }
  client-hears (opened b) =
      record {
        next = _;
        words = _;
        hears = hears-open_ok client_config (both_settle client_config server_config);
        together = both_run none b;
      }
  client-hears (closed_early code text cause b) =
      record {
        next = _;
        words = _;
        hears = hears-open_ok client_config (both_settle client_config server_config);
        together = server_closes code text cause none b;
      }
  client-hears (login_refused gate code text cause) =
      record {
        next = _;
        words = _;
        hears = refused-login client_config code text cause;
        together = client_closed (refused gate) none;
      }
  client-hears (open_refused code text cause) =
      record {
        next = _;
        words = _;
        hears = refused-open client_config (both_settle client_config server_config) code text cause;
        together =
            client_closed settles none;
      }
  client-hears (both_run d (first is b)) =
      record {
        next = _;
        words = _;
        hears = client-block client_config (Some (both_settle client_config server_config))
            is;
        together = still client_config server_config (both_run d b);
      }
  client-hears (server_closes {due = due} code text cause d none) =
      record {
        next = _;
        words = _;
        hears = running-close Client client_config (Some (both_settle client_config server_config)) code text cause;
        together = client_closed settles (passes-then IsBeat [] (Says CloseOk ∷ []) due d);
      }
  client-hears (server_closes code text cause d (first is b)) =
      record {
        next = _;
        words = _;
        hears = client-block client_config (Some (both_settle client_config server_config))
            is;
        together = still client_config server_config (server_closes code text cause d b);
      }
  client-hears (client_closes code text cause d (first is b)) =
      record {
        next = _;
        words = _;
        hears = closing-block client_config (Some (both_settle client_config server_config))
            is;
        together = still client_config server_config (client_closes code text cause d b);
      }
  client-hears (crossing {due = due} code text cause other_code other_text other_cause d none) =
      record {
        next = _;
        words = _;
        hears = closing-close Client client_config
            (Some (both_settle client_config server_config)) other_code other_text
            other_cause;
        together =
            client_heard code text cause (passes-then IsBeat (Says (Close code text cause) ∷ [])
            (Says CloseOk ∷ []) due d);
      }
  client-hears (crossing code text cause other_code other_text other_cause d (first is b)) =
      record {
        next = _;
        words = _;
        hears = closing-block client_config (Some (both_settle client_config server_config))
            is;
        together =
            still client_config server_config (crossing code text cause other_code other_text other_cause d b);
      }
  client-hears (server_heard code text cause none) =
      record {
        next = _;
        words = _;
        hears = closing-close Client client_config (Some (both_settle client_config server_config)) code text cause;
        together = both_heard;
      }
  client-hears (server_heard code text cause (first is b)) =
      record {
        next = _;
        words = _;
        hears = closing-block client_config (Some (both_settle client_config server_config))
            is;
        together = server_heard code text cause b;
      }
  client-hears both_heard =
      record {
        next = _;
        words = _;
        hears = closing-answered Client client_config (Some (both_settle client_config server_config));
        together =
            client_closed settles none;
      }
  client-hears (server_closed none) =
      record {
        next = _;
        words = _;
        hears = closing-answered Client client_config (Some (both_settle client_config server_config));
        together = both_closed settles;
      }
  client-hears (server_closed (first is b)) =
      record {
        next = _;
        words = _;
        hears = closing-block client_config (Some (both_settle client_config server_config))
            is;
        together = server_closed b;
      }

  pub server-hears : {client server : Footing} {to_server to_client : List Signal} {signal : Signal}
      → Together client_config server_config client server (signal ∷ to_server) to_client
      → ServerHears client_config server_config client server to_server to_client signal
  server-hears (answered args) = server-logs args server_config.gated refl
  server-hears (settled_once args) =
      record {
        next = _;
        words = _;
        hears = hears-tune_ok client_config server_config client_writes server_writes;
        together = settled_twice args;
      }
  server-hears (settled_twice args) = server-opens args server_config.gated refl
  server-hears (both_run (first is d) b) =
      record {
        next = _;
        words = _;
        hears = server-beat server_config (Some (both_settle client_config server_config)) is;
        together =
            still-server client_config server_config (both_run d b);
      }
  server-hears (server_closes code text cause (first is d) b) =
      record {
        next = _;
        words = _;
        hears = closing-beat server_config (Some (both_settle client_config server_config))
            is;
        together = still-server client_config server_config (server_closes code text cause d b);
      }
  server-hears (client_closes {later = later} code text cause none b) =
      record {
        next = _;
        words = _;
        hears = running-close Server server_config (Some (both_settle client_config server_config)) code text cause;
        together = server_closed (passes-then IsBlock [] (Says CloseOk ∷ []) later b);
      }
  server-hears (client_closes code text cause (first is d) b) =
      record {
        next = _;
        words = _;
        hears = server-beat server_config (Some (both_settle client_config server_config)) is;
        together =
            still-server client_config server_config (client_closes code text cause d b);
      }
  server-hears (crossing {later = later} code text cause other_code other_text other_cause none b) =
      record {
        next = _;
        words = _;
        hears = closing-close Server server_config (Some (both_settle client_config server_config)) code text cause;
        together = server_heard other_code other_text other_cause
            (passes-then IsBlock (Says (Close other_code other_text other_cause) ∷ []) (Says CloseOk ∷ []) later b);
      }
  server-hears (crossing code text cause other_code other_text other_cause (first is d) b) =
      record {
        next = _;
        words = _;
        hears = closing-beat server_config (Some (both_settle client_config server_config))
            is;
        together =
            still-server client_config server_config (crossing code text cause other_code other_text other_cause d b);
      }
  server-hears (client_heard code text cause none) =
      record {
        next = _;
        words = _;
        hears = closing-close Server server_config (Some (both_settle client_config server_config)) code text cause;
        together = both_heard;
      }
  server-hears (client_heard code text cause (first is d)) =
      record {
        next = _;
        words = _;
        hears = closing-beat server_config (Some (both_settle client_config server_config))
            is;
        together = client_heard code text cause d;
      }
  server-hears both_heard =
      record {
        next = _;
        words = _;
        hears = closing-answered Server server_config (Some (both_settle client_config server_config));
        together = server_closed none;
      }
  server-hears (client_closed s none) =
      record { next = _; words = _; hears = closing-answered Server server_config _; together = both_closed s }
  server-hears (client_closed s (first is d)) =
      record { next = _; words = _; hears = closing-beat server_config _ is; together = client_closed s d }

-- What an application asks on channel 0.

-- a Running end closes the connection
pub client-closes : (client_config : Config Client) (server_config : Config Server) {client server : Footing}
    {to_server to_client : List Signal} → Together client_config server_config client server to_server to_client
    → is_running client.phase ≡ true → (code : ℕ) (text : List ℕ) (cause : Cause)
    → Together client_config server_config (at Phase.Closing client.agreed) server
    (to_server ++ Says (Close code text cause) ∷ []) to_client
client-closes client_config server_config (both_run {due = due} d b) e code text cause =
    client_closes code text cause (passes-then IsBeat [] (Says (Close code text cause) ∷ []) due d) b
client-closes client_config server_config (server_closes {due = due} other_code other_text other_cause d b) e code text
    cause =
    crossing code text cause other_code other_text other_cause
    (passes-then IsBeat [] (Says (Close code text cause) ∷ []) due d) b
client-closes client_config server_config together e code text cause = absurd (false≢true e)

pub server-closes : (client_config : Config Client) (server_config : Config Server) {client server : Footing}
    {to_server to_client : List Signal} → Together client_config server_config client server to_server to_client
    → is_running server.phase ≡ true → (code : ℕ) (text : List ℕ) (cause : Cause)
    → Together client_config server_config client (at Phase.Closing server.agreed) to_server
    (to_client ++ Says (Close code text cause) ∷ [])
server-closes client_config server_config (opened {later = later} b) e code text cause =
    closed_early code text cause (passes-then IsBlock [] (Says (Close code text cause) ∷ []) later b)
server-closes client_config server_config (both_run {later = later} d b) e code text cause =
    server_closes code text cause d (passes-then IsBlock [] (Says (Close code text cause) ∷ []) later b)
server-closes client_config server_config (client_closes {later = later} other_code other_text other_cause d b) e code
    text cause =
    crossing other_code other_text other_cause code text cause d
    (passes-then IsBlock [] (Says (Close code text cause) ∷ []) later b)
server-closes client_config server_config together e code text cause = absurd (false≢true e)
