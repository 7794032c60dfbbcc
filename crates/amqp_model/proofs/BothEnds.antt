-- The two ends of a pair, together on channel 0: what stays so when one of them hears, asks or speaks.
use Rattle.std.proofs.Common.{◌≡◌, ◌⊎◌, inl, inr, Bool, true, false, ◌||◌, ℕ, zero, suc, List, []}
use Rattle.std.proofs.Common.{◌∷◌, ◌++◌, map, None, refl, sym, ap, ◌∙◌, subst, append_assoc}
use Rattle.std.proofs.Common.{append-nil}
use Rattle.std.proofs.lemmas.Bool.{false≢true, true≢false}
use Rattle.std.proofs.lemmas.List.{map-append, append_cancel_left}
use Rattle.amqp_method.specs.Arguments.{Argument}
use Rattle.amqp_model.specs.Wire.Frame.{Frame}
use Rattle.amqp_model.specs.Wire.Notes.{Role, Client, Server, other_end}
use Rattle.amqp_model.specs.Output.Arrangement.{is_leaving, on}
use Rattle.amqp_model.specs.History.Histories.{History}
use Rattle.amqp_model.specs.End.Channels as channels
use Rattle.amqp_model.specs.End.Channels.{Life, Phase, Handshake, Running, End}
use Rattle.amqp_model.specs.End.Channels.{AwaitsProtocolHeader, AwaitsStartOk}
use Rattle.amqp_model.specs.History.Negotiation.{Config}
use Rattle.amqp_model.specs.End.StateFromHistory.{end_from}
use Rattle.amqp_model.specs.End.Closes.{Cause}
use Rattle.amqp_model.specs.End.Asks.{is_running}
use Rattle.amqp_model.specs.End.EndVerdict.{end_verdict, goes_on}
use Rattle.amqp_model.specs.End.ReadingBack.{WritesReadBack}
use Rattle.amqp_model.specs.End.LawfulHistories.{then_put, then_taken}
use Rattle.amqp_model.specs.End.Machine.{StandsFor}
use Rattle.amqp_model.specs.End.Fitting.{ConfigWrites}
use Rattle.amqp_model.specs.Stream.Octets.{frames_put, frames_taken}
use Rattle.amqp_model.specs.Pair.Pairs.{ComesNext, config_of}
use Rattle.amqp_model.proofs.Footings.{Footing, footing_of}
use Rattle.amqp_model.proofs.Together.{Word, Start, Close, Signal, Says, Beats}
use Rattle.amqp_model.proofs.Together.{passing, AllRead, IsBlock, IsBeat, a_beat, beats, one-more, at, Together}
use Rattle.amqp_model.proofs.Together.{new, greeted}
use Rattle.amqp_model.proofs.Together.{opened, both_run, client_closes as by_client, server_closed}
use Rattle.amqp_model.proofs.Together.{both_closed, client_closed}
use Rattle.amqp_model.proofs.Hearing.{is_shut, shakes_hands, is_none, is_early, Hears, client-hears, server-hears}
use Rattle.amqp_model.proofs.Hearing.{client-closes, server-closes}
use Rattle.amqp_model.proofs.ZeroSteps.{on-join, signals-on-zero, signals-above, taken-still, heard, TakenAbove}
use Rattle.amqp_model.proofs.ZeroSteps.{taken-above, Speaks, Asked, above, closes, says}

-- The two footings, and the words in flight, as one of the two ends sees them.
abbrev pub TogetherAs : (role : Role) → Config Client → Config Server → (mine theirs : Footing)
    → (due sent : List Signal) → Type 0
TogetherAs Client client_config server_config mine theirs due sent =
    Together client_config server_config mine theirs sent due
TogetherAs Server client_config server_config mine theirs due sent =
    Together client_config server_config theirs mine due sent

pub record HearsAs (role : Role) (client_config : Config Client) (server_config : Config Server) (mine theirs : Footing)
    (due sent : List Signal) (signal : Signal) : Type 0 where
  pub next : Footing
  pub words : List Word
  pub hears : Hears role (config_of role client_config server_config) mine signal next words
  pub together : TogetherAs role client_config server_config next theirs due (sent ++ map Says words)

pub hears-as : (role : Role) (client_config : Config Client) (server_config : Config Server)
    → ConfigWrites client_config → ConfigWrites server_config
    → {mine theirs : Footing} (due sent : List Signal) (signal : Signal)
    → TogetherAs role client_config server_config mine theirs (signal ∷ due) sent
    → HearsAs role client_config server_config mine theirs due sent signal
hears-as Client client_config server_config c s due sent signal together =
    let h = client-hears client_config server_config c s together in
    record { next = h.next; words = h.words; hears = h.hears; together = h.together }
hears-as Server client_config server_config c s due sent signal together =
    let h = server-hears client_config server_config c s together in
    record { next = h.next; words = h.words; hears = h.hears; together = h.together }

closes-as : (role : Role) (client_config : Config Client) (server_config : Config Server) (mine theirs : Footing)
    (due sent : List Signal) → TogetherAs role client_config server_config mine theirs due sent
    → is_running mine.phase ≡ true → (code : ℕ) (text : List ℕ) (cause : Cause)
    → TogetherAs role client_config server_config (at Phase.Closing mine.agreed) theirs due
    (sent ++ Says (Close code text cause) ∷ [])
closes-as Client client_config server_config mine theirs due sent together e code text cause =
    client-closes client_config server_config together e code text cause
closes-as Server client_config server_config mine theirs due sent together e code text cause =
    server-closes client_config server_config together e code text cause

-- a Running server is blocked, or no more, or beats
server-blocked : (client_config : Config Client) (server_config : Config Server) {client server : Footing}
    {to_server to_client : List Signal} {signal : Signal}
    → Together client_config server_config client server to_server to_client → is_running server.phase ≡ true
    → IsBlock signal → Together client_config server_config client server to_server (to_client ++ signal ∷ [])
server-blocked client_config server_config {signal = signal} (opened {later = later} b) e is =
    opened (one-more IsBlock signal later is b)
server-blocked client_config server_config {signal = signal} (both_run {later = later} d b) e is =
    both_run d (one-more IsBlock signal later is b)
server-blocked client_config server_config {signal = signal} (by_client {later = later} code text cause d b) e is =
    by_client code text cause d (one-more IsBlock signal later is b)
server-blocked client_config server_config together e is = absurd (false≢true e)

-- a Running client beats
client-beats : (client_config : Config Client) (server_config : Config Server) {client server : Footing}
    {to_server to_client : List Signal} → Together client_config server_config client server to_server to_client
    → is_running client.phase ≡ true
    → Together client_config server_config client server (to_server ++ Beats ∷ []) to_client
client-beats client_config server_config (both_run {due = due} d b) e = both_run (one-more IsBeat Beats due a_beat d) b
client-beats client_config server_config (Together.server_closes {due = due} code text cause d b) e =
    Together.server_closes code text cause (one-more IsBeat Beats due a_beat d) b
client-beats client_config server_config together e = absurd (false≢true e)

beats-as : (role : Role) (client_config : Config Client) (server_config : Config Server) (mine theirs : Footing)
    (due sent : List Signal) → TogetherAs role client_config server_config mine theirs due sent
    → is_running mine.phase ≡ true
    → TogetherAs role client_config server_config mine theirs due (sent ++ Beats ∷ [])
beats-as Client client_config server_config mine theirs due sent together e =
    client-beats client_config server_config together e
beats-as Server client_config server_config mine theirs due sent together e =
    server-blocked client_config server_config together e beats

-- where a client runs, neither end is early
client-late : (client_config : Config Client) (server_config : Config Server) {client server : Footing}
    {to_server to_client : List Signal} → Together client_config server_config client server to_server to_client
    → is_running client.phase ≡ true → (is_early client ≡ false) × (is_early server ≡ false)
client-late client_config server_config (both_run d b) e = (refl, refl)
client-late client_config server_config (Together.server_closes code text cause d b) e = (refl, refl)
client-late client_config server_config together e = absurd (false≢true e)

-- and a server that runs is not
server-late : (client_config : Config Client) (server_config : Config Server) {client server : Footing}
    {to_server to_client : List Signal} → Together client_config server_config client server to_server to_client
    → is_running server.phase ≡ true → is_early server ≡ false
server-late client_config server_config (opened b) e = refl
server-late client_config server_config (both_run d b) e = refl
server-late client_config server_config (by_client code text cause d b) e = refl
server-late client_config server_config together e = absurd (false≢true e)

runs-late : (role : Role) (client_config : Config Client) (server_config : Config Server) (mine theirs : Footing)
    (due sent : List Signal) → TogetherAs role client_config server_config mine theirs due sent
    → is_running mine.phase ≡ true → is_early mine ≡ false
runs-late Client client_config server_config mine theirs due sent together e =
    (client-late client_config server_config together e).0
runs-late Server client_config server_config mine theirs due sent together e =
    server-late client_config server_config together e

-- while the other end is closed none runs
none-runs : (role : Role) (client_config : Config Client) (server_config : Config Server) (mine theirs : Footing)
    (due sent : List Signal) → TogetherAs role client_config server_config mine theirs due sent
    → is_shut theirs.phase ≡ true → is_running mine.phase ≡ false
none-runs Client client_config server_config mine theirs due sent together e = client together e
  where
    client : {client server : Footing} {to_server to_client : List Signal}
        → Together client_config server_config client server to_server to_client → is_shut server.phase ≡ true
        → is_running client.phase ≡ false
    client (server_closed b) e = refl
    client (both_closed s) e = refl
    client together e = absurd (false≢true e)
none-runs Server client_config server_config mine theirs due sent together e = server together e
  where
    server : {client server : Footing} {to_server to_client : List Signal}
        → Together client_config server_config client server to_server to_client → is_shut client.phase ≡ true
        → is_running server.phase ≡ false
    server (client_closed s d) e = refl
    server (both_closed s) e = refl
    server together e = absurd (false≢true e)

-- a server that awaits the protocol header puts start
abbrev awaits_header : Phase → Bool
awaits_header (Handshake AwaitsProtocolHeader) = true
awaits_header phase = false

pub server-greets : (client_config : Config Client) (server_config : Config Server) {client server : Footing}
    {to_server to_client : List Signal} → Together client_config server_config client server to_server to_client
    → awaits_header server.phase ≡ true → (args : List Argument)
    → Together client_config server_config client (at (Handshake AwaitsStartOk) None) to_server
    (to_client ++ Says (Start args) ∷ [])
server-greets client_config server_config new e args = greeted args
server-greets client_config server_config together e args = absurd (false≢true e)

blocks-as : (role : Role) (client_config : Config Client) (server_config : Config Server) (mine theirs : Footing)
    (due sent : List Signal) → role ≡ Server → TogetherAs role client_config server_config mine theirs due sent
    → is_running mine.phase ≡ true → (signal : Signal) → IsBlock signal
    → TogetherAs role client_config server_config mine theirs due (sent ++ signal ∷ [])
blocks-as Client client_config server_config mine theirs due sent r together e signal block = absurd cc
blocks-as Server client_config server_config mine theirs due sent r together e signal block =
    server-blocked client_config server_config together e block

pub all-read-join : (xs ys : List Signal) → AllRead xs → AllRead ys → AllRead (xs ++ ys)
all-read-join [] ys a b = b
all-read-join (x ∷ xs) ys a b = (a.0, all-read-join xs ys a.1 b)

-- the end in this role, and the other
abbrev pub mine_of : (role : Role) → Config Client → Config Server → History → End
mine_of role client_config server_config history =
    end_from role (config_of role client_config server_config) false history

abbrev pub theirs_of : (role : Role) → Config Client → Config Server → History → End
theirs_of role client_config server_config history =
    end_from (other_end role) (config_of (other_end role) client_config server_config) false history

-- while either is early nothing was put above channel 0, and every channel is Free
pub record NothingAbove (mine_puts theirs_puts : List Frame) (mine theirs : End) (n : ℕ) : Type 0 where
  pub mine_none : on (suc n) mine_puts ≡ []
  pub theirs_none : on (suc n) theirs_puts ≡ []
  pub mine_free : mine.channels n ≡ channels.Free
  pub theirs_free : theirs.channels n ≡ channels.Free

-- Two histories are together.
pub record Joined (role : Role) (client_config : Config Client) (server_config : Config Server)
    (mine theirs : History) : Type 0 where
  pub due : List Signal
  pub sent : List Signal
  pub together : TogetherAs role client_config server_config
      (footing_of (mine_of role client_config server_config mine))
      (footing_of (theirs_of role client_config server_config theirs)) due sent
  -- what is in flight
  pub due_is : on 0 (frames_put theirs) ≡ on 0 (frames_taken mine) ++ map passing due
  pub sent_is : on 0 (frames_put mine) ≡ on 0 (frames_taken theirs) ++ map passing sent
  pub due_read : AllRead due
  pub sent_read : AllRead sent
  pub early : ((is_early (footing_of (mine_of role client_config server_config mine)) ≡ true)
      ⊎ (is_early (footing_of (theirs_of role client_config server_config theirs)) ≡ true)) → (n : ℕ)
      → NothingAbove (frames_put mine) (frames_put theirs) (mine_of role client_config server_config mine)
      (theirs_of role client_config server_config theirs) n
  -- an end that is closed has taken all that the other put above channel 0
  pub mine_over : is_shut (mine_of role client_config server_config mine).phase ≡ true → (n : ℕ)
      → on (suc n) (frames_put theirs) ≡ on (suc n) (frames_taken mine)
  pub theirs_over : is_shut (theirs_of role client_config server_config theirs).phase ≡ true → (n : ℕ)
      → on (suc n) (frames_put mine) ≡ on (suc n) (frames_taken theirs)

pub turned : (client_config : Config Client) (server_config : Config Server) (client server : History)
    → Joined Client client_config server_config client server
    → Joined Server client_config server_config server client
turned client_config server_config client server j = record {
  due = j.sent;
  sent = j.due;
  together = j.together;
  due_is = j.sent_is;
  sent_is = j.due_is;
  due_read = j.sent_read;
  sent_read = j.due_read;
  early = λ e n. let h = j.early (other e) n in
      record {
        mine_none = h.theirs_none;
        theirs_none = h.mine_none;
        mine_free = h.theirs_free;
        theirs_free = h.mine_free;
      };
  mine_over = j.theirs_over;
  theirs_over = j.mine_over;
}
  where
    other : {A B : Type 0} → A ⊎ B → B ⊎ A
    other (inl a) = inr a
    other (inr b) = inl b

pub turned-back : (client_config : Config Client) (server_config : Config Server) (client server : History)
    → Joined Server client_config server_config server client
    → Joined Client client_config server_config client server
turned-back client_config server_config client server j = record {
  due = j.sent;
  sent = j.due;
  together = j.together;
  due_is = j.sent_is;
  sent_is = j.due_is;
  due_read = j.sent_read;
  sent_read = j.due_read;
  early = λ e n. let h = j.early (other e) n in
      record {
        mine_none = h.theirs_none;
        theirs_none = h.mine_none;
        mine_free = h.theirs_free;
        theirs_free = h.mine_free;
      };
  mine_over = j.theirs_over;
  theirs_over = j.mine_over;
}
  where
    other : {A B : Type 0} → A ⊎ B → B ⊎ A
    other (inl a) = inr a
    other (inr b) = inl b

-- frames of channel 0 alone were added
pub none-more : (n : ℕ) (frames : List Frame) (signals : List Signal)
    → on (suc n) (frames ++ map passing signals) ≡ on (suc n) frames
none-more n frames signals =
    on-join (suc n) frames (map passing signals) ∙ (ap (λ l. on (suc n) frames ++ l) (signals-above n signals)
    ∙ append-nil (on (suc n) frames))

-- signals put after those in flight
pub more-sent : (frames theirs : List Frame) (sent words : List Signal) → on 0 frames ≡ on 0 theirs ++ map passing sent
    → on 0 (frames ++ map passing words) ≡ on 0 theirs ++ map passing (sent ++ words)
more-sent frames theirs sent words e =
    on-join 0 frames (map passing words)
    ∙ (ap (λ l. l ++ on 0 (map passing words)) e
    ∙ (append_assoc (on 0 theirs) (map passing sent) (on 0 (map passing words))
    ∙ ap (λ l. on 0 theirs ++ l) (ap (λ l. map passing sent ++ l) (signals-on-zero words)
    ∙ sym (map-append passing sent words))))

-- one signal taken of those in flight
one-taken : (frames taken : List Frame) (signal : Signal) (due : List Signal)
    → on 0 frames ≡ on 0 taken ++ map passing (signal ∷ due)
    → on 0 frames ≡ on 0 (taken ++ passing signal ∷ []) ++ map passing due
one-taken frames taken signal due e =
    e ∙ (sym (append_assoc (on 0 taken) (passing signal ∷ []) (map passing due))
    ∙ ap (λ l. l ++ map passing due)
    (sym (on-join 0 taken (passing signal ∷ []) ∙ ap (λ l. on 0 taken ++ l) (signals-on-zero (signal ∷ [])))))

module _ (role : Role) (client_config : Config Client) (server_config : Config Server)
    (client_writes : ConfigWrites client_config) (server_writes : ConfigWrites server_config)
    (back : WritesReadBack role (config_of role client_config server_config)) (mine theirs : History)
    (stands : StandsFor role (config_of role client_config server_config) false
    (end_from role (config_of role client_config server_config) false mine) mine)
    (j : Joined role client_config server_config mine theirs) where
  -- a signal comes next
  hears-joined : (signal : Signal) (due : List Signal)
      → TogetherAs role client_config server_config (footing_of (mine_of role client_config server_config mine))
      (footing_of (theirs_of role client_config server_config theirs)) (signal ∷ due) j.sent
      → on 0 (frames_put theirs) ≡ on 0 (frames_taken mine) ++ map passing (signal ∷ due)
      → AllRead (signal ∷ due) → (is_leaving (passing signal) ≡ true → (n : ℕ)
      → on (suc n) (frames_put theirs) ≡ on (suc n) (frames_taken mine))
      → Joined role client_config server_config (then_taken (config_of role client_config server_config)
      (end_from role (config_of role client_config server_config) false mine) (passing signal) mine) theirs
  hears-joined signal due together due_is read leaving =
      let h = hears-as role client_config server_config client_writes server_writes due j.sent signal together in
      let x = heard role (config_of role client_config server_config) back mine stands signal
      h.next h.words h.hears read.0 in
      let before = then_taken (config_of role client_config server_config)
      (end_from role (config_of role client_config server_config) false mine) (passing signal) mine in
      record {
        due = due;
        sent = j.sent ++ map Says h.words;
        together = subst (λ f. TogetherAs role client_config server_config f
            (footing_of (theirs_of role client_config server_config theirs)) due (j.sent ++ map Says h.words))
            (sym x.footing) h.together;
        due_is = one-taken (frames_put theirs) (frames_taken mine) signal due due_is
            ∙ ap (λ l. on 0 l ++ map passing due) (sym x.taken);
        sent_is = ap (on 0) x.put ∙ more-sent (frames_put mine) (frames_taken theirs) j.sent
            (map Says h.words) j.sent_is;
        due_read = read.1;
        sent_read = all-read-join j.sent (map Says h.words) j.sent_read x.read;
        early =
            λ e n. let old =
            j.early (begun (footing_of (mine_of role client_config server_config mine)) x.footing h.hears.begins e) n in
            record {
              mine_none = ap (on (suc n)) x.put ∙ (none-more n (frames_put mine) (map Says h.words)
                  ∙ old.mine_none);
              theirs_none = old.theirs_none;
              mine_free = x.channels n ∙ old.mine_free;
              theirs_free = old.theirs_free;
            };
        mine_over =
            λ e n. leaving (h.hears.closes (sym (ap (λ (f : Footing). is_shut f.phase) x.footing) ∙ e)) n
            ∙ sym (ap (on (suc n)) x.taken ∙ none-more n (frames_taken mine) (signal ∷ []));
        theirs_over = λ e n. ap (on (suc n)) x.put
            ∙ (none-more n (frames_put mine) (map Says h.words) ∙ j.theirs_over e n);
      }
    where
      begun : {B : Type 0} {after next : Footing} (before : Footing) → after ≡ next
          → (is_early next ≡ true → is_early before ≡ true) → (is_early after ≡ true) ⊎ B
          → (is_early before ≡ true) ⊎ B
      begun before is begins (inl e) = inl (begins (sym (ap is_early is) ∙ e))
      begun before is begins (inr b) = inr b

  -- by what is in flight
  zero-joined : (frame : Frame) (later : List Frame) (due : List Signal)
      → TogetherAs role client_config server_config (footing_of (mine_of role client_config server_config mine))
      (footing_of (theirs_of role client_config server_config theirs)) due j.sent
      → on 0 (frames_put theirs) ≡ on 0 (frames_taken mine) ++ map passing due → AllRead due
      → map passing due ≡ frame ∷ later
      → (is_leaving frame ≡ true → (n : ℕ)
      → on (suc n) (frames_put theirs) ≡ on (suc n) (frames_taken mine))
      → Joined role client_config server_config (then_taken (config_of role client_config server_config)
      (end_from role (config_of role client_config server_config) false mine) frame mine) theirs
  zero-joined frame later [] together due_is read e leaving = absurd cc
  zero-joined frame later (signal ∷ due) together due_is read e leaving =
      let same : passing signal ≡ frame = (let h : passing signal ∷ map passing due ≡ frame ∷ later = e in
      cc) in
      subst (λ f. (is_leaving f ≡ true → (n : ℕ)
      → on (suc n) (frames_put theirs) ≡ on (suc n) (frames_taken mine))
      → Joined role client_config server_config (then_taken (config_of role client_config server_config)
      (end_from role (config_of role client_config server_config) false mine) f mine) theirs) same
      (hears-joined signal due together due_is read) leaving

  no_run : {A : Type 0} {phase : Phase} → phase ≡ Running → is_shut phase ≡ true → A
  no_run p e = absurd (false≢true (sym (ap is_shut p) ∙ e))

  above-joined : (frame : Frame) (m : ℕ) (later : List Frame) → frame.channel ≡ suc m
      → on (suc m) (frames_put theirs) ≡ on (suc m) (frames_taken mine) ++ frame ∷ later
      → TakenAbove role (config_of role client_config server_config) mine
      (then_taken (config_of role client_config server_config)
      (end_from role (config_of role client_config server_config) false mine) frame mine)
      → Joined role client_config server_config (then_taken (config_of role client_config server_config)
      (end_from role (config_of role client_config server_config) false mine) frame mine) theirs
  above-joined frame m later here next x = record {
    due = j.due;
    sent = j.sent;
    together = subst (λ f. TogetherAs role client_config server_config f
        (footing_of (theirs_of role client_config server_config theirs)) j.due j.sent) (sym x.footing) j.together;
    due_is = j.due_is ∙ ap (λ l. l ++ map passing j.due) (sym x.taken);
    sent_is = x.put ∙ j.sent_is;
    due_read = j.due_read;
    sent_read = j.sent_read;
    early = λ e n.
        absurd (some (on (suc m) (frames_taken mine)) (sym (j.early (as_before x.footing e) m).theirs_none ∙ next));
    mine_over = λ e. shut x.phase (sym (ap (λ (f : Footing). is_shut f.phase) x.footing) ∙ e);
    theirs_over = λ e n. over x.phase e n;
  }
    where
      some : (xs : List Frame) → [] ≡ xs ++ frame ∷ later → ⊥
      some [] e = cc
      some (y ∷ xs) e = cc

      as_before : {B : Type 0} {after before : Footing} → after ≡ before → (is_early after ≡ true) ⊎ B
          → (is_early before ≡ true) ⊎ B
      as_before is (inl e) = inl (sym (ap is_early is) ∙ e)
      as_before is (inr b) = inr b

      shut : {A B : Type 0} {phase : Phase} → ((phase ≡ Running) ⊎ ((phase ≡ Phase.Closing) × B))
          → is_shut phase ≡ true → A
      shut (inl p) e = absurd (false≢true (sym (ap is_shut p) ∙ e))
      shut (inr p) e = absurd (false≢true (sym (ap is_shut p.0) ∙ e))

      over : (((mine_of role client_config server_config mine).phase ≡ Running)
          ⊎ (((mine_of role client_config server_config mine).phase ≡ Phase.Closing)
          × (frames_put (then_taken (config_of role client_config server_config)
          (end_from role (config_of role client_config server_config) false mine) frame mine) ≡ frames_put mine)))
          → is_shut (theirs_of role client_config server_config theirs).phase ≡ true → (n : ℕ)
          → on (suc n)
          (frames_put (then_taken (config_of role client_config server_config)
          (end_from role (config_of role client_config server_config) false mine) frame mine))
          ≡ on (suc n) (frames_taken theirs)
      over (inl p) e n =
          absurd (true≢false (sym (ap is_running p)
          ∙ none-runs role client_config server_config (footing_of (mine_of role client_config server_config mine))
          (footing_of (theirs_of role client_config server_config theirs)) j.due j.sent j.together e))
      over (inr p) e n = ap (on (suc n)) p.1 ∙ j.theirs_over e n

  -- a signal is put, by an end that doesn't close at once, to one that is not closed
  pub speaks-joined : (frames : List Frame) (signal : Signal) (next : Footing)
      → Speaks role (config_of role client_config server_config) mine (then_put frames mine) signal next
      → (is_early next ≡ true → (is_early (footing_of (mine_of role client_config server_config mine)) ≡ true)
      ⊎ (is_early (footing_of (theirs_of role client_config server_config theirs)) ≡ true))
      → is_shut next.phase ≡ false → is_shut (theirs_of role client_config server_config theirs).phase ≡ false
      → TogetherAs role client_config server_config next
      (footing_of (theirs_of role client_config server_config theirs)) j.due (j.sent ++ signal ∷ [])
      → Joined role client_config server_config (then_put frames mine) theirs
  speaks-joined frames signal next x begins stays others together = record {
    due = j.due;
    sent = j.sent ++ signal ∷ [];
    together = subst (λ f. TogetherAs role client_config server_config f
        (footing_of (theirs_of role client_config server_config theirs)) j.due (j.sent ++ signal ∷ []))
        (sym x.footing) together;
    due_is = j.due_is ∙ ap (λ l. on 0 l ++ map passing j.due) (sym (taken-still frames mine));
    sent_is = ap (on 0) x.put ∙ more-sent (frames_put mine) (frames_taken theirs) j.sent (signal ∷ []) j.sent_is;
    due_read = j.due_read;
    sent_read = all-read-join j.sent (signal ∷ []) j.sent_read (x.read, tt);
    early = λ e n. let old = j.early (before e) n in
        record {
          mine_none = ap (on (suc n)) x.put ∙ (none-more n (frames_put mine) (signal ∷ []) ∙ old.mine_none);
          theirs_none = old.theirs_none;
          mine_free = x.channels n ∙ old.mine_free;
          theirs_free = old.theirs_free;
        };
    mine_over = λ e. absurd (false≢true (sym (ap (λ (f : Footing). is_shut f.phase) x.footing ∙ stays) ∙ e));
    theirs_over = λ e n. absurd (false≢true (sym others ∙ e));
  }
    where
      before : ((is_early (footing_of (mine_of role client_config server_config (then_put frames mine))) ≡ true)
          ⊎ (is_early (footing_of (theirs_of role client_config server_config theirs)) ≡ true))
          → (is_early (footing_of (mine_of role client_config server_config mine)) ≡ true)
          ⊎ (is_early (footing_of (theirs_of role client_config server_config theirs)) ≡ true)
      before (inl e) = begins (sym (ap is_early x.footing) ∙ e)
      before (inr e) = inr e

  -- while an end runs, the other is not closed
  others-run : (mine_of role client_config server_config mine).phase ≡ Running
      → is_shut (theirs_of role client_config server_config theirs).phase ≡ false
  others-run runs = by (is_shut (theirs_of role client_config server_config theirs).phase) refl
    where
      by : (b : Bool) → is_shut (theirs_of role client_config server_config theirs).phase ≡ b → b ≡ false
      by false e = refl
      by true e =
          absurd (true≢false (sym (ap is_running runs)
          ∙ none-runs role client_config server_config (footing_of (mine_of role client_config server_config mine))
          (footing_of (theirs_of role client_config server_config theirs)) j.due j.sent j.together e))

  -- and it is not early
  late : (mine_of role client_config server_config mine).phase ≡ Running
      → is_early (footing_of (mine_of role client_config server_config mine)) ≡ false
  late runs =
      runs-late role client_config server_config (footing_of (mine_of role client_config server_config mine))
      (footing_of (theirs_of role client_config server_config theirs)) j.due j.sent j.together (ap is_running runs)

  -- a signal is put by a Running end
  pub runs-joined : (frames : List Frame) → (mine_of role client_config server_config mine).phase ≡ Running
      → (signal : Signal) (next : Footing)
      → Speaks role (config_of role client_config server_config) mine (then_put frames mine) signal next
      → next.agreed ≡ (mine_of role client_config server_config mine).agreed → shakes_hands next.phase ≡ false
      → is_shut next.phase ≡ false
      → TogetherAs role client_config server_config next
      (footing_of (theirs_of role client_config server_config theirs)) j.due (j.sent ++ signal ∷ [])
      → Joined role client_config server_config (then_put frames mine) theirs
  runs-joined frames runs signal next x same over_hands stays together =
      speaks-joined frames signal next x (λ e. absurd (false≢true (sym none_early ∙ e))) stays
      (others-run runs) together
    where
      none_agreed : is_none (mine_of role client_config server_config mine).agreed ≡ false
      none_agreed =
          sym (ap (λ p. shakes_hands p || is_none (mine_of role client_config server_config mine).agreed) runs)
          ∙ late runs

      none_early : is_early next ≡ false
      none_early = ap (λ b. b || is_none next.agreed) over_hands ∙ (ap is_none same ∙ none_agreed)

  pub asks-joined : (frames : List Frame) → (mine_of role client_config server_config mine).phase ≡ Running
      → Asked role (config_of role client_config server_config) mine (then_put frames mine)
      → Joined role client_config server_config (then_put frames mine) theirs
  asks-joined frames runs (above footing put from) = record {
    due = j.due;
    sent = j.sent;
    together = subst (λ f. TogetherAs role client_config server_config f
        (footing_of (theirs_of role client_config server_config theirs)) j.due j.sent) (sym footing) j.together;
    due_is = j.due_is ∙ ap (λ l. on 0 l ++ map passing j.due) (sym (taken-still frames mine));
    sent_is = put ∙ j.sent_is;
    due_read = j.due_read;
    sent_read = j.sent_read;
    early = λ e n. absurd (none_opens from e);
    mine_over = λ e. no_run runs (sym (ap (λ (f : Footing). is_shut f.phase) footing) ∙ e);
    theirs_over =
        λ e n. absurd
        (true≢false (sym (ap is_running runs)
        ∙ none-runs role client_config server_config (footing_of (mine_of role client_config server_config mine))
        (footing_of (theirs_of role client_config server_config theirs)) j.due j.sent j.together e));
  }
    where
      client : (role : Role) (mine theirs : Footing) (due sent : List Signal) → role ≡ Client
          → TogetherAs role client_config server_config mine theirs due sent → is_running mine.phase ≡ true
          → is_early theirs ≡ true → ⊥
      client Client mine theirs due sent r together e f =
          true≢false (sym f ∙ (client-late client_config server_config together e).1)
      client Server mine theirs due sent r together e f = cc

      none_opens : ((role ≡ Client)
          ⊎ ((c : ℕ)
          × ((life : Life) × ((mine_of role client_config server_config mine).channels c ≡ channels.Open life))))
          → ((is_early (footing_of (mine_of role client_config server_config (then_put frames mine))) ≡ true)
          ⊎ (is_early (footing_of (theirs_of role client_config server_config theirs)) ≡ true)) → ⊥
      none_opens from (inl e) = false≢true (sym (ap is_early footing ∙ late runs) ∙ e)
      none_opens (inl r) (inr e) =
          client role (footing_of (mine_of role client_config server_config mine))
          (footing_of (theirs_of role client_config server_config theirs)) j.due j.sent r
          j.together (ap is_running runs) e
      none_opens (inr open_one) (inr e) =
          let free = (j.early (inr e) open_one.0).mine_free in
          let one = open_one.1.1 in
          let both : channels.Free ≡ channels.Open open_one.1.0 = sym free ∙ one in
          cc
  asks-joined frames runs (closes code text cause x) =
      runs-joined frames runs (Says (Close code text cause))
      (at Phase.Closing (mine_of role client_config server_config mine).agreed) x refl refl refl
      (closes-as role client_config server_config (footing_of (mine_of role client_config server_config mine))
      (footing_of (theirs_of role client_config server_config theirs)) j.due j.sent j.together
      (ap is_running runs) code text cause)
  asks-joined frames runs (says signal block r x) =
      runs-joined frames runs signal (footing_of (mine_of role client_config server_config mine)) x refl
      (ap shakes_hands runs) (ap is_shut runs)
      (blocks-as role client_config server_config (footing_of (mine_of role client_config server_config mine))
      (footing_of (theirs_of role client_config server_config theirs)) j.due j.sent r j.together
      (ap is_running runs) signal block)

  -- a Running end beats
  pub beats-joined : (frames : List Frame) → (mine_of role client_config server_config mine).phase ≡ Running
      → Speaks role (config_of role client_config server_config) mine (then_put frames mine) Beats
      (footing_of (mine_of role client_config server_config mine))
      → Joined role client_config server_config (then_put frames mine) theirs
  beats-joined frames runs x =
      runs-joined frames runs Beats (footing_of (mine_of role client_config server_config mine)) x refl
      (ap shakes_hands runs) (ap is_shut runs)
      (beats-as role client_config server_config (footing_of (mine_of role client_config server_config mine))
      (footing_of (theirs_of role client_config server_config theirs)) j.due j.sent j.together (ap is_running runs))

  -- what comes next is taken
  pub takes-joined : (frame : Frame) → ComesNext theirs mine frame
      → goes_on (end_verdict (config_of role client_config server_config)
      (end_from role (config_of role client_config server_config) false mine) frame) ≡ true
      → Joined role client_config server_config (then_taken (config_of role client_config server_config)
      (end_from role (config_of role client_config server_config) false mine) frame mine) theirs
  takes-joined frame next goes = by-channel frame.channel refl
    where
      by-channel : (c : ℕ) → frame.channel ≡ c
          → Joined role client_config server_config (then_taken (config_of role client_config server_config)
          (end_from role (config_of role client_config server_config) false mine) frame mine) theirs
      by-channel zero here =
          let there = subst (λ c. on c (frames_put theirs) ≡ on c (frames_taken mine) ++ frame
          ∷ next.later) here next.next in
          zero-joined frame next.later j.due j.together j.due_is j.due_read
          (append_cancel_left (on 0 (frames_taken mine)) (map passing j.due) (frame ∷ next.later) (sym j.due_is
          ∙ there)) next.at_leaving
      by-channel (suc m) here =
          let there = subst (λ c. on c (frames_put theirs) ≡ on c (frames_taken mine) ++ frame
          ∷ next.later) here next.next in
          above-joined frame m next.later here there
          (taken-above role (config_of role client_config server_config) back mine stands frame m here goes)
