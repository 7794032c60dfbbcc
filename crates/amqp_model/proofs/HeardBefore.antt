-- What the other end said in the handshake: the laws.
use Rattle.std.proofs.Common.{◌≡◌, Bool, true, false, cond, ◌&&◌, ◌==◌, List, [], ◌∷◌, ◌++◌}
use Rattle.std.proofs.Common.{Option, Some, None, refl, sym, ap, ap₂, ◌∙◌, subst}
use Rattle.std.proofs.lemmas.Bool.{true≢false, and_parts, and_from, eqb-true, eq-eqb}
use Rattle.amqp_method.specs.declared.kinds.Kind.TheVariants as kinds
use Rattle.amqp_model.specs.Wire.Frame.{Frame}
use Rattle.amqp_model.specs.Wire.Notes.{Role, Client, Server}
use Rattle.amqp_model.specs.Wire.Methods.{MethodKind, Method, class_of, id_of, same_kind}
use Rattle.amqp_model.specs.Wire.Readings.{Reading, Calls, reading}
use Rattle.amqp_model.specs.History.Histories.{Put, Took, History, ChannelEntry, entries_on}
use Rattle.amqp_model.specs.End.Channels.{HandshakeStep, AwaitsProtocolHeader, AwaitsStart, AwaitsStartOk, AwaitsTune}
use Rattle.amqp_model.specs.End.Channels.{AwaitsTuneOk, AwaitsOpen, AwaitsOpenOk, HoldsStart, HoldsLogin, HoldsOpen}
use Rattle.amqp_model.specs.End.Channels.{Phase, Handshake, Running, Closed, End}
use Rattle.amqp_model.specs.History.Negotiation.{Config, start}
use Rattle.amqp_model.specs.End.StateFromHistory.{has_put, has_taken, is_closed, is_negotiated, step_from, end_from}
use Rattle.amqp_model.specs.End.FrameVerdict.{is_awaited}
use Rattle.amqp_model.specs.End.EndVerdict.{end_verdict, end_puts, too_large_puts, goes_on}
use Rattle.amqp_model.specs.End.LawfulHistories.{then_put, then_taken, end_of, greets, takes, faults, meets_too_large}
use Rattle.amqp_model.specs.End.LawfulHistories.{fails, asks, controls}
use Rattle.amqp_model.specs.End.Heard.{awaited_by, hears, or_earlier, heard}
use Rattle.amqp_model.specs.Laws.HeardLaws.{HeardBegins, HeardFollows, HeardStays, StepKeepsHeard, HearsAlike, is_of}
use Rattle.amqp_model.specs.Laws.HeardLaws.{is_heard, NoneHeard, WasHeard, HeardReads, EachHearsItsOwn}
use Rattle.amqp_model.specs.End.Events.{FrameVerdict, Proceeds, RefusesContent, Faults}
use Rattle.amqp_model.specs.Lent.Alike.{VerdictTelling, Proceeding, Refusing, Faulting, verdict_telling}
use Rattle.amqp_model.specs.End.Closes.{method_frame}
use Rattle.amqp_model.proofs.Standing.{end-stands}
use Rattle.amqp_model.proofs.Lawfulness.{lawful-stands}
use Rattle.amqp_model.proofs.AlikeVerdicts.{verdicts-alike}

pub heard-begins : HeardBegins
heard-begins role config = record { start = refl; start_ok = refl; tune = refl; tune_ok = refl; connection_open = refl }

heard-put : (role : Role) (config : Config role) (kind : MethodKind) (frames : List Frame) (history : History)
    → heard role config kind (then_put frames history) ≡ heard role config kind history
heard-put role config kind [] history = refl
heard-put role config kind (frame ∷ later) history = heard-put role config kind later (Put frame ∷ history)

pub heard-stays : HeardStays
heard-stays role config history frames kept k = record {
  start = k.start ∙ sym (heard-put role config kinds.ConnectionStart frames history);
  start_ok = k.start_ok ∙ sym (heard-put role config kinds.ConnectionStartOk frames history);
  tune = k.tune ∙ sym (heard-put role config kinds.ConnectionTune frames history);
  tune_ok = k.tune_ok ∙ sym (heard-put role config kinds.ConnectionTuneOk frames history);
  connection_open = k.connection_open ∙ sym (heard-put role config kinds.ConnectionOpen frames history);
}

pub heard-follows : HeardFollows
heard-follows role config end history frame kept stands k = record {
  start = now kinds.ConnectionStart kept.start k.start;
  start_ok = now kinds.ConnectionStartOk kept.start_ok k.start_ok;
  tune = now kinds.ConnectionTune kept.tune k.tune;
  tune_ok = now kinds.ConnectionTuneOk kept.tune_ok k.tune_ok;
  connection_open = now kinds.ConnectionOpen kept.connection_open k.connection_open;
}
  where
    now : (kind : MethodKind) (old : Option Method) → old ≡ heard role config kind history
        → or_earlier kind (hears config end frame) old
        ≡ heard role config kind (then_taken config end frame history)
    now kind old e =
        ap₂ (λ (end : End) old. or_earlier kind (hears config end frame) old)
        (sym (end-stands role config end history stands)) e
        ∙ sym (heard-put role config kind (end_puts config end frame) (Took frame ∷ history))

pub step-keeps-heard : StepKeepsHeard
step-keeps-heard role config before taken failed after kept back lawful greets k =
    heard-stays Server config [] (method_frame 0 (start config) ∷ []) kept k
step-keeps-heard role config before taken failed after kept back lawful (takes frame can g) k =
    heard-follows role config (end_of config before) before frame kept
    (lawful-stands role config false before back lawful) k
step-keeps-heard role config before taken failed after kept back lawful (faults frame can g) k =
    heard-follows role config (end_of config before) before frame kept
    (lawful-stands role config false before back lawful) k
step-keeps-heard role config before taken failed after kept back lawful (meets_too_large p) k =
    heard-stays role config before (too_large_puts config (end_of config before)) kept k
step-keeps-heard role config before taken failed after kept back lawful (fails p) k = k
step-keeps-heard role config before taken failed after kept back lawful (asks ask frames made read v) k =
    heard-stays role config before frames kept k
step-keeps-heard role config before taken failed after kept back lawful (controls control frames read v) k =
    heard-stays role config before frames kept k

-- What was heard.

-- the parts of a frame that is heard
record HeardNow (role : Role) (config : Config role) (before : History) (frame : Frame) (method : Method) : Type 0 where
  zero : frame.channel ≡ 0
  says : reading frame ≡ Calls method
  step : HandshakeStep
  in_step : (end_from role config false before).phase ≡ Handshake step
  awaited : is_awaited step method.kind ≡ true
  goes : goes_on (end_verdict config (end_from role config false before) frame) ≡ true

heard-now : (role : Role) (config : Config role) (before : History) (frame : Frame) (method : Method)
    → hears config (end_from role config false before) frame ≡ Some method
    → HeardNow role config before frame method
heard-now role config before frame method e =
    by-test ((frame.channel == 0) && goes_on (end_verdict config (end_from role config false before) frame)) refl e
  where
    by-reading : ((frame.channel == 0) && goes_on (end_verdict config (end_from role config false before) frame))
        ≡ true → (phase : Phase) → (end_from role config false before).phase ≡ phase → (r : Reading)
        → reading frame ≡ r → awaited_by phase r ≡ Some method → HeardNow role config before frame method
    by-reading t (Handshake step) p (Calls other) r e = by-kind (is_awaited step other.kind) refl e
      where
        by-kind : (b : Bool) → is_awaited step other.kind ≡ b → cond b (Some other) None ≡ Some method
            → HeardNow role config before frame method
        by-kind false a e = absurd cc
        by-kind true a e =
            let same : other ≡ method = (let h : Some other ≡ Some method = e in cc) in
            record {
              zero = eqb-true frame.channel 0 (and_parts (frame.channel == 0) _ t).0;
              says = r ∙ ap Calls same;
              step = step;
              in_step = p;
              awaited = subst (λ (m : Method). is_awaited step m.kind ≡ true) same a;
              goes = (and_parts (frame.channel == 0) _ t).1;
            }
    by-reading t phase p r s e = absurd cc

    by-test : (b : Bool)
        → ((frame.channel == 0) && goes_on (end_verdict config (end_from role config false before) frame)) ≡ b
        → cond b (awaited_by (end_from role config false before).phase (reading frame)) None ≡ Some method
        → HeardNow role config before frame method
    by-test false t e = absurd cc
    by-test true t e = by-reading t (end_from role config false before).phase refl (reading frame) refl e

now-heard : (role : Role) (config : Config role) (before : History) (frame : Frame) (method : Method)
    → frame.channel ≡ 0 → reading frame ≡ Calls method → (step : HandshakeStep)
    → (end_from role config false before).phase ≡ Handshake step → is_awaited step method.kind ≡ true
    → goes_on (end_verdict config (end_from role config false before) frame) ≡ true
    → hears config (end_from role config false before) frame ≡ Some method
now-heard role config before frame method zero says step in_step awaited goes =
    ap (λ b. cond b (awaited_by (end_from role config false before).phase (reading frame)) None)
    (and_from (frame.channel == 0) _ (eq-eqb frame.channel 0 zero) goes)
    ∙ (ap₂ awaited_by in_step says ∙ ap (λ b. cond b (Some method) None) awaited)

reads-heard : (role : Role) (config : Config role) (kind : MethodKind) (history : History) (method : Method)
    → heard role config kind history ≡ Some method → WasHeard role config kind history method
reads-heard role config kind [] method e = absurd cc
reads-heard role config kind (Put frame ∷ before) method e =
    let w = reads-heard role config kind before method e in
    record {
      later = Put frame ∷ w.later;
      frame = w.frame;
      before = w.before;
      history_is = ap (λ l. Put frame ∷ l) w.history_is;
      on_zero = w.on_zero;
      says = w.says;
      of_kind = w.of_kind;
      step = w.step;
      in_step = w.in_step;
      awaited = w.awaited;
      goes = w.goes;
      last = (refl, w.last);
    }
reads-heard role config kind (Took frame ∷ before) method e =
    by-now (λ e. reads-heard role config kind before method e)
    (hears config (end_from role config false before) frame) refl e
  where
    earlier : (heard role config kind before ≡ Some method → WasHeard role config kind before method)
        → is_heard role config kind (Took frame) before ≡ false → heard role config kind before ≡ Some method
        → WasHeard role config kind (Took frame ∷ before) method
    earlier old none e =
        let w = old e in
        record {
          later = Took frame ∷ w.later;
          frame = w.frame;
          before = w.before;
          history_is = ap (λ l. Took frame ∷ l) w.history_is;
          on_zero = w.on_zero;
          says = w.says;
          of_kind = w.of_kind;
          step = w.step;
          in_step = w.in_step;
          awaited = w.awaited;
          goes = w.goes;
          last = (subst (λ h. is_heard role config kind (Took frame) h ≡ false) w.history_is none, w.last);
        }

    by-now : (heard role config kind before ≡ Some method → WasHeard role config kind before method)
        → (now : Option Method) → hears config (end_from role config false before) frame ≡ now
        → or_earlier kind now (heard role config kind before) ≡ Some method
        → WasHeard role config kind (Took frame ∷ before) method
    by-now old None n e = earlier old (ap (λ now. is_of kind now) n) e
    by-now old (Some other) n e = by-kind (same_kind other.kind kind) refl e
      where
        by-kind : (b : Bool) → same_kind other.kind kind ≡ b → cond b (Some other) (heard role config kind before)
            ≡ Some method → WasHeard role config kind (Took frame ∷ before) method
        by-kind false k e = earlier old (ap (λ now. is_of kind now) n ∙ k) e
        by-kind true k e =
            let same : other ≡ method = (let h : Some other ≡ Some method = e in cc) in
            let h = heard-now role config before frame method (n ∙ ap Some same) in
            record {
              later = [];
              frame = frame;
              before = before;
              history_is = refl;
              on_zero = h.zero;
              says = h.says;
              of_kind = subst (λ (m : Method). same_kind m.kind kind ≡ true) same k;
              step = h.step;
              in_step =
                  h.in_step;
              awaited = h.awaited;
              goes = h.goes;
              last = tt;
            }

-- later entries that are not heard leave it
none-since : (role : Role) (config : Config role) (kind : MethodKind) (later before : History)
    → NoneHeard role config kind later before → heard role config kind (later ++ before)
    ≡ heard role config kind before
none-since role config kind [] before none = refl
none-since role config kind (Put frame ∷ later) before none = none-since role config kind later before none.1
none-since role config kind (Took frame ∷ later) before none =
    by-now (none-since role config kind later before none.1)
    (hears config (end_from role config false (later ++ before)) frame) none.0
  where
    by-now : heard role config kind (later ++ before) ≡ heard role config kind before → (now : Option Method)
        → is_of kind now ≡ false → or_earlier kind now (heard role config kind (later ++ before))
        ≡ heard role config kind before
    by-now old None e = old
    by-now old (Some other) e = ap (λ b. cond b (Some other) (heard role config kind (later ++ before))) e ∙ old

was-heard : (role : Role) (config : Config role) (kind : MethodKind) (history : History) (method : Method)
    → WasHeard role config kind history method → heard role config kind history ≡ Some method
was-heard role config kind history method w =
    ap (heard role config kind) w.history_is
    ∙ (none-since role config kind w.later (Took w.frame ∷ w.before) w.last
    ∙ (ap (λ now. or_earlier kind now (heard role config kind w.before))
    (now-heard role config w.before w.frame method w.on_zero w.says w.step w.in_step w.awaited w.goes)
    ∙ ap (λ b. cond b (Some method) (heard role config kind w.before)) w.of_kind))

pub heard-reads : HeardReads
heard-reads role config kind history method =
    (reads-heard role config kind history method, was-heard role config kind history method)

-- Each hears its own.

-- no step of a client awaits such a kind
abbrev IsElse : Role → MethodKind → Type 0
IsElse role kind =
    (entries : List ChannelEntry) (other : MethodKind)
    → (is_awaited (step_from role entries) other && same_kind other kind) ≡ false

module _ (role : Role) (config : Config role) (kind : MethodKind) (apart : IsElse role kind) where
  never : (history : History) → heard role config kind history ≡ None
  never [] = refl
  never (Put frame ∷ before) = never before
  never (Took frame ∷ before) =
      by-test (never before)
      ((frame.channel == 0) && goes_on (end_verdict config (end_from role config false before) frame))
    where
      by-kind : heard role config kind before ≡ None → (entries : List ChannelEntry) (method : Method) (b c : Bool)
          → is_awaited (step_from role entries) method.kind ≡ b → same_kind method.kind kind ≡ c
          → or_earlier kind (cond b (Some method) None) (heard role config kind before) ≡ None
      by-kind old entries method false c e f = old
      by-kind old entries method true false e f =
          ap (λ b. cond b (Some method) (heard role config kind before)) f ∙ old
      by-kind old entries method true true e f =
          absurd (true≢false (sym (ap₂ (λ a b. a && b) e f) ∙ apart entries method.kind))

      by-reading : heard role config kind before ≡ None
          → (r : Reading) (entries : List ChannelEntry) (closed put over : Bool)
          → or_earlier kind
          (awaited_by (cond closed Closed
          (cond put Phase.Closing (cond over Running (Handshake (step_from role entries))))) r)
          (heard role config kind before) ≡ None
      by-reading old r entries true put over = old
      by-reading old r entries false true over = old
      by-reading old r entries false false true = old
      by-reading old (Calls method) entries false false false =
          by-kind old entries method (is_awaited (step_from role entries) method.kind)
          (same_kind method.kind kind) refl refl
      by-reading old r entries false false false = old

      by-test : heard role config kind before ≡ None → (b : Bool)
          → or_earlier kind (cond b (awaited_by (end_from role config false before).phase (reading frame)) None)
          (heard role config kind before) ≡ None
      by-test old false = old
      by-test old true =
          by-reading old (reading frame) (entries_on 0 before) (is_closed (entries_on 0 before))
          (has_put kinds.ConnectionClose (entries_on 0 before)) (is_negotiated role (entries_on 0 before))

-- two kinds are told apart
kinds-apart : (a b : MethodKind) → same_kind a b ≡ false → (other : MethodKind)
    → (same_kind other a && same_kind other b) ≡ false
kinds-apart a b e other = by (same_kind other a) refl (same_kind other b) refl
  where
    by : (x : Bool) → same_kind other a ≡ x → (y : Bool) → same_kind other b ≡ y → (x && y) ≡ false
    by false p y q = refl
    by true p false q = refl
    by true p true q =
        let to_a = and_parts (class_of other == class_of a) (id_of other == id_of a) p in
        let to_b = and_parts (class_of other == class_of b) (id_of other == id_of b) q in
        let class = eq-eqb (class_of a) (class_of b) (sym (eqb-true (class_of other) (class_of a) to_a.0)
        ∙ eqb-true (class_of other) (class_of b) to_b.0) in
        let id = eq-eqb (id_of a) (id_of b) (sym (eqb-true (id_of other) (id_of a) to_a.1)
        ∙ eqb-true (id_of other) (id_of b) to_b.1) in
        absurd (true≢false (sym (and_from (class_of a == class_of b) (id_of a == id_of b) class id) ∙ e))

client-else : (kind : MethodKind) → same_kind kinds.ConnectionOpenOk kind ≡ false
    → same_kind kinds.ConnectionTune kind ≡ false → same_kind kinds.ConnectionStart kind ≡ false
    → IsElse Client kind
client-else kind open_ok tune start entries other =
    by (has_taken kinds.ConnectionTune entries) (has_put kinds.ConnectionStartOk entries)
    (has_taken kinds.ConnectionStart entries)
  where
    by : (tuned answered started : Bool)
        → (is_awaited (cond tuned AwaitsOpenOk (cond answered AwaitsTune (cond started HoldsStart AwaitsStart))) other
        && same_kind other kind) ≡ false
    by true answered started = kinds-apart kinds.ConnectionOpenOk kind open_ok other
    by false true started = kinds-apart kinds.ConnectionTune kind tune other
    by false false true = refl
    by false false false = kinds-apart kinds.ConnectionStart kind start other

server-else : (kind : MethodKind) → same_kind kinds.ConnectionOpen kind ≡ false
    → same_kind kinds.ConnectionTuneOk kind ≡ false → same_kind kinds.ConnectionStartOk kind ≡ false
    → IsElse Server kind
server-else kind opens tune_ok start_ok entries other =
    by (has_taken kinds.ConnectionOpen entries) (has_taken kinds.ConnectionTuneOk entries)
    (has_put kinds.ConnectionTune entries) (has_taken kinds.ConnectionStartOk entries)
    (has_put kinds.ConnectionStart entries)
  where
    by : (opened settled admitted logged greeted : Bool)
        → (is_awaited
        (cond opened HoldsOpen
        (cond settled AwaitsOpen
        (cond admitted AwaitsTuneOk (cond logged HoldsLogin (cond greeted AwaitsStartOk AwaitsProtocolHeader))))) other
        && same_kind other kind) ≡ false
    by true settled admitted logged greeted = refl
    by false true admitted logged greeted = kinds-apart kinds.ConnectionOpen kind opens other
    by false false true logged greeted = kinds-apart kinds.ConnectionTuneOk kind tune_ok other
    by false false false true greeted = refl
    by false false false false true = kinds-apart kinds.ConnectionStartOk kind start_ok other
    by false false false false false = refl

pub each-hears-its-own : EachHearsItsOwn
each-hears-its-own client_config server_config history = record {
  start_ok = never Client client_config kinds.ConnectionStartOk
      (client-else kinds.ConnectionStartOk refl refl refl) history;
  tune_ok = never Client client_config kinds.ConnectionTuneOk
      (client-else kinds.ConnectionTuneOk refl refl refl) history;
  connection_open =
      never Client client_config kinds.ConnectionOpen (client-else kinds.ConnectionOpen refl refl refl) history;
  start = never Server server_config kinds.ConnectionStart (server-else kinds.ConnectionStart refl refl refl) history;
  tune = never Server server_config kinds.ConnectionTune (server-else kinds.ConnectionTune refl refl refl) history;
}

-- Alike ends.

abbrev telling_goes : VerdictTelling → Bool
telling_goes (Proceeding event owed) = true
telling_goes Refusing = true
telling_goes (Faulting fault) = false

goes-telling : (verdict : FrameVerdict) → goes_on verdict ≡ telling_goes (verdict_telling verdict)
goes-telling (Proceeds event owed) = refl
goes-telling RefusesContent = refl
goes-telling (Faults fault) = refl

pub hears-alike : HearsAlike
hears-alike role config one other frame a =
    let same : goes_on (end_verdict config one frame) ≡ goes_on (end_verdict config other frame) =
    goes-telling (end_verdict config one frame)
    ∙ (ap telling_goes (verdicts-alike role config one other frame.channel (reading frame) a)
    ∙ sym (goes-telling (end_verdict config other frame))) in
    ap₂ (λ goes phase. cond ((frame.channel == 0) && goes) (awaited_by phase (reading frame)) None) same a.phase
