-- What an application does with the connection besides its asks: what an end puts that accepts it.
use Rattle.std.proofs.Common.{◌≡◌, ◌≤◌, inl, Bool, true, false, nat_lt, ℕ, suc, ◌==◌, arith, List, []}
use Rattle.std.proofs.Common.{◌∷◌, refl, sym, subst}
use Rattle.std.proofs.lemmas.Bool.{ne_eqb, ltb-false}
use Rattle.amqp_frame.specs.Frame.{frame_length}
use Rattle.amqp_method.specs.Fitting.{FitsShort}
use Rattle.amqp_method.specs.declared.kinds.Kind.TheVariants as kinds
use Rattle.amqp_model.specs.Wire.Frame.{Frame}
use Rattle.amqp_model.specs.Wire.Notes.{Role, Client, Server, Note}
use Rattle.amqp_model.specs.Wire.Methods.{Method, ReadsBack, carries_content, same_kind}
use Rattle.amqp_model.specs.History.Histories.{Put, History, entries_on, notes}
use Rattle.amqp_model.specs.End.Channels.{HoldsStart, HoldsLogin, HoldsOpen, Phase, Handshake, Running, End}
use Rattle.amqp_model.specs.History.Negotiation.{Config, Hello, OfClient, FRAME_MIN, start_ok_choosing, tune}
use Rattle.amqp_model.specs.History.Negotiation.{connection_open_ok}
use Rattle.amqp_model.specs.End.Closes.{close_as, no_cause, method_frame}
use Rattle.amqp_model.specs.End.Asks.{Puts}
use Rattle.amqp_model.specs.End.Controls.{Control, Beat, Admit, Refuse, AnswerStart, heartbeat_frame, beats_in}
use Rattle.amqp_model.specs.End.Controls.{admits_in, refuses_in, unless_long, answers_in, control_in, control_verdict}
use Rattle.amqp_model.specs.End.ReadingBack.{WritesReadBack, ControlReadsBack}
use Rattle.amqp_model.specs.End.LawfulHistories.{then_put}
use Rattle.amqp_model.specs.End.Machine.{end_after_put}
use Rattle.amqp_model.specs.Laws.EndLaws.{ActsOn, rests, is_over}
use Rattle.amqp_model.specs.Stream.Endpoint.{awaits_opening}
use Rattle.amqp_model.proofs.Asking.{zero-acts, leave-acts}
use Rattle.amqp_model.proofs.Walking.{IsKeptByPuts}

-- A control that is accepted in a phase, and its frame.
pub data Controlled : (role : Role) → Config role → Phase → Control → Frame → Type 0 where
  beats : {role : Role} {config : Config role} → Controlled role config Running Beat heartbeat_frame
  admits_login : {config : Config Server}
      → Controlled Server config (Handshake HoldsLogin) Admit (method_frame 0 (tune config))
  admits_open : {config : Config Server}
      → Controlled Server config (Handshake HoldsOpen) Admit (method_frame 0 connection_open_ok)
  refuses_login : {config : Config Server} (code : ℕ) (text : List ℕ)
      → Controlled Server config (Handshake HoldsLogin) (Refuse code text)
      (method_frame 0 (close_as kinds.ConnectionClose code text))
  refuses_open : {config : Config Server} (code : ℕ) (text : List ℕ)
      → Controlled Server config (Handshake HoldsOpen) (Refuse code text)
      (method_frame 0 (close_as kinds.ConnectionClose code text))
  answers :
      {config : Config Client} (mechanism response locale : List ℕ)
      → frame_length (method_frame 0 (start_ok_choosing config mechanism response locale)) ≤ FRAME_MIN
      → Controlled Client config (Handshake HoldsStart) (AnswerStart mechanism response locale)
      (method_frame 0 (start_ok_choosing config mechanism response locale))

-- one frame is put
pub record PutsOne (role : Role) (config : Config role) (phase : Phase) (control : Control)
    (frames : List Frame) : Type 0 where
  pub frame : Frame
  pub is : frames ≡ frame ∷ []
  pub controlled : Controlled role config phase control frame

beat-puts : (role : Role) (config : Config role) (phase : Phase) (frames : List Frame)
    → beats_in phase ≡ Puts frames → PutsOne role config phase Beat frames
beat-puts role config Running frames e =
    record {
      frame = heartbeat_frame;
      is = (let h : Puts (heartbeat_frame ∷ []) ≡ Puts frames = e in cc);
      controlled = beats;
    }
beat-puts role config phase frames e = absurd cc

admit-puts : (role : Role) (config : Config role) (phase : Phase) (frames : List Frame)
    → admits_in role config phase ≡ Puts frames → PutsOne role config phase Admit frames
admit-puts Server config (Handshake HoldsLogin) frames e =
    record {
      frame = method_frame 0 (tune config);
      is = (let h : Puts (method_frame 0 (tune config) ∷ []) ≡ Puts frames = e in cc);
      controlled = admits_login;
    }
admit-puts Server config (Handshake HoldsOpen) frames e =
    record {
      frame = method_frame 0 connection_open_ok;
      is = (let h : Puts (method_frame 0 connection_open_ok ∷ []) ≡ Puts frames = e in cc);
      controlled = admits_open;
    }
admit-puts role config phase frames e = absurd cc

refuse-puts : (role : Role) (config : Config role) (phase : Phase) (code : ℕ) (text : List ℕ) (frames : List Frame)
    → refuses_in role phase code text ≡ Puts frames → PutsOne role config phase (Refuse code text) frames
refuse-puts Server config (Handshake HoldsLogin) code text frames e =
    record {
      frame = method_frame 0 (close_as kinds.ConnectionClose code text);
      is = (let h : Puts (method_frame 0 (close_as kinds.ConnectionClose code text) ∷ []) ≡ Puts frames = e in cc);
      controlled = refuses_login code text;
    }
refuse-puts Server config (Handshake HoldsOpen) code text frames e =
    record {
      frame = method_frame 0 (close_as kinds.ConnectionClose code text);
      is = (let h : Puts (method_frame 0 (close_as kinds.ConnectionClose code text) ∷ []) ≡ Puts frames = e in cc);
      controlled = refuses_open code text;
    }
refuse-puts role config phase code text frames e = absurd cc

answer-puts : (role : Role) (config : Config role) (phase : Phase) (mechanism response locale : List ℕ)
    (frames : List Frame) → answers_in role config phase mechanism response locale ≡ Puts frames
    → PutsOne role config phase (AnswerStart mechanism response locale) frames
answer-puts Client config (Handshake HoldsStart) mechanism response locale frames e =
    by-length (nat_lt FRAME_MIN (frame_length (method_frame 0 (start_ok_choosing config mechanism response locale))))
    refl e
  where
    by-length : (b : Bool)
        → nat_lt FRAME_MIN (frame_length (method_frame 0 (start_ok_choosing config mechanism response locale))) ≡ b
        → unless_long b (method_frame 0 (start_ok_choosing config mechanism response locale)) ≡ Puts frames
        → PutsOne Client config (Handshake HoldsStart) (AnswerStart mechanism response locale) frames
    by-length true l e = absurd cc
    by-length false l e = record {
      frame = method_frame 0 (start_ok_choosing config mechanism response locale);
      is = (let h : Puts (method_frame 0 (start_ok_choosing config mechanism response locale) ∷ [])
          ≡ Puts frames = e in cc);
      controlled = answers mechanism response locale (ltb-false FRAME_MIN _ l);
    }
answer-puts role config phase mechanism response locale frames e = absurd cc

pub control-puts : (role : Role) (config : Config role) (phase : Phase) (control : Control) (frames : List Frame)
    → control_in role config phase control ≡ Puts frames → PutsOne role config phase control frames
control-puts role config phase Beat frames e = beat-puts role config phase frames e
control-puts role config phase Admit frames e = admit-puts role config phase frames e
control-puts role config phase (Refuse code text) frames e = refuse-puts role config phase code text frames e
control-puts role config phase (AnswerStart mechanism response locale) frames e =
    answer-puts role config phase mechanism response locale frames e

-- What such a frame is: a heartbeat, a method of the handshake, or connection.close. What is written reads back.
pub data AtZero : Frame → Type 0 where
  at_beat : AtZero heartbeat_frame
  at_method : (method : Method) → ReadsBack method → same_kind method.kind kinds.ConnectionClose ≡ false
      → same_kind method.kind kinds.ConnectionCloseOk ≡ false → same_kind method.kind kinds.ConnectionTuneOk
      ≡ false → carries_content method ≡ false → AtZero (method_frame 0 method)
  at_close : (code : ℕ) (text : List ℕ) → ReadsBack (close_as kinds.ConnectionClose code text) → FitsShort text
      → AtZero (method_frame 0 (close_as kinds.ConnectionClose code text))

answer-at-zero : (config : Config Client) (mechanism response locale : List ℕ)
    → ReadsBack (start_ok_choosing config mechanism response locale)
    → AtZero (method_frame 0 (start_ok_choosing config mechanism response locale))
answer-at-zero config mechanism response locale = go config.hello
  where
    go : (hello : Hello Client)
        → ReadsBack (start_ok_choosing (record config { hello = hello }) mechanism response locale)
        → AtZero (method_frame 0 (start_ok_choosing (record config { hello = hello }) mechanism response locale))
    go (OfClient properties own_mechanism own_response own_locale virtual_host) back =
        at_method _ back refl refl refl refl

at-zero : {role : Role} {config : Config role} {phase : Phase} {control : Control} {frame : Frame}
    → WritesReadBack role config → ControlReadsBack role config control
    → Controlled role config phase control frame → AtZero frame
at-zero back reads beats = at_beat
at-zero back reads admits_login = at_method _ back.admission.0 refl refl refl refl
at-zero back reads admits_open = at_method _ back.admission.1 refl refl refl refl
at-zero back reads (refuses_login code text) = at_close code text reads.0 reads.1
at-zero back reads (refuses_open code text) = at_close code text reads.0 reads.1
at-zero {config = config} back reads (answers mechanism response locale short) =
    answer-at-zero config mechanism response locale reads

-- the frames that are put are one of these
pub data OneAtZero : List Frame → Type 0 where
  one : (frame : Frame) → AtZero frame → OneAtZero (frame ∷ [])

pub puts-at-zero : (role : Role) (config : Config role) (end : End) (control : Control) (frames : List Frame)
    → WritesReadBack role config → ControlReadsBack role config control → control_verdict role config end control
    ≡ Puts frames → OneAtZero frames
puts-at-zero role config end control frames back reads e =
    let p = control-puts role config end.phase control frames e in
    subst OneAtZero (sym p.is) (one p.frame (at-zero back reads p.controlled))

pub zero-channel : (frame : Frame) → AtZero frame → frame.channel ≡ 0
zero-channel frame at_beat = refl
zero-channel frame (at_method method back a b c d) = refl
zero-channel frame (at_close code text back fits) = refl

-- what is kept by what is put is kept by it
pub control-kept : (P : (role : Role) → Config role → End → History → Type 0) → IsKeptByPuts P
    → (role : Role) (config : Config role) (end : End) (history : History) (frames : List Frame)
    → P role config end history → OneAtZero frames
    → P role config (end_after_put role config frames end) (then_put frames history)
control-kept P k role config end history frames p (one frame at) =
    k.put role config end history frame p (inl (zero-channel frame at))

-- On a channel above 0 nothing is noted of it, or that the end left.

pub zero-apart : (n : ℕ) → (0 == suc n) ≡ false
zero-apart n = ne_eqb 0 (suc n) (λ e. let h : 0 ≡ suc n = e in omega arith)

pub beat-away : (n : ℕ) (history : History) → entries_on (suc n) (Put heartbeat_frame ∷ history)
    ≡ entries_on (suc n) history
beat-away n history = let apart = zero-apart n in simp apart

pub control-acts : (role : Role) (theirs : List Note) (history : History) (n : ℕ) (frames : List Frame)
    → OneAtZero frames
    → ActsOn role theirs (notes (entries_on (suc n) history)) (notes (entries_on (suc n) (then_put frames history)))
control-acts role theirs history n frames (one frame at_beat) =
    subst (λ l. ActsOn role theirs (notes (entries_on (suc n) history)) (notes l)) (sym (beat-away n history)) rests
control-acts role theirs history n frames (one frame (at_method method back quiet a b c)) =
    zero-acts role theirs history n method back quiet
control-acts role theirs history n frames (one frame (at_close code text back fits)) =
    leave-acts role theirs history n code text no_cause back

-- Nor does it change a channel of what is kept.
pub control-channels : (role : Role) (config : Config role) (frames : List Frame) (end : End) → OneAtZero frames
    → (end_after_put role config frames end).channels ≡ end.channels
control-channels role config frames end (one frame at_beat) = refl
control-channels role config frames end (one frame (at_method method back a b c d)) = refl
control-channels role config frames end (one frame (at_close code text back fits)) = refl

-- It is accepted while the connection goes on, where no protocol header is awaited.
pub controlled-goes : {role : Role} {config : Config role} {phase : Phase} {control : Control} {frame : Frame}
    → Controlled role config phase control frame → is_over phase ≡ false
controlled-goes beats = refl
controlled-goes admits_login = refl
controlled-goes admits_open = refl
controlled-goes (refuses_login code text) = refl
controlled-goes (refuses_open code text) = refl
controlled-goes (answers mechanism response locale short) = refl

pub controlled-opened : {role : Role} {config : Config role} {phase : Phase} {control : Control} {frame : Frame}
    → Controlled role config phase control frame → awaits_opening role phase ≡ false
controlled-opened {role = Client} beats = refl
controlled-opened {role = Server} beats = refl
controlled-opened admits_login = refl
controlled-opened admits_open = refl
controlled-opened (refuses_login code text) = refl
controlled-opened (refuses_open code text) = refl
controlled-opened (answers mechanism response locale short) = refl

pub control-goes : (role : Role) (config : Config role) (end : End) (control : Control) (frames : List Frame)
    → control_verdict role config end control ≡ Puts frames → is_over end.phase ≡ false
control-goes role config end control frames e =
    controlled-goes (control-puts role config end.phase control frames e).controlled

pub control-opened : (role : Role) (config : Config role) (end : End) (control : Control) (frames : List Frame)
    → control_verdict role config end control ≡ Puts frames → awaits_opening role end.phase ≡ false
control-opened role config end control frames e =
    controlled-opened (control-puts role config end.phase control frames e).controlled
