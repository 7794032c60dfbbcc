-- While an end holds the other paused, no content is in flight to it: kept by every act, beside the cases of `Joint`.
use Rattle.std.proofs.Common.{◌≡◌, Bool, true, false, cond, not, ℕ, ◌≤◌, List, [], ◌∷◌, ◌++◌}
use Rattle.std.proofs.Common.{Option, Some, None, refl, sym, ◌∙◌, subst, arith}
use Rattle.std.proofs.lemmas.Bool.{true≢false, false≢true}
use Rattle.amqp_model.specs.Wire.Frame.{Frame}
use Rattle.amqp_model.specs.Wire.Notes.{Role, other_end, Kind, Open, OpenOk, Close, CloseOk, Flow, FlowOk, Other, Note}
use Rattle.amqp_model.specs.Wire.Notes.{Put, Took, Leaving, is_content}
use Rattle.amqp_model.specs.History.States.{State, Free, Opening, Closing}
use Rattle.amqp_model.specs.History.Lives.{pauses_other, is_paused}
use Rattle.amqp_model.specs.Pair.Carried.{NoteInLife, At}
use Rattle.amqp_model.proofs.Ends.{Standing, Is, Stands, stands, IsReply, to_open, to_close, to_flow, Asking, opens}
use Rattle.amqp_model.proofs.Ends.{closes, flows, sends, Taking, accepts, begins, ends, pauses, hears, acts, crosses}
use Rattle.amqp_model.proofs.Ends.{frees, drops, a_flow, a_flow_ok, an_other, Lawful, has_asked, has_replied, has_taken}
use Rattle.amqp_model.proofs.Ends.{has_left_now, lawful_stands}
use Rattle.amqp_model.proofs.Joint.{Row, done, with_flow, with_flow_ok, with_other, most, free, opening, freed, opened}
use Rattle.amqp_model.proofs.Joint.{ready, server_closes, client_closes, JointAt, at_client, at_server, joint_ask}
use Rattle.amqp_model.proofs.Joint.{Taken, quietly, answering, joint_take}

-- flow-ok with active 0, and flow with active 1
abbrev pub is_pause_ok : Kind → Bool
is_pause_ok (FlowOk active) = not active
is_pause_ok _ = false

abbrev pub is_restart : Kind → Bool
is_restart (Flow active) = active
is_restart _ = false

-- What comes to an end that holds the other paused, or not, holds no content after a flow-ok with active 0;
-- with all of it taken the end holds the other paused, or not.
pub data Scan : Bool → List NoteInLife → Bool → Type 0 where
  scanned : {held : Bool} → Scan held [] held
  pausing : {held out : Bool} {n : ℕ} {frame : Frame} {r : List NoteInLife} → Scan true r out
      → Scan held (At (FlowOk false) n frame ∷ r) out
  content : {out : Bool} {n : ℕ} {frame : Frame} {r : List NoteInLife} → Scan false r out
      → Scan false (At (Other true) n frame ∷ r) out
  passing : {held out : Bool} {kind : Kind} {n : ℕ} {frame : Frame} {r : List NoteInLife}
      → is_pause_ok kind ≡ false → is_content kind ≡ false → Scan held r out
      → Scan held (At kind n frame ∷ r) out

scan_plain : {held out : Bool} {r : List NoteInLife} (kind : Kind) (n : ℕ) (frame : Frame)
    → is_pause_ok kind ≡ false → is_content kind ≡ false → Scan held r out
    → Scan held (r ++ At kind n frame ∷ []) out
scan_plain kind n frame e e' scanned = passing e e' scanned
scan_plain kind n frame e e' (pausing scan) = pausing (scan_plain kind n frame e e' scan)
scan_plain kind n frame e e' (content scan) = content (scan_plain kind n frame e e' scan)
scan_plain kind n frame e e' (passing f f' scan) = passing f f' (scan_plain kind n frame e e' scan)

scan_pause : {held out : Bool} {r : List NoteInLife} (n : ℕ) (frame : Frame) → Scan held r out
    → Scan held (r ++ At (FlowOk false) n frame ∷ []) true
scan_pause n frame scanned = pausing scanned
scan_pause n frame (pausing scan) = pausing (scan_pause n frame scan)
scan_pause n frame (content scan) = content (scan_pause n frame scan)
scan_pause n frame (passing f f' scan) = passing f f' (scan_pause n frame scan)

scan_content : {held out : Bool} {r : List NoteInLife} (n : ℕ) (frame : Frame) → out ≡ false → Scan held r out
    → Scan held (r ++ At (Other true) n frame ∷ []) out
scan_content n frame e scanned = subst (λ b. Scan b (At (Other true) n frame ∷ []) b) (sym e) (content scanned)
scan_content n frame e (pausing scan) = pausing (scan_content n frame e scan)
scan_content n frame e (content scan) = content (scan_content n frame e scan)
scan_content n frame e (passing f f' scan) = passing f f' (scan_content n frame e scan)

-- what an end holds once it has taken a frame
abbrev held_after : Kind → Bool → Bool
held_after kind held = cond (is_pause_ok kind) true held

scan_take : {held out : Bool} {kind : Kind} {n : ℕ} {frame : Frame} {r : List NoteInLife}
    → Scan held (At kind n frame ∷ r) out → Scan (held_after kind held) r out
scan_take (pausing scan) = scan
scan_take (content scan) = scan
scan_take {held} {out} {r = r} (passing e e' scan) = subst (λ b. Scan (cond b true held) r out) (sym e) scan

-- no content comes to an end that holds the other paused
pub scan_content_free : {held out begins_content : Bool} {n : ℕ} {frame : Frame} {r : List NoteInLife}
    → Scan held (At (Other begins_content) n frame ∷ r) out → begins_content ≡ true → held ≡ false
scan_content_free (content scan) e = refl
scan_content_free (passing f f' scan) e = absurd (true≢false (sym e ∙ f'))

-- no flow with active 1
abbrev pub NoRestart : List NoteInLife → Type 0
NoRestart [] = Unit {0}
NoRestart (At kind n frame ∷ later) = (is_restart kind ≡ false) × NoRestart later

restart_more : (q : List NoteInLife) (kind : Kind) (n : ℕ) (frame : Frame) → is_restart kind ≡ false
    → NoRestart q → NoRestart (q ++ At kind n frame ∷ [])
restart_more [] kind n frame e quiet = (e, tt)
restart_more (At kind' n' frame' ∷ q) kind n frame e quiet = (quiet.0, restart_more q kind n frame e quiet.1)

-- messages without a flow
row_no_restart : {n : ℕ} {tail : List NoteInLife} {i j : ℕ} {row : List NoteInLife} → Row n tail i j row
    → i ≡ 0 → NoRestart tail → NoRestart row
row_no_restart done e quiet = quiet
row_no_restart (with_flow row) e quiet = absurd (omega arith)
row_no_restart (with_flow_ok row) e quiet = (refl, row_no_restart row e quiet)
row_no_restart (with_other row) e quiet = (refl, row_no_restart row e quiet)

-- messages without a flow-ok
row_scan : {n : ℕ} {tail : List NoteInLife} {i j : ℕ} {row : List NoteInLife} → Row n tail i j row → j ≡ 0
    → Scan false tail false → Scan false row false
row_scan done e scan = scan
row_scan (with_flow row) e scan = passing refl refl (row_scan row e scan)
row_scan (with_flow_ok row) e scan = absurd (omega arith)
row_scan (with_other {begins_content = true} row) e scan = content (row_scan row e scan)
row_scan (with_other {begins_content = false} row) e scan = passing refl refl (row_scan row e scan)

-- an end, in its state and life and paused or not, puts no content in life n
pub data IsHushed (n : ℕ) : State → ℕ → Bool → Type 0 where
  is_paused_now : {word : State} {m : ℕ} → IsHushed n word m true
  is_closing : {m : ℕ} {paused : Bool} → IsHushed n Closing m paused
  is_free : {m : ℕ} {paused : Bool} → IsHushed n Free m paused
  elsewhere : {word : State} {m : ℕ} {paused : Bool} → (m ≡ n → ⊥) → IsHushed n word m paused

-- the other puts no content in life n, and no flow with active 1 is in flight to it
pub record Silenced (n : ℕ) (word : State) (m : ℕ) (paused : Bool) (q : List NoteInLife) : Type 0 where
  hushed : IsHushed n word m paused
  no_restart : NoRestart q

-- Of an end in life n that holds the other paused or not, the other, what is in flight to it, and what comes:
-- after a flow-ok with active 0 no content comes, and once it is put the other is silenced.
pub data Hush (n : ℕ) (held : Bool) (word : State) (m : ℕ) (paused : Bool) (q r : List NoteInLife) : Type 0 where
  hush : {out : Bool} → Scan held r out → (out ≡ true → Silenced n word m paused q)
      → Hush n held word m paused q r

-- nothing comes, and the other is not held
pub fresh : {n m : ℕ} {word : State} {paused : Bool} {q : List NoteInLife} → Hush n false word m paused q []
fresh = hush scanned (λ e. absurd (false≢true e))

-- an end that opens a life, or in which it has begun, holds nobody paused in it
pub lawful_opening : {role : Role} {history : List Note} {n : ℕ} {a : Bool} → Lawful role history (Is Opening n a)
    → pauses_other role history ≡ false
lawful_opening (has_asked frame here lawful opens) = refl
lawful_opening (has_replied frame lawful to_close) = lawful_opening lawful
lawful_opening (has_left_now lawful) = lawful_opening lawful
lawful_opening (has_taken frame lawful taking) = elim taking [ ]

-- an ask of the end that may hold the other
pub mine_asks : {role : Role} {word word' w : State} {n n' m : ℕ} {a a' b : Bool} {q r : List NoteInLife}
    {kind : Kind} {paused : Bool} (history : List Note) (frame : Frame)
    → Asking role (Is word n a) kind (Is word' n' a') → JointAt role (Is word n a) (Is w m b) q r
    → Hush n (pauses_other role history) w m paused q r
    → Hush n' (pauses_other role (Put kind frame ∷ history)) w m paused (q ++ At kind n' frame ∷ []) r
mine_asks history frame opens (at_client free) old = fresh
mine_asks history frame opens (at_client (freed q)) old = fresh
mine_asks {n' = n'} {q = q} history frame closes joint (hush scan silenced) =
    hush scan (λ e. let old = silenced e in
    record { hushed = old.hushed; no_restart = restart_more q Close n' frame refl old.no_restart })
mine_asks {n' = n'} {q = q} history frame (flows {active = false}) joint (hush scan silenced) =
    hush scan (λ e. let old = silenced e in
    record { hushed = old.hushed; no_restart = restart_more q (Flow false) n' frame refl old.no_restart })
mine_asks history frame (flows {active = true}) (at_client (ready q r le me)) old =
    hush (row_scan r (omega arith) scanned) (λ e. absurd (false≢true e))
mine_asks history frame (flows {active = true}) (at_client (server_closes q r le me)) old =
    hush (row_scan r (omega arith) (passing refl refl scanned)) (λ e. absurd (false≢true e))
mine_asks history frame (flows {active = true}) (at_server (opened r le)) old = fresh
mine_asks history frame (flows {active = true}) (at_server (ready q r le me)) old =
    hush (row_scan q (omega arith) scanned) (λ e. absurd (false≢true e))
mine_asks history frame (flows {active = true}) (at_server (client_closes q r le me)) old =
    hush (row_scan q (omega arith) (passing refl refl scanned)) (λ e. absurd (false≢true e))
mine_asks {n' = n'} {q = q} history frame sends joint (hush scan silenced) =
    hush scan (λ e. let old = silenced e in
    record { hushed = old.hushed; no_restart = restart_more q (Other _) n' frame refl old.no_restart })

-- a reply of the end that may hold the other
pub mine_replies : {n m : ℕ} {word w : State} {held paused : Bool} {q r : List NoteInLife} {kind : Kind} (k : ℕ)
    (frame : Frame) → IsReply kind word → Hush n held w m paused q r
    → Hush n held w m paused (q ++ At kind k frame ∷ []) r
mine_replies {q = q} k frame to_open (hush scan silenced) =
    hush scan (λ e. let old = silenced e in
    record { hushed = old.hushed; no_restart = restart_more q OpenOk k frame refl old.no_restart })
mine_replies {q = q} k frame to_close (hush scan silenced) =
    hush scan (λ e. let old = silenced e in
    record { hushed = old.hushed; no_restart = restart_more q CloseOk k frame refl old.no_restart })
mine_replies {q = q} k frame (to_flow {active = b}) (hush scan silenced) =
    hush scan (λ e. let old = silenced e in
    record { hushed = old.hushed; no_restart = restart_more q (FlowOk b) k frame refl old.no_restart })

hush_take : {n m k : ℕ} {w : State} {held paused : Bool} {q r : List NoteInLife} {kind : Kind} {frame : Frame}
    → Hush n held w m paused q (At kind k frame ∷ r) → Hush n (held_after kind held) w m paused q r
hush_take (hush scan silenced) = hush (scan_take scan) silenced

-- a take of the end that may hold the other
pub mine_takes : {role : Role} {word word' w : State} {n n' m : ℕ} {a a' b : Bool} {q r : List NoteInLife}
    {kind : Kind} {owed : Option Kind} {k : ℕ} {paused : Bool} (history : List Note) (frame : Frame)
    → Stands role history (Is word n a) → Taking role (Is word n a) kind owed (Is word' n' a')
    → JointAt role (Is word n a) (Is w m b) q (At kind k frame ∷ r)
    → Hush n (pauses_other role history) w m paused q (At kind k frame ∷ r)
    → Hush n' (pauses_other role (Took kind frame ∷ history)) w m paused q r
mine_takes {w = w} {n' = n'} {m = m} {q = q} {paused = paused} history frame (stands l e h) accepts
    (at_server opening) old =
    subst (λ held. Hush n' held w m paused q []) (sym (simp h.1)) fresh
mine_takes history frame s begins joint old = hush_take old
mine_takes history frame s ends joint old = hush_take old
mine_takes history frame s pauses joint old = hush_take old
mine_takes history frame s (hears {active = true}) joint old = hush_take old
mine_takes history frame s (hears {active = false}) joint old = hush_take old
mine_takes history frame s acts joint old = hush_take old
mine_takes history frame s crosses joint old = hush_take old
mine_takes history frame s frees joint old = hush_take old
mine_takes history frame s (drops a_flow) joint old = hush_take old
mine_takes history frame s (drops (a_flow_ok {active = true})) joint old = hush_take old
mine_takes history frame s (drops (a_flow_ok {active = false})) joint old = hush_take old
mine_takes history frame s (drops an_other) joint old = hush_take old

-- an end that is Open is in the life of the other
same_life : {role : Role} {n m : ℕ} {w : State} {a b : Bool} {q r : List NoteInLife}
    → JointAt role (Is State.Open m a) (Is w n b) r q → m ≡ n
same_life (at_client (ready q r le me)) = refl
same_life (at_client (server_closes q r le me)) = refl
same_life (at_server (opened r le)) = refl
same_life (at_server (ready q r le me)) = refl
same_life (at_server (client_closes q r le me)) = refl

not_hushed : {n m : ℕ} {paused : Bool} → paused ≡ false → m ≡ n → IsHushed n State.Open m paused → ⊥
not_hushed e same is_paused_now = true≢false e
not_hushed e same (elsewhere apart) = apart same

-- an open-ok hushes no less
still_hushed : {n m : ℕ} {paused : Bool} → IsHushed n Opening m paused → IsHushed n State.Open m paused
still_hushed is_paused_now = is_paused_now
still_hushed (elsewhere apart) = elsewhere apart

most_le : (b : Bool) → most b ≤ 1
most_le false = omega arith
most_le true = omega arith

-- after a flow that is taken while the channel is Open there is no other
no_flow_after : {role : Role} {n m k : ℕ} {active : Bool} {frame : Frame} {w : State} {a b : Bool}
    {q r : List NoteInLife} → JointAt role (Is State.Open m a) (Is w n b) r (At (Flow active) k frame ∷ q)
    → NoRestart q
no_flow_after {b = b} (at_client (ready q (with_flow r) le me)) = row_no_restart r (omega (arith, most_le b)) tt
no_flow_after {b = b} (at_client (server_closes q (with_flow r) le me)) =
    row_no_restart r (omega (arith, most_le b)) (refl, tt)
no_flow_after {b = b} (at_server (ready (with_flow q) r le me)) = row_no_restart q (omega (arith, most_le b)) tt
no_flow_after {b = b} (at_server (client_closes (with_flow q) r le me)) =
    row_no_restart q (omega (arith, most_le b)) (refl, tt)

-- an end that may be held asks
pub theirs_ask : {role : Role} {word word' w : State} {n m m' : ℕ} {a a' b : Bool} {q r : List NoteInLife}
    {kind : Kind} {held : Bool} (history : List Note) (frame : Frame)
    → Asking role (Is word m a) kind (Is word' m' a')
    → (is_content kind ≡ true → is_paused role history ≡ false) → JointAt role (Is word m a) (Is w n b) r q
    → Hush n held word m (is_paused role history) q r
    → Hush n held word' m' (is_paused role (Put kind frame ∷ history)) q (r ++ At kind m' frame ∷ [])
theirs_ask {m' = m'} history frame opens may (at_client free) (hush scan silenced) =
    hush (scan_plain Open m' frame refl refl scan) (λ e. let old = silenced e in
    record { hushed = elsewhere (λ k. omega arith); no_restart = old.no_restart })
theirs_ask {m' = m'} history frame opens may (at_client (freed r)) (hush scan silenced) =
    hush (scan_plain Open m' frame refl refl scan) (λ e. let old = silenced e in
    record { hushed = elsewhere (λ k. omega arith); no_restart = old.no_restart })
theirs_ask {m' = m'} history frame closes may joint (hush scan silenced) =
    hush (scan_plain Close m' frame refl refl scan) (λ e. let old = silenced e in
    record { hushed = is_closing; no_restart = old.no_restart })
theirs_ask {m' = m'} history frame (flows {active = b}) may joint (hush scan silenced) =
    hush (scan_plain (Flow b) m' frame refl refl scan) silenced
theirs_ask {m' = m'} history frame (sends {begins_content = false}) may joint (hush scan silenced) =
    hush (scan_plain (Other false) m' frame refl refl scan) silenced
theirs_ask {role} {w = w} {n} {m} {m'} {a} {b = b} {q} {r} {held = held} history frame (sends {begins_content = true})
    may joint (hush {out} scan silenced) =
    hush (scan_content m' frame (loud out refl) scan) silenced
  where
    loud : (o : Bool) → out ≡ o → out ≡ false
    loud false e = e
    loud true e = absurd (not_hushed (may refl) (same_life joint) (silenced e).hushed)

-- an end that may be held takes a note for which it owes no reply
pub theirs_take : {role : Role} {word word' : State} {n m m' : ℕ} {a a' : Bool} {q r : List NoteInLife} {kind : Kind}
    {k : ℕ} {held : Bool} (history : List Note) (frame : Frame) → Stands role history (Is word m a)
    → Taking role (Is word m a) kind None (Is word' m' a')
    → Hush n held word m (is_paused role history) (At kind k frame ∷ q) r
    → Hush n held word' m' (is_paused role (Took kind frame ∷ history)) q r
theirs_take history frame s begins (hush scan silenced) =
    hush scan (λ e. let old = silenced e in record { hushed = still_hushed old.hushed; no_restart = old.no_restart.1 })
theirs_take history frame s hears (hush scan silenced) =
    hush scan (λ e. let old = silenced e in record { hushed = old.hushed; no_restart = old.no_restart.1 })
theirs_take history frame s acts (hush scan silenced) =
    hush scan (λ e. let old = silenced e in record { hushed = old.hushed; no_restart = old.no_restart.1 })
theirs_take history frame s frees (hush scan silenced) =
    hush scan (λ e. let old = silenced e in record { hushed = is_free; no_restart = old.no_restart.1 })
theirs_take history frame s (drops message) (hush scan silenced) =
    hush scan (λ e. let old = silenced e in record { hushed = is_closing; no_restart = old.no_restart.1 })

-- an end that may be held takes a note and puts its reply
pub theirs_reply : {role : Role} {word word' w : State} {n m m' : ℕ} {a a' b : Bool} {q r : List NoteInLife}
    {kind reply : Kind} {k : ℕ} {held : Bool} (history : List Note) (frame answer : Frame)
    → Stands role history (Is word m a) → Taking role (Is word m a) kind (Some reply) (Is word' m' a')
    → (w ≡ Opening → held ≡ false) → JointAt role (Is word m a) (Is w n b) r (At kind k frame ∷ q)
    → Hush n held word m (is_paused role history) (At kind k frame ∷ q) r
    → Hush n held word' m' (is_paused role (Took kind frame ∷ history)) q (r ++ At reply m' answer ∷ [])
theirs_reply history frame answer s accepts new (at_server opening) (hush scan silenced) =
    hush (passing refl refl scanned) (λ e. absurd (false≢true (sym (new refl) ∙ e)))
theirs_reply {m' = m'} history frame answer s ends new joint (hush scan silenced) =
    hush (scan_plain CloseOk m' answer refl refl scan) (λ e. let old = silenced e in
    record { hushed = is_free; no_restart = old.no_restart.1 })
theirs_reply {m' = m'} history frame answer s crosses new joint (hush scan silenced) =
    hush (scan_plain CloseOk m' answer refl refl scan) (λ e. let old = silenced e in
    record { hushed = is_closing; no_restart = old.no_restart.1 })
theirs_reply {m' = m'} history frame answer s (pauses {active = true}) new joint (hush scan silenced) =
    hush (scan_plain (FlowOk true) m' answer refl refl scan) (λ e. absurd (true≢false (silenced e).no_restart.0))
theirs_reply {role} {n = n} {m} {m'} {q = q} {r} history frame answer (stands l e h) (pauses {active = false}) new joint
    (hush scan silenced) =
    hush (scan_pause m' answer scan)
    (λ e. record {
      hushed = subst (λ p. IsHushed n State.Open m p) (sym (simp h.1)) is_paused_now;
      no_restart = no_flow_after joint;
    })

-- two ends with their notes, in one of the cases, each silenced where the other holds it
pub data Pact (role : Role) (mine theirs : List Note) : Standing → Standing → List NoteInLife
    → List NoteInLife → Type 0 where
  pact : {word word' : State} {n n' : ℕ} {a a' : Bool} {q r : List NoteInLife}
      → JointAt role (Is word n a) (Is word' n' a') q r
      → Hush n (pauses_other role mine) word' n' (is_paused (other_end role) theirs) q r
      → Hush n' (pauses_other (other_end role) theirs) word n (is_paused role mine) r q
      → Pact role mine theirs (Is word n a) (Is word' n' a') q r

pub pact_joint : {role : Role} {mine theirs : List Note} {here there : Standing} {q r : List NoteInLife}
    → Pact role mine theirs here there q r → JointAt role here there q r
pact_joint (pact joint i they) = joint

pub pact_ask : {role : Role} {mine theirs : List Note} {word word' w : State} {n n' m : ℕ} {a a' b : Bool}
    {q r : List NoteInLife} {kind : Kind} → Asking role (Is word n a) kind (Is word' n' a')
    → (is_content kind ≡ true → is_paused role mine ≡ false)
    → Pact role mine theirs (Is word n a) (Is w m b) q r → (frame : Frame)
    → Pact role (Put kind frame ∷ mine) theirs (Is word' n' a') (Is w m b) (q ++ At kind n' frame ∷ []) r
pact_ask {mine = mine} asking may (pact joint i they) frame =
    pact (joint_ask joint asking frame) (mine_asks mine frame asking joint i)
    (theirs_ask mine frame asking may joint they)

-- a reply that was owed is put
pub pact_reply : {role : Role} {mine theirs : List Note} {here there : Standing} {q r : List NoteInLife} {kind : Kind}
    {word : State} → IsReply kind word → (frame : Frame) → Pact role mine theirs here there q r
    → Pact role (Put kind frame ∷ mine) theirs here there q r
pact_reply to_open frame (pact joint i they) = pact joint i they
pact_reply to_close frame (pact joint i they) = pact joint i they
pact_reply to_flow frame (pact joint i they) = pact joint i they

pub pact_leave : {role : Role} {mine theirs : List Note} {here there : Standing} {q r : List NoteInLife}
    → Pact role mine theirs here there q r → Pact role (Leaving ∷ mine) theirs here there q r
pact_leave (pact joint i they) = pact joint i they

-- what an end does with the next note that comes, and that both keep to the pact
pub data Kept (role : Role) (mine theirs : List Note) (here there : Standing) (q r : List NoteInLife) (kind : Kind)
    (frame : Frame) (n : ℕ) : Type 0 where
  kept_quietly : {word : State} {a : Bool} → Taking role here kind None (Is word n a)
      → Pact role (Took kind frame ∷ mine) theirs (Is word n a) there q r
      → Kept role mine theirs here there q r kind frame n
  kept_answering : {word : State} {a : Bool} {reply : Kind} → Taking role here kind (Some reply) (Is word n a)
      → IsReply reply word
      → ((answer : Frame)
      → Pact role (Took kind frame ∷ mine) theirs (Is word n a) there (q ++ At reply n answer ∷ []) r)
      → Kept role mine theirs here there q r kind frame n

pub pact_take : {role : Role} {mine theirs : List Note} {word w : State} {n m : ℕ} {a b : Bool}
    {q r : List NoteInLife} {kind : Kind} {k : ℕ} {frame : Frame} → Lawful role mine (Is word n a)
    → Lawful (other_end role) theirs (Is w m b)
    → Pact role mine theirs (Is word n a) (Is w m b) q (At kind k frame ∷ r)
    → Kept role mine theirs (Is word n a) (Is w m b) q r kind frame k
pact_take {role} {mine} {theirs} {word} {w} {n} {m} {a} {b} {q} {r} {kind} {k} {frame} s s' (pact joint i they) =
    go (joint_take joint)
  where
    go : Taken role (Is word n a) (Is w m b) q r kind k
        → Kept role mine theirs (Is word n a) (Is w m b) q r kind frame k
    go (quietly taking after) =
        kept_quietly taking (pact after (mine_takes mine frame (lawful_stands s) taking joint i)
        (theirs_take mine frame (lawful_stands s) taking they))
    go (answering taking is_reply after) =
        kept_answering taking is_reply (λ answer. pact (after answer)
        (mine_replies k answer is_reply (mine_takes mine frame (lawful_stands s) taking joint i))
        (theirs_reply mine frame answer (lawful_stands s) taking
        (λ e. lawful_opening (subst (λ w. Lawful (other_end role) theirs (Is w m b)) e s')) joint they))
