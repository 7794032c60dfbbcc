-- What the other sent in a life that its connection.close ended was all acted on.
use Rattle.std.proofs.Common.{◌≡◌, Bool, true, false, cond, ◌&&◌, ◌||◌, ℕ, suc, ◌==◌, arith, List}
use Rattle.std.proofs.Common.{[], ◌∷◌, ◌++◌, map, Option, Some, None, refl, sym, ap, ◌∙◌, subst}
use Rattle.std.proofs.Common.{append_assoc, append-nil}
use Rattle.std.proofs.lemmas.Bool.{false≢true, true≢false, and_parts, eqb-true, eq-eqb, ne_eqb, cond-true}
use Rattle.std.proofs.lemmas.Bool.{cond-false}
use Rattle.std.proofs.lemmas.List.Elements.{filter-append}
use Rattle.amqp_method.specs.declared.kinds.Kind.TheVariants as kinds
use Rattle.amqp_model.specs.Wire.Frame.{Frame}
use Rattle.amqp_model.specs.Wire.Notes.{Role, Client, Server, other_end}
use Rattle.amqp_model.specs.History.Lives.{lives}
use Rattle.amqp_model.specs.Laws.LifeLaws.{IsLive}
use Rattle.amqp_model.specs.Output.Arrangement.{is_leaving, on}
use Rattle.amqp_model.specs.Wire.Methods.{Method, ReadsBack}
use Rattle.amqp_model.specs.Wire.Contents.{Payload}
use Rattle.amqp_model.specs.Wire.Readings.{Reading, Calls, reading, is_call}
use Rattle.amqp_model.specs.History.Histories.{Entry, Put, Took, History, PutHere, TookHere, LeftHere}
use Rattle.amqp_model.specs.History.Histories.{closes_connection, entries_on, notes}
use Rattle.amqp_model.specs.End.Channels.{Channel, Agreed, Phase, Handshake, Running, Closed, Failed, End}
use Rattle.amqp_model.specs.History.Negotiation.{Config}
use Rattle.amqp_model.specs.History.Negotiation as negotiation
use Rattle.amqp_model.specs.End.StateFromHistory.{has_put, closed_by_peer, is_closed, end_from}
use Rattle.amqp_model.specs.End.Closes.{Owed, AllReadBack, connection_close_ok, method_frame, frame_of}
use Rattle.amqp_model.specs.End.Events.{Event, Proceeds}
use Rattle.amqp_model.specs.End.FrameVerdict.{verdict_on, methods_put}
use Rattle.amqp_model.specs.End.Asks.{Ask, Refusal, lowest_free, opens_on, payload_frame, message_payloads, frame_max}
use Rattle.amqp_model.specs.End.Asks.{frames_asked, method_asked, refusal, Puts, ask_verdict}
use Rattle.amqp_model.specs.End.EndVerdict.{facts_at, end_verdict, end_puts, goes_on, takes_frames, too_large_puts}
use Rattle.amqp_model.specs.End.ReadingBack.{WritesReadBack}
use Rattle.amqp_model.specs.End.LawfulHistories.{then_put, then_taken, Goes, greets, takes, faults, meets_too_large}
use Rattle.amqp_model.specs.End.LawfulHistories.{fails, asks, controls, Lawful, begun, goes}
use Rattle.amqp_model.specs.Stream.Octets.{frames_put, frames_taken}
use Rattle.amqp_model.specs.Output.Prefixes.{IsPrefixOf}
use Rattle.amqp_model.specs.Laws.EndLaws.{is_over, notes_on}
use Rattle.amqp_model.specs.Pair.Carried.{sent, acted}
use Rattle.amqp_model.specs.Pair.Sent.{items_in}
use Rattle.amqp_model.specs.Pair.Pairs.{ComesNext, AllComeNext, Pair, both_begin, client_goes, server_goes, PairOf}
use Rattle.amqp_model.specs.Pair.Pairs.{PairAt, config_of}
use Rattle.amqp_model.specs.Laws.SentLaws.{EndedByConnectionClose, AllItemsActedOnOfEnded}
use Rattle.amqp_model.proofs.Acting.{left-noted, reads-back}
use Rattle.amqp_model.proofs.Asking.{Accepted, accepted, accepted-none, not-when, first-false, frame-channel}
use Rattle.amqp_model.specs.End.Controls.{heartbeat_frame}
use Rattle.amqp_model.proofs.AskSteps.{is-running}
use Rattle.amqp_model.proofs.Controlling.{OneAtZero, one, at_beat, at_method, at_close, puts-at-zero, control-goes}
use Rattle.amqp_model.proofs.Departures.{is_departure}
use Rattle.amqp_model.proofs.Elsewhere.{AllAway, entries-away, verdict-away}
use Rattle.amqp_model.proofs.Agreeing.{facts_in}
use Rattle.amqp_model.proofs.Laws.{all_acted_connection}
use Rattle.amqp_model.proofs.Carrying.{all-noted}
use Rattle.amqp_model.proofs.Pairing.{pair-lawful}
use Rattle.amqp_model.proofs.Sent.{pair-runs_at}
use Rattle.amqp_model.proofs.PutLast.{leaving-is, put-then, kind-closes}

-- What an end puts on channel 0 is written of a method, or it is a heartbeat.

data IsWritten (f : Frame) : Type 0 where
  of_method : (method : Method) → f ≡ method_frame 0 method → ReadsBack method → IsWritten f
  of_beat : f ≡ heartbeat_frame → IsWritten f

abbrev AllWritten : List Frame → Type 0
AllWritten [] = Unit {0}
AllWritten (f ∷ later) = (f.channel ≡ 0 → IsWritten f) × AllWritten later

written-append : (xs ys : List Frame) → AllWritten xs → AllWritten ys → AllWritten (xs ++ ys)
written-append [] ys a b = b
written-append (x ∷ xs) ys a b = (a.0, written-append xs ys a.1 b)

frame-written : (channel : ℕ) (method : Method) → ReadsBack method → channel ≡ 0
    → IsWritten (method_frame channel method)
frame-written channel method back e = of_method method (ap (λ c. method_frame c method) e) back

owed-written : (owed : List Owed) → AllReadBack owed → AllWritten (map frame_of owed)
owed-written [] back = tt
owed-written (owed ∷ later) back = (frame-written owed.channel owed.method back.0, owed-written later back.1)

away-written : (c : ℕ) (payloads : List Payload) → (c == 0) ≡ false
    → AllWritten (map (payload_frame c) payloads)
away-written c [] e = tt
away-written c (payload ∷ later) e =
    (λ z. absurd (true≢false (sym (eq-eqb c 0 (sym (frame-channel c payload) ∙ z)) ∙ e)), away-written c later e)

open-written : (free : Option ℕ) → ReadsBack (method_asked Ask.Open) → AllWritten (opens_on free)
open-written None back = tt
open-written (Some c) back = (frame-written c _ back, tt)

asked-written : (role : Role) (end : End) (ask : Ask) → ReadsBack (method_asked ask) → Accepted role end ask
    → AllWritten (frames_asked end ask)
asked-written role end Ask.Open back a = open-written (lowest_free end) back
asked-written role end (Ask.Send c message) back a =
    away-written c (message_payloads (frame_max end.agreed) message)
    (first-false (c == 0) _ (not-when _ Refusal.BadChannel a.numbered))
asked-written role end (Ask.Flow c active) back a = (frame-written c _ back, tt)
asked-written role end (Ask.CloseChannel c code text cause) back a = (frame-written c _ back, tt)
asked-written role end (Ask.Close code text cause) back a = (frame-written 0 _ back, tt)
asked-written role end (Ask.Blocked reason) back a = (frame-written 0 _ back, tt)
asked-written role end Ask.Unblocked back a = (frame-written 0 _ back, tt)

control-written : (frames : List Frame) → OneAtZero frames → AllWritten frames
control-written frames (one frame at_beat) = (λ e. of_beat refl, tt)
control-written frames (one frame (at_method method back a b c d)) = (frame-written 0 method back, tt)
control-written frames (one frame (at_close code text back fits)) = (frame-written 0 _ back, tt)

more-written : (frames : List Frame) (history : History) → AllWritten (frames_put history) → AllWritten frames
    → AllWritten (frames_put (then_put frames history))
more-written frames history a b =
    subst AllWritten (sym (put-then frames history)) (written-append (frames_put history) frames a b)

goes-written : (role : Role) (config : Config role) (before : History) (taken : Option Frame) (failed : Bool)
    (after : History) → WritesReadBack role config → AllWritten (frames_put before)
    → Goes role config before taken failed after → AllWritten (frames_put after)
goes-written role config before taken failed after back w greets =
    (frame-written 0 (negotiation.start config) back.greeting, tt)
goes-written role config before taken failed after back w (takes frame p g) =
    more-written _ (Took frame ∷ before) w
    (owed-written _ (back.owed (end_from role config false before) frame.channel (reading frame)))
goes-written role config before taken failed after back w (faults frame p g) =
    more-written _ (Took frame ∷ before) w
    (owed-written _ (back.owed (end_from role config false before) frame.channel (reading frame)))
goes-written role config before taken failed after back w (meets_too_large p) =
    more-written _ before w (owed-written _ (back.too_large (end_from role config false before)))
goes-written role config before taken failed after back w (fails p) = w
goes-written role config before taken failed after back w (asks ask frames made read e) =
    let parts = accepted-none (refusal role (end_from role config false before) ask)
    (frames_asked (end_from role config false before) ask) frames e in
    more-written frames before w
    (subst AllWritten parts.1 (asked-written role (end_from role config false before) ask read.method
    (accepted role (end_from role config false before) ask parts.0)))
goes-written role config before taken failed after back w (controls control frames read e) =
    more-written frames before w
    (control-written frames (puts-at-zero role config (end_from role config false before) control frames back read e))

lawful-written : (role : Role) (config : Config role) (failed : Bool) (history : History) → WritesReadBack role config
    → Lawful role config failed history → AllWritten (frames_put history)
lawful-written role config failed history back begun = tt
lawful-written role config failed history back (goes {before = before} {taken = taken} lawful step) =
    goes-written role config before taken failed history back (lawful-written role config false before back lawful) step

-- so a connection.close that the other end put leaves last
written-on : (frames : List Frame) → AllWritten frames → (prefix : List Frame) (f : Frame) (later : List Frame)
    → on 0 frames ≡ prefix ++ f ∷ later → IsWritten f
written-on [] w [] f later e = absurd cc
written-on [] w (x ∷ prefix) f later e = absurd cc
written-on (g ∷ frames) w prefix f later e =
    cases (g.channel == 0) refl (λ prefix e. written-on frames w.1 prefix f later e)
  where
    here : g.channel ≡ 0 → (prefix : List Frame) → g ∷ on 0 frames ≡ prefix ++ f ∷ later
        → ((prefix : List Frame) → on 0 frames ≡ prefix ++ f ∷ later → IsWritten f) → IsWritten f
    here z [] e more = subst IsWritten (let h : g ∷ on 0 frames ≡ f ∷ later = e in cc) (w.0 z)
    here z (x ∷ prefix) e more = more prefix (let h : g ∷ on 0 frames ≡ x ∷ (prefix ++ f ∷ later) = e in cc)

    cases : (b : Bool) → (g.channel == 0) ≡ b → ((prefix : List Frame) → on 0 frames ≡ prefix ++ f ∷ later
        → IsWritten f) → IsWritten f
    cases true z more = here (eqb-true g.channel 0 z) prefix (sym (cond-true (g.channel == 0) _ _ z) ∙ e) more
    cases false z more = more prefix (sym (cond-false (g.channel == 0) _ _ z) ∙ e)

close-leaves-last : (f : Frame) → IsWritten f → closes_connection f ≡ true → is_leaving f ≡ true
close-leaves-last f (of_method method is back) closes =
    let said : is_call kinds.ConnectionClose (Calls method) ≡ true =
    sym (ap (is_call kinds.ConnectionClose) (ap reading is ∙ reads-back 0 method back))
    ∙ (and_parts (f.channel == 0) _ closes).1 in
    ap is_leaving is ∙ (leaving-is 0 method ∙ ap is_departure (kind-closes method.kind said))
close-leaves-last f (of_beat is) closes = absurd (false≢true (sym (ap closes_connection is) ∙ closes))

-- Whether one of these frames is connection.close.

abbrev some_closes : List Frame → Bool
some_closes [] = false
some_closes (f ∷ later) = closes_connection f || some_closes later

or-assoc : (a b c : Bool) → ((a || b) || c) ≡ (a || (b || c))
or-assoc true b c = refl
or-assoc false b c = refl

closes-append : (xs ys : List Frame) → some_closes (xs ++ ys) ≡ (some_closes xs || some_closes ys)
closes-append [] ys = refl
closes-append (x ∷ xs) ys =
    ap (λ b. closes_connection x || b) (closes-append xs ys)
    ∙ sym (or-assoc (closes_connection x) (some_closes xs) (some_closes ys))

-- it stands on channel 0
closes-on-zero : (frames : List Frame) → some_closes (on 0 frames) ≡ some_closes frames
closes-on-zero [] = refl
closes-on-zero (f ∷ frames) = cases (f.channel == 0) refl (closes-on-zero frames)
  where
    cases : (b : Bool) → (f.channel == 0) ≡ b → some_closes (on 0 frames) ≡ some_closes frames
        → some_closes (cond (f.channel == 0) (f ∷ on 0 frames) (on 0 frames)) ≡ some_closes (f ∷ frames)
    cases true z more = ap some_closes (cond-true (f.channel == 0) _ _ z) ∙ ap (λ b. closes_connection f || b) more
    cases false z more =
        ap some_closes (cond-false (f.channel == 0) _ _ z)
        ∙ (more ∙ sym (ap (λ b. (b && is_call kinds.ConnectionClose (reading f)) || some_closes frames) z))

or-last : (a b : Bool) → (b || (a || false)) ≡ (a || b)
or-last true true = refl
or-last true false = refl
or-last false true = refl
or-last false false = refl

-- an end put connection.close if one of its frames is
put-closes : (history : History) → has_put kinds.ConnectionClose (entries_on 0 history)
    ≡ some_closes (frames_put history)
put-closes [] = refl
put-closes (Took f ∷ history) = cases (f.channel == 0) (put-closes history)
  where
    cases : (b : Bool) → has_put kinds.ConnectionClose (entries_on 0 history) ≡ some_closes (frames_put history)
        → has_put kinds.ConnectionClose (cond b (TookHere (reading f) f ∷ []) [] ++ entries_on 0 history)
        ≡ some_closes (frames_put history)
    cases true e = e
    cases false e = e
put-closes (Put f ∷ history) = cases (f.channel == 0) refl (put-closes history)
  where
    last : some_closes (frames_put history ++ f ∷ []) ≡ (closes_connection f || some_closes (frames_put history))
    last =
        closes-append (frames_put history) (f ∷ [])
        ∙ or-last (closes_connection f) (some_closes (frames_put history))

    cases : (b : Bool) → (f.channel == 0) ≡ b → has_put kinds.ConnectionClose (entries_on 0 history)
        ≡ some_closes (frames_put history) → has_put kinds.ConnectionClose (entries_on 0 (Put f ∷ history))
        ≡ some_closes (frames_put history ++ f ∷ [])
    cases true z e =
        let said : closes_connection f ≡ is_call kinds.ConnectionClose (reading f) =
        ap (λ b. b && is_call kinds.ConnectionClose (reading f)) z in
        simp z (ap (λ b. is_call kinds.ConnectionClose (reading f) || b) e
        ∙ (ap (λ b. b || some_closes (frames_put history)) (sym said) ∙ sym last))
    cases false z e =
        let said : closes_connection f ≡ false = ap (λ b. b && is_call kinds.ConnectionClose (reading f)) z in
        simp (z, said) (e ∙ (ap (λ b. b || some_closes (frames_put history)) (sym said) ∙ sym last))

-- What a step adds to a history.

abbrev as_list : Option Frame → List Frame
as_list None = []
as_list (Some frame) = frame ∷ []

record Extends (before : History) (taken : Option Frame) (after : History) : Type 0 where
  more : List Frame
  put_is : frames_put after ≡ frames_put before ++ more
  taken_is : frames_taken after ≡ frames_taken before ++ as_list taken

taken-then : (frames : List Frame) (history : History)
    → frames_taken (then_put frames history) ≡ frames_taken history
taken-then [] history = refl
taken-then (f ∷ later) history = taken-then later (Put f ∷ history)

took-extends : (frames : List Frame) (frame : Frame) (before : History)
    → Extends before (Some frame) (then_put frames (Took frame ∷ before))
took-extends frames frame before =
    record {
      more = frames;
      put_is = put-then frames (Took frame ∷ before);
      taken_is = taken-then frames (Took frame ∷ before);
    }

put-extends : (frames : List Frame) (before : History) → Extends before None (then_put frames before)
put-extends frames before =
    record {
      more = frames;
      put_is = put-then frames before;
      taken_is = taken-then frames before
          ∙ sym (append-nil (frames_taken before));
    }

goes-extend : (role : Role) (config : Config role) (before : History) (taken : Option Frame) (failed : Bool)
    (after : History) → Goes role config before taken failed after → Extends before taken after
goes-extend role config before taken failed after (greets {config = server}) =
    put-extends (method_frame 0 (negotiation.start server) ∷ []) []
goes-extend role config before taken failed after (takes frame p g) =
    took-extends (end_puts config (end_from role config false before) frame) frame before
goes-extend role config before taken failed after (faults frame p g) =
    took-extends (end_puts config (end_from role config false before) frame) frame before
goes-extend role config before taken failed after (meets_too_large p) =
    put-extends (too_large_puts config (end_from role config false before)) before
goes-extend role config before taken failed after (fails p) = put-extends [] before
goes-extend role config before taken failed after (asks ask frames made read e) = put-extends frames before
goes-extend role config before taken failed after (controls control frames read e) = put-extends frames before

-- what an end took on channel 0 is a prefix of what the other put there
record PrefixesOnZero (client server : History) : Type 0 where
  to_client : IsPrefixOf (on 0 (frames_taken client)) (on 0 (frames_put server))
  to_server : IsPrefixOf (on 0 (frames_taken server)) (on 0 (frames_put client))

on-append : (xs ys : List Frame) → on 0 (xs ++ ys) ≡ on 0 xs ++ on 0 ys
on-append xs ys = filter-append (λ f. f.channel == 0) xs ys

prefix-more : (taken put more : List Frame) → IsPrefixOf (on 0 taken) (on 0 put)
    → IsPrefixOf (on 0 taken) (on 0 (put ++ more))
prefix-more taken put more f = (
  f.0 ++ on 0 more,
  on-append put more
      ∙ (ap (λ l. l ++ on 0 more) f.1 ∙ append_assoc (on 0 taken) f.0 (on 0 more)),
)

taking-prefix : (mine theirs : History) (taken : Option Frame) → AllComeNext theirs mine taken
    → IsPrefixOf (on 0 (frames_taken mine)) (on 0 (frames_put theirs))
    → IsPrefixOf (on 0 (frames_taken mine ++ as_list taken)) (on 0 (frames_put theirs))
taking-prefix mine theirs None next f =
    subst (λ l. IsPrefixOf (on 0 l) (on 0 (frames_put theirs))) (sym (append-nil (frames_taken mine))) f
taking-prefix mine theirs (Some frame) next f = cases (frame.channel == 0) refl
  where
    cases : (b : Bool) → (frame.channel == 0) ≡ b
        → IsPrefixOf (on 0 (frames_taken mine ++ frame ∷ [])) (on 0 (frames_put theirs))
    cases true z =
        let at_zero : on 0 (frames_put theirs) ≡ on 0 (frames_taken mine) ++ frame ∷ next.later =
        subst (λ c. on c (frames_put theirs) ≡ on c (frames_taken mine) ++ frame ∷ next.later)
        (eqb-true frame.channel 0 z) next.next in
        let here : on 0 (frames_taken mine ++ frame ∷ []) ≡ on 0 (frames_taken mine) ++ frame ∷ [] =
        on-append (frames_taken mine) (frame ∷ [])
        ∙ ap (λ l. on 0 (frames_taken mine) ++ l) (cond-true (frame.channel == 0) _ _ z) in (
          next.later,
          at_zero ∙ (sym (append_assoc (on 0 (frames_taken mine)) (frame ∷ []) next.later)
              ∙ ap (λ l. l ++ next.later) (sym here)),
        )
    cases false z =
        let away : on 0 (frames_taken mine ++ frame ∷ []) ≡ on 0 (frames_taken mine) =
        on-append (frames_taken mine) (frame ∷ [])
        ∙ (ap (λ l. on 0 (frames_taken mine) ++ l) (cond-false (frame.channel == 0) _ _ z) ∙ append-nil _) in
        subst (λ l. IsPrefixOf l (on 0 (frames_put theirs))) (sym away) f

prefixes-on-zero : (client_config : Config Client) (server_config : Config Server) (client server : History)
    → Pair client_config server_config client server → PrefixesOnZero client server
prefixes-on-zero client_config server_config client server both_begin =
    record { to_client = ([], refl); to_server = ([], refl) }
prefixes-on-zero client_config server_config after server
    (client_goes {client = client} {taken = taken} pair next step) =
    let old = prefixes-on-zero client_config server_config client server pair in
    let x = goes-extend Client client_config client taken false after step in
    record {
      to_client = subst (λ l. IsPrefixOf (on 0 l) (on 0 (frames_put server))) (sym x.taken_is)
          (taking-prefix client server taken next old.to_client);
      to_server = subst (λ l. IsPrefixOf (on 0 (frames_taken server)) (on 0 l)) (sym x.put_is)
          (prefix-more (frames_taken server) (frames_put client) x.more old.to_server);
    }
prefixes-on-zero client_config server_config client after
    (server_goes {server = server} {taken = taken} pair next step) =
    let old = prefixes-on-zero client_config server_config client server pair in
    let x = goes-extend Server server_config server taken false after step in
    record {
      to_client = subst (λ l. IsPrefixOf (on 0 (frames_taken client)) (on 0 l)) (sym x.put_is)
          (prefix-more (frames_taken client) (frames_put server) x.more old.to_client);
      to_server = subst (λ l. IsPrefixOf (on 0 l) (on 0 (frames_put client))) (sym x.taken_is)
          (taking-prefix server client taken next old.to_server);
    }

-- An end that took connection.close is closed.

or-keeps : (a b : Bool) → b ≡ true → (a || b) ≡ true
or-keeps true b e = refl
or-keeps false b e = e

closed-stays : (entry : Entry) (history : History) → closed_by_peer (entries_on 0 history) ≡ true
    → closed_by_peer (entries_on 0 (entry ∷ history)) ≡ true
closed-stays (Took f) history e = cases (f.channel == 0)
  where
    cases : (b : Bool) → closed_by_peer (cond b (TookHere (reading f) f ∷ []) [] ++ entries_on 0 history) ≡ true
    cases true = or-keeps _ _ e
    cases false = e
closed-stays (Put f) history e = cases (f.channel == 0) (closes_connection f)
  where
    cases : (b c : Bool)
        → closed_by_peer (cond b (PutHere (reading f) f ∷ []) (cond c (LeftHere ∷ []) []) ++ entries_on 0 history)
        ≡ true
    cases true c = e
    cases false true = e
    cases false false = e

closed-after : (later history : History) → closed_by_peer (entries_on 0 history) ≡ true
    → closed_by_peer (entries_on 0 (later ++ history)) ≡ true
closed-after [] history e = e
closed-after (entry ∷ later) history e = closed-stays entry (later ++ history) (closed-after later history e)

closed-by : (role : Role) (n life : ℕ) (history : History) → EndedByConnectionClose role (suc n) life history
    → closed_by_peer (entries_on 0 history) ≡ true
closed-by role n life history ended =
    subst (λ h. closed_by_peer (entries_on 0 h) ≡ true) (sym ended.history_is)
    (closed-after ended.later (Took ended.frame ∷ ended.before) here)
  where
    parts : ((ended.frame.channel == 0) ≡ true) × (is_call kinds.ConnectionClose (reading ended.frame) ≡ true)
    parts = and_parts (ended.frame.channel == 0) _ ended.closes

    stayed : has_put kinds.ConnectionClose (entries_on 0 ended.before) ≡ false
    stayed = sym (left-noted ended.before n) ∙ ended.live.stays

    here : closed_by_peer (entries_on 0 (Took ended.frame ∷ ended.before)) ≡ true
    here = let z = parts.0 in let c = parts.1 in simp (z, c, stayed)

closed-phase : (role : Role) (config : Config role) (history : History) → closed_by_peer (entries_on 0 history)
    ≡ true → (end_from role config false history).phase ≡ Closed
closed-phase role config history e = simp e

-- The other end, whose connection.close was taken, has left.

closes-somewhere : (later before : History) (frame : Frame) → closes_connection frame ≡ true
    → some_closes (frames_taken (later ++ Took frame ∷ before)) ≡ true
closes-somewhere [] before frame e =
    closes-append (frames_taken before) (frame ∷ [])
    ∙ (or-last (closes_connection frame) (some_closes (frames_taken before))
    ∙ ap (λ b. b || some_closes (frames_taken before)) e)
closes-somewhere (Put f ∷ later) before frame e = closes-somewhere later before frame e
closes-somewhere (Took f ∷ later) before frame e =
    closes-append (frames_taken (later ++ Took frame ∷ before)) (f ∷ [])
    ∙ (or-last (closes_connection f) (some_closes (frames_taken (later ++ Took frame ∷ before)))
    ∙ or-keeps (closes_connection f) _ (closes-somewhere later before frame e))

other-left : (role : Role) (n life : ℕ) (mine theirs : History)
    → IsPrefixOf (on 0 (frames_taken mine)) (on 0 (frames_put theirs))
    → EndedByConnectionClose role (suc n) life mine → has_put kinds.ConnectionClose (entries_on 0 theirs) ≡ true
other-left role n life mine theirs prefix ended =
    put-closes theirs
    ∙ (sym (closes-on-zero (frames_put theirs))
    ∙ (ap some_closes prefix.1
    ∙ (closes-append (on 0 (frames_taken mine)) prefix.0
    ∙ ap (λ b. b || some_closes prefix.0) (closes-on-zero (frames_taken mine)
    ∙ subst (λ h. some_closes (frames_taken h) ≡ true) (sym ended.history_is)
    (closes-somewhere ended.later ended.before ended.frame ended.closes)))))

left-phase : (role : Role) (config : Config role) (history : History)
    → has_put kinds.ConnectionClose (entries_on 0 history) ≡ true
    → is_over (end_from role config false history).phase ≡ true
left-phase role config history e = cases (is_closed (entries_on 0 history)) refl
  where
    cases : (b : Bool) → is_closed (entries_on 0 history) ≡ b
        → is_over (end_from role config false history).phase ≡ true
    cases true c = simp c
    cases false c = simp (c, e)

-- The places of frames taken.

found-in : (frames : List Frame) (history later before : History) (frame : Frame)
    → then_put frames history ≡ later ++ Took frame ∷ before → (beyond : History)
    × (history ≡ beyond ++ Took frame ∷ before)
found-in [] history later before frame e = (later, e)
found-in (f ∷ frames) history later before frame e = go (found-in frames (Put f ∷ history) later before frame e)
  where
    by-after : (beyond : History) → Put f ∷ history ≡ beyond ++ Took frame ∷ before → (beyond : History)
        × (history ≡ beyond ++ Took frame ∷ before)
    by-after [] e = absurd cc
    by-after (x ∷ beyond) e =
        (beyond, let h : Put f ∷ history ≡ x ∷ (beyond ++ Took frame ∷ before) = e in cc)

    go : (beyond : History) × (Put f ∷ history ≡ beyond ++ Took frame ∷ before) → (beyond : History)
        × (history ≡ beyond ++ Took frame ∷ before)
    go found = by-after found.0 found.1

-- The end took the close in an older step, or in this one.
data Since (frame : Frame) (history before : History) (taken : Frame) : Type 0 where
  just_now : taken ≡ frame → history ≡ before → Since frame history before taken
  earlier : (beyond : History) → history ≡ beyond ++ Took frame ∷ before → Since frame history before taken

since-when : (beyond history before : History) (frame taken : Frame)
    → Took taken ∷ history ≡ beyond ++ Took frame ∷ before → Since frame history before taken
since-when [] history before frame taken e =
    just_now (let h : Took taken ∷ history ≡ Took frame ∷ before = e in
    cc) (let h : Took taken ∷ history ≡ Took frame ∷ before = e in cc)
since-when (x ∷ beyond) history before frame taken e =
    earlier beyond (let h : Took taken ∷ history ≡ x ∷ (beyond ++ Took frame ∷ before) = e in cc)

-- an end that is closed takes nothing and is refused everything
closed-takes-none : (role : Role) (config : Config role) (history : History) → closed_by_peer (entries_on 0 history)
    ≡ true → takes_frames (end_from role config false history).phase ≡ true → ⊥
closed-takes-none role config history e p =
    false≢true (sym (ap takes_frames (closed-phase role config history e)) ∙ p)

over-asks-none : (role : Role) (config : Config role) (history : History) (ask : Ask) (frames : List Frame)
    → is_over (end_from role config false history).phase ≡ true
    → ask_verdict role (end_from role config false history) ask ≡ Puts frames → ⊥
over-asks-none role config history ask frames o e =
    let parts = accepted-none (refusal role (end_from role config false history) ask)
    (frames_asked (end_from role config false history) ask) frames e in
    let a = accepted role (end_from role config false history) ask parts.0 in
    false≢true
    (sym (ap is_over (is-running (end_from role config false history).phase (not-when _ Refusal.NotRunning a.runs)))
    ∙ o)

-- A frame of channel 0 leaves the other channels, but for what it makes the end put there.
unseen : (n : ℕ) (frame : Frame) (history : History) → frame.channel ≡ 0
    → entries_on (suc n) (Took frame ∷ history) ≡ entries_on (suc n) history
unseen n frame history z =
    let apart : (frame.channel == suc n) ≡ false = ap (λ c. c == suc n) z
    ∙ ne_eqb 0 (suc n) (λ e. let h : 0 ≡ suc n = e in absurd (omega arith)) in
    simp apart

module _ (role : Role) (client_config : Config Client) (server_config : Config Server) (mine theirs : History)
    (at : PairAt role client_config server_config mine theirs) where
  writes_mine : WritesReadBack role (config_of role client_config server_config)
  writes_mine = by-role role
    where
      by-role : (role : Role) → WritesReadBack role (config_of role client_config server_config)
      by-role Client = at.client_writes
      by-role Server = at.server_writes

  lawful_theirs : AllWritten (frames_put theirs)
  lawful_theirs = by-role role at.pair
    where
      by-role : (role : Role) → PairOf role client_config server_config mine theirs → AllWritten (frames_put theirs)
      by-role Client pair =
          lawful-written Server server_config false theirs at.server_writes
          (pair-lawful client_config server_config mine theirs pair).1
      by-role Server pair =
          lawful-written Client client_config false theirs at.client_writes
          (pair-lawful client_config server_config theirs mine pair).0

  -- the end takes the close now
  closes-now : (n : ℕ) (frame : Frame) → ComesNext theirs mine frame → closes_connection frame ≡ true
      → IsLive role (notes_on (suc n) mine)
      → acted role (lives role (notes_on (suc n) mine)) (notes_on (suc n) mine)
      ≡ sent (other_end role) (lives role (notes_on (suc n) mine)) (notes_on (suc n) theirs)
  closes-now n frame next closes live =
      let zero_is = eqb-true frame.channel 0 (and_parts (frame.channel == 0) _ closes).0 in
      let written = written-on (frames_put theirs) lawful_theirs (on 0 (frames_taken mine)) frame next.later
      (subst (λ c. on c (frames_put theirs) ≡ on c (frames_taken mine) ++ frame ∷ next.later) zero_is next.next) in
      all_acted_connection role (notes_on (suc n) mine) (notes_on (suc n) theirs)
      (pair-runs_at role client_config server_config mine theirs n at) live
      (all-noted theirs mine n (next.at_leaving (close-leaves-last frame written closes) n))

-- a frame of channel 0 that the end goes on with leaves the entries of the other channels
took-away : (role : Role) (config : Config role) (n : ℕ) (frame : Frame) (before : History)
    → WritesReadBack role config → frame.channel ≡ 0
    → goes_on (end_verdict config (end_from role config false before) frame) ≡ true
    → entries_on (suc n) (then_taken config (end_from role config false before) frame before)
    ≡ entries_on (suc n) before
took-away role config n frame before back z g =
    let apart : (frame.channel == suc n) ≡ false = ap (λ c. c == suc n) z
    ∙ ne_eqb 0 (suc n) (λ e. let h : 0 ≡ suc n = e in absurd (omega arith)) in
    entries-away n (methods_put (facts_at config (end_from role config false before) frame.channel)
    (end_verdict config (end_from role config false before) frame)) (Took frame ∷ before)
    (back.owed (end_from role config false before) frame.channel (reading frame))
    (verdict-away (facts_at config (end_from role config false before) frame.channel) n apart (reading frame) g)
    ∙ unseen n frame before z

-- what the end acted on is then what the other sent
abbrev Agree : (role : Role) → (n life : ℕ) → (mine theirs : History) → Type 0
Agree role n life mine theirs =
    acted role life (notes_on (suc n) mine) ≡ sent (other_end role) life (notes_on (suc n) theirs)

none-found : {A : Type 0} (beyond before : History) (frame : Frame) → [] ≡ beyond ++ Took frame ∷ before → A
none-found [] before frame e = absurd cc
none-found (x ∷ beyond) before frame e = absurd cc

-- A step of the end to which the close comes.
ended-by-step : (role : Role) (client_config : Config Client) (server_config : Config Server) (config : Config role)
    (mine theirs : History) (taken : Option Frame) (failed : Bool) (after : History) (n life : ℕ) → failed ≡ false
    → WritesReadBack role config → PairAt role client_config server_config mine theirs
    → AllComeNext theirs mine taken → Goes role config mine taken failed after
    → EndedByConnectionClose role (suc n) life after → Agree role n life after theirs
ended-by-step role client_config server_config config mine theirs taken failed after n life f back at next
    (faults frame p g) ended =
    absurd (true≢false f)
ended-by-step role client_config server_config config mine theirs taken failed after n life f back at next
    (meets_too_large p) ended =
    absurd (true≢false f)
ended-by-step role client_config server_config config mine theirs taken failed after n life f back at next
    (fails p) ended =
    absurd (true≢false f)
ended-by-step role client_config server_config config mine theirs taken failed after n life f back at next
    (greets {config = server}) ended =
    let found = found-in (method_frame 0 (negotiation.start server) ∷ []) [] ended.later ended.before
    ended.frame ended.history_is in
    none-found found.0 ended.before ended.frame found.1
ended-by-step role client_config server_config config mine theirs taken failed after n life f back at next
    (asks ask frames made read e) ended =
    let found = found-in frames mine ended.later ended.before ended.frame ended.history_is in
    let closed = closed-by role n life mine (record {
      later = found.0;
      frame = ended.frame;
      before = ended.before;
      history_is = found.1;
      closes = ended.closes;
      live = ended.live;
      life_is = ended.life_is;
    }) in
    absurd (over-asks-none role config mine ask frames (ap is_over (closed-phase role config mine closed)) e)
ended-by-step role client_config server_config config mine theirs taken failed after n life f back at next
    (controls control frames read e) ended =
    let found = found-in frames mine ended.later ended.before ended.frame ended.history_is in
    let closed = closed-by role n life mine (record {
      later = found.0;
      frame = ended.frame;
      before = ended.before;
      history_is = found.1;
      closes = ended.closes;
      live = ended.live;
      life_is = ended.life_is;
    }) in
    absurd (true≢false (sym (ap is_over (closed-phase role config mine closed))
    ∙ control-goes role config (end_from role config false mine) control frames e))
ended-by-step role client_config server_config config mine theirs taken failed after n life f back at
    next (takes frame p g) ended =
    let found = found-in (end_puts config (end_from role config false mine) frame) (Took frame ∷ mine) ended.later
    ended.before ended.frame ended.history_is in
    by-time (since-when found.0 mine ended.before ended.frame frame found.1)
  where
    by-time : Since ended.frame mine ended.before frame
        → Agree role n life (then_taken config (end_from role config false mine) frame mine) theirs
    by-time (earlier beyond e) =
        absurd (closed-takes-none role config mine
        (closed-by role n life mine (record {
          later = beyond;
          frame = ended.frame;
          before = ended.before;
          history_is = e;
          closes = ended.closes;
          live = ended.live;
          life_is = ended.life_is;
        })) p.in_phase)
    by-time (just_now same old) =
        let closes : closes_connection frame ≡ true = ap closes_connection same ∙ ended.closes in
        let live : IsLive role (notes_on (suc n) mine) =
        subst (λ h. IsLive role (notes_on (suc n) h)) (sym old) ended.live in
        let life_is : lives role (notes_on (suc n) mine) ≡ life = ap (λ h. lives role (notes_on (suc n) h)) old
        ∙ ended.life_is in
        let here = closes-now role client_config server_config mine theirs at n frame next closes live in
        ap (λ l. acted role life (notes l))
        (took-away role config n frame mine back
        (eqb-true frame.channel 0 (and_parts (frame.channel == 0) _ closes).0) g)
        ∙ subst (λ k. acted role k (notes_on (suc n) mine)
        ≡ sent (other_end role) k (notes_on (suc n) theirs)) life_is here

-- A step of the other end, which has left.

-- it answers a close with close-ok alone
closing-away : {role : Role} (config : Config role) (agreed : Option Agreed) (n number : ℕ) (channel : Channel)
    (r : Reading)
    → AllAway n (methods_put (facts_in config Phase.Closing agreed number channel)
    (verdict_on (facts_in config Phase.Closing agreed number channel) r))
closing-away config agreed n number channel r =
    either ((number == 0) && is_call kinds.ConnectionClose r) ((number == 0) && is_call kinds.ConnectionCloseOk r)
  where
    either : (a b : Bool)
        → AllAway n (methods_put (facts_in config Phase.Closing agreed number channel)
        (cond a (Proceeds (Some Event.Quiet) (connection_close_ok ∷ []))
        (cond b (Proceeds (Some (Event.ConnectionClosed None)) []) (Proceeds (Some (Event.Discarded number)) []))))
    either true b = ((ne_eqb 0 (suc n) (λ e. let h : 0 ≡ suc n = e in absurd (omega arith)), refl), tt)
    either false true = tt
    either false false = tt

sent-beside : (role : Role) (life n : ℕ) (frame : Frame) (history : History)
    → sent role life (notes_on (suc n) (Took frame ∷ history)) ≡ sent role life (notes_on (suc n) history)
sent-beside role life n frame history = cases (frame.channel == suc n)
  where
    cases : (b : Bool)
        → sent role life (notes (cond b (TookHere (reading frame) frame ∷ []) [] ++ entries_on (suc n) history))
        ≡ sent role life (notes_on (suc n) history)
    cases true = refl
    cases false = refl

left-sends-none : (role : Role) (config : Config role) (before : History) (taken : Option Frame) (failed : Bool)
    (after : History) (n life : ℕ) → failed ≡ false → WritesReadBack role config
    → has_put kinds.ConnectionClose (entries_on 0 before) ≡ true → Goes role config before taken failed after
    → sent role life (notes_on (suc n) after) ≡ sent role life (notes_on (suc n) before)
left-sends-none role config before taken failed after n life f back left (faults frame p g) = absurd (true≢false f)
left-sends-none role config before taken failed after n life f back left (meets_too_large p) = absurd (true≢false f)
left-sends-none role config before taken failed after n life f back left (fails p) = absurd (true≢false f)
left-sends-none role config before taken failed after n life f back left greets = absurd (false≢true left)
left-sends-none role config before taken failed after n life f back left (asks ask frames made read e) =
    absurd (over-asks-none role config before ask frames (left-phase role config before left) e)
left-sends-none role config before taken failed after n life f back left (controls control frames read e) =
    absurd (true≢false (sym (left-phase role config before left)
    ∙ control-goes role config (end_from role config false before) control frames e))
left-sends-none role config before taken failed after n life f back left (takes frame p g) =
    by-phase (end_from role config false before).phase refl
  where
    by-phase : (phase : Phase) → (end_from role config false before).phase ≡ phase
        → sent role life (notes_on (suc n) (then_taken config (end_from role config false before) frame before))
        ≡ sent role life (notes_on (suc n) before)
    by-phase Phase.Closing e =
        let away = subst
        (λ phase. AllAway n
        (methods_put (facts_in config phase (end_from role config false before).agreed frame.channel
        ((end_from role config false before).channels frame.channel))
        (verdict_on (facts_in config phase (end_from role config false before).agreed frame.channel
        ((end_from role config false before).channels frame.channel)) (reading frame)))) (sym e)
        (closing-away config (end_from role config false before).agreed n frame.channel
        ((end_from role config false before).channels frame.channel) (reading frame)) in
        ap (λ l. sent role life (notes l))
        (entries-away n (methods_put (facts_at config (end_from role config false before) frame.channel)
        (end_verdict config (end_from role config false before) frame)) (Took frame ∷ before)
        (back.owed (end_from role config false before) frame.channel (reading frame)) away)
        ∙ sent-beside role life n frame before
    by-phase Closed e = absurd (false≢true (sym (ap takes_frames e) ∙ p.in_phase))
    by-phase Failed e = absurd (false≢true (sym (ap takes_frames e) ∙ p.in_phase))
    by-phase Running e = absurd (false≢true (sym (ap is_over e) ∙ left-phase role config before left))
    by-phase (Handshake step) e = absurd (false≢true (sym (ap is_over e) ∙ left-phase role config before left))

-- Any steps of the two.
record BothAgree (client server : History) : Type 0 where
  at_client : (n life : ℕ) → EndedByConnectionClose Client (suc n) life client → Agree Client n life client server
  at_server : (n life : ℕ) → EndedByConnectionClose Server (suc n) life server → Agree Server n life server client

no-end : {A : Type 0} (role : Role) (n life : ℕ) → EndedByConnectionClose role (suc n) life [] → A
no-end role n life ended = none-found ended.later ended.before ended.frame ended.history_is

both-agree : (client_config : Config Client) (server_config : Config Server) (client server : History)
    → WritesReadBack Client client_config → WritesReadBack Server server_config
    → Pair client_config server_config client server → BothAgree client server
both-agree client_config server_config client server mine theirs both_begin =
    record {
      at_client = λ n life ended. no-end Client n life ended;
      at_server = λ n life ended.
          no-end Server n life ended;
    }
both-agree client_config server_config after server mine theirs
    (client_goes {client = client} {taken = taken} pair next step) =
    let old = both-agree client_config server_config client server mine theirs pair in
    let at : PairAt Client client_config server_config client server =
    record { client_writes = mine; server_writes = theirs; pair = pair } in
    record {
      at_client = λ n life ended. ended-by-step Client client_config server_config client_config client server taken
          false after n life refl mine at next step ended;
      at_server = λ n life ended. old.at_server n life ended
          ∙ sym (left-sends-none Client client_config client taken false after n life refl mine
          (other-left Server n life server client
          (prefixes-on-zero client_config server_config client server pair).to_server ended) step);
    }
both-agree client_config server_config client after mine theirs
    (server_goes {server = server} {taken = taken} pair next step) =
    let old = both-agree client_config server_config client server mine theirs pair in
    let at : PairAt Server client_config server_config server client =
    record { client_writes = mine; server_writes = theirs; pair = pair } in
    record {
      at_client = λ n life ended. old.at_client n life ended
          ∙ sym (left-sends-none Server server_config server taken false after n life refl theirs
          (other-left Client n life client server
          (prefixes-on-zero client_config server_config client server pair).to_client ended) step);
      at_server = λ n life ended. ended-by-step Server client_config server_config server_config server client taken
          false after n life refl theirs at next step ended;
    }

pub all-of-ended : (role : Role) (client_config : Config Client) (server_config : Config Server) (mine theirs : History)
    (n : ℕ) → PairAt role client_config server_config mine theirs
    → AllItemsActedOnOfEnded role (suc n) mine theirs
all-of-ended Client client_config server_config mine theirs n at life ended =
    ap items_in ((both-agree client_config server_config mine theirs at.client_writes at.server_writes
    at.pair).at_client n life ended)
all-of-ended Server client_config server_config mine theirs n at life ended =
    ap items_in ((both-agree client_config server_config theirs mine at.client_writes at.server_writes
    at.pair).at_server n life ended)
