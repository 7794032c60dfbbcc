-- The lists go on with what came of the piece, or, out of memory, stay as they are.
use Rattle.std.proofs.Common.{◌≡◌, ◌≢◌, ◌<◌, ◌≤◌, ◌++◌, [], take, length, Bool, true, false, suc, Result, IfOk, refl, ap, sym, ◌∙◌, subst, arith}
use Rattle.std.proofs.lemmas.List.{length-take-le}
use Rattle.std.proofs.lemmas.Bool.{true≢false}
use Rattle.amqp_model.specs.Stream.Endpoint.{after_feed}
use Rattle.amqp_model.specs.End.EndVerdict.{takes_octets}
use Rattle.amqp_model.specs.History.Histories.{entries_on}
use Rattle.amqp_model.specs.Output.Outputs.{Output}
use Rattle.amqp_channel.specs.Events.PartsView.{parts_there}
use Rattle.amqp_channel.specs.Roles.{role_of}
use Rattle.amqp_core.specs.End.View.{config_at, endpoint_of, role_played, settings_at}
use Rattle.amqp_core.specs.Traced.Fields.{kept_of}
use Rattle.amqp_core.specs.Faults.Answering.{ran_out}
use Rattle.amqp_core.specs.End.Feeding.{IsFed, Seen, seen}
use Rattle.amqp_core.specs.End.Growth.{GrowsLittle}
use Rattle.amqp_core.specs.Connection.Owed.{owed_view}
use Rattle.amqp_core.specs.Traced.Tracing.{FedGrows, TraceGoesOn}
use Rattle.amqp_core.specs.declared.faults.CoreFault.{CoreFault}
use Rattle.amqp_core.specs.Traced.AccountView.{note_there, IsAccount}
use Rattle.amqp_core.specs.Traced.Notes.{item_there}
use Rattle.amqp_core.proofs.FeedFaultLemmas.{count_seen, ran_seen}
use Rattle.amqp_core.proofs.FeedLemmas.{of_ok, ran_with}
use Rattle.amqp_core.proofs.HeardLemmas.{taken_heard}
use Rattle.amqp_core.proofs.TracedLemmas.{lists-grow, out-kept, trace-laws, traced-ran-out, traced-took}
use Rattle.amqp_core.proofs.tracing.take.Goals as goal

pub returns-then-is_out_of_memory-clause-fed : goal.returns-then-is_out_of_memory-clause-fed
returns-then-is_out_of_memory-clause-fed g c =
    let end = c.args.end.now in
    let old = endpoint_of end in
    subst (λ (r : Result Seen CoreFault). IsFed r old (after_feed (role_played end) (config_at end) old c.args.piece.now) (endpoint_of c.advance-answer.new.self)) (sym c.taken.ensures) c.advance-answer.ensures.fed

pub returns-then-is_out_of_memory-clause-within : goal.returns-then-is_out_of_memory-clause-within
returns-then-is_out_of_memory-clause-within g c = count_seen c.taken.result (λ n. n ≤ length c.args.piece.now)
    (subst (λ (r : Result Seen CoreFault). IfOk r (λ taken. taken.octets ≤ length c.args.piece.now)) (sym c.taken.ensures) c.advance-answer.ensures.within)

pub returns-then-is_out_of_memory-clause-progress : goal.returns-then-is_out_of_memory-clause-progress
returns-then-is_out_of_memory-clause-progress g c = count_seen c.taken.result (λ n. c.args.piece.now ≢ [] → 0 < n)
    (subst (λ (r : Result Seen CoreFault). IfOk r (λ taken. c.args.piece.now ≢ [] → 0 < taken.octets)) (sym c.taken.ensures) c.advance-answer.ensures.progress)

pub returns-then-is_out_of_memory-clause-octets : goal.returns-then-is_out_of_memory-clause-octets
returns-then-is_out_of_memory-clause-octets g c =
    let end = c.args.end.now in
    let fed = after_feed (role_played end) (config_at end) (endpoint_of end) c.args.piece.now in
    let ran : ran_out c.taken.result ≡ ran_out c.advance-answer.result =
    sym (ran_seen c.taken.result) ∙ (ap ran_out c.taken.ensures ∙ ran_with c.advance-answer.result c.advance-answer.new.account.octets (parts_there c.advance-answer.new.account.parts)) in
    subst (λ (b : Bool). FedGrows b c.args.piece.now fed (kept_of end c.args.ledger.now) (kept_of c.advance-answer.new.self c.args.ledger.now))
    (sym (ran ∙ (sym c.is_out_of_memory.ensures ∙ c.if-is_out_of_memory.true))) (record { notes = refl; told = refl; said = refl; fed = refl; written = refl })

pub returns-then-is_out_of_memory-clause-history : goal.returns-then-is_out_of_memory-clause-history
returns-then-is_out_of_memory-clause-history g c = λ history traced.
    let end = c.args.end.now in
    let role = role_played end in
    let config = config_at end in
    let old = kept_of end c.args.ledger.now in
    let fed = after_feed role config (endpoint_of end) c.args.piece.now in
    let ran : ran_out c.taken.result ≡ ran_out c.advance-answer.result =
    sym (ran_seen c.taken.result) ∙ (ap ran_out c.taken.ensures ∙ ran_with c.advance-answer.result c.advance-answer.new.account.octets (parts_there c.advance-answer.new.account.parts)) in
    let new = kept_of c.advance-answer.new.self c.args.ledger.now in
    subst (λ (b : Bool). ∥ TraceGoesOn role config b (endpoint_of end) c.args.piece.now fed history new ∥₁) (ran_seen c.taken.result)
    (traced-ran-out role config (ran_out (seen c.taken.result)) old new c.args.piece.now fed history
    (ran_seen c.taken.result ∙ (ran ∙ (sym c.is_out_of_memory.ensures ∙ c.if-is_out_of_memory.true)))
    (λ end next. c.failed_follows.ensures.read role config end next history) (c.memory_runs_out.ensures.stands role config (endpoint_of end) history old.fed old.written)
    c.requires.takes (returns-then-is_out_of_memory-clause-fed g c).left (record { notes = refl; told = refl; said = refl; fed = refl; written = refl }) traced)

-- there is no memory for the message
pub run_out-requires : goal.run_out-requires
run_out-requires g c =
    ap takes_octets (sym (of_ok c.advance-answer.result _ c.in_default.ensures.told c.advance-answer.ensures.message c.in_default.ensures.err).phase) ∙ c.requires.takes

pub returns-in_default-clause-fed : goal.returns-in_default-clause-fed
returns-in_default-clause-fed g c =
    let old = endpoint_of c.args.end.now in
    record {
      answer = tt;
      taken = tt;
      left = out-kept old (endpoint_of c.advance-answer.new.self) (endpoint_of c.run_out.new.self)
          (of_ok c.advance-answer.result _ c.in_default.ensures.told c.advance-answer.ensures.message c.in_default.ensures.err) c.run_out.ensures.left;
    }

pub returns-in_default-clause-octets : goal.returns-in_default-clause-octets
returns-in_default-clause-octets g c = record { notes = refl; told = refl; said = refl; fed = refl; written = refl }

pub returns-in_default-clause-history : goal.returns-in_default-clause-history
returns-in_default-clause-history g c = λ history traced.
    let end = c.args.end.now in
    let role = role_played end in
    let config = config_at end in
    let old = kept_of end c.args.ledger.now in
    traced-ran-out role config true old (kept_of c.run_out.new.self c.args.ledger.now) c.args.piece.now (after_feed role config (endpoint_of end) c.args.piece.now) history refl
    (λ end next. c.failed_follows.ensures.read role config end next history) (c.memory_runs_out.ensures.stands role config (endpoint_of end) history old.fed old.written)
    c.requires.takes (returns-in_default-clause-fed g c).left (record { notes = refl; told = refl; said = refl; fed = refl; written = refl }) traced

pub returns-in_default-clause-grows : goal.returns-in_default-clause-grows
returns-in_default-clause-grows g c =
    let old = endpoint_of c.args.end.now in
    subst (λ (o : Output). GrowsLittle old.output o) (returns-in_default-clause-fed g c).left.output (omega arith)

-- what the account says
pub returns-clause-fed : goal.returns-clause-fed
returns-clause-fed g c =
    let end = c.args.end.now in
    let old = endpoint_of end in
    subst (λ (r : Result Seen CoreFault). IsFed r old (after_feed (role_played end) (config_at end) old c.args.piece.now) (endpoint_of c.advance-answer.new.self)) (sym c.taken-2.ensures) c.advance-answer.ensures.fed

pub returns-clause-within : goal.returns-clause-within
returns-clause-within g c = count_seen c.taken-2.result (λ n. n ≤ length c.args.piece.now)
    (subst (λ (r : Result Seen CoreFault). IfOk r (λ taken. taken.octets ≤ length c.args.piece.now)) (sym c.taken-2.ensures) c.advance-answer.ensures.within)

pub returns-clause-progress : goal.returns-clause-progress
returns-clause-progress g c = count_seen c.taken-2.result (λ n. c.args.piece.now ≢ [] → 0 < n)
    (subst (λ (r : Result Seen CoreFault). IfOk r (λ taken. c.args.piece.now ≢ [] → 0 < taken.octets)) (sym c.taken-2.ensures) c.advance-answer.ensures.progress)

pub returns-clause-octets : goal.returns-clause-octets
returns-clause-octets g c =
    let end = c.args.end.now in
    let ledger = c.args.ledger.now in
    let fed = after_feed (role_played end) (config_at end) (endpoint_of end) c.args.piece.now in
    let ran : ran_out c.taken-2.result ≡ ran_out c.advance-answer.result =
    sym (ran_seen c.taken-2.result) ∙ (ap ran_out c.taken-2.ensures ∙ ran_with c.advance-answer.result c.advance-answer.new.account.octets (parts_there c.advance-answer.new.account.parts)) in
    let went : ran_out c.advance-answer.result ≡ false = sym c.is_out_of_memory.ensures ∙ c.if-is_out_of_memory.false in
    subst (λ (b : Bool). FedGrows b c.args.piece.now fed (kept_of end ledger) (kept_of c.advance-answer.new.self c.enter.new.self)) (sym (ran ∙ went))
    (c.enter.ensures.fed ∙ ap (λ n. ledger.fed.items ++ take n c.args.piece.now) (c.advance-answer.ensures.account c.requires.takes went).octets_are, (λ i. (c.enter.ensures.written_same i).items))

pub returns-clause-history : goal.returns-clause-history
returns-clause-history g c = λ history traced.
    let end = c.args.end.now in
    let ledger = c.args.ledger.now in
    let settings = settings_at end in
    let role = role_played end in
    let config = config_at end in
    let old = kept_of end ledger in
    let new = kept_of c.advance-answer.new.self c.enter.new.self in
    let fed = after_feed role config (endpoint_of end) c.args.piece.now in
    let account = c.advance-answer.new.account in
    let ran : ran_out c.taken-2.result ≡ ran_out c.advance-answer.result =
    sym (ran_seen c.taken-2.result) ∙ (ap ran_out c.taken-2.ensures ∙ ran_with c.advance-answer.result c.advance-answer.new.account.octets (parts_there c.advance-answer.new.account.parts)) in
    let went : ran_out c.advance-answer.result ≡ false = sym c.is_out_of_memory.ensures ∙ c.if-is_out_of_memory.false in
    subst (λ (b : Bool). ∥ TraceGoesOn role config b (endpoint_of end) c.args.piece.now fed history new ∥₁) (sym ran)
    (traced-took settings (ran_out c.advance-answer.result) old new c.args.piece.now fed account.octets (note_there account.took) (item_there c.in-Ok.item) account.owed history
    went
    (trace-laws role config c.frames_are_noted.ensures.put (c.events_are_told.ensures.event role config) (c.events_are_told.ensures.put role config) (c.messages_are_said.ensures.method role)
    (c.verdict_is_of_history.ensures role config false) (λ end history n. c.record_reads.ensures.channel role (end.channels (suc n)) (entries_on (suc n) history)) (c.owed_read_back.ensures.all role config) end.kept.writes)
    c.requires.takes
    (lists-grow (role_of ledger.side) role old new (note_there account.took) (item_there c.in-Ok.item) account.owed c.requires.plays
    (record { notes = c.enter.ensures.notes; told = c.enter.ensures.told; said = c.enter.ensures.said }))
    (subst (λ item. IsAccount role config (endpoint_of end) c.args.piece.now fed account.octets (record { took = note_there account.took; item = item; owed = owed_view settings account.owed }))
    (sym (c.in-Ok.ensures.item account.octets)) (c.advance-answer.ensures.account c.requires.takes went))
    c.enter.ensures.fed (λ i. (c.enter.ensures.written_same i).items)
    (c.advance-answer.ensures.history history old.fed old.written) traced)

pub slice_bounds-enter-end : goal.slice_bounds-enter-end
slice_bounds-enter-end g c =
    let end = c.args.end.now in
    let went : ran_out c.advance-answer.result ≡ false = sym c.is_out_of_memory.ensures ∙ c.if-is_out_of_memory.false in
    let account = c.advance-answer.ensures.account c.requires.takes went in
    let within = c.cut_changes_nothing.ensures.within (role_played end) (config_at end) (endpoint_of end) c.args.piece.now in
    sym (length-take-le c.advance-answer.new.account.octets c.args.piece.now (subst (λ n. n ≤ length c.args.piece.now) (sym account.octets_are) within))

-- what is heard is what the end hears
pub returns-then-is_out_of_memory-clause-heard : goal.returns-then-is_out_of_memory-clause-heard
returns-then-is_out_of_memory-clause-heard g c =
    let end = c.args.end.now in
    let account = c.advance-answer.new.account in
    taken_heard c.taken.result c.advance-answer.result account.octets (parts_there account.parts) c.taken.ensures (role_played end) (config_at end) (endpoint_of end)
    c.args.piece.now _ _ _ c.advance-answer.ensures.heard

pub returns-in_default-clause-heard : goal.returns-in_default-clause-heard
returns-in_default-clause-heard g c = record { hears = tt; at_fault = λ ran. absurd (true≢false ran) }

pub returns-clause-heard : goal.returns-clause-heard
returns-clause-heard g c =
    let end = c.args.end.now in
    let account = c.advance-answer.new.account in
    taken_heard c.taken-2.result c.advance-answer.result account.octets (parts_there account.parts) c.taken-2.ensures (role_played end) (config_at end) (endpoint_of end)
    c.args.piece.now _ _ _ c.advance-answer.ensures.heard
