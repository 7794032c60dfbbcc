-- The lists go on with what came of the piece, or, out of memory, stay as they are.
use Rattle.std.proofs.Common.{Bool, suc, Err, ◌≡◌, ◌+◌, ◌≤◌, length, vec_len, vec_capacity, refl, ap, sym, ◌∙◌, subst, arith}
use Rattle.std.proofs.Math.Logic.{∥∥₁_map}
use Rattle.std.proofs.lemmas.Bool.{true≢false}
use Rattle.amqp_model.specs.Stream.Endpoint.{after_feed}
use Rattle.amqp_model.specs.History.Histories.{History, entries_on}
use Rattle.amqp_model.specs.Output.Outputs.{Output, output_octets}
use Rattle.amqp_channel.specs.Roles.{role_of}
use Rattle.amqp_core.specs.Faults.Answering.{ran_out}
use Rattle.amqp_core.specs.End.Feeding.{IsFed, seen}
use Rattle.amqp_core.specs.End.View.{config_at, endpoint_of, heard_in, role_played, settings_at}
use Rattle.amqp_core.specs.Config.Settings.{role_for}
use Rattle.amqp_core.specs.Traced.Fields.{kept_of}
use Rattle.amqp_core.specs.Traced.Tracing.{FedGrows, IsTraceOf, TraceGoesOn, TraceGrows}
use Rattle.amqp_core.specs.declared.faults.CoreFault.TheVariants as core
use Rattle.amqp_core.specs.declared.settings.Settings.{Settings}
use Rattle.amqp_core.proofs.FeedFaultLemmas.{feed_faults, over_memory, over_takes, takes_unfailed}
use Rattle.amqp_core.proofs.HeardLemmas.{fault_heard}
use Rattle.amqp_core.proofs.HearingLemmas.{by_taken, keeps_grown}
use Rattle.amqp_core.proofs.OfHistoryLemmas.{verdicts_are}
use Rattle.amqp_core.proofs.QueryLemmas.{unfailed_stands}
use Rattle.amqp_core.proofs.TracedLemmas.{fed-grows, not-err, over-feed, same-kept, traced-out, traced-same, traces-kept, traces-on, traces-same}
use Rattle.amqp_core.proofs.traced.Traced.feed.Goals as goal

-- one that is closed or has failed takes nothing
pub returns-in-Some : goal.returns-in-Some
returns-in-Some g c =
    let self = c.args.self.now in
    let end = self.end in
    let role = role_played end in
    let config = config_at end in
    let piece = c.args.piece.now in
    let laws = c.cut_changes_nothing.ensures in
    let closed = laws.closed role config (endpoint_of end) piece in
    let failed = laws.failed role config (endpoint_of end) piece in
    let over = over-feed role config (kept_of end self.ledger) piece c.in-Some.fault closed failed c.in-Some.ensures in
    record {
      fed = over.is_fed;
      within = tt;
      progress = tt;
      octets = over.octets;
      history = over.history;
      memory = over_memory (endpoint_of end).end.phase c.in-Some.fault c.in-Some.ensures;
      faults =
          feed_faults role config (Err c.in-Some.fault) (endpoint_of end) (endpoint_of end) piece over.is_fed closed failed
          (over_memory (endpoint_of end).end.phase c.in-Some.fault c.in-Some.ensures);
      verdicts = record {
        one = self.traces;
        each = λ history traced on.
            verdicts_are role config (endpoint_of end).end history
            (λ n. c.record_reads.ensures.channel role ((endpoint_of end).end.channels (suc n)) (entries_on (suc n) history))
            (unfailed_stands role config (kept_of end self.ledger) history traced on);
      };
      heard = fault_heard role config _ (endpoint_of end) piece _ _;
      hearing = λ takes ran. absurd (over_takes (endpoint_of end).end.phase c.in-Some.fault c.in-Some.ensures takes);
      settings = refl;
    }

-- there was no room
pub returns-then-is_err : goal.returns-then-is_err
returns-then-is_err g c =
    let self = c.args.self.now in
    let end = self.end in
    let role = role_played end in
    let config = config_at end in
    let piece = c.args.piece.now in
    let laws = c.cut_changes_nothing.ensures in
    let old = kept_of end self.ledger in
    let new = kept_of c.run_out.new.self c.make_room-room.new.ledger in
    let lists = c.make_room-room.ensures.same in
    let fed : IsFed (seen (Err core.OutOfMemory)) (endpoint_of end) (after_feed role config (endpoint_of end) piece) (endpoint_of c.run_out.new.self) =
    record { answer = tt; taken = tt; left = c.run_out.ensures.left } in
    record {
      fed = fed;
      within = tt;
      progress = tt;
      octets = record { notes = lists.notes; told = lists.told; said = lists.said; fed = lists.fed; written = lists.written };
      history = λ history traced.
          ∣ (traced-out role config old new history (λ one next. c.failed_follows.ensures.read role config one next history)
          (c.memory_runs_out.ensures.stands role config (endpoint_of end) history old.fed old.written) c.in_default.ensures c.run_out.ensures.left
          (record { notes = lists.notes; told = lists.told; said = lists.said; fed = lists.fed; written = lists.written }) traced) ∣₁;
      memory = λ ran. c.in_default.ensures;
      faults =
          feed_faults role config (Err core.OutOfMemory) (endpoint_of end) (endpoint_of c.run_out.new.self) piece fed
          (laws.closed role config (endpoint_of end) piece) (laws.failed role config (endpoint_of end) piece)
          (λ ran. c.in_default.ensures);
      verdicts = record {
        one = self.traces;
        each = λ history traced on.
            verdicts_are role config (endpoint_of end).end history
            (λ n. c.record_reads.ensures.channel role ((endpoint_of end).end.channels (suc n)) (entries_on (suc n) history))
            (unfailed_stands role config old history traced on);
      };
      heard = record { hears = tt; at_fault = λ ran. absurd (true≢false ran) };
      hearing = λ takes ran. absurd (true≢false ran);
      settings = c.run_out.ensures.settings;
    }

pub returns : goal.returns
returns g c =
    let self = c.args.self.now in
    let end = self.end in
    let role = role_played end in
    let config = config_at end in
    let piece = c.args.piece.now in
    let laws = c.cut_changes_nothing.ensures in
    let feeding = after_feed role config (endpoint_of end) piece in
    let old = kept_of end self.ledger in
    let ready = kept_of end c.make_room-room.new.ledger in
    let taken = kept_of c.take-answer.new.end c.take-answer.new.ledger in
    let new = kept_of c.take-answer.new.end c.give_back.new.self in
    let back = c.give_back.ensures in
    let lists = c.make_room-room.ensures.same in
    let same : new ≡ taken = same-kept taken new refl back.notes back.told back.said back.fed back.written in
    let goes_on : (history : History) → IsTraceOf role config old history
    → ∥ TraceGoesOn role config (ran_out c.take-answer.result) (endpoint_of end) piece feeding history new ∥₁ =
    λ history traced.
    subst (λ k. ∥ TraceGoesOn role config (ran_out c.take-answer.result) (endpoint_of end) piece feeding history k ∥₁) (sym same)
    (c.take-answer.ensures.history history (traced-same role config old ready history refl lists traced)) in
    record {
      fed = c.take-answer.ensures.fed;
      within = c.take-answer.ensures.within;
      progress = c.take-answer.ensures.progress;
      octets =
          subst (λ k. FedGrows (ran_out c.take-answer.result) piece feeding old k) (sym same)
          (fed-grows (ran_out c.take-answer.result) piece feeding old ready taken lists c.take-answer.ensures.octets);
      history = goes_on;
      memory = λ ran. c.in_default.ensures;
      faults =
          feed_faults role config c.take-answer.result (endpoint_of end) (endpoint_of c.take-answer.new.end) piece c.take-answer.ensures.fed
          (laws.closed role config (endpoint_of end) piece) (laws.failed role config (endpoint_of end) piece)
          (λ ran. c.in_default.ensures);
      verdicts = record {
        one = self.traces;
        each = λ history traced on.
            verdicts_are role config (endpoint_of end).end history
            (λ n. c.record_reads.ensures.channel role ((endpoint_of end).end.channels (suc n)) (entries_on (suc n) history))
            (unfailed_stands role config old history traced on);
      };
      heard = c.take-answer.ensures.heard;
      hearing = λ takes ran history traced kept.
          let before = heard_in end in
          let after = heard_in c.take-answer.new.end in
          let stands = unfailed_stands role config old history traced (takes_unfailed (endpoint_of end).end.phase takes) in
          let by = by_taken role config c.take-answer.result (endpoint_of end) piece feeding feeding.endpoint before after ran c.take-answer.ensures.fed.answer c.take-answer.ensures.heard in
          ∥∥₁_map (subst (λ (b : Bool). ∥ TraceGoesOn role config b (endpoint_of end) piece feeding history new ∥₁) ran (goes_on history traced))
          (λ (grows : TraceGrows role config (endpoint_of end) piece feeding history new). record {
            grows = grows;
            keeps = keeps_grown role config (endpoint_of end) history grows.after piece feeding before.methods after.methods
                c.heard_is_kept.ensures.follows c.heard_is_kept.ensures.stays takes stands kept by grows.grows;
          });
      settings = c.take-answer.ensures.settings;
    }

pub invariant_of-self-then-is_err : goal.invariant_of-self-then-is_err
invariant_of-self-then-is_err g c =
    let self = c.args.self.now in
    let end = self.end in
    let role = role_played end in
    let config = config_at end in
    let old = kept_of end self.ledger in
    let new = kept_of c.run_out.new.self c.make_room-room.new.ledger in
    let lists = c.make_room-room.ensures.same in
    let output : length (output_octets (endpoint_of end).output) ≡ length (output_octets (endpoint_of c.run_out.new.self).output) = ap (λ (o : Output). length (output_octets o)) c.run_out.ensures.left.output in
    record {
      plays = ap role_of c.make_room-room.ensures.side ∙ (self.plays ∙ sym (ap (λ (s : Settings). role_for s) c.run_out.ensures.settings));
      room = omega (arith, output, c.make_room-room.ensures.kept, c.make_room-room.ensures.capacity, self.room);
      traces = traces-kept (settings_at end) (settings_at c.run_out.new.self) new c.run_out.ensures.settings
          (traces-same role config old new (λ history traced. (traced-out role config old new history (λ one next. c.failed_follows.ensures.read role config one next history)
          (c.memory_runs_out.ensures.stands role config (endpoint_of end) history old.fed old.written) c.in_default.ensures c.run_out.ensures.left
          (record { notes = lists.notes; told = lists.told; said = lists.said; fed = lists.fed; written = lists.written }) traced)) self.traces);
    }

pub invariant_of-self-2 : goal.invariant_of-self-2
invariant_of-self-2 g c =
    let self = c.args.self.now in
    let end = self.end in
    let role = role_played end in
    let config = config_at end in
    let old = kept_of end self.ledger in
    let ready = kept_of end c.make_room-room.new.ledger in
    let taken = kept_of c.take-answer.new.end c.take-answer.new.ledger in
    let new = kept_of c.take-answer.new.end c.give_back.new.self in
    let lists = c.make_room-room.ensures.same in
    let back = c.give_back.ensures in
    let same : new ≡ taken = same-kept taken new refl back.notes back.told back.said back.fed back.written in
    let left = ap length c.output.ensures.octets in
    record {
      plays = ap role_of (back.side ∙ (c.take-answer.ensures.side ∙ c.make_room-room.ensures.side)) ∙ (self.plays ∙ sym (ap (λ (s : Settings). role_for s) c.take-answer.ensures.settings));
      room = omega (arith, back.room, left);
      traces = traces-kept (settings_at end) (settings_at c.take-answer.new.end) new c.take-answer.ensures.settings
          (subst (λ k. ∥ ((history : History) × IsTraceOf role config k history) ∥₁) (sym same)
          (traces-on role config (ran_out c.take-answer.result) ready taken c.args.piece.now (after_feed role config (endpoint_of end) c.args.piece.now)
          (traces-same role config old ready (λ history traced. traced-same role config old ready history refl lists traced) self.traces) c.take-answer.ensures.history));
    }

-- there is room for all that is to be written
pub give_back-requires : goal.give_back-requires
give_back-requires g c =
    let fits = not-err c.make_room-room.result (sym c.is_err.ensures.value ∙ c.if-is_err.false) c.make_room-room.ensures.written in
    let left = ap length c.output.ensures.octets in
    subst (λ w. vec_len w + length c.output.result.now ≤ vec_capacity w) (sym c.take-answer.ensures.written) (omega (arith, fits, c.take-answer.ensures.grows, left))
