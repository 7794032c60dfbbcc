-- Neither of two whole ends finds fault with a frame of the other.
use Rattle.std.proofs.Common.{◌≡◌, ◌≢◌, ◌≤◌, ◌⊎◌, inl, inr, true, not, ℕ, zero, suc, arith}
use Rattle.std.proofs.Common.{List, [], ◌∷◌, ◌++◌, Option, Some, None, refl, sym, ap, ◌∙◌, subst}
use Rattle.amqp_frame.specs.Frame.{Fits, frame_length}
use Rattle.amqp_model.specs.Wire.Frame.{Frame}
use Rattle.amqp_model.specs.Wire.Notes.{Role, Client, Server, other_end}
use Rattle.amqp_model.specs.Wire.Readings.{reading, kind_of}
use Rattle.amqp_model.specs.History.Histories.{History, entries_on}
use Rattle.amqp_model.specs.End.Channels.{HandshakeStep, Phase, Handshake, Running, Agreed}
use Rattle.amqp_model.specs.History.Negotiation.{Config, FRAME_MIN, frame_limit}
use Rattle.amqp_model.specs.End.FrameVerdict.{verdict_on}
use Rattle.amqp_model.specs.End.Asks.{is_running, when, NotRunning}
use Rattle.amqp_model.specs.End.EndVerdict.{CanTake, facts_at, goes_on, takes_frames}
use Rattle.amqp_model.specs.End.Fitting.{ConfigWrites}
use Rattle.amqp_model.specs.Laws.FittingLaws.{MethodReadsBack}
use Rattle.amqp_model.specs.Pair.Pairs.{ComesNext, PairAt, config_of}
use Rattle.amqp_model.specs.Laws.EndLaws.{notes_on}
use Rattle.amqp_model.specs.Pair.Agreement.{PairWrites, end_in, smaller_limits, LoginWasRefused}
use Rattle.amqp_model.specs.Output.Arrangement.{on}
use Rattle.amqp_model.specs.Stream.Octets.{frames_put, frames_taken}
use Rattle.amqp_model.specs.Pair.WellPut.{SaysWell, IsWellPut}
use Rattle.amqp_model.specs.Pair.NoFault.{NextIsMatched, TakesWithoutFault, TakesWhatComesNext}
use Rattle.amqp_model.proofs.Laws.{no_fault}
use Rattle.amqp_model.proofs.Acting.{verdict-here}
use Rattle.amqp_model.proofs.Agreeing.{facts_in}
use Rattle.amqp_model.proofs.Asking.{running-stays}
use Rattle.amqp_model.proofs.Carrying.{next-noted}
use Rattle.amqp_model.proofs.EndSteps.{not-zero}
use Rattle.amqp_model.proofs.KeptContents.{fits-what-is-kept}
use Rattle.amqp_model.proofs.ReadBackOwed.{all-reads-back}
use Rattle.amqp_model.proofs.Sent.{pair-runs_at}
use Rattle.amqp_model.proofs.Agreements.{agrees-on-smaller, agrees-past-handshake, agrees-running, goes-on-at-zero}
use Rattle.amqp_model.proofs.Agreements.{runs-where-next-is-above}
use Rattle.amqp_model.proofs.FrameGoesOn.{LivesGo, closing-goes, above-goes}
use Rattle.amqp_model.proofs.WellPutPairs.{next-is-well-put}

pub pair-at : (reads : MethodReadsBack) (role : Role) (client_config : Config Client) (server_config : Config Server)
    (mine theirs : History) → PairWrites role client_config server_config mine theirs
    → PairAt role client_config server_config mine theirs
pair-at reads role client_config server_config mine theirs p =
    record {
      client_writes = all-reads-back reads Client client_config p.client_writes;
      server_writes = all-reads-back reads Server server_config p.server_writes;
      pair = p.pair;
    }

-- a frame that is well put fits its fields
well-fits : (role : Role) (client_config : Config Client) (server_config : Config Server) (frame : Frame)
    → ConfigWrites client_config → ConfigWrites server_config
    → IsWellPut role (smaller_limits client_config server_config) frame → Fits frame
well-fits role client_config server_config frame client server well =
    let a = client.channel_most in
    let b = client.frame_most in
    let c = well.numbered in
    let d = well.within in
    record { channel = omega arith; size = omega arith }

module _ (reads : MethodReadsBack) (role : Role) (client_config : Config Client) (server_config : Config Server)
    (mine theirs : History) (frame : Frame) (p : PairWrites role client_config server_config mine theirs)
    (next : ComesNext theirs mine frame) where
  well : IsWellPut (other_end role) (smaller_limits client_config server_config) frame
  well = next-is-well-put reads role client_config server_config mine theirs frame p next

  -- past the handshake the limit for a frame above channel 0 is the one agreed
  limit-past : (m : ℕ) → frame.channel ≡ suc m
      → ((step : HandshakeStep) → (end_in role client_config server_config mine).phase ≢ Handshake step)
      → frame_length frame ≤ frame_limit (end_in role client_config server_config mine).agreed
  limit-past m here past = cases (agrees-past-handshake reads role client_config server_config mine theirs p past)
    where
      none-there : (xs : List Frame) → [] ≡ xs ++ frame ∷ next.later → ⊥
      none-there [] e = cc
      none-there (x ∷ xs) e = cc

      cases : ((end_in role client_config server_config mine).agreed
          ≡ Some (smaller_limits client_config server_config))
          ⊎ LoginWasRefused role client_config server_config mine theirs
          → frame_length frame ≤ frame_limit (end_in role client_config server_config mine).agreed
      cases (inl agreed) =
          subst (λ a. frame_length frame ≤ frame_limit a) (sym agreed)
          (next-is-well-put reads role client_config server_config mine theirs frame p next).within
      cases (inr r) =
          absurd (none-there (on (suc m) (frames_taken mine)) (sym (r.theirs_put m)
          ∙ subst (λ c. on c (frames_put theirs) ≡ on c (frames_taken mine) ++ frame
          ∷ next.later) here next.next))

  -- a frame of channel 0 is short enough at any time
  limit-short : frame_length frame ≤ FRAME_MIN → (agreed : Option Agreed)
      → (end_in role client_config server_config mine).agreed ≡ agreed → frame_length frame ≤ frame_limit agreed
  limit-short short None e = short
  limit-short short (Some agreed) e =
      let same = agrees-on-smaller reads role client_config server_config mine theirs agreed p e in
      let a = p.client_writes.frame_least in
      let b = p.server_writes.frame_least in
      subst (λ l. frame_length frame ≤ l.frame_max) (sym same) (let least : FRAME_MIN
      ≤ (smaller_limits client_config server_config).frame_max = omega arith in omega arith)

  at-zero : frame.channel ≡ 0 → TakesWithoutFault role client_config server_config mine frame
  at-zero here =
      let goes = goes-on-at-zero reads role client_config server_config mine theirs frame p next here in
      let w = next-is-well-put reads role client_config server_config mine theirs frame p next in
      record {
        can = record {
          in_phase = goes.in_phase;
          fits = well-fits (other_end role) client_config server_config frame p.client_writes p.server_writes w;
          within = limit-short (w.at_zero here) (end_in role client_config server_config mine).agreed refl;
        };
        goes = goes.goes;
      }

  above-no-fault : (m : ℕ) → frame.channel ≡ suc m
      → NextIsMatched role client_config server_config mine theirs frame
      → TakesWithoutFault role client_config server_config mine frame
  above-no-fault m here matched =
      by-phase (runs-where-next-is-above reads role client_config server_config mine theirs frame p next
      (λ e. let h : suc m ≡ 0 = sym here ∙ e in absurd (omega arith)))
    where
      not-shaking : (phase : Phase) → ((phase ≡ Running) ⊎ (phase ≡ Phase.Closing)) → (step : HandshakeStep)
          → phase ≢ Handshake step
      not-shaking phase (inl e) step q = let h : Running ≡ Handshake step = sym e ∙ q in cc
      not-shaking phase (inr e) step q = let h : Phase.Closing ≡ Handshake step = sym e ∙ q in cc

      takes : (phase : Phase) → ((phase ≡ Running) ⊎ (phase ≡ Phase.Closing)) → takes_frames phase ≡ true
      takes phase (inl e) = ap takes_frames e
      takes phase (inr e) = ap takes_frames e

      can : (((end_in role client_config server_config mine).phase ≡ Running)
          ⊎ ((end_in role client_config server_config mine).phase ≡ Phase.Closing))
          → CanTake (end_in role client_config server_config mine) frame
      can phase =
          record {
            in_phase = takes (end_in role client_config server_config mine).phase phase;
            fits = well-fits (other_end role) client_config server_config frame p.client_writes p.server_writes
                (next-is-well-put reads role client_config server_config mine theirs frame p next);
            within = limit-past m here (not-shaking (end_in role client_config server_config mine).phase phase);
          }

      -- the lives of the channel go on
      lives : (end_in role client_config server_config mine).phase ≡ Running
          → LivesGo role ((end_in role client_config server_config mine).channels (suc m)) (kind_of (reading frame))
      lives runs =
          let at = pair-at reads role client_config server_config mine theirs p in
          let stays = running-stays role (config_of role client_config server_config) mine m
          (ap (λ phase. when (not (is_running phase)) NotRunning) runs) in
          let go = no_fault role (notes_on (suc m) mine) (notes_on (suc m) theirs)
          (pair-runs_at role client_config server_config mine theirs m at) (kind_of (reading frame)) frame
          (next-noted theirs mine frame m next here) in
          record {
            event = go.0;
            owed = go.1;
            is = sym (verdict-here role (entries_on (suc m) mine) (kind_of (reading frame)) stays) ∙ go.2;
          }

      goes-at : (end_in role client_config server_config mine).phase ≡ Running
          → goes_on (verdict_on (facts_at (config_of role client_config server_config)
          (end_in role client_config server_config mine) (suc m)) (reading frame)) ≡ true
      goes-at runs =
          let w = next-is-well-put reads role client_config server_config mine theirs frame p next in
          let agreed = agrees-running reads role client_config server_config mine theirs p runs in
          let below : suc m ≤ (smaller_limits client_config server_config).channel_max =
          subst (λ c. c ≤ (smaller_limits client_config server_config).channel_max) here w.numbered in
          subst (λ a.
          goes_on (verdict_on (facts_in (config_of role client_config server_config)
          (end_in role client_config server_config mine).phase a (suc m)
          ((end_in role client_config server_config mine).channels (suc m))) (reading frame)) ≡ true) (sym agreed)
          (subst (λ q.
          goes_on (verdict_on (facts_in (config_of role client_config server_config) q
          (Some (smaller_limits client_config server_config)) (suc m)
          ((end_in role client_config server_config mine).channels (suc m))) (reading frame)) ≡ true) (sym runs)
          (above-goes role (config_of role client_config server_config) (smaller_limits client_config server_config)
          (suc m) (not-zero m) below ((end_in role client_config server_config mine).channels (suc m))
          (subst (λ c. SaysWell (other_end role) c (reading frame)) here w.says) (lives runs)
          (λ life is message. fits-what-is-kept role client_config server_config mine theirs m frame
          (pair-at reads role client_config server_config mine theirs p) runs next here message life is)
          (λ life method is says. matched p next runs m life method here says is)))

      by-phase : (((end_in role client_config server_config mine).phase ≡ Running)
          ⊎ ((end_in role client_config server_config mine).phase ≡ Phase.Closing))
          → TakesWithoutFault role client_config server_config mine frame
      by-phase (inl runs) =
          record {
            can = can (inl runs);
            goes = subst
                (λ c. goes_on
                (verdict_on (facts_at (config_of role client_config server_config)
                (end_in role client_config server_config mine) c) (reading frame)) ≡ true) (sym here) (goes-at runs);
          }
      by-phase (inr closing) =
          record {
            can = can (inr closing);
            goes = subst
                (λ q. goes_on
                (verdict_on (facts_in (config_of role client_config server_config) q
                (end_in role client_config server_config mine).agreed frame.channel
                ((end_in role client_config server_config mine).channels frame.channel)) (reading frame)) ≡ true)
                (sym closing) (closing-goes (config_of role client_config server_config)
                (end_in role client_config server_config mine).agreed frame.channel
                ((end_in role client_config server_config mine).channels frame.channel) (reading frame));
          }

-- where what comes next is matched with the requests kept, no fault is found with it
pub finds-no-fault : (reads : MethodReadsBack) (role : Role) (client_config : Config Client)
    (server_config : Config Server) (mine theirs : History) (frame : Frame)
    → NextIsMatched role client_config server_config mine theirs frame
    → TakesWhatComesNext role client_config server_config mine theirs frame
finds-no-fault reads role client_config server_config mine theirs frame matched p next = by-channel frame.channel refl
  where
    by-channel : (c : ℕ) → frame.channel ≡ c → TakesWithoutFault role client_config server_config mine frame
    by-channel zero here = at-zero reads role client_config server_config mine theirs frame p next here
    by-channel (suc m) here =
        above-no-fault reads role client_config server_config mine theirs frame p next m here matched
