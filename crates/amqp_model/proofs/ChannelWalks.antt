-- A walk along a history, as one channel above 0 sees it; and that all lawful histories are walks.
use Rattle.std.proofs.Common.{◌≡◌, inl, inr, Bool, true, false, cond, ℕ, suc, ◌==◌, arith, List, []}
use Rattle.std.proofs.Common.{◌∷◌, ◌++◌, Option, refl, sym, ap, subst}
use Rattle.std.proofs.lemmas.Bool.{false≢true, true≢false, eqb-true}
use Rattle.amqp_model.specs.Wire.Frame.{Frame}
use Rattle.amqp_model.specs.Wire.Notes.{Role}
use Rattle.amqp_model.specs.History.Lives.{has_left}
use Rattle.amqp_model.specs.Wire.Readings.{reading}
use Rattle.amqp_model.specs.History.Histories.{Entry, Put, Took, History, ChannelEntry, PutHere, TookHere, LeftHere}
use Rattle.amqp_model.specs.History.Histories.{closes_connection, entries_on, notes}
use Rattle.amqp_model.specs.End.Channels.{Channel, Phase, Handshake, Running, Closed, Failed, Agreed, End}
use Rattle.amqp_model.specs.History.Negotiation.{Config}
use Rattle.amqp_model.specs.End.FrameVerdict.{verdict_on}
use Rattle.amqp_model.specs.End.EndVerdict.{facts_at, goes_on}
use Rattle.amqp_model.specs.End.ReadingBack.{WritesReadBack}
use Rattle.amqp_model.specs.End.LawfulHistories.{end_of, Goes, greets, takes, faults, meets_too_large, fails, asks}
use Rattle.amqp_model.specs.End.LawfulHistories.{controls, Lawful, begun, goes}
use Rattle.amqp_model.specs.End.Machine.{may_put_here, new_end, Counts, StandsFor}
use Rattle.amqp_model.proofs.Walking.{may_ask_here, EntrySound, MayPut, Walks, at_start, entered, Walked, walked-kept}
use Rattle.amqp_model.proofs.EndSteps.{not-zero, new-end-stands, stays-here, left-here}
use Rattle.amqp_model.proofs.FrameSteps.{frame-kept}
use Rattle.amqp_model.proofs.AskSteps.{ask-kept}
use Rattle.amqp_model.proofs.Controlling.{control-kept, puts-at-zero}
use Rattle.amqp_model.proofs.Standing.{end-stands}
use Rattle.amqp_model.proofs.Following.{all-before}
use Rattle.amqp_model.proofs.Agreeing.{facts_in, is_closing, handshake-stops}
use Rattle.amqp_model.proofs.Going.{running}

-- Each entry of the channel is sound, by what is kept of the channel. A frame taken after the end's connection.close is
-- dropped.
pub data ChannelWalk (role : Role) (config : Config role) : List ChannelEntry → Type 0 where
  nothing : ChannelWalk role config []
  leaves : {entries : List ChannelEntry} → ChannelWalk role config entries
      → ChannelWalk role config (LeftHere ∷ entries)
  puts : {entries : List ChannelEntry} (channel : Channel) (frame : Frame) → has_left (notes entries) ≡ false
      → Counts role channel entries → may_put_here role channel (reading frame) ≡ true
      → may_ask_here role channel (reading frame) ≡ true → ChannelWalk role config entries
      → ChannelWalk role config (PutHere (reading frame) frame ∷ entries)
  hears : {entries : List ChannelEntry} (agreed : Option Agreed) (number : ℕ) (channel : Channel) (frame : Frame)
      → has_left (notes entries) ≡ false → Counts role channel entries → (number == 0) ≡ false
      → goes_on (verdict_on (running config agreed number channel) (reading frame)) ≡ true
      → ChannelWalk role config entries → ChannelWalk role config (TookHere (reading frame) frame ∷ entries)
  drops : {entries : List ChannelEntry} (frame : Frame) → has_left (notes entries) ≡ true
      → ChannelWalk role config entries → ChannelWalk role config (TookHere (reading frame) frame ∷ entries)

-- One entry.

module _ (role : Role) (config : Config role) (end : End) (history : History) (n : ℕ)
    (stands : StandsFor role config false end history)
    (before : ChannelWalk role config (entries_on (suc n) history)) where
  counts-here : has_left (notes (entries_on (suc n) history)) ≡ false
      → Counts role (end.channels (suc n)) (entries_on (suc n) history)
  counts-here stays =
      subst (Counts role (end.channels (suc n))) (all-before (entries_on (suc n) history) stays)
      (stands.channels refl n)

  puts-here : (frame : Frame) → frame.channel ≡ suc n → MayPut role end (suc n) (reading frame)
      → ChannelWalk role config (PutHere (reading frame) frame ∷ entries_on (suc n) history)
  puts-here frame here (inl z) = absurd (let h : suc n ≡ 0 = z in omega arith)
  puts-here frame here (inr s) =
      let stays = stays-here role config end history n stands s.0 in
      puts (end.channels (suc n)) frame stays (counts-here stays) s.1 s.2 before

  hears-here : (frame : Frame) → (phase : Phase) → end.phase ≡ phase
      → goes_on (verdict_on (facts_in config phase end.agreed (suc n) (end.channels (suc n))) (reading frame))
      ≡ true → ChannelWalk role config (TookHere (reading frame) frame ∷ entries_on (suc n) history)
  hears-here frame Running p g =
      let stays = stays-here role config end history n stands p in
      hears end.agreed (suc n) (end.channels (suc n)) frame stays (counts-here stays) (not-zero n) g before
  hears-here frame Phase.Closing p g = drops frame (left-here role config end history n stands p) before
  hears-here frame (Handshake step) p g =
      handshake-stops config step end.agreed (suc n) (end.channels (suc n))
      (ap is_closing (stands.free_before step p (suc n))) (not-zero n) (reading frame) g
  hears-here frame Closed p g = absurd (false≢true g)
  hears-here frame Failed p g = absurd (false≢true g)

  enters : (entry : Entry) → EntrySound role config end entry
      → ChannelWalk role config (entries_on (suc n) (entry ∷ history))
  enters (Put frame) sound = cases (frame.channel == suc n) refl (closes_connection frame)
    where
      cases : (b : Bool) → (frame.channel == suc n) ≡ b → (c : Bool)
          → ChannelWalk role config (cond b (PutHere (reading frame) frame ∷ []) (cond c (LeftHere ∷ []) [])
          ++ entries_on (suc n) history)
      cases true e c =
          let here = eqb-true frame.channel (suc n) e in
          puts-here frame here (subst (λ channel. MayPut role end channel (reading frame)) here sound)
      cases false e true = leaves before
      cases false e false = before
  enters (Took frame) sound = cases (frame.channel == suc n) refl
    where
      cases : (b : Bool) → (frame.channel == suc n) ≡ b
          → ChannelWalk role config (cond b (TookHere (reading frame) frame ∷ []) [] ++ entries_on (suc n) history)
      cases true e =
          hears-here frame end.phase refl
          (subst (λ channel. goes_on (verdict_on (facts_at config end channel) (reading frame)) ≡ true)
          (eqb-true frame.channel (suc n) e) sound)
      cases false e = before

pub channel-walk : (role : Role) (config : Config role) (n : ℕ) (history : History) → Walks role config history
    → ChannelWalk role config (entries_on (suc n) history)
channel-walk role config n [] at_start = nothing
channel-walk role config n (_ ∷ history) (entered end entry stands sound before) =
    enters role config end history n stands (channel-walk role config n history before) entry sound

-- Lawful histories.

goes-walk : (role : Role) (config : Config role) (before : History) (taken : Option Frame) (failed : Bool)
    (after : History) → failed ≡ false → WritesReadBack role config → Goes role config before taken failed after
    → Walked role config (end_of config before) before → (end : End) × Walked role config end after
goes-walk role config before taken failed after e back greets w =
    (_, walked-kept.puts.put role config (end_of config []) [] _ w (inl refl))
goes-walk role config before taken failed after e back (takes frame can g) w =
    (_, frame-kept Walked walked-kept role config (end_of config before) before frame back w g)
goes-walk role config before taken failed after e back (asks ask frames made read v) w =
    (_, ask-kept Walked walked-kept.puts role config (end_of config before) before ask frames w read.method made v)
goes-walk role config before taken failed after e back (controls control frames read v) w = (
  _,
  control-kept Walked walked-kept.puts role config (end_of config before) before frames w
      (puts-at-zero role config (end_of config before) control frames back read v),
)
goes-walk role config before taken failed after e back (faults frame can g) w = absurd (true≢false e)
goes-walk role config before taken failed after e back (meets_too_large p) w = absurd (true≢false e)
goes-walk role config before taken failed after e back (fails p) w = absurd (true≢false e)

-- the end that is read off a history stands for it, where some end does
pub read-off : (role : Role) (config : Config role) (end : End) (history : History) → Walked role config end history
    → Walked role config (end_of config history) history
read-off role config end history w =
    subst (λ end. Walked role config end history) (sym (end-stands role config end history w.stands)) w

pub lawful-walks : (role : Role) (config : Config role) (failed : Bool) (history : History) → failed ≡ false
    → WritesReadBack role config → Lawful role config failed history
    → Walked role config (end_of config history) history
lawful-walks role config failed history e back begun =
    read-off role config (new_end role) [] (record { stands = new-end-stands role config; walks = at_start })
lawful-walks role config failed history e back (goes {before = before} {taken = taken} lawful step) =
    let after = goes-walk role config before taken failed history e back step
    (lawful-walks role config false before refl back lawful) in
    read-off role config after.0 history after.1
