-- What either end of a pair puts is well put.
use Rattle.std.proofs.Common.{◌≡◌, ◌≤◌, true, false, ℕ, zero, suc, arith, List, [], ◌∷◌, ◌++◌}
use Rattle.std.proofs.Common.{map, Option, refl, sym, ap, ◌∙◌, subst}
use Rattle.std.proofs.lemmas.List.{append_cancel_left}
use Rattle.amqp_frame.specs.Frame.{frame_length}
use Rattle.amqp_model.specs.Wire.Frame.{Frame}
use Rattle.amqp_model.specs.Wire.Notes.{Role, Client, Server}
use Rattle.amqp_model.specs.Output.Arrangement.{on}
use Rattle.amqp_model.specs.Wire.Methods.{ReadsBack}
use Rattle.amqp_model.specs.History.Histories.{Took, History}
use Rattle.amqp_model.specs.End.Channels.{Agreed}
use Rattle.amqp_model.specs.History.Negotiation.{Config, FRAME_MIN}
use Rattle.amqp_model.specs.History.Negotiation as negotiation
use Rattle.amqp_model.specs.End.StateFromHistory.{end_from}
use Rattle.amqp_model.specs.End.Closes.{method_frame}
use Rattle.amqp_model.specs.End.EndVerdict.{end_verdict, end_puts, goes_on}
use Rattle.amqp_model.specs.End.LawfulHistories.{then_put, then_taken, Goes, greets, takes, asks, controls}
use Rattle.amqp_model.specs.End.Machine.{StandsFor}
use Rattle.amqp_model.specs.End.Fitting.{ConfigWrites}
use Rattle.amqp_model.specs.Laws.FittingLaws.{MethodReadsBack}
use Rattle.amqp_model.specs.Stream.Octets.{frames_put, frames_taken}
use Rattle.amqp_model.specs.Pair.Pairs.{ComesNext, AllComeNext, Pair, both_begin, client_goes, server_goes, config_of}
use Rattle.amqp_model.specs.Pair.Agreement.{PairWrites, smaller_limits}
use Rattle.amqp_model.specs.Pair.WellPut.{IsWellPut, PutsWell, NextIsWellPut}
use Rattle.amqp_model.proofs.Lawfulness.{lawful-stands}
use Rattle.amqp_model.proofs.Pairing.{pair-lawful}
use Rattle.amqp_model.proofs.PutLast.{put-then}
use Rattle.amqp_model.proofs.ReadBackOwed.{all-reads-back}
use Rattle.amqp_model.proofs.Footings.{footing_of}
use Rattle.amqp_model.proofs.Together.{Start, Signal, passing, AllRead}
use Rattle.amqp_model.proofs.Hearing.{start-is}
use Rattle.amqp_model.proofs.ZeroSteps.{asked}
use Rattle.amqp_model.proofs.BothEnds.{TogetherAs, hears-as, mine_of, theirs_of, Joined}
use Rattle.amqp_model.proofs.Agreements.{joined, agrees-running}
use Rattle.amqp_model.proofs.WellPut.{AllWell, all-well-join, all-well-on, well-at, word-well, heard-well, taken-well}
use Rattle.amqp_model.proofs.WellPut.{asked-well, control-well}

least-frame : (client_config : Config Client) (server_config : Config Server) → ConfigWrites client_config
    → ConfigWrites server_config → FRAME_MIN ≤ (smaller_limits client_config server_config).frame_max
least-frame client_config server_config client server =
    let a = client.frame_least in
    let b = server.frame_least in
    omega arith

pub writes-of : (role : Role) (client_config : Config Client) (server_config : Config Server)
    → ConfigWrites client_config → ConfigWrites server_config
    → ConfigWrites (config_of role client_config server_config)
writes-of Client client_config server_config client server = client
writes-of Server client_config server_config client server = server

lawful-of : (reads : MethodReadsBack) (role : Role) (client_config : Config Client) (server_config : Config Server)
    (mine theirs : History) → PairWrites role client_config server_config mine theirs
    → StandsFor role (config_of role client_config server_config) false
    (end_from role (config_of role client_config server_config) false mine) mine
lawful-of reads Client client_config server_config mine theirs p =
    lawful-stands Client client_config false mine (all-reads-back reads Client client_config p.client_writes)
    (pair-lawful client_config server_config mine theirs p.pair).0
lawful-of reads Server client_config server_config mine theirs p =
    lawful-stands Server server_config false mine (all-reads-back reads Server server_config p.server_writes)
    (pair-lawful client_config server_config theirs mine p.pair).1

-- the frame that comes next is one that the other put
next-well : (role : Role) (limits : Agreed) (theirs mine : History) (frame : Frame) → ComesNext theirs mine frame
    → AllWell role limits (frames_put theirs) → IsWellPut role limits frame
next-well role limits theirs mine frame next all =
    well-at role limits (on frame.channel (frames_taken mine)) frame next.later
    (subst (AllWell role limits) next.next (all-well-on role limits frame.channel (frames_put theirs) all))

module _ (reads : MethodReadsBack) (role : Role) (client_config : Config Client) (server_config : Config Server)
    (mine theirs : History) (p : PairWrites role client_config server_config mine theirs)
    (mine_well : AllWell role (smaller_limits client_config server_config) (frames_put mine)) where
  more-well : (frames : List Frame) (history : History) → frames_put history ≡ frames_put mine
      → AllWell role (smaller_limits client_config server_config) frames
      → AllWell role (smaller_limits client_config server_config) (frames_put (then_put frames history))
  more-well frames history same well =
      subst (AllWell role (smaller_limits client_config server_config))
      (sym (put-then frames history ∙ ap (λ l. l ++ frames) same))
      (all-well-join role (smaller_limits client_config server_config) (frames_put mine) frames mine_well well)

  zero-well : (frame : Frame) (later : List Frame) (sent due : List Signal)
      → TogetherAs role client_config server_config (footing_of (mine_of role client_config server_config mine))
      (footing_of (theirs_of role client_config server_config theirs)) due sent → AllRead due
      → map passing due ≡ frame ∷ later
      → AllWell role (smaller_limits client_config server_config)
      (end_puts (config_of role client_config server_config)
      (end_from role (config_of role client_config server_config) false mine) frame)
  zero-well frame later sent [] together read e = absurd cc
  zero-well frame later sent (signal ∷ due) together read e =
      let h = hears-as role client_config server_config p.client_writes p.server_writes due sent signal together in
      let same : passing signal ≡ frame = (let h : passing signal ∷ map passing due ≡ frame ∷ later = e in
      cc) in
      let writes = writes-of role client_config server_config p.client_writes p.server_writes in
      subst (λ f. AllWell role (smaller_limits client_config server_config)
      (end_puts (config_of role client_config server_config)
      (end_from role (config_of role client_config server_config) false mine) f)) same
      (heard-well role (config_of role client_config server_config) (smaller_limits client_config server_config) writes
      (all-reads-back reads role (config_of role client_config server_config) writes)
      (least-frame client_config server_config p.client_writes p.server_writes) mine signal
      h.next h.words h.hears read.0)

  takes-well : (frame : Frame) → ComesNext theirs mine frame
      → frame.channel ≤ (smaller_limits client_config server_config).channel_max
      → goes_on (end_verdict (config_of role client_config server_config)
      (end_from role (config_of role client_config server_config) false mine) frame) ≡ true
      → AllWell role (smaller_limits client_config server_config)
      (frames_put (then_taken (config_of role client_config server_config)
      (end_from role (config_of role client_config server_config) false mine) frame mine))
  takes-well frame next below goes =
      more-well (end_puts (config_of role client_config server_config)
      (end_from role (config_of role client_config server_config) false mine) frame) (Took frame ∷ mine) refl
      (by-channel frame.channel refl)
    where
      j : Joined role client_config server_config mine theirs
      j = joined reads role client_config server_config mine theirs p

      by-channel : (c : ℕ) → frame.channel ≡ c
          → AllWell role (smaller_limits client_config server_config)
          (end_puts (config_of role client_config server_config)
          (end_from role (config_of role client_config server_config) false mine) frame)
      by-channel zero here =
          let there = subst (λ c. on c (frames_put theirs) ≡ on c (frames_taken mine) ++ frame
          ∷ next.later) here next.next in
          zero-well frame next.later j.sent j.due j.together j.due_read
          (append_cancel_left (on 0 (frames_taken mine)) (map passing j.due)
          (frame ∷ next.later) (sym j.due_is ∙ there))
      by-channel (suc m) here =
          let writes = writes-of role client_config server_config p.client_writes p.server_writes in
          taken-well role (config_of role client_config server_config) (smaller_limits client_config server_config)
          writes (all-reads-back reads role (config_of role client_config server_config) writes)
          (least-frame client_config server_config p.client_writes p.server_writes) mine
          (lawful-of reads role client_config server_config mine theirs p) frame m here below goes

-- a step of the client, and of the server
client-step : (reads : MethodReadsBack) (client_config : Config Client) (server_config : Config Server)
    (client server : History) (taken : Option Frame) (after : History)
    → PairWrites Client client_config server_config client server
    → AllWell Client (smaller_limits client_config server_config) (frames_put client)
    → AllWell Server (smaller_limits client_config server_config) (frames_put server)
    → AllComeNext server client taken → Goes Client client_config client taken false after
    → AllWell Client (smaller_limits client_config server_config) (frames_put after)
client-step reads client_config server_config client server taken after p mine theirs next (takes frame can g) =
    takes-well reads Client client_config server_config client server p mine frame next
    (next-well Server (smaller_limits client_config server_config) server client frame next theirs).numbered g
client-step reads client_config server_config client server taken after p mine theirs next
    (asks ask frames made read e) =
    let runs = (asked Client client_config client (lawful-of reads Client client_config server_config client server p)
    ask frames made read.method e).0 in
    let agreed = agrees-running reads Client client_config server_config client server p runs in
    more-well reads Client client_config server_config client server p mine frames client refl
    (asked-well Client (smaller_limits client_config server_config) (end_from Client client_config false client) agreed
    (least-frame client_config server_config p.client_writes p.server_writes) ask frames read e)
client-step reads client_config server_config client server taken after p mine theirs next
    (controls control frames read e) =
    more-well reads Client client_config server_config client server p mine frames client refl
    (control-well Client client_config (smaller_limits client_config server_config)
    (end_from Client client_config false client) control frames
    (least-frame client_config server_config p.client_writes p.server_writes) p.client_writes
    (all-reads-back reads Client client_config p.client_writes) read e)

server-step : (reads : MethodReadsBack) (client_config : Config Client) (server_config : Config Server)
    (server client : History) (taken : Option Frame) (after : History)
    → PairWrites Server client_config server_config server client
    → AllWell Server (smaller_limits client_config server_config) (frames_put server)
    → AllWell Client (smaller_limits client_config server_config) (frames_put client)
    → AllComeNext client server taken → Goes Server server_config server taken false after
    → AllWell Server (smaller_limits client_config server_config) (frames_put after)
server-step reads client_config server_config server client taken after p mine theirs next greets =
    let back = all-reads-back reads Server server_config p.server_writes in
    let start_said = start-is server_config in
    subst (λ m. AllWell Server (smaller_limits client_config server_config) (method_frame 0 m ∷ []))
    (sym start_said) (
      word-well Server (smaller_limits client_config server_config) (Start (negotiation.start server_config).args)
          (subst ReadsBack start_said back.greeting) refl
          (subst (λ m. frame_length (method_frame 0 m) ≤ FRAME_MIN) start_said p.server_writes.greeting_short)
          (least-frame client_config server_config p.client_writes p.server_writes),
      tt,
    )
server-step reads client_config server_config server client taken after p mine theirs next (takes frame can g) =
    takes-well reads Server client_config server_config server client p mine frame next
    (next-well Client (smaller_limits client_config server_config) client server frame next theirs).numbered g
server-step reads client_config server_config server client taken after p mine theirs next
    (asks ask frames made read e) =
    let runs = (asked Server server_config server (lawful-of reads Server client_config server_config server client p)
    ask frames made read.method e).0 in
    let agreed = agrees-running reads Server client_config server_config server client p runs in
    more-well reads Server client_config server_config server client p mine frames server refl
    (asked-well Server (smaller_limits client_config server_config) (end_from Server server_config false server) agreed
    (least-frame client_config server_config p.client_writes p.server_writes) ask frames read e)
server-step reads client_config server_config server client taken after p mine theirs next
    (controls control frames read e) =
    more-well reads Server client_config server_config server client p mine frames server refl
    (control-well Server server_config (smaller_limits client_config server_config)
    (end_from Server server_config false server) control frames
    (least-frame client_config server_config p.client_writes p.server_writes) p.server_writes
    (all-reads-back reads Server server_config p.server_writes) read e)

record BothWell (client_config : Config Client) (server_config : Config Server) (client server : History) : Type 0 where
  client_well : AllWell Client (smaller_limits client_config server_config) (frames_put client)
  server_well : AllWell Server (smaller_limits client_config server_config) (frames_put server)

both-well : (reads : MethodReadsBack) (client_config : Config Client) (server_config : Config Server)
    → ConfigWrites client_config → ConfigWrites server_config → (client server : History)
    → Pair client_config server_config client server → BothWell client_config server_config client server
both-well reads client_config server_config client_writes server_writes client server both_begin =
    record { client_well = tt; server_well = tt }
both-well reads client_config server_config client_writes server_writes after server
    (client_goes {client = client} {taken = taken} pair next step) =
    let old = both-well reads client_config server_config client_writes server_writes client server pair in
    record {
      client_well = client-step reads client_config server_config client server taken after
          (record { client_writes = client_writes; server_writes = server_writes; pair = pair }) old.client_well
          old.server_well next step;
      server_well = old.server_well;
    }
both-well reads client_config server_config client_writes server_writes client after
    (server_goes {server = server} {taken = taken} pair next step) =
    let old = both-well reads client_config server_config client_writes server_writes client server pair in
    record {
      client_well = old.client_well;
      server_well = server-step reads client_config server_config server client taken after
          (record { client_writes = client_writes; server_writes = server_writes; pair = pair }) old.server_well
          old.client_well next step;
    }

pub puts-well : (reads : MethodReadsBack) → PutsWell
puts-well reads Client client_config server_config mine theirs p =
    (both-well reads client_config server_config p.client_writes p.server_writes mine theirs p.pair).client_well
puts-well reads Server client_config server_config mine theirs p =
    (both-well reads client_config server_config p.client_writes p.server_writes theirs mine p.pair).server_well

pub next-is-well-put : (reads : MethodReadsBack) → NextIsWellPut
next-is-well-put reads Client client_config server_config mine theirs frame p next =
    next-well Server (smaller_limits client_config server_config) theirs mine frame next
    (both-well reads client_config server_config p.client_writes p.server_writes mine theirs p.pair).server_well
next-is-well-put reads Server client_config server_config mine theirs frame p next =
    next-well Client (smaller_limits client_config server_config) theirs mine frame next
    (both-well reads client_config server_config p.client_writes p.server_writes theirs mine p.pair).client_well
