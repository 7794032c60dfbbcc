-- Alike ends answer asks and queries alike.
use Rattle.std.proofs.Common.{◌≡◌, Bool, true, false, cond, not, ◌||◌, ◌&&◌, ℕ, zero, suc, ◌==◌}
use Rattle.std.proofs.Common.{nat_lt, List, [], ◌∷◌, length, Option, Some, refl, ap, ◌∙◌}
use Rattle.amqp_model.specs.History.States.{State}
use Rattle.amqp_model.specs.Wire.Notes.{Role, Client, Server}
use Rattle.amqp_model.specs.Wire.Methods.{is_request, is_reply}
use Rattle.amqp_model.specs.End.Channels as channels
use Rattle.amqp_model.specs.End.Channels.{Life, Channel, Free, Opening, Closing, Phase, Closed}
use Rattle.amqp_model.specs.End.Channels.{Failed, End, state_of}
use Rattle.amqp_model.specs.End.Events.{method_of}
use Rattle.amqp_model.specs.End.FrameVerdict.{answers_first}
use Rattle.amqp_model.specs.End.Asks.{Ask, Open, Send, Flow, CloseChannel, Refusal}
use Rattle.amqp_model.specs.End.Asks.{channel_max, life_of, lacks_life, in_life, is_free, first_free, lowest_free, when}
use Rattle.amqp_model.specs.End.Asks.{first_refusal, is_pausable, opens_on, refused_or_put, refusal, frames_asked}
use Rattle.amqp_model.specs.End.Asks.{ask_verdict, not_running, bad_channel, not_open, paused, not_sendable, too_large}
use Rattle.amqp_model.specs.End.Asks.{flow_pending, no_free_channel, reply_pending, no_such_request, none_free}
use Rattle.amqp_model.specs.End.Asks as asks
use Rattle.amqp_model.specs.End.Answers.{state_in, first_request, due_by, due_in}
use Rattle.amqp_model.specs.Lent.Alike.{AlikeLives, AlikeChannels}
use Rattle.amqp_model.specs.Laws.StreamingLaws.{AsksAlike, AnswersAlike, SameOnChannel}
use Rattle.amqp_model.proofs.AlikeVerdicts.{alike-end}

-- What asks look at of a channel.

lacks-alike : (one other : Channel) → AlikeChannels one other
    → lacks_life (life_of one) ≡ lacks_life (life_of other)
lacks-alike Free Free a = refl
lacks-alike Opening Opening a = refl
lacks-alike Closing Closing a = refl
lacks-alike (channels.Open one) (channels.Open other) a = refl
lacks-alike one other a = absurd a

free-alike : (one other : Channel) → AlikeChannels one other → is_free one ≡ is_free other
free-alike Free Free a = refl
free-alike Opening Opening a = refl
free-alike Closing Closing a = refl
free-alike (channels.Open one) (channels.Open other) a = refl
free-alike one other a = absurd a

-- a word that reads the same in alike lives
life-word : (word : Life → Bool) → ((one other : Life) → AlikeLives one other → word one ≡ word other)
    → (one other : Channel) → AlikeChannels one other
    → in_life (life_of one) word ≡ in_life (life_of other) word
life-word word same Free Free a = refl
life-word word same Opening Opening a = refl
life-word word same Closing Closing a = refl
life-word word same (channels.Open one) (channels.Open other) a = same one other a
life-word word same one other a = absurd a

first-alike : (one other : ℕ → Channel) (many from : ℕ) → ((n : ℕ) → AlikeChannels (one n) (other n))
    → first_free one many from ≡ first_free other many from
first-alike one other zero from a = refl
first-alike one other (suc many) from a =
    ap (λ b. elim b [ true ↦ Some from | false ↦ first_free one many (suc from) ])
    (free-alike (one from) (other from) (a from))
    ∙ ap (λ rest. elim (is_free (other from)) [ true ↦ Some from | false ↦ rest ])
    (first-alike one other many (suc from) a)

cons-same : (rule other : Option Refusal) (rules others : List (Option Refusal)) → rule ≡ other → rules ≡ others
    → rule ∷ rules ≡ other ∷ others
cons-same rule other rules others e es = ap (λ r. r ∷ rules) e ∙ ap (λ rs. other ∷ rs) es

-- An ask, at an end and at one with these channels.

module _ (role : Role) (one : End) (others : ℕ → Channel) (each : (n : ℕ)
    → AlikeChannels (one.channels n) (others n)) where
  abbrev there : End
  there = record { phase = one.phase; agreed = one.agreed; channels = others }

  lowest-alike : lowest_free one ≡ lowest_free there
  lowest-alike = first-alike one.channels others (channel_max one.agreed) 1 each

  open-same : (ask : Ask) → not_open one ask ≡ not_open there ask
  open-same (Send channel message) =
      ap (λ b. when b asks.NotOpen) (lacks-alike (one.channels channel) (others channel) (each channel))
  open-same (Flow channel active) =
      ap (λ b. when b asks.NotOpen) (lacks-alike (one.channels channel) (others channel) (each channel))
  open-same (CloseChannel channel code text cause) =
      ap (λ b. when b asks.NotOpen) (lacks-alike (one.channels channel) (others channel) (each channel))
  open-same ask = refl

  bad-same : (ask : Ask) → bad_channel one ask ≡ bad_channel there ask
  bad-same (Send channel message) = refl
  bad-same ask = refl

  paused-same : (ask : Ask) → paused one ask ≡ paused there ask
  paused-same (Send channel message) =
      ap (λ b. when (is_pausable message && b) asks.Paused) (life-word (λ life. life.paused) (λ l k a. a.paused)
      (one.channels channel) (others channel) (each channel))
  paused-same ask = refl

  large-same : (ask : Ask) → too_large one ask ≡ too_large there ask
  large-same (Send channel message) = refl
  large-same ask = refl

  pending-same : (ask : Ask) → flow_pending one ask ≡ flow_pending there ask
  pending-same (Flow channel active) =
      ap (λ b. when b asks.FlowPending) (life-word (λ life. life.awaits) (λ l k a. a.awaits) (one.channels channel)
      (others channel) (each channel))
  pending-same ask = refl

  none-free-same : (ask : Ask) → no_free_channel one ask ≡ no_free_channel there ask
  none-free-same Open = ap none_free lowest-alike
  none-free-same ask = refl

  reply-same : (role : Role) (ask : Ask) → reply_pending role one ask ≡ reply_pending role there ask
  reply-same Client (Send channel message) =
      ap (λ b. when (is_request (method_of message) && b) asks.ReplyPending)
      (life-word (λ life. nat_lt 0 (length life.requests))
      (λ l k a. ap (λ requests. nat_lt 0 (length requests)) a.requests) (one.channels channel)
      (others channel) (each channel))
  reply-same Client ask = refl
  reply-same Server ask = refl

  turn-same : (role : Role) (ask : Ask) → no_such_request role one ask ≡ no_such_request role there ask
  turn-same Server (Send channel message) =
      ap (λ b. when (is_reply (method_of message).kind && b) asks.NoSuchRequest)
      (life-word (λ life. not (answers_first (method_of message).kind life.requests))
      (λ l k a. ap (λ requests. not (answers_first (method_of message).kind requests)) a.requests)
      (one.channels channel) (others channel) (each channel))
  turn-same Server ask = refl
  turn-same Client ask = refl

  refusal-same : (ask : Ask) → refusal role one ask ≡ refusal role there ask
  refusal-same ask =
      ap first_refusal
      (cons-same (not_running one) _ _ _ refl
      (cons-same (bad_channel one ask) _ _ _ (bad-same ask)
      (cons-same (not_open one ask) _ _ _ (open-same ask)
      (cons-same (paused one ask) _ _ _ (paused-same ask)
      (cons-same (not_sendable role ask) _ _ _ refl
      (cons-same (too_large one ask) _ _ _ (large-same ask)
      (cons-same (flow_pending one ask) _ _ _ (pending-same ask)
      (cons-same (no_free_channel one ask) _ _ _ (none-free-same ask)
      (cons-same (reply_pending role one ask) _ _ _ (reply-same role ask)
      (cons-same (no_such_request role one ask) _ [] [] (turn-same role ask) refl))))))))))

  frames-same : (ask : Ask) → frames_asked one ask ≡ frames_asked there ask
  frames-same Open = ap opens_on lowest-alike
  frames-same (Send channel message) = refl
  frames-same ask = refl

  ask-same : (ask : Ask) → ask_verdict role one ask ≡ ask_verdict role there ask
  ask-same ask =
      ap (λ r. refused_or_put r (frames_asked one ask)) (refusal-same ask)
      ∙ ap (λ frames. refused_or_put (refusal role there ask) frames) (frames-same ask)

pub asks-alike : AsksAlike
asks-alike role one other ask a =
    alike-end one other a (λ end. ask_verdict role one ask ≡ ask_verdict role end ask)
    (ask-same role one other.channels a.channels ask)

-- Queries.

state-alike : (one other : Channel) → AlikeChannels one other → state_of one ≡ state_of other
state-alike Free Free a = refl
state-alike Opening Opening a = refl
state-alike Closing Closing a = refl
state-alike (channels.Open one) (channels.Open other) a = refl
state-alike one other a = absurd a

state-in-alike : (phase : Phase) (one other : Channel) → AlikeChannels one other
    → state_in phase one ≡ state_in phase other
state-in-alike Closed one other a = refl
state-in-alike Failed one other a = refl
state-in-alike phase one other a = state-alike one other a

due-alike : (one other : Channel) → AlikeChannels one other → due_by one ≡ due_by other
due-alike Free Free a = refl
due-alike Opening Opening a = refl
due-alike Closing Closing a = refl
due-alike (channels.Open one) (channels.Open other) a = ap first_request a.requests
due-alike one other a = absurd a

due-in-alike : (phase : Phase) (one other : Channel) → AlikeChannels one other
    → due_in phase one ≡ due_in phase other
due-in-alike Closed one other a = refl
due-in-alike Failed one other a = refl
due-in-alike phase one other a = due-alike one other a

pub answers-alike : AnswersAlike
answers-alike one other number a =
    alike-end one other a (λ end. SameOnChannel one end number)
    (record {
      state = ap (λ state. cond ((number == 0) || nat_lt (channel_max one.agreed) number) State.Free state)
          (state-in-alike one.phase (one.channels number) (other.channels number) (a.channels number));
      request = due-in-alike one.phase (one.channels number) (other.channels number) (a.channels number);
    })
