-- Five of the words are one recursion, `since`; the others are read by themselves.
use Rattle.amqp_model.specs.History.Lives.{before_leaving, is_opening}
use Rattle.amqp_model.proofs.Words.{since_reads, how_many_reads, state_reads, has_left_reads, before_leaving_reads}
use Rattle.amqp_model.proofs.lives.words_read.Goals as goal

pub returns : goal.returns
returns c =
    record {
      waits = since_reads _ _;
      alive = λ role history. since_reads _ _ history;
      lives = λ role history. how_many_reads (is_opening role) history;
      open_ok = λ role history. since_reads _ _ history;
      awaits_flow_ok = λ role history. since_reads _ _ history;
      paused = λ role history. since_reads _ _ history;
      pauses_other = λ role history. since_reads _ _ history;
      left = has_left_reads;
      before_leaving = before_leaving_reads;
      state = λ role history word. state_reads role (before_leaving history) word;
    }
