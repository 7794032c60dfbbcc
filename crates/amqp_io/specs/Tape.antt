-- What callers see of a script, and what its next answer does.
use Rattle.std.specs.Prelude.{ℕ, List, [], ◌∷◌, min, Option, Some, None, Result, Ok, Err}
use Rattle.amqp_io.specs.declared.faults.StreamFailed.{StreamFailed}
use Rattle.amqp_io.specs.declared.script.Answer.{Answer}
use Rattle.amqp_io.specs.declared.script.Answer.TheVariants.{Octets, Fail, End}

-- A stream in memory: the octets that reads will give, those that writes took, the answers that are not used yet, and
-- the marks of failures and of the input's end.
pub record Tape : Type 0 where
  pub to_give : List ℕ
  pub taken : List ℕ
  pub answers : List Answer
  pub failures : ℕ
  pub ends : ℕ

-- How many octets the next call moves where it could move n. None: it fails.
abbrev pub moved : List Answer → ℕ → Option ℕ
moved [] n = Some n
moved (Octets limit ∷ later) n = Some (min limit n)
moved (End ∷ later) n = Some 0
moved (Fail ∷ later) n = None

-- what a read answers that moves so many octets, or fails
abbrev pub answer_of : Option ℕ → Result ℕ StreamFailed
answer_of (Some n) = Ok n
answer_of None = Err (record {})
