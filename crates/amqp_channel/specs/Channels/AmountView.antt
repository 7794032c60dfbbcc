-- How much is kept of one content, and of all of them together, and what a change of one makes of the sums.
-- Read before: the model's `End.Amounts`.
use Rattle.std.specs.Prelude.{◌≡◌, ◌≤◌, ◌+◌, ◌*◌, ◌^◌}
use Rattle.amqp_channel.specs.declared.amounts.Amount.{Amount}
use Rattle.amqp_channel.specs.declared.amounts.Amounts.{Amounts}

-- so much is counted in the sums, which are those of channels whose numbers have 16 bits and whose counts have 64
pub record IsPartOf (amounts : Amounts) (amount : Amount) : Type 0 where
  pub header : amount.header ≤ amounts.headers
  pub body : amount.body ≤ amounts.bodies
  pub headers : amounts.headers ≤ 65535 * 2 ^ 64
  pub bodies : amounts.bodies ≤ 65535 * 2 ^ 64

-- the sums where so much was kept of one content before, and so much is left
pub record ChangesBy (before left : Amount) (old new : Amounts) : Type 0 where
  pub headers : new.headers + before.header ≡ old.headers + left.header
  pub bodies : new.bodies + before.body ≡ old.bodies + left.body
