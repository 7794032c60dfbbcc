-- What callers see of a `Table`.
use Rattle.std.specs.Prelude.{ℕ}
use Rattle.amqp_value.specs.Values.{Pairs}
use Rattle.amqp_value.specs.View.{pairs_view}
use Rattle.amqp_value.specs.declared.tables.Table.{Table}

abbrev pub table_view : Table → Pairs
table_view t = pairs_view t.pairs.items

-- a table that was read, and how many octets it has
abbrev pub read_view : Table × ℕ → Pairs × ℕ
read_view x = (table_view x.0, x.1)
