-- Writing a table, pair by pair.
use Rattle.std.proofs.Common.{◌≡◌, ℕ, zero, suc, ◌<◌, List, [], ◌∷◌, length, take, drop, get_or, Result, Err, IfOk, IfErr, refl, inl, arith}
use Rattle.amqp_value.specs.Plain.{plain_table}
use Rattle.amqp_value.specs.Values.{Pairs}
use Rattle.amqp_calls.specs.Writing.{fault_of, NotMade}
use Rattle.amqp_calls.specs.WritingTables.{AtPair, IsTable, LongTable, NotPair, NotPairs, NotTableOf, WritesTable}
use Rattle.amqp_calls.specs.declared.codec.owned.ArgFault.{ArgFault}
use Rattle.amqp_calls.specs.declared.codec.owned.ArgFault.TheVariants as arg
use Rattle.amqp_calls.specs.declared.codec.tables.Pair.{Pair}
use Rattle.amqp_calls.specs.declared.codec.writing.WriteFault.{WriteFault}
use Rattle.amqp_calls.specs.declared.codec.writing.WriteFault.TheVariants.{UnknownKind, Misfit, Inside, Room, TooLong, OutOfMemory}
use Rattle.amqp_calls.proofs.Unwritten.{put_writes}

at_pair : (pairs : List Pair) (place : ℕ) (d : Pair) (P : Pair → Type 0) → place < length pairs → P (get_or pairs place d) → AtPair place pairs P
at_pair [] place d P here p = absurd (omega (arith, here))
at_pair (pair ∷ pairs) zero d P here p = p
at_pair (pair ∷ pairs) (suc n) d P here p = at_pair pairs n d P (omega (arith, here)) p

pub not_pairs : (pairs : List Pair) (place : ℕ) (d : Pair) (fault : ArgFault) → place < length pairs → NotPair (get_or pairs place d) fault
    → NotPairs pairs (fault_of place fault)
not_pairs pairs place d arg.Misfit here not = at_pair pairs place d _ here not
not_pairs pairs place d (arg.Inside e) here not = at_pair pairs place d _ here not
not_pairs pairs place d arg.OutOfMemory here not = tt

pub not_table : (pairs : List Pair) (fault : WriteFault) → NotPairs pairs fault → NotTableOf pairs fault
not_table pairs UnknownKind not = absurd not
not_table pairs (Misfit place) not = not
not_table pairs (Inside place e) not = inl not
not_table pairs Room not = absurd not
not_table pairs TooLong not = absurd not
not_table pairs OutOfMemory not = tt

abbrev Encodes : List Pair → List ℕ → Type 0
Encodes pairs octets = (table : Pairs) × IsTable pairs table × (octets ≡ plain_table table)

abbrev Long : List Pair → Type 0
Long pairs = (table : Pairs) × IsTable pairs table × LongTable table

pub table_put : (pairs : List Pair) (old octets : List ℕ) (table : Pairs) → IsTable pairs table → octets ≡ plain_table table
    → (put : Result ℕ WriteFault) (new : List ℕ) → IfOk put (λ n. (n ≡ length octets) × (take n new ≡ octets) × (drop n new ≡ drop n old))
    → IfErr put (λ e. (e ≡ Room) × (length old < length octets) × (new ≡ old)) → WritesTable pairs old put new
table_put pairs old octets table is same put new ok err =
    put_writes (Encodes pairs) (Long pairs) (NotTableOf pairs) old octets (table, is, same) put new ok err

pub table_not_made : (pairs : List Pair) (old : List ℕ) (table : Pairs) → IsTable pairs table → (fault : WriteFault) → NotMade (LongTable table) fault
    → WritesTable pairs old (Err fault) old
table_not_made pairs old table is UnknownKind not = absurd not
table_not_made pairs old table is (Misfit place) not = absurd not
table_not_made pairs old table is (Inside place e) not = absurd not
table_not_made pairs old table is Room not = absurd not
table_not_made pairs old table is TooLong not = (refl, (table, is, not))
table_not_made pairs old table is OutOfMemory not = refl

pub table_not : (pairs : List Pair) (old : List ℕ) (fault : WriteFault) → NotTableOf pairs fault → WritesTable pairs old (Err fault) old
table_not pairs old UnknownKind not = absurd not
table_not pairs old (Misfit place) not = (refl, not)
table_not pairs old (Inside place e) not = (refl, not)
table_not pairs old Room not = absurd not
table_not pairs old TooLong not = absurd not
table_not pairs old OutOfMemory not = refl
