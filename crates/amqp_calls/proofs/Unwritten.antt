-- Why values aren't written.
use Rattle.std.proofs.Common.{take, Result, Ok, Err, IfOk, IfErr, ap, subst, ◌∙◌, ◌≡◌, ℕ, zero, suc, ◌<◌, List, [], ◌∷◌, length, get_or, drop, ◌+◌, refl, inl, arith, add-one, drop-cons}
use Rattle.amqp_method.specs.Arguments.{Argument, Call}
use Rattle.amqp_method.specs.Plain.{plain_method}
use Rattle.amqp_calls.specs.Hearing.{WritesCall}
use Rattle.amqp_calls.specs.Values.{all_there}
use Rattle.amqp_calls.specs.Writing.{fault_of, At, IsMethod, NotAllOwned, NotEncoded, NotMade, NotMethod, NotOwned, Writes, WritesMethod}
use Rattle.amqp_calls.specs.declared.codec.owned.ArgFault.{ArgFault}
use Rattle.amqp_calls.specs.declared.codec.owned.ArgFault.TheVariants as arg
use Rattle.amqp_calls.specs.declared.codec.values.Value.{Value}
use Rattle.amqp_calls.specs.declared.codec.writing.WriteFault.{WriteFault}
use Rattle.amqp_calls.specs.declared.codec.writing.WriteFault.TheVariants.{UnknownKind, Misfit, Inside, Room, TooLong, OutOfMemory}

-- what holds of the value that stands at a place
pub at_place : (values : List Value) (place : ℕ) (d : Value) (P : Value → Type 0) → place < length values → P (get_or values place d) → At place values P
at_place [] place d P here p = absurd (omega (arith, here))
at_place (v ∷ values) zero d P here p = p
at_place (v ∷ values) (suc n) d P here p = at_place values n d P (omega (arith, here)) p

pub not_all : (values : List Value) (place : ℕ) (d : Value) (fault : ArgFault) → place < length values → NotOwned (get_or values place d) fault
    → NotAllOwned values (fault_of place fault)
not_all values place d arg.Misfit here not = at_place values place d _ here not
not_all values place d (arg.Inside e) here not = at_place values place d _ here not
not_all values place d arg.OutOfMemory here not = tt

pub not_method : (number : ℕ) (values : List Value) (fault : WriteFault) → NotAllOwned values fault → NotMethod number values fault
not_method number values UnknownKind not = absurd not
not_method number values (Misfit place) not = inl not
not_method number values (Inside place e) not = not
not_method number values Room not = absurd not
not_method number values TooLong not = absurd not
not_method number values OutOfMemory not = tt

pub value_here : (values : List Value) (place : ℕ) (d : Value) → place < length values → drop place values ≡ get_or values place d ∷ drop (place + 1) values
value_here values place d here = rw (add-one, drop-cons values place d) refl

-- arguments that are there are the same
pub same_there : (args others : List Argument) → all_there args ≡ all_there others → args ≡ others
same_there [] [] e = refl
same_there [] (other ∷ others) e = absurd cc
same_there (arg ∷ args) [] e = absurd cc
same_there (arg ∷ args) (other ∷ others) e =
    let first : arg ≡ other = cc in
    let rest : all_there args ≡ all_there others = cc in
    rw (first, same_there args others rest) refl

-- what was put into the room is written, or there was no room for it
pub is_put : (number : ℕ) (values : List Value) (old : List ℕ) (c : Call) → IsMethod number values c → (octets : List ℕ) → octets ≡ plain_method c
    → (put : Result ℕ WriteFault) (new : List ℕ) → IfOk put (λ n. (n ≡ length octets) × (take n new ≡ octets) × (drop n new ≡ drop n old))
    → IfErr put (λ e. (e ≡ Room) × (length old < length octets) × (new ≡ old)) → WritesMethod number values old put new
is_put number values old c is octets same (Ok n) new ok err = (c, is, ok.0 ∙ ap length same, ok.1 ∙ same, ok.2)
is_put number values old c is octets same (Err UnknownKind) new ok err = absurd cc
is_put number values old c is octets same (Err (Misfit place)) new ok err = absurd cc
is_put number values old c is octets same (Err (Inside place e)) new ok err = absurd cc
is_put number values old c is octets same (Err Room) new ok err = (err.2, c, is, subst (λ (o : List ℕ). length old < length o) same err.1)
is_put number values old c is octets same (Err TooLong) new ok err = absurd cc
is_put number values old c is octets same (Err OutOfMemory) new ok err = absurd cc

pub not_put : (number : ℕ) (values : List Value) (old : List ℕ) (c : Call) → IsMethod number values c → (fault : WriteFault) → NotEncoded c fault
    → WritesMethod number values old (Err fault) old
not_put number values old c is UnknownKind not = absurd not
not_put number values old c is (Misfit place) not = absurd not
not_put number values old c is (Inside place e) not = absurd not
not_put number values old c is Room not = absurd not
not_put number values old c is TooLong not = (refl, c, is, not)
not_put number values old c is OutOfMemory not = refl

-- ---- anything that octets encode

pub put_writes : (Encode : List ℕ → Type 0) (Long : Type 0) (Not : WriteFault → Type 0) (old octets : List ℕ) → Encode octets → (put : Result ℕ WriteFault) (new : List ℕ)
    → IfOk put (λ n. (n ≡ length octets) × (take n new ≡ octets) × (drop n new ≡ drop n old))
    → IfErr put (λ e. (e ≡ Room) × (length old < length octets) × (new ≡ old)) → Writes Encode Long Not old put new
put_writes Encode Long Not old octets is (Ok n) new ok err = (octets, is, ok.0, ok.1, ok.2)
put_writes Encode Long Not old octets is (Err UnknownKind) new ok err = absurd cc
put_writes Encode Long Not old octets is (Err (Misfit place)) new ok err = absurd cc
put_writes Encode Long Not old octets is (Err (Inside place e)) new ok err = absurd cc
put_writes Encode Long Not old octets is (Err Room) new ok err = (err.2, octets, is, err.1)
put_writes Encode Long Not old octets is (Err TooLong) new ok err = absurd cc
put_writes Encode Long Not old octets is (Err OutOfMemory) new ok err = absurd cc

pub not_made : (Encode : List ℕ → Type 0) (Long : Type 0) (Not : WriteFault → Type 0) (old : List ℕ) (fault : WriteFault) → NotMade Long fault → Writes Encode Long Not old (Err fault) old
not_made Encode Long Not old UnknownKind not = absurd not
not_made Encode Long Not old (Misfit place) not = absurd not
not_made Encode Long Not old (Inside place e) not = absurd not
not_made Encode Long Not old Room not = absurd not
not_made Encode Long Not old TooLong not = (refl, not)
not_made Encode Long Not old OutOfMemory not = refl

-- a method whose octets aren't made isn't written
pub not_encoded : (call : Call) (old : List ℕ) (fault : WriteFault) → NotEncoded call fault → WritesCall call old (Err fault) old
not_encoded call old UnknownKind not = absurd not
not_encoded call old (Misfit place) not = absurd not
not_encoded call old (Inside place e) not = absurd not
not_encoded call old Room not = absurd not
not_encoded call old TooLong not = (refl, not)
not_encoded call old OutOfMemory not = refl
