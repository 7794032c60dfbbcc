-- Values written one by one.
use Rattle.std.proofs.Common.{◌≡◌, ℕ, ◌+◌, ◌<◌, ◌≤◌, List, [], ◌∷◌, ◌++◌, length, map, take, drop, get_or, Result, Ok, Err, refl, sym, ap, ◌∙◌, append_assoc, arith, length-take}
use Rattle.std.specs.Prelude.{OnOk}
use Rattle.std.proofs.lemmas.List.{append-nil, drop_all, take_at, take-append-le, take-take}
use Rattle.amqp_method.specs.Arguments.{Argument, nothing}
use Rattle.amqp_method.specs.Methods.{FieldRow}
use Rattle.amqp_method.specs.Plain.{value_for, args_left_by, complete, CountFits, CountsAllFit}
use Rattle.amqp_method.specs.Rows.{field_view}
use Rattle.amqp_method.specs.Writing.{Gathered, none_gathered, gathered_octets, written_for, gathered_after, written_values, Fitting, AllFitting}
use Rattle.amqp_method.specs.declared.fields.Field.{Field}
use Rattle.amqp_method.specs.declared.fields.FieldKind.{FieldKind}
use Rattle.amqp_method.specs.declared.fields.FieldKind.TheVariants.{Bit, Octet, Short, Long, LongLong, ShortStr, LongStr, Table}
use Rattle.amqp_method.proofs.FitLemmas.{field_here}

-- zero, and nothing, fit their fields
pub nothing_fits : (kind : FieldKind) → Fitting (nothing kind)
nothing_fits Bit = tt
nothing_fits Octet = record { fits = omega arith; octets_are = refl }
nothing_fits Short = record { fits = omega arith; octets_are = refl }
nothing_fits Long = record { fits = omega arith; octets_are = refl }
nothing_fits LongLong = record { fits = omega arith; octets_are = refl }
nothing_fits ShortStr = record { fits = omega arith; octets_are = refl }
nothing_fits LongStr = record { fits = omega arith; octets_are = refl }
nothing_fits Table = (omega arith, ([], record { fits = omega arith; octets_are = refl }, refl))

-- octets were written for some of the values, and the others are left
pub record WritesOn (old done : List ℕ) (values : List Argument) (g : Gathered) (all : List Argument) : Type 0 where
  pub joined : done ++ written_values values g ≡ old ++ written_values all none_gathered
  pub fits : AllFitting values → AllFitting all
  pub counts : CountsAllFit all → CountsAllFit values
  pub kept : take (length old) done ≡ old

-- the values of the fields from one on
abbrev pub values_from : ℕ → List Field → List Argument → List Argument
values_from i fields args = complete (map field_view (drop i fields)) args

pub values_here : (fields : List Field) (i : ℕ) (d : Field) (args : List Argument) → i < length fields
    → values_from i fields args ≡ value_for (get_or fields i d).reserved (get_or fields i d).kind args ∷ values_from (i + 1) fields (args_left_by (get_or fields i d).reserved args)
values_here fields i d args h = ap (λ (f : List FieldRow). complete f args) (field_here fields i d h)

pub begins : (old : List ℕ) (all : List Argument) → WritesOn old old all none_gathered all
begins old all = record { joined = refl; fits = λ h. h; counts = λ h. h; kept = all_of old }
  where
    all_of : (xs : List ℕ) → take (length xs) xs ≡ xs
    all_of xs = ap (take (length xs)) (sym (append-nil xs)) ∙ take_at xs [] (length xs) refl

-- one value more is written
pub goes_on : (old done next : List ℕ) (value : Argument) (values left : List Argument) (g after : Gathered) (all : List Argument)
    → left ≡ value ∷ values → next ≡ done ++ written_for value g → after ≡ gathered_after value g → Fitting value
    → WritesOn old done left g all → WritesOn old next values after all
unfolding written_values
goes_on old done next value values left g after all is next_is after_is fits w =
    let joined : done ++ (written_for value g ++ written_values values (gathered_after value g)) ≡ old ++ written_values all none_gathered = rw is at w.joined in
    let long : length (take (length old) done) ≡ length old = ap length w.kept in
    let within : length old ≤ length done = omega (arith, long, length-take (length old) done) in
    record {
      joined = rw (next_is, after_is) (append_assoc done (written_for value g) (written_values values (gathered_after value g)) ∙ joined);
      fits = λ h. w.fits (rw is (fits, h));
      counts = λ h. let c : CountsAllFit (value ∷ values) = rw is at (w.counts h) in c.1;
      kept = rw (next_is, take-append-le (length old) done (written_for value g) within) w.kept;
    }

-- the counts of a value that is left fit, where all do
pub count_here : (old done : List ℕ) (value : Argument) (values left : List Argument) (g : Gathered) (all : List Argument) → left ≡ value ∷ values
    → WritesOn old done left g all → CountsAllFit all → CountFits value
count_here old done value values left g all is w h = let c : CountsAllFit (value ∷ values) = rw is at (w.counts h) in c.0

-- what keeps the octets written keeps those before them
pub still_kept : (old done next : List ℕ) → take (length old) done ≡ old → take (length done) next ≡ done → take (length old) next ≡ old
still_kept old done next kept e =
    let long : length (take (length old) done) ≡ length old = ap length kept in
    let within : length old ≤ length done = omega (arith, long, length-take (length old) done) in
    sym (take-take (length old) (length done) next within) ∙ ap (take (length old)) e ∙ kept

-- all values are written
pub ended : (old done next : List ℕ) (fields : List Field) (i : ℕ) (args : List Argument) (g : Gathered) (all : List Argument) → length fields ≤ i → WritesOn old done (values_from i fields args) g all
    → next ≡ done ++ gathered_octets g → next ≡ old ++ written_values all none_gathered
unfolding written_values
ended old done next fields i args g all h w next_is =
    let none : values_from i fields args ≡ [] = rw (drop_all i fields h) refl in
    let joined : done ++ gathered_octets g ≡ old ++ written_values all none_gathered = rw none at w.joined in
    next_is ∙ joined

pub on_ok : {T E : Type 0} {P Q : Type 0} (r : Result T E) → (P → Q) → OnOk r P → OnOk r Q
on_ok (Ok x) f h = f h
on_ok (Err e) f h = h

-- the value of one field more is written
pub next_field : (fields : List Field) (i : ℕ) (d : Field) (args others : List Argument) (old done next : List ℕ) (g after : Gathered) (all : List Argument) → i < length fields
    → others ≡ args_left_by (get_or fields i d).reserved args
    → next ≡ done ++ written_for (value_for (get_or fields i d).reserved (get_or fields i d).kind args) g
    → after ≡ gathered_after (value_for (get_or fields i d).reserved (get_or fields i d).kind args) g
    → Fitting (value_for (get_or fields i d).reserved (get_or fields i d).kind args)
    → WritesOn old done (values_from i fields args) g all → WritesOn old next (values_from (i + 1) fields others) after all
next_field fields i d args others old done next g after all h left next_is after_is fits w =
    goes_on old done next _ _ _ g after all (values_here fields i d args h ∙ ap (λ (a : List Argument). value_for (get_or fields i d).reserved (get_or fields i d).kind args ∷ values_from (i + 1) fields a) (sym left)) next_is after_is fits w

pub count_of_field : (fields : List Field) (i : ℕ) (d : Field) (args : List Argument) (old done : List ℕ) (g : Gathered) (all : List Argument) → i < length fields
    → WritesOn old done (values_from i fields args) g all → CountsAllFit all → CountFits (value_for (get_or fields i d).reserved (get_or fields i d).kind args)
count_of_field fields i d args old done g all h w fit = count_here old done _ _ _ g all (values_here fields i d args h) w fit

pub both_ok : {T E : Type 0} {P Q R : Type 0} (r : Result T E) → (P → Q → R) → OnOk r P → OnOk r Q → OnOk r R
both_ok (Ok x) f h k = f h k
both_ok (Err e) f h k = h
