-- One value for each field: the arguments that fit, and nothing for the reserved fields.
use Rattle.std.proofs.Common.{◌≡◌, ℕ, List, [], ◌∷◌, ◌++◌, map, Bool, true, false, refl, sym, ap, ◌∙◌, append_assoc, arith}
use Rattle.byteorder.specs.Endian.{big_bytes}
use Rattle.amqp_method.specs.Arguments.{Argument, short, nothing, kind_of, keep, kept, wanted_kind, wanted, Fit, Call, Fits}
use Rattle.amqp_method.specs.Kinds.{fields_of}
use Rattle.amqp_method.specs.Methods.{FieldRow, row}
use Rattle.amqp_method.specs.Plain.{plain_values, plain_method, value_for, args_left_by, complete, CountFits, CountsAllFit}
use Rattle.amqp_method.specs.Encoding.{EncodesMethod}
use Rattle.amqp_method.specs.Writing.{none_gathered, written_values, Fitting, AllFitting}
use Rattle.amqp_method.specs.declared.fields.FieldKind.{FieldKind}
use Rattle.amqp_method.specs.declared.fields.FieldKind.TheVariants.{Bit, Octet, Short, Long, LongLong, ShortStr, LongStr, Table}
use Rattle.amqp_method.proofs.ArgsLemmas.{kinds_of}
use Rattle.amqp_method.proofs.PlainLemmas.{plain_values-encode, written_values-plain}

nothing-kind : (kind : FieldKind) → kind_of (nothing kind) ≡ kind
nothing-kind Bit = refl
nothing-kind Octet = refl
nothing-kind Short = refl
nothing-kind Long = refl
nothing-kind LongLong = refl
nothing-kind ShortStr = refl
nothing-kind LongStr = refl
nothing-kind Table = refl

nothing-count : (kind : FieldKind) → CountFits (nothing kind)
nothing-count Bit = tt
nothing-count Octet = tt
nothing-count Short = tt
nothing-count Long = tt
nothing-count LongLong = tt
nothing-count ShortStr = tt
nothing-count LongStr = omega arith
nothing-count Table = (omega arith, tt)

-- what arguments that fit the first field and others are
record FirstFits (reserved : Bool) (kind : FieldKind) (fields : List FieldRow) (args : List Argument) : Type 0 where
  kind_is : kind_of (value_for reserved kind args) ≡ kind
  others : Fit fields (args_left_by reserved args)
  kept_is : keep reserved (value_for reserved kind args) (args_left_by reserved args) ≡ args

first_fits : (reserved : Bool) (kind : FieldKind) (fields : List FieldRow) (args : List Argument) → map kind_of args ≡ wanted_kind reserved kind (wanted fields) → FirstFits reserved kind fields args
first_fits true kind fields args h = record { kind_is = nothing-kind kind; others = h; kept_is = refl }
first_fits false kind fields [] h = absurd cc
first_fits false kind fields (value ∷ args) h = record { kind_is = cc; others = cc; kept_is = refl }

complete-kinds : (fields : List FieldRow) (args : List Argument) → Fit fields args → map kind_of (complete fields args) ≡ kinds_of fields
complete-kinds [] args h = refl
complete-kinds (f ∷ fields) args h =
    let first = first_fits f.reserved f.kind fields args h in
    rw (first.kind_is, complete-kinds fields (args_left_by f.reserved args) first.others) refl

no_args : (args : List Argument) → map kind_of args ≡ [] → args ≡ []
no_args [] h = refl
no_args (value ∷ args) h = absurd cc

complete-kept : (fields : List FieldRow) (args : List Argument) → Fit fields args → args ≡ kept fields (complete fields args)
complete-kept [] args h = no_args args h
complete-kept (f ∷ fields) args h =
    let first = first_fits f.reserved f.kind fields args h in
    sym first.kept_is ∙ ap (keep f.reserved (value_for f.reserved f.kind args)) (complete-kept fields (args_left_by f.reserved args) first.others)

value-count : (reserved : Bool) (kind : FieldKind) (args : List Argument) → CountsAllFit args → CountFits (value_for reserved kind args)
value-count true kind args h = nothing-count kind
value-count false kind [] h = nothing-count kind
value-count false kind (value ∷ args) h = h.0

left-counts : (reserved : Bool) (args : List Argument) → CountsAllFit args → CountsAllFit (args_left_by reserved args)
left-counts true args h = h
left-counts false [] h = tt
left-counts false (value ∷ args) h = h.1

pub complete-counts : (fields : List FieldRow) (args : List Argument) → CountsAllFit args → CountsAllFit (complete fields args)
complete-counts [] args h = tt
complete-counts (f ∷ fields) args h = (value-count f.reserved f.kind args h, complete-counts fields (args_left_by f.reserved args) (left-counts f.reserved args h))

-- the ids and the arguments were written
pub method_written : (c : Call) (old first second new : List ℕ) (class id : ℕ) (fields : List FieldRow) (args : List Argument)
    → class ≡ (row c.kind).class → id ≡ (row c.kind).id → fields ≡ fields_of c.kind → args ≡ c.args
    → first ≡ old ++ big_bytes 2 class → second ≡ first ++ big_bytes 2 id → new ≡ second ++ written_values (complete fields args) none_gathered → new ≡ old ++ plain_method c
method_written c old first second new class id fields args class_is id_is fields_are args_are a b d =
    let rest = plain_values (complete (fields_of c.kind) c.args) in
    let values : written_values (complete fields args) none_gathered ≡ rest = rw (fields_are, args_are) (written_values-plain (complete (fields_of c.kind) c.args)) in
    let third : new ≡ second ++ rest = d ∙ ap (λ (o : List ℕ). second ++ o) values in
    let whole : new ≡ ((old ++ big_bytes 2 class) ++ big_bytes 2 id) ++ rest = third ∙ ap (λ (o : List ℕ). o ++ rest) (b ∙ ap (λ (o : List ℕ). o ++ big_bytes 2 id) a) in
    let grouped = append_assoc (old ++ big_bytes 2 class) (big_bytes 2 id) rest ∙ append_assoc old (big_bytes 2 class) (big_bytes 2 id ++ rest) in
    whole ∙ grouped ∙ ap (λ (n : ℕ). old ++ (big_bytes 2 n ++ (big_bytes 2 id ++ rest))) class_is ∙ ap (λ (n : ℕ). old ++ (big_bytes 2 (row c.kind).class ++ (big_bytes 2 n ++ rest))) id_is

-- the plain encoding of a method is an encoding of it
pub method_encoded : (c : Call) (class id : ℕ) (fields : List FieldRow) (args : List Argument)
    → class ≡ (row c.kind).class → id ≡ (row c.kind).id → fields ≡ fields_of c.kind → args ≡ c.args
    → Fits c → Fitting (short class) → Fitting (short id) → AllFitting (complete fields args) → EncodesMethod c (plain_method c)
method_encoded c class id fields args class_is id_is fields_are args_are fit class_fits id_fits fitting =
    let all : AllFitting (complete (fields_of c.kind) c.args) = rw (fields_are, args_are) at fitting in
    record {
      class = big_bytes 2 (row c.kind).class;
      id = big_bytes 2 (row c.kind).id;
      arguments = plain_values (complete (fields_of c.kind) c.args);
      octets_are = refl;
      class_is = rw class_is at class_fits;
      id_is = rw id_is at id_fits;
      args = record {
        values = complete (fields_of c.kind) c.args;
        kinds_are = complete-kinds (fields_of c.kind) c.args fit;
        args_are = complete-kept (fields_of c.kind) c.args fit;
        encoded = plain_values-encode (complete (fields_of c.kind) c.args) all;
      };
    }
