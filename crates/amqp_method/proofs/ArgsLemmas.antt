-- The arguments of a method: what is read is encoded so, and what is encoded so is read.
use Rattle.std.proofs.Common.{◌≡◌, ℕ, zero, suc, ◌/◌, ◌<◌, List, [], ◌∷◌, ◌++◌, map, Bool, Ok, refl, sym, ap, subst, ◌∙◌, append_assoc, arith}
use Rattle.std.proofs.Math.Nat.{mod-eq_of_lt}
use Rattle.byteorder.specs.Endian.{big_bytes}
use Rattle.amqp_value.proofs.Elements.{bind_ok}
use Rattle.amqp_value.proofs.Numbers.{IsBytes}
use Rattle.amqp_value.specs.Fields.{EncodesNumber}
use Rattle.amqp_method.specs.Arguments.{Argument, bit, octet, short, long, long_long, short_string, long_string, table, kind_of, keep, kept}
use Rattle.amqp_method.specs.Methods.{FieldRow}
use Rattle.amqp_method.specs.Reading.{Read, Bits, no_bits, read_number, short_string_at, long_string_at, field_table_at, read_bit, ends_run, field_at, args_at}
use Rattle.amqp_method.specs.Encoding.{EncodesArgument, one, parts_of, EncodesParts}
use Rattle.amqp_method.specs.declared.fields.FieldKind.{FieldKind}
use Rattle.amqp_method.specs.declared.fields.FieldKind.TheVariants.{Bit, Octet, Short, Long, LongLong, ShortStr, LongStr, Table}
use Rattle.amqp_method.proofs.FieldLemmas.{same_ok, Takes, read_number-takes, read_number-again, short_string_at-takes, short_string_at-again, long_string_at-takes, long_string_at-again, field_table_at-takes, field_table_at-again}
use Rattle.amqp_method.proofs.RunLemmas.{EncodesOn, on_parts, off_parts, on_bit, off_bit, on_octet, off_octet}

-- an octet is the encoding of its number
octet_of : (n : ℕ) → n < 256 → n ∷ [] ≡ big_bytes 1 n
octet_of n h = ap (λ (m : ℕ). m ∷ []) (sym (mod-eq_of_lt h))

-- ---- what is read is encoded so

-- a value that was read, before values that are encoded
pub record TakesField (kind : FieldKind) (bits : Bits) (octets : List ℕ) (value : Argument) (others : Bits) (beyond : List ℕ) : Type 0 where
  pub kind_is : kind_of value ≡ kind
  pub encoded : (values : List Argument) (prefix after : List ℕ) → beyond ≡ prefix ++ after → EncodesOn others.left others.packed (parts_of values) prefix
      → (whole : List ℕ) × (octets ≡ whole ++ after) × EncodesOn bits.left bits.packed (parts_of (value ∷ values)) whole
  pub after_fits : IsBytes beyond

-- a field that has octets of its own ends the run before it
takes_one : (kind : FieldKind) (bits : Bits) (octets : List ℕ) (value : Argument) (beyond : List ℕ) → kind_of value ≡ kind
    → ((values : List Argument) → parts_of (value ∷ values) ≡ one value ∷ parts_of values)
    → Takes (EncodesArgument value) octets beyond → TakesField kind bits octets value no_bits beyond
takes_one kind bits octets value beyond kind_is alone takes = record {
  kind_is = kind_is;
  encoded = λ values prefix after e h. (
    takes.prefix ++ prefix,
    takes.parts ∙ ap (λ (o : List ℕ). takes.prefix ++ o) e ∙ sym (append_assoc takes.prefix prefix after),
    rw (alone values) (takes.prefix, prefix, refl, takes.encodes, off_parts 0 (parts_of values) prefix h),
  );
  after_fits = takes.after_fits;
}

pub record TakesStep (kind : FieldKind) (bits : Bits) (octets : List ℕ) (x : (Argument × Bits) × List ℕ) : Type 0 where
  pub takes : TakesField kind bits octets x.0.0 x.0.1 x.1

takes_run : {X : Type 0} (kind : FieldKind) (bits : Bits) (octets : List ℕ) (make : X → Argument) (read : Read X) (x : (Argument × Bits) × List ℕ)
    → ((v : X) → kind_of (make v) ≡ kind) → ((v : X) (values : List Argument) → parts_of (make v ∷ values) ≡ one (make v) ∷ parts_of values)
    → ((y : X × List ℕ) → read ≡ Ok y → Takes (EncodesArgument (make y.0)) octets y.1)
    → ends_run make read ≡ Ok x → TakesStep kind bits octets x
takes_run kind bits octets make read x kind_is alone takes e =
    let b = bind_ok read _ x e in
    subst (TakesStep kind bits octets) (same_ok _ _ b.2) (record { takes = takes_one kind bits octets (make b.0.0) b.0.1 (kind_is b.0.0) (alone b.0.0) (takes b.0 b.1) })

takes_bit : (left packed end : ℕ) (octets : List ℕ) (x : (Argument × Bits) × List ℕ) → IsBytes octets → read_bit left packed end octets ≡ Ok x
    → TakesStep Bit (record { left = left; packed = packed }) octets x
takes_bit zero packed end octets x fits e =
    let b = bind_ok (read_number 1 end octets) _ x e in
    let takes = read_number-takes 1 end octets b.0 fits b.1 in
    let n = b.0.0 in
    let below : n < 256 = omega (arith, takes.encodes.fits) in
    let alone : takes.prefix ≡ n ∷ [] = takes.encodes.octets_are ∙ sym (octet_of n below) in
    subst (TakesStep Bit (record { left = zero; packed = packed }) octets) (same_ok _ _ b.2) (record {
      takes = record {
        kind_is = refl;
        encoded = λ values prefix after e h.
            (n ∷ prefix, takes.parts ∙ rw (alone, e) refl, on_octet packed n (parts_of values) prefix below h);
        after_fits = takes.after_fits;
      };
    })
takes_bit (suc left) packed end octets x fits e =
    subst (TakesStep Bit (record { left = suc left; packed = packed }) octets) (same_ok _ _ e) (record {
      takes = record {
        kind_is = refl;
        encoded = λ values prefix after e h. (prefix, e, on_bit left packed (parts_of values) prefix h);
        after_fits = fits;
      };
    })

pub field_at-takes : (kind : FieldKind) (bits : Bits) (end : ℕ) (octets : List ℕ) (x : (Argument × Bits) × List ℕ) → IsBytes octets → field_at kind bits end octets ≡ Ok x
    → TakesStep kind bits octets x
unfolding field_at
field_at-takes Bit bits end octets x fits e = takes_bit bits.left bits.packed end octets x fits e
field_at-takes Octet bits end octets x fits e = takes_run Octet bits octets octet (read_number 1 end octets) x (λ v. refl) (λ v values. refl) (λ y. read_number-takes 1 end octets y fits) e
field_at-takes Short bits end octets x fits e = takes_run Short bits octets short (read_number 2 end octets) x (λ v. refl) (λ v values. refl) (λ y. read_number-takes 2 end octets y fits) e
field_at-takes Long bits end octets x fits e = takes_run Long bits octets long (read_number 4 end octets) x (λ v. refl) (λ v values. refl) (λ y. read_number-takes 4 end octets y fits) e
field_at-takes LongLong bits end octets x fits e = takes_run LongLong bits octets long_long (read_number 8 end octets) x (λ v. refl) (λ v values. refl) (λ y. read_number-takes 8 end octets y fits) e
field_at-takes ShortStr bits end octets x fits e = takes_run ShortStr bits octets short_string (short_string_at end octets) x (λ v. refl) (λ v values. refl) (λ y. short_string_at-takes end octets y fits) e
field_at-takes LongStr bits end octets x fits e = takes_run LongStr bits octets long_string (long_string_at end octets) x (λ v. refl) (λ v values. refl) (λ y. long_string_at-takes end octets y fits) e
field_at-takes Table bits end octets x fits e = takes_run Table bits octets table (field_table_at end octets) x (λ v. refl) (λ v values. refl) (λ y. field_table_at-takes end octets y fits) e

-- the kinds of the fields, in order
abbrev pub kinds_of : List FieldRow → List FieldKind
kinds_of fields = map (λ (f : FieldRow). f.kind) fields

-- arguments that were read
pub record TakesArgs (fields : List FieldRow) (bits : Bits) (octets : List ℕ) (x : List Argument × List ℕ) : Type 0 where
  pub values : List Argument
  pub prefix : List ℕ
  pub parts : octets ≡ prefix ++ x.1
  pub kinds_are : map kind_of values ≡ kinds_of fields
  pub args_are : x.0 ≡ kept fields values
  pub encoded : EncodesOn bits.left bits.packed (parts_of values) prefix
  pub after_fits : IsBytes x.1

pub args_at-takes : (fields : List FieldRow) (bits : Bits) (end : ℕ) (octets : List ℕ) (x : List Argument × List ℕ) → IsBytes octets → args_at fields bits end octets ≡ Ok x
    → TakesArgs fields bits octets x
unfolding args_at
args_at-takes [] bits end octets x fits e =
    subst (TakesArgs [] bits octets) (same_ok _ _ e) (record { values = []; prefix = []; parts = refl; kinds_are = refl; args_are = refl; encoded = refl; after_fits = fits })
args_at-takes (f ∷ fields) bits end octets x fits e =
    let b = bind_ok (field_at f.kind bits end octets) _ x e in
    let step = (field_at-takes f.kind bits end octets b.0 fits b.1).takes in
    let d = bind_ok (args_at fields b.0.0.1 end b.0.1) _ x b.2 in
    let inside = args_at-takes fields b.0.0.1 end b.0.1 d.0 step.after_fits d.1 in
    let all = step.encoded inside.values inside.prefix d.0.1 inside.parts inside.encoded in
    subst (TakesArgs (f ∷ fields) bits octets) (same_ok _ _ d.2) (record {
      values = b.0.0.0 ∷ inside.values;
      prefix = all.0;
      parts = all.1;
      kinds_are = rw (step.kind_is, inside.kinds_are) refl;
      args_are = ap (keep f.reserved b.0.0.0) inside.args_are;
      encoded = all.2;
      after_fits = inside.after_fits;
    })

-- ---- what is encoded so is read

-- a value before the octets is read, and leaves the others
pub record ReadsField (bits : Bits) (prefix : List ℕ) (value : Argument) (values : List Argument) : Type 0 where
  pub others : Bits
  pub rest : List ℕ
  pub reads : (end : ℕ) (after : List ℕ) → field_at (kind_of value) bits end (prefix ++ after) ≡ Ok ((value, others), rest ++ after)
  pub goes_on : EncodesOn others.left others.packed (parts_of values) rest

-- a field that has octets of its own
reads_one : (bits : Bits) (prefix : List ℕ) (value : Argument) (values : List Argument)
    → ((end : ℕ) (first beyond : List ℕ) → EncodesArgument value first → field_at (kind_of value) bits end (first ++ beyond) ≡ Ok ((value, no_bits), beyond))
    → ((first rest : List ℕ) × (prefix ≡ first ++ rest) × EncodesArgument value first × EncodesParts (parts_of values) rest) → ReadsField bits prefix value values
reads_one bits prefix value values again h = record {
  others = no_bits;
  rest = h.1;
  reads = λ end after.
      ap (λ (o : List ℕ). field_at (kind_of value) bits end (o ++ after)) h.2
      ∙ ap (field_at (kind_of value) bits end) (append_assoc h.0 h.1 after) ∙ again end h.0 (h.1 ++ after) h.3;
  goes_on = on_parts 0 (parts_of values) h.1 h.4;
}

reads_bit : (left packed : ℕ) (prefix : List ℕ) (holds : Bool) (values : List Argument) → EncodesOn left packed (parts_of (bit holds ∷ values)) prefix
    → ReadsField (record { left = left; packed = packed }) prefix (bit holds) values
unfolding field_at
reads_bit zero packed prefix holds values h =
    let o = off_octet packed holds (parts_of values) prefix h in
    record {
      others = record { left = 7; packed = o.first / 2 };
      rest = o.others;
      reads = λ end after.
          let encoded : EncodesNumber 1 o.first (o.first ∷ []) = record { fits = o.fits; octets_are = octet_of o.first o.fits } in
          let is = read_number-again 1 end o.first (o.first ∷ []) (o.others ++ after) encoded in
          ap (λ (p : List ℕ). read_bit zero packed end (p ++ after)) o.octets_are ∙ rw (is, o.bit_is) refl;
      goes_on = o.goes_on;
    }
reads_bit (suc left) packed prefix holds values h =
    let o = off_bit left packed holds (parts_of values) prefix h in
    record {
      others = record { left = left; packed = packed / 2 };
      rest = prefix;
      reads = λ end after. rw o.0 refl;
      goes_on = o.1;
    }

pub field_at-again : (value : Argument) (values : List Argument) (bits : Bits) (prefix : List ℕ) → EncodesOn bits.left bits.packed (parts_of (value ∷ values)) prefix → ReadsField bits prefix value values
unfolding field_at
field_at-again (bit holds) values bits prefix h = reads_bit bits.left bits.packed prefix holds values h
field_at-again (octet n) values bits prefix h = reads_one bits prefix (octet n) values (λ end first beyond s. rw (read_number-again 1 end n first beyond s) refl) h
field_at-again (short n) values bits prefix h = reads_one bits prefix (short n) values (λ end first beyond s. rw (read_number-again 2 end n first beyond s) refl) h
field_at-again (long n) values bits prefix h = reads_one bits prefix (long n) values (λ end first beyond s. rw (read_number-again 4 end n first beyond s) refl) h
field_at-again (long_long n) values bits prefix h = reads_one bits prefix (long_long n) values (λ end first beyond s. rw (read_number-again 8 end n first beyond s) refl) h
field_at-again (short_string t) values bits prefix h = reads_one bits prefix (short_string t) values (λ end first beyond s. rw (short_string_at-again end t first beyond s) refl) h
field_at-again (long_string t) values bits prefix h = reads_one bits prefix (long_string t) values (λ end first beyond s. rw (long_string_at-again end t first beyond s) refl) h
field_at-again (table t) values bits prefix h = reads_one bits prefix (table t) values (λ end first beyond s. rw (field_table_at-again end t first beyond s) refl) h

pub args_at-again : (fields : List FieldRow) (values : List Argument) (bits : Bits) (end : ℕ) (prefix after : List ℕ) → map kind_of values ≡ kinds_of fields → EncodesOn bits.left bits.packed (parts_of values) prefix
    → args_at fields bits end (prefix ++ after) ≡ Ok (kept fields values, after)
unfolding args_at
args_at-again [] [] bits end prefix after kinds h = rw h refl
args_at-again [] (value ∷ values) bits end prefix after kinds h = absurd cc
args_at-again (f ∷ fields) [] bits end prefix after kinds h = absurd cc
args_at-again (f ∷ fields) (value ∷ values) bits end prefix after kinds h =
    let r = field_at-again value values bits prefix h in
    let first : kind_of value ≡ f.kind = cc in
    let others : map kind_of values ≡ kinds_of fields = cc in
    let is : field_at f.kind bits end (prefix ++ after) ≡ Ok ((value, r.others), r.rest ++ after) = rw (← first) (r.reads end after) in
    let inside = args_at-again fields values r.others end r.rest after others r.goes_on in
    rw (is, inside) refl

-- ---- a field alone

-- a value that was read of octets of its own
pub record TakesAlone (kind : FieldKind) (octets : List ℕ) (x : (Argument × Bits) × List ℕ) : Type 0 where
  pub kind_is : kind_of x.0.0 ≡ kind
  pub takes : Takes (EncodesArgument x.0.0) octets x.1

alone : {X : Type 0} (kind : FieldKind) (octets : List ℕ) (make : X → Argument) (read : Read X) (x : (Argument × Bits) × List ℕ)
    → ((v : X) → kind_of (make v) ≡ kind) → ((y : X × List ℕ) → read ≡ Ok y → Takes (EncodesArgument (make y.0)) octets y.1)
    → ends_run make read ≡ Ok x → TakesAlone kind octets x
alone kind octets make read x kind_is takes e =
    let b = bind_ok read _ x e in
    subst (TakesAlone kind octets) (same_ok _ _ b.2) (record { kind_is = kind_is b.0.0; takes = takes b.0 b.1 })

-- kinds that have octets of their own
abbrev pub HasOctets : FieldKind → Type 0
HasOctets Bit = ⊥
HasOctets Octet = Unit {0}
HasOctets Short = Unit {0}
HasOctets Long = Unit {0}
HasOctets LongLong = Unit {0}
HasOctets ShortStr = Unit {0}
HasOctets LongStr = Unit {0}
HasOctets Table = Unit {0}

pub field_alone-takes : (kind : FieldKind) (bits : Bits) (end : ℕ) (octets : List ℕ) (x : (Argument × Bits) × List ℕ) → HasOctets kind → IsBytes octets → field_at kind bits end octets ≡ Ok x
    → TakesAlone kind octets x
unfolding field_at
field_alone-takes Bit bits end octets x own fits e = absurd own
field_alone-takes Octet bits end octets x own fits e = alone Octet octets octet (read_number 1 end octets) x (λ v. refl) (λ y. read_number-takes 1 end octets y fits) e
field_alone-takes Short bits end octets x own fits e = alone Short octets short (read_number 2 end octets) x (λ v. refl) (λ y. read_number-takes 2 end octets y fits) e
field_alone-takes Long bits end octets x own fits e = alone Long octets long (read_number 4 end octets) x (λ v. refl) (λ y. read_number-takes 4 end octets y fits) e
field_alone-takes LongLong bits end octets x own fits e = alone LongLong octets long_long (read_number 8 end octets) x (λ v. refl) (λ y. read_number-takes 8 end octets y fits) e
field_alone-takes ShortStr bits end octets x own fits e = alone ShortStr octets short_string (short_string_at end octets) x (λ v. refl) (λ y. short_string_at-takes end octets y fits) e
field_alone-takes LongStr bits end octets x own fits e = alone LongStr octets long_string (long_string_at end octets) x (λ v. refl) (λ y. long_string_at-takes end octets y fits) e
field_alone-takes Table bits end octets x own fits e = alone Table octets table (field_table_at end octets) x (λ v. refl) (λ y. field_table_at-takes end octets y fits) e

pub field_alone-again : (value : Argument) (bits : Bits) (end : ℕ) (prefix beyond : List ℕ) → EncodesArgument value prefix → field_at (kind_of value) bits end (prefix ++ beyond) ≡ Ok ((value, no_bits), beyond)
unfolding field_at
field_alone-again (bit holds) bits end prefix beyond s = absurd s
field_alone-again (octet n) bits end prefix beyond s = rw (read_number-again 1 end n prefix beyond s) refl
field_alone-again (short n) bits end prefix beyond s = rw (read_number-again 2 end n prefix beyond s) refl
field_alone-again (long n) bits end prefix beyond s = rw (read_number-again 4 end n prefix beyond s) refl
field_alone-again (long_long n) bits end prefix beyond s = rw (read_number-again 8 end n prefix beyond s) refl
field_alone-again (short_string t) bits end prefix beyond s = rw (short_string_at-again end t prefix beyond s) refl
field_alone-again (long_string t) bits end prefix beyond s = rw (long_string_at-again end t prefix beyond s) refl
field_alone-again (table t) bits end prefix beyond s = rw (field_table_at-again end t prefix beyond s) refl
