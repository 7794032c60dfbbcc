use Rattle.std.proofs.Common.{◌≡◌, ℕ, ◌≤◌, ◌<◌, List, [], ◌∷◌, length, ◌⊎◌, inl, inr, refl, ap, ◌∙◌, arith}
use Rattle.amqp_value.specs.Lent.{items_left}
use Rattle.amqp_value.specs.Values.{Datum}
use Rattle.amqp_value.specs.Whole.{items_encoded}
use Rattle.amqp_calls.specs.Values.{all_data}
use Rattle.amqp_calls.proofs.Counting.{items_few, same_values}
use Rattle.amqp_calls.proofs.codec.tables.tell_items.Goals as goal

-- where values are left, each place is taken
each_taken : (left : List Datum) (placed room others : ℕ) → (left ≡ []) ⊎ (placed ≡ room) → others ≡ length left → 0 < others → placed ≡ room
each_taken left placed room others (inl none) is some = absurd (omega (arith, is, some, ap length none))
each_taken left placed room others (inr full) is some = full

none_left : (left : List Datum) (others : ℕ) → others ≡ length left → others ≤ 0 → left ≡ []
none_left [] others is none = refl
none_left (value ∷ left) others is none = absurd (omega (arith, is, none))

pub overflow_sub-size : goal.overflow_sub-size
overflow_sub-size c =
    let few = items_few c.body-size.result.now c.body-size.ensures.whole in
    let all : length (items_left c.iter.result) ≡ length (items_encoded c.body-size.result.now) =
    rw (c.body-size.ensures.octets) (ap length (same_values _ _ c.iter.ensures)) in
    omega (arith, few, all, c.fill_items-placed.ensures.counted)

pub count_items-others-requires : goal.count_items-others-requires
count_items-others-requires c =
    let few = items_few c.body-size.result.now c.body-size.ensures.whole in
    let all : length (items_left c.iter.result) ≡ length (items_encoded c.body-size.result.now) =
    rw (c.body-size.ensures.octets) (ap length (same_values _ _ c.iter.ensures)) in
    omega (arith, few, all, c.fill_items-placed.ensures.counted)

pub returns-then-others-gt0 : goal.returns-then-others-gt0
returns-then-others-gt0 c =
    let all = same_values _ _ c.iter.ensures in
    let left = items_left c.fill_items-placed.result.1 in
    let some : 0 < c.count_items-others.result = omega (arith, c.if-others-gt0.true) in
    let full = each_taken left _ _ _ c.fill_items-placed.ensures.full c.count_items-others.ensures.count some in
    record {
      left = left;
      length_is = ap length c.body-size.ensures.octets;
      count_is = omega (arith, c.fill_items-placed.ensures.counted, c.count_items-others.ensures.count, ap length all);
      values_are = c.fill_items-placed.ensures.values ∙ ap all_data all;
      others = c.fill_items-placed.ensures.others;
      room = inr (refl, full, omega (arith, some));
    }

pub returns-else-others-gt0 : goal.returns-else-others-gt0
returns-else-others-gt0 c =
    let all = same_values _ _ c.iter.ensures in
    let left = items_left c.fill_items-placed.result.1 in
    let none : c.count_items-others.result ≤ 0 = omega (arith, c.if-others-gt0.false) in
    record {
      left = left;
      length_is = ap length c.body-size.ensures.octets;
      count_is = omega (arith, c.fill_items-placed.ensures.counted, c.count_items-others.ensures.count, ap length all);
      values_are = c.fill_items-placed.ensures.values ∙ ap all_data all;
      others = c.fill_items-placed.ensures.others;
      room = inl (refl, none_left left _ c.count_items-others.ensures.count none, omega (arith, none));
    }
