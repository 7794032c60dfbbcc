-- No octets encode two values, since one reader reads both.
use Rattle.std.proofs.Common.{◌≡◌, ℕ, max, List, ◌++◌, length, take, Ok, refl, sym, ap, ◌∙◌, arith, length-append}
use Rattle.std.proofs.lemmas.List.{take_at}
use Rattle.amqp_value.specs.Laws.{OneTable, OneValue}
use Rattle.amqp_value.specs.Reading.{value_at, table_at}
use Rattle.amqp_value.specs.Values.{depth}
use Rattle.amqp_value.proofs.Complete.{value_at-complete}
use Rattle.amqp_value.proofs.Elements.{ok_is}
use Rattle.amqp_value.proofs.TableLaws.{table_at-again}

-- prefixes of one length of equal octets are equal
same_prefix : (a b x y : List ℕ) → a ++ x ≡ b ++ y → length a ≡ length b → a ≡ b
same_prefix a b x y whole len = sym (take_at a x (length b) len) ∙ ap (take (length b)) whole ∙ take_at b y (length b) refl

same_len : (a b x y : List ℕ) → a ++ x ≡ b ++ y → x ≡ y → length a ≡ length b
same_len a b x y whole same =
    let lens : length (a ++ x) ≡ length (b ++ y) = ap length whole in
    let rest : length x ≡ length y = ap length same in
    omega (arith, length-append a x, length-append b y)

pub one_value : OneValue
one_value v w a b x y p q whole =
    let levels = max (depth v) (depth w) in
    let first : value_at levels 0 (a ++ x) ≡ Ok (v, x) = ap (λ o. value_at levels 0 (o ++ x)) p.1 ∙ (value_at-complete levels).again 0 v p.0 x p.2 (omega arith) in
    let second : value_at levels 0 (b ++ y) ≡ Ok (w, y) = ap (λ o. value_at levels 0 (o ++ y)) q.1 ∙ (value_at-complete levels).again 0 w q.0 y q.2 (omega arith) in
    let same : (v, x) ≡ (w, y) = ok_is _ _ (sym first ∙ ap (value_at levels 0) whole ∙ second) in
    (ap (λ r. r.0) same, same_prefix a b x y whole (same_len a b x y whole (ap (λ r. r.1) same)))

pub one_table : OneTable
one_table s t a b x y p q whole =
    let same : (s, length a) ≡ (t, length b) = ok_is _ _ (sym (table_at-again s a x p) ∙ ap table_at whole ∙ table_at-again t b y q) in
    (ap (λ r. r.0) same, same_prefix a b x y whole (ap (λ r. r.1) same))
