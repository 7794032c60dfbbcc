-- Arrays taken apart.
use Rattle.std.proofs.Common.{◌≡◌, List, [], ◌∷◌, length, get_or, arith}
use Rattle.amqp_method.specs.declared.fields.Arg.{Arg}

-- a list of 7, by its items
pub items_7 : (xs : List Arg) (x0 x1 x2 x3 x4 x5 x6 : Arg) → length xs ≡ 7 → x0 ≡ get_or xs 0 x0 → x1 ≡ get_or xs 1 x1 → x2 ≡ get_or xs 2 x2 → x3 ≡ get_or xs 3 x3 → x4 ≡ get_or xs 4 x4 → x5 ≡ get_or xs 5 x5 → x6 ≡ get_or xs 6 x6
    → xs ≡ x0 ∷ x1 ∷ x2 ∷ x3 ∷ x4 ∷ x5 ∷ x6 ∷ []
items_7 ([]) x0 x1 x2 x3 x4 x5 x6 h e0 e1 e2 e3 e4 e5 e6 = absurd (omega arith)
items_7 (y0 ∷ []) x0 x1 x2 x3 x4 x5 x6 h e0 e1 e2 e3 e4 e5 e6 = absurd (omega arith)
items_7 (y0 ∷ y1 ∷ []) x0 x1 x2 x3 x4 x5 x6 h e0 e1 e2 e3 e4 e5 e6 = absurd (omega arith)
items_7 (y0 ∷ y1 ∷ y2 ∷ []) x0 x1 x2 x3 x4 x5 x6 h e0 e1 e2 e3 e4 e5 e6 = absurd (omega arith)
items_7 (y0 ∷ y1 ∷ y2 ∷ y3 ∷ []) x0 x1 x2 x3 x4 x5 x6 h e0 e1 e2 e3 e4 e5 e6 = absurd (omega arith)
items_7 (y0 ∷ y1 ∷ y2 ∷ y3 ∷ y4 ∷ []) x0 x1 x2 x3 x4 x5 x6 h e0 e1 e2 e3 e4 e5 e6 = absurd (omega arith)
items_7 (y0 ∷ y1 ∷ y2 ∷ y3 ∷ y4 ∷ y5 ∷ []) x0 x1 x2 x3 x4 x5 x6 h e0 e1 e2 e3 e4 e5 e6 = absurd (omega arith)
items_7 (y0 ∷ y1 ∷ y2 ∷ y3 ∷ y4 ∷ y5 ∷ y6 ∷ []) x0 x1 x2 x3 x4 x5 x6 h e0 e1 e2 e3 e4 e5 e6 = cc
items_7 (y0 ∷ y1 ∷ y2 ∷ y3 ∷ y4 ∷ y5 ∷ y6 ∷ y7 ∷ ys) x0 x1 x2 x3 x4 x5 x6 h e0 e1 e2 e3 e4 e5 e6 = absurd (omega arith)

-- a list of 8, by its items
pub items_8 : (xs : List Arg) (x0 x1 x2 x3 x4 x5 x6 x7 : Arg) → length xs ≡ 8 → x0 ≡ get_or xs 0 x0 → x1 ≡ get_or xs 1 x1 → x2 ≡ get_or xs 2 x2 → x3 ≡ get_or xs 3 x3 → x4 ≡ get_or xs 4 x4 → x5 ≡ get_or xs 5 x5 → x6 ≡ get_or xs 6 x6 → x7 ≡ get_or xs 7 x7
    → xs ≡ x0 ∷ x1 ∷ x2 ∷ x3 ∷ x4 ∷ x5 ∷ x6 ∷ x7 ∷ []
items_8 ([]) x0 x1 x2 x3 x4 x5 x6 x7 h e0 e1 e2 e3 e4 e5 e6 e7 = absurd (omega arith)
items_8 (y0 ∷ []) x0 x1 x2 x3 x4 x5 x6 x7 h e0 e1 e2 e3 e4 e5 e6 e7 = absurd (omega arith)
items_8 (y0 ∷ y1 ∷ []) x0 x1 x2 x3 x4 x5 x6 x7 h e0 e1 e2 e3 e4 e5 e6 e7 = absurd (omega arith)
items_8 (y0 ∷ y1 ∷ y2 ∷ []) x0 x1 x2 x3 x4 x5 x6 x7 h e0 e1 e2 e3 e4 e5 e6 e7 = absurd (omega arith)
items_8 (y0 ∷ y1 ∷ y2 ∷ y3 ∷ []) x0 x1 x2 x3 x4 x5 x6 x7 h e0 e1 e2 e3 e4 e5 e6 e7 = absurd (omega arith)
items_8 (y0 ∷ y1 ∷ y2 ∷ y3 ∷ y4 ∷ []) x0 x1 x2 x3 x4 x5 x6 x7 h e0 e1 e2 e3 e4 e5 e6 e7 = absurd (omega arith)
items_8 (y0 ∷ y1 ∷ y2 ∷ y3 ∷ y4 ∷ y5 ∷ []) x0 x1 x2 x3 x4 x5 x6 x7 h e0 e1 e2 e3 e4 e5 e6 e7 = absurd (omega arith)
items_8 (y0 ∷ y1 ∷ y2 ∷ y3 ∷ y4 ∷ y5 ∷ y6 ∷ []) x0 x1 x2 x3 x4 x5 x6 x7 h e0 e1 e2 e3 e4 e5 e6 e7 = absurd (omega arith)
items_8 (y0 ∷ y1 ∷ y2 ∷ y3 ∷ y4 ∷ y5 ∷ y6 ∷ y7 ∷ []) x0 x1 x2 x3 x4 x5 x6 x7 h e0 e1 e2 e3 e4 e5 e6 e7 = cc
items_8 (y0 ∷ y1 ∷ y2 ∷ y3 ∷ y4 ∷ y5 ∷ y6 ∷ y7 ∷ y8 ∷ ys) x0 x1 x2 x3 x4 x5 x6 x7 h e0 e1 e2 e3 e4 e5 e6 e7 = absurd (omega arith)
