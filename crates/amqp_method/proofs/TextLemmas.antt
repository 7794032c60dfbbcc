-- Texts of arguments and of properties, one after the other.
use Rattle.std.proofs.Common.{◌≡◌, ℕ, ◌+◌, ◌<◌, ◌≤◌, Bool, true, false, ◌&&◌, List, [], ◌∷◌, ◌++◌, length, map, drop, get_or, refl, sym, ap, ◌∙◌, append_assoc, add-one, drop-cons}
use Rattle.std.proofs.lemmas.List.{append-nil, drop_all}
use Rattle.amqp_method.specs.Arguments.{Argument}
use Rattle.amqp_method.specs.Lent.{lent_view, lent_views}
use Rattle.std.specs.Prelude.{codes, Option, Some, None, is_none}
use Rattle.amqp_method.specs.Methods.{FieldRow}
use Rattle.amqp_method.specs.Plain.{args_left_by}
use Rattle.amqp_method.specs.Rows.{field_view}
use Rattle.amqp_method.specs.Texts.{argument_text, field_text, fields_text, named_text, space_text, parted, property_text, properties_text}
use Rattle.amqp_method.specs.declared.fields.Field.{Field}
use Rattle.amqp_method.specs.declared.properties.Lent.{Lent}
use Rattle.amqp_method.proofs.FitLemmas.{field_here}

-- the text of one field more is written
pub field_step : (fields : List Field) (i : ℕ) (d : Field) (args others : List Argument) (done all : List ℕ) → i < length fields
    → others ≡ args_left_by (get_or fields i d).reserved args → done ++ fields_text (map field_view (drop i fields)) args ≡ all
    → (done ++ field_text (get_or fields i d).reserved (get_or fields i d).name.now args) ++ fields_text (map field_view (drop (i + 1) fields)) others ≡ all
field_step fields i d args others done all h left before =
    let here = ap (λ (f : List FieldRow). fields_text f args) (field_here fields i d h) in
    rw left (append_assoc done _ _ ∙ ap (λ (o : List ℕ). done ++ o) (sym here) ∙ before)

-- the text of the properties from one on
abbrev text_from : List (List ℕ) → List (Option Lent) → ℕ → List ℕ
text_from names properties i = properties_text (drop i names) (lent_views (drop i properties))

pub names_here : (names : List (List ℕ)) (i : ℕ) (d : List ℕ) → i < length names → drop i names ≡ get_or names i d ∷ drop (i + 1) names
names_here names i d h = rw (add-one, drop-cons names i d) refl

lent_here : (properties : List (Option Lent)) (i : ℕ) (d : Option Lent) → i < length properties
    → lent_views (drop i properties) ≡ lent_view (get_or properties i d) ∷ lent_views (drop (i + 1) properties)
lent_here properties i d h = rw (add-one, drop-cons properties i d) refl

-- that is the text of that one, and of those after it
text_here : (names : List (List ℕ)) (properties : List (Option Lent)) (i : ℕ) (name : List ℕ) (p : Option Lent)
    → i < length names → i < length properties → name ≡ get_or names i [] → p ≡ get_or properties i p
    → text_from names properties i ≡ property_text name (lent_view p) ++ text_from names properties (i + 1)
text_here names properties i name p named lent name_is at =
    let others = text_from names properties (i + 1) in
    let here : text_from names properties i ≡ property_text (get_or names i []) (lent_view (get_or properties i p)) ++ others =
    ap (λ (ns : List (List ℕ)). properties_text ns (lent_views (drop i properties))) (names_here names i [] named)
    ∙ ap (λ (ps : List (Option Argument)). properties_text (get_or names i [] ∷ drop (i + 1) names) ps) (lent_here properties i p lent) in
    let same : property_text name (lent_view p) ≡ property_text (get_or names i []) (lent_view (get_or properties i p)) =
    ap (λ (n : List ℕ). property_text n (lent_view p)) name_is
    ∙ ap (λ (q : Option Lent). property_text (get_or names i []) (lent_view q)) at in
    here ∙ ap (λ (o : List ℕ). o ++ others) (sym same)

pub none_left : (names : List (List ℕ)) → properties_text names [] ≡ []
none_left [] = refl
none_left (name ∷ names) = refl

nothing_left : (names : List (List ℕ)) (properties : List (Option Lent)) (i : ℕ) → length properties ≤ i → text_from names properties i ≡ []
nothing_left names properties i h =
    let none : lent_views (drop i properties) ≡ [] = rw (drop_all i properties h) refl in
    ap (properties_text (drop i names)) none ∙ none_left (drop i names)

-- a name and its value, after a space or at the start of a text
pub parted_name : (starts : Bool) (name : List ℕ) (value : Argument)
    → parted starts (named_text name value) ≡ space_text starts ++ (name ++ (codes "=" ++ argument_text value))
parted_name true name value = refl
parted_name false name value = refl

-- what stands at the start is the first property that is there
parted_step : (starts : Bool) (name : List ℕ) (p : Option Argument) (others : List ℕ)
    → parted starts (property_text name p ++ others) ≡ parted starts (property_text name p) ++ parted (starts && is_none p) others
parted_step true name None others = refl
parted_step true name (Some value) others = refl
parted_step false name p others = refl

parted_none : (starts : Bool) → parted starts [] ≡ []
parted_none true = refl
parted_none false = refl

-- the same at the start of a text or after something else
pub parted_property_step : (names : List (List ℕ)) (properties : List (Option Lent)) (i : ℕ) (name : List ℕ) (p : Option Lent) (starts : Bool) (done all : List ℕ)
    → i < length names → i < length properties → name ≡ get_or names i [] → p ≡ get_or properties i p
    → done ++ parted starts (text_from names properties i) ≡ all
    → (done ++ parted starts (property_text name (lent_view p))) ++ parted (starts && is_none (lent_view p)) (text_from names properties (i + 1)) ≡ all
parted_property_step names properties i name p starts done all named lent name_is at before =
    let others = text_from names properties (i + 1) in
    append_assoc done (parted starts (property_text name (lent_view p))) (parted (starts && is_none (lent_view p)) others)
    ∙ ap (λ (o : List ℕ). done ++ o) (sym (parted_step starts name (lent_view p) others)
    ∙ ap (parted starts) (sym (text_here names properties i name p named lent name_is at))) ∙ before

pub parted_properties_end : (names : List (List ℕ)) (properties : List (Option Lent)) (i : ℕ) (starts : Bool) (done all : List ℕ)
    → length properties ≤ i → done ++ parted starts (text_from names properties i) ≡ all → done ≡ all
parted_properties_end names properties i starts done all h before =
    sym (append-nil done) ∙ ap (λ (o : List ℕ). done ++ o) (sym (ap (parted starts) (nothing_left names properties i h) ∙ parted_none starts)) ∙ before
