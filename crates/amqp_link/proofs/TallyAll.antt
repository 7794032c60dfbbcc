-- The tallies of one connection more.
use Rattle.std.proofs.Common.{◌≡◌, ◌<◌, ◌≤◌, ◌+◌, ℕ, List, [], ◌++◌, length, map, take, get_or, flat_map, ap, sym, ◌∙◌, subst, arith}
use Rattle.std.proofs.lemmas.List.{flat_map_more, get_or-map, length-map, take_more}
use Rattle.std.proofs.lemmas.List.FromFn.{get_or-enumerate_from, length-enumerate_from}
use Rattle.std.proofs.Math.Seq.{take-length}
use Rattle.std.specs.List.{enumerate_from}
use Rattle.amqp_link.specs.ConnectionView.{connection_view}
use Rattle.amqp_link.specs.Items.{tallies_at}
use Rattle.amqp_link.specs.Seats.{Joint}
use Rattle.amqp_link.specs.Tallies.{Tallied}
use Rattle.amqp_link.specs.declared.connection.Connection.{Connection}

all-numbered : (connections : List Connection) → length (enumerate_from 0 (map connection_view connections)) ≡ length connections
all-numbered connections = length-enumerate_from 0 (map connection_view connections) ∙ length-map connections connection_view

pub one-more : (connections : List Connection) (index : ℕ) (item : Connection) (before new : List Tallied) → index < length connections → item ≡ get_or connections index item
    → before ≡ flat_map (λ entry. tallies_at entry.0 entry.1) (take index (enumerate_from 0 (map connection_view connections))) → new ≡ before ++ tallies_at index (connection_view item)
    → new ≡ flat_map (λ entry. tallies_at entry.0 entry.1) (take (index + 1) (enumerate_from 0 (map connection_view connections)))
one-more connections index item before new within is so_far more =
    let joints = map connection_view connections in
    let all = enumerate_from 0 joints in
    let f : ℕ × Joint → List Tallied = λ entry. tallies_at entry.0 entry.1 in
    let inside : index < length joints = subst (λ n. index < n) (sym (length-map connections connection_view)) within in
    let there : index < length all = subst (λ n. index < n) (sym (all-numbered connections)) within in
    let from : 0 + index ≡ index = omega (arith) in
    let entry : get_or all index (0, connection_view item) ≡ (index, connection_view item) =
    get_or-enumerate_from 0 joints index (0, connection_view item) inside
    ∙ ap (λ n. (n, get_or joints index (connection_view item))) from
    ∙ ap (λ j. (index, j)) (get_or-map connection_view connections index item (connection_view item) within ∙ ap connection_view (sym is)) in
    more ∙ (ap (λ b. b ++ tallies_at index (connection_view item)) so_far
    ∙ (ap (λ e. flat_map f (take index all) ++ f e) (sym entry)
    ∙ (flat_map_more f [] (take index all) (get_or all index (0, connection_view item)) ∙ ap (λ l. flat_map f l) (sym (take_more all index (0, connection_view item) there)))))

-- all connections
pub all-of : (connections : List Connection) (index : ℕ) (tallies : List Tallied) → length connections ≤ index → index ≤ length connections
    → tallies ≡ flat_map (λ entry. tallies_at entry.0 entry.1) (take index (enumerate_from 0 (map connection_view connections)))
    → tallies ≡ flat_map (λ entry. tallies_at entry.0 entry.1) (enumerate_from 0 (map connection_view connections))
all-of connections index tallies past within so_far =
    let all = enumerate_from 0 (map connection_view connections) in
    let end : index ≡ length all = omega (arith, past, within, all-numbered connections) in
    so_far ∙ ap (λ l. flat_map (λ entry. tallies_at entry.0 entry.1) l) (ap (λ n. take n all) end ∙ take-length all)
