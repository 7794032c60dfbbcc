-- What is done with one connection of a link.
use Rattle.std.proofs.Common.{◌≡◌, ℕ, List, [], ◌∷◌, ◌++◌, map, set, option_map, Some, slice_get, ap, ◌∙◌}
use Rattle.std.proofs.lemmas.List.{map-append, map-set}
use Rattle.std.proofs.lemmas.Option.{slice_get-map}
use Rattle.amqp_model.specs.History.Negotiation.{Config}
use Rattle.amqp_model.specs.Wire.Notes.{Role}
use Rattle.amqp_link.specs.ConnectionSteps.{IsNewConnection}
use Rattle.amqp_link.specs.ConnectionView.{connection_view}
use Rattle.amqp_link.specs.LinkSteps.{BeginsOne, DoneAt, done}
use Rattle.amqp_link.specs.SeatSteps.{Answer}
use Rattle.amqp_link.specs.Seats.{Joint}
use Rattle.amqp_link.specs.declared.connection.Connection.{Connection}

pub does-at : (does : Joint → Answer → Joint → Type 0) (index : ℕ) (client server : (role : Role) × Config role) (items : List Connection) (here there : Connection) (answer : Answer)
    → slice_get items index ≡ Some here → does (connection_view here) answer (connection_view there)
    → DoneAt does index (record { client = client; server = server; connections = map connection_view items }) answer (record { client = client; server = server; connections = map connection_view (set items index there) })
does-at does index client server items here there answer found d = done (record {
  here = connection_view here;
  there = connection_view there;
  found = slice_get-map connection_view items index ∙ ap (option_map connection_view) found;
  done = d;
  others = λ i. record { client = client; server = server; connections = map-set connection_view items index there i };
})

pub begins-one : (client server : (role : Role) × Config role) (old new : List Connection) (connection : Connection) → new ≡ old ++ connection ∷ [] → IsNewConnection client server (connection_view connection)
    → BeginsOne (record { client = client; server = server; connections = map connection_view old }) (record { client = client; server = server; connections = map connection_view new })
begins-one client server old new connection items is = record {
  joint = connection_view connection;
  is_new = is;
  last = λ i. record { client = client; server = server; connections = (ap (map connection_view) items ∙ map-append connection_view old (connection ∷ [])) i };
}
