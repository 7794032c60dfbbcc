-- Joined ends keep what they promise.
use Rattle.std.proofs.Common.{◌≡◌, ◌⊎◌, inl, inr, false, ℕ, zero, suc, ◌<◌, ◌≤◌, List, [], ◌++◌, length, map, reverse, Option, Some, None, option_map, slice_get, refl, sym, ap, ◌∙◌, subst, arith}
use Rattle.std.proofs.Math.Logic.{∥∥₁_elim, ∥∥₁_map}
use Rattle.std.proofs.Props.{props}
use Rattle.std.proofs.lemmas.Bool.{cases_lt}
use Rattle.std.proofs.lemmas.List.{nil_from_length}
use Rattle.std.proofs.lemmas.Option.{none-some, slice_get-map}
use Rattle.amqp_model.specs.Pair.Agreement.{PairWrites}
use Rattle.amqp_model.specs.Pair.Carried.{acted, sent}
use Rattle.amqp_model.specs.Laws.CarryingLaws.{Carries}
use Rattle.amqp_model.specs.Output.Departures.{PutAs}
use Rattle.amqp_model.specs.Laws.EndLaws.{notes_on}
use Rattle.amqp_model.specs.Wire.Frame.{Frame}
use Rattle.amqp_model.specs.History.Histories.{History}
use Rattle.amqp_model.specs.Wire.Items.{Item}
use Rattle.amqp_model.specs.History.Negotiation.{Config, frame_limit}
use Rattle.amqp_model.specs.History.Lives.{lives}
use Rattle.amqp_model.specs.Wire.Notes.{Role, Client, Server, Note, other_end}
use Rattle.amqp_model.specs.Stream.Octets.{frames_put, opening_written}
use Rattle.amqp_model.specs.Pair.Pairs.{PairAt, config_of}
use Rattle.amqp_model.specs.Output.Prefixes.{IsPrefixOf}
use Rattle.amqp_model.specs.Pair.Sent.{items_acted, items_in, items_of, items_sent, life_on, payload_in, Telling}
use Rattle.amqp_model.specs.Laws.SentLaws.{NoItemsBeforeFirstLife}
use Rattle.amqp_link.specs.ConnectionView.{connection_view}
use Rattle.amqp_link.specs.Encoded.{AreItemsOf}
use Rattle.amqp_link.specs.Headline.{Headline, KeepsPromises}
use Rattle.amqp_link.specs.Items.{begun_at, said_at, told_at}
use Rattle.amqp_link.specs.Joined.{AreJoined, IsJoinedTo, StandsAt}
use Rattle.amqp_link.specs.LinkView.{link_view}
use Rattle.amqp_link.specs.PromiseLaws.{EndPromiseLaws, AllPromiseLaws, PromiseLaws}
use Rattle.amqp_link.specs.Promises.{KeepsOn, Promises, StaysWhole, acted_and_waiting}
use Rattle.amqp_link.specs.SeatSteps.{to_write}
use Rattle.amqp_link.specs.Seats.{Joint, Seated}
use Rattle.amqp_link.specs.Tallies.{begun_on}
use Rattle.amqp_link.specs.declared.connection.Connection.{Connection}
use Rattle.amqp_link.specs.declared.link.Link.{Link}
use Rattle.amqp_link.specs.declared.steps.Direction.{Direction}
use Rattle.amqp_link.specs.declared.steps.Direction.TheVariants as directions
use Rattle.amqp_link.proofs.NeverBegun.{nothing-sent, prefix-none, server-within}
use Rattle.amqp_link.proofs.TallyLemmas.{begun-is-lives}

-- a reader and a writer, with all that is known of them
record Reading (role : Role) (client_config : Config Client) (server_config : Config Server) (reader writer : Seated) (mine theirs : History) : Type 0 where
  laws : PromiseLaws role client_config server_config
  mine_laws : EndPromiseLaws role (config_of role client_config server_config)
  theirs_laws : EndPromiseLaws (other_end role) (config_of (other_end role) client_config server_config)
  pair : PairWrites role client_config server_config mine theirs
  pair_at : PairAt role client_config server_config mine theirs
  mine_stands : StandsAt role (config_of role client_config server_config) reader mine
  theirs_stands : StandsAt (other_end role) (config_of (other_end role) client_config server_config) writer theirs
  theirs_put : PutAs (opening_written (other_end role)) (writer.kept.written ++ to_write writer) (frames_put theirs)
  to_mine : reader.kept.fed ≡ writer.kept.written
  mine_first : (n : ℕ) → NoItemsBeforeFirstLife role (suc n) mine
  theirs_first : (n : ℕ) → NoItemsBeforeFirstLife (other_end role) (suc n) theirs

-- the items that the machine takes from frames are those that they encode
are-items : AllPromiseLaws → (frames : List Frame) (items : List Item) → items ≡ items_in frames → AreItemsOf frames items
are-items laws frames items is = record {
  encoded = (laws.encoded (reverse (map payload_in frames)) items).0 (sym is);
  only = λ others encoded. sym ((laws.encoded (reverse (map payload_in frames)) others).1 encoded) ∙ sym is;
}

carries : (role : Role) (client_config : Config Client) (server_config : Config Server) (reader writer : Seated) (mine theirs : History) → (r : Reading role client_config server_config reader writer mine theirs) → reader.dropped ≡ false
    → Carries role (frame_limit reader.kept.endpoint.end.agreed) mine theirs (reader.kept.fed ++ to_write writer) reader.kept.fed reader.kept.endpoint.unfinished (to_write writer)
carries role client_config server_config reader writer mine theirs r there = record {
  put_as = subst (λ l. PutAs l (reader.kept.fed ++ to_write writer) (frames_put theirs)) r.laws.openings
      (subst (λ l. PutAs (opening_written (other_end role)) (l ++ to_write writer) (frames_put theirs)) (sym r.to_mine) r.theirs_put);
  fed_as = (r.mine_stands.stands there).read;
  put_is = refl;
}

keeps-on : (role : Role) (client_config : Config Client) (server_config : Config Server) (reader writer : Seated) (mine theirs : History) → AllPromiseLaws → Reading role client_config server_config reader writer mine theirs → (n : ℕ) → KeepsOn role reader writer mine theirs n
keeps-on role client_config server_config reader writer mine theirs laws r n = record {
  acted_is = acted_is;
  sent_is = sent_is;
  acted_encoded = λ life. are-items laws (acted role life (notes_on (suc n) mine)) (items_of (suc n) life reader.kept.told) (acted_is life);
  sent_encoded = λ life. are-items laws (sent (other_end role) life (notes_on (suc n) theirs)) (items_of (suc n) life writer.kept.said) (sent_is life);
  before_first = (acted_is 0 ∙ (r.mine_first n).1, sent_is 0 ∙ (r.theirs_first n).0);
  prefix = r.laws.prefix mine theirs n r.pair_at;
  lives = r.laws.lives mine theirs n r.pair;
  closed = r.laws.closed mine theirs n r.pair_at;
  connection_closed = r.laws.ended mine theirs n r.pair_at;
  on_its_way = λ there opened live.
      let flight = r.laws.frames (frame_limit reader.kept.endpoint.end.agreed) mine theirs (reader.kept.fed ++ to_write writer) reader.kept.fed reader.kept.endpoint.unfinished (to_write writer)
      (carries role client_config server_config reader writer mine theirs r there) opened in
      let sent_now = r.laws.items mine theirs reader.kept.endpoint.unfinished (to_write writer) n r.pair flight live in
      record {
        flight = flight;
        sent = sent_now;
        sent_encoded = are-items laws (acted_and_waiting role mine n flight.waiting)
            (items_of (suc n) (life_on role (suc n) mine) writer.kept.said) (sent_is (life_on role (suc n) mine) ∙ sent_now);
      };
  paused = r.laws.pause mine theirs n r.pair;
}
  where
    acted_is : (life : ℕ) → items_of (suc n) life reader.kept.told ≡ items_acted role (suc n) life mine
    acted_is life = ap (λ l. items_of (suc n) life l) r.mine_stands.trace.told ∙ r.mine_laws.told n mine r.mine_stands.lawful life

    sent_is : (life : ℕ) → items_of (suc n) life writer.kept.said ≡ items_sent (other_end role) (suc n) life theirs
    sent_is life = ap (λ l. items_of (suc n) life l) r.theirs_stands.trace.said ∙ r.theirs_laws.said n theirs life

stays-whole : (role : Role) (client_config : Config Client) (server_config : Config Server) (reader writer : Seated) (mine theirs : History) → Reading role client_config server_config reader writer mine theirs → StaysWhole reader writer
stays-whole role client_config server_config reader writer mine theirs r = record {
  not_failed = λ there. r.mine_laws.not_yet reader.kept.endpoint.end mine (r.mine_stands.stands there).stands;
  nothing_waits = λ there closed. r.laws.waits mine theirs (frame_limit reader.kept.endpoint.end.agreed) (reader.kept.fed ++ to_write writer) reader.kept.fed reader.kept.endpoint.unfinished (to_write writer) r.pair
      (carries role client_config server_config reader writer mine theirs r there) ((r.mine_stands.stands there).stands.phase ∙ closed);
}

keeps : (client_config : Config Client) (server_config : Config Server) (client server : Seated) → AllPromiseLaws → AreJoined Client client_config server_config client server → Promises client_config server_config client server
keeps client_config server_config client server laws j = record {
  client_history = j.my_history;
  server_history = j.their_history;
  client_stands = j.mine_stands;
  server_stands = j.theirs_stands;
  to_client = keeps-on Client client_config server_config client server j.my_history j.their_history laws to_client;
  to_server = keeps-on Server client_config server_config server client j.their_history j.my_history laws to_server;
  client_whole = stays-whole Client client_config server_config client server j.my_history j.their_history to_client;
  server_whole = stays-whole Server client_config server_config server client j.their_history j.my_history to_server;
  in_turn = λ n life. laws.in_turn client_config server_config j.my_history j.their_history n life (to_client.pair_at);
  one_at_a_time = λ n life. laws.one_at_a_time client_config j.my_history n life (client_laws.reads_back j.pair.client_writes) j.mine_stands.lawful;
}
  where
    client_laws : EndPromiseLaws Client client_config
    client_laws = laws.ends Client client_config

    server_laws : EndPromiseLaws Server server_config
    server_laws = laws.ends Server server_config

    of_client : PairAt Client client_config server_config j.my_history j.their_history
    of_client = record { client_writes = client_laws.reads_back j.pair.client_writes; server_writes = server_laws.reads_back j.pair.server_writes; pair = j.pair.pair }

    of_server : PairAt Server client_config server_config j.their_history j.my_history
    of_server = record { client_writes = client_laws.reads_back j.pair.client_writes; server_writes = server_laws.reads_back j.pair.server_writes; pair = j.pair.pair }

    client_first : (n : ℕ) → NoItemsBeforeFirstLife Client (suc n) j.my_history
    client_first n = (laws.pairs Client client_config server_config).before_first j.my_history j.their_history n of_client

    server_first : (n : ℕ) → NoItemsBeforeFirstLife Server (suc n) j.their_history
    server_first n = (laws.pairs Server client_config server_config).before_first j.their_history j.my_history n of_server

    to_client : Reading Client client_config server_config client server j.my_history j.their_history
    to_client = record {
      laws = laws.pairs Client client_config server_config;
      mine_laws = client_laws;
      theirs_laws = server_laws;
      pair = j.pair;
      pair_at = of_client;
      mine_stands = j.mine_stands;
      theirs_stands = j.theirs_stands;
      theirs_put = server_laws.put_as j.their_history (opening_written Server) server.kept.written server.kept.endpoint.output (server_laws.reads_back j.pair.server_writes) j.theirs_stands.lawful j.theirs_stands.output;
      to_mine = j.to_mine;
      mine_first = client_first;
      theirs_first = server_first;
    }

    to_server : Reading Server client_config server_config server client j.their_history j.my_history
    to_server = record {
      laws = laws.pairs Server client_config server_config;
      mine_laws = server_laws;
      theirs_laws = client_laws;
      pair = record { client_writes = j.pair.client_writes; server_writes = j.pair.server_writes; pair = j.pair.pair };
      pair_at = of_server;
      mine_stands = j.theirs_stands;
      theirs_stands = j.mine_stands;
      theirs_put = client_laws.put_as j.my_history (opening_written Client) client.kept.written client.kept.endpoint.output (client_laws.reads_back j.pair.client_writes) j.mine_stands.lawful j.mine_stands.output;
      to_mine = j.to_theirs;
      mine_first = server_first;
      theirs_first = client_first;
    }

kept : (joint : Joint) → AllPromiseLaws → IsJoinedTo Client joint.client joint.server → KeepsPromises joint
kept joint laws j = record {
  client_config = j.client_config;
  server_config = j.server_config;
  client_is = j.mine_is;
  server_is = j.theirs_is;
  promises = keeps j.client_config j.server_config joint.client joint.server laws j.joined;
}

-- A prefix, of what the two sides have written down.

-- what is nothing is a prefix of anything
nothing-first : (prefix whole : List Item) → prefix ≡ [] → IsPrefixOf prefix whole
nothing-first prefix whole e = subst (λ p. IsPrefixOf p whole) (sym e) (whole, refl)

written : (role : Role) (reader writer : Seated) (mine theirs : History) (n life : ℕ) → KeepsOn role reader writer mine theirs n → IsPrefixOf (items_of (suc n) life reader.kept.told) (items_of (suc n) life writer.kept.said)
written role reader writer mine theirs n life k =
    subst (λ p. IsPrefixOf p (items_of (suc n) life writer.kept.said)) (sym (k.acted_is life))
    (subst (λ w. IsPrefixOf (items_acted role (suc n) life mine) w) (sym (k.sent_is life)) (k.prefix life))

on-zero : (role : Role) (config : Config role) (seated : Seated) (history : History) (life : ℕ) → EndPromiseLaws role config → StandsAt role config seated history → items_of 0 life seated.kept.told ≡ []
on-zero role config seated history life laws stands = ap (λ l. items_of 0 life l) stands.trace.told ∙ (laws.channel_0 history life).0

says-nothing : (role : Role) (config : Config role) (seated : Seated) (history : History) (life : ℕ) → EndPromiseLaws role config → StandsAt role config seated history → items_of 0 life seated.kept.said ≡ []
says-nothing role config seated history life laws stands = ap (λ l. items_of 0 life l) stands.trace.said ∙ (laws.channel_0 history life).1

in-life : (direction : Direction) (joint : Joint) (channel life : ℕ) → AllPromiseLaws → KeepsPromises joint
    → IsPrefixOf (items_of channel life (told_at direction (Some joint))) (items_of channel life (said_at direction (Some joint)))
in-life directions.ToServer joint zero life laws k = nothing-first (items_of 0 life joint.server.kept.told) (items_of 0 life joint.client.kept.said) (on-zero Server k.server_config joint.server k.promises.server_history life (laws.ends Server k.server_config) k.promises.server_stands)
in-life directions.ToClient joint zero life laws k = nothing-first (items_of 0 life joint.client.kept.told) (items_of 0 life joint.server.kept.said) (on-zero Client k.client_config joint.client k.promises.client_history life (laws.ends Client k.client_config) k.promises.client_stands)
in-life directions.ToServer joint (suc n) life laws k = written Server joint.server joint.client k.promises.server_history k.promises.client_history n life (k.promises.to_server n)
in-life directions.ToClient joint (suc n) life laws k = written Client joint.client joint.server k.promises.client_history k.promises.server_history n life (k.promises.to_client n)

prefix-at : (direction : Direction) (there : Option Joint) (channel life : ℕ) → AllPromiseLaws → ((joint : Joint) → there ≡ Some joint → ∥ KeepsPromises joint ∥₁)
    → ∥ IsPrefixOf (items_of channel life (told_at direction there)) (items_of channel life (said_at direction there)) ∥₁
prefix-at direction None channel life laws each = ∣ nothing-first [] [] refl ∣₁
prefix-at direction (Some joint) channel life laws each = ∥∥₁_map (each joint refl) (λ k. in-life direction joint channel life laws k)

-- Nothing, where there is no life.

abbrev NothingOf : (channel life : ℕ) → (direction : Direction) → Option Joint → Type 0
NothingOf channel life direction there =
    (items_of channel life (said_at direction there) ≡ []) × (items_of channel life (told_at direction there) ≡ [])

on-channel-zero : (direction : Direction) (joint : Joint) (life : ℕ) → AllPromiseLaws → KeepsPromises joint → NothingOf 0 life direction (Some joint)
on-channel-zero directions.ToServer joint life laws k = (
  says-nothing Client k.client_config joint.client k.promises.client_history life (laws.ends Client k.client_config) k.promises.client_stands,
  on-zero Server k.server_config joint.server k.promises.server_history life (laws.ends Server k.server_config) k.promises.server_stands,
)
on-channel-zero directions.ToClient joint life laws k = (
  says-nothing Server k.server_config joint.server k.promises.server_history life (laws.ends Server k.server_config) k.promises.server_stands,
  on-zero Client k.client_config joint.client k.promises.client_history life (laws.ends Client k.client_config) k.promises.client_stands,
)

in-life-zero : (direction : Direction) (joint : Joint) (channel : ℕ) → AllPromiseLaws → KeepsPromises joint → NothingOf channel 0 direction (Some joint)
in-life-zero direction joint zero laws k = on-channel-zero direction joint 0 laws k
in-life-zero directions.ToServer joint (suc n) laws k = let first = (k.promises.to_server n).before_first in (first.1, first.0)
in-life-zero directions.ToClient joint (suc n) laws k = let first = (k.promises.to_client n).before_first in (first.1, first.0)

-- above the lives that began
past-begun : (direction : Direction) (joint : Joint) (n life : ℕ) → KeepsPromises joint → begun_on (suc n) joint.client.kept.notes < life → NothingOf (suc n) life direction (Some joint)
past-begun direction joint n life k above = go direction
  where
    client_notes : List Note
    client_notes = notes_on (suc n) k.promises.client_history

    past-client : lives Client client_notes < life
    past-client = subst (λ m. m < life) (ap (λ notes. begun_on (suc n) notes) k.promises.client_stands.trace.noted ∙ begun-is-lives k.promises.client_history n) above

    past-server : lives Server (notes_on (suc n) k.promises.server_history) < life
    past-server =
        let fewer : lives Server (notes_on (suc n) k.promises.server_history) ≤ lives Client client_notes = server-within (notes_on (suc n) k.promises.server_history) client_notes (k.promises.to_server n).lives in
        omega (arith, past-client, fewer)

    both : (said told : List Telling) → IsPrefixOf (items_of (suc n) life told) (items_of (suc n) life said) → items_of (suc n) life said ≡ [] → (items_of (suc n) life said ≡ []) × (items_of (suc n) life told ≡ [])
    both said told prefix none = (none, prefix-none (items_of (suc n) life told) (items_of (suc n) life said) prefix none)

    go : (direction : Direction) → NothingOf (suc n) life direction (Some joint)
    go directions.ToServer =
        both joint.client.kept.said joint.server.kept.told (written Server joint.server joint.client k.promises.server_history k.promises.client_history n life (k.promises.to_server n))
        ((k.promises.to_server n).sent_is life ∙ nothing-sent Client n life k.promises.client_history past-client)
    go directions.ToClient =
        both joint.server.kept.said joint.client.kept.told (written Client joint.client joint.server k.promises.client_history k.promises.server_history n life (k.promises.to_client n))
        ((k.promises.to_client n).sent_is life ∙ nothing-sent Server n life k.promises.server_history past-server)

-- the life has begun on this connection, if there is one
abbrev BegunAt : (channel life : ℕ) → Option Joint → Type 0
BegunAt channel life there = (0 < channel) × (0 < life) × (life ≤ begun_at channel there)

in-no-life : (direction : Direction) (joint : Joint) (channel life : ℕ) → AllPromiseLaws → (BegunAt channel life (Some joint) → ⊥) → KeepsPromises joint → NothingOf channel life direction (Some joint)
in-no-life direction joint zero life laws unbegun k = on-channel-zero direction joint life laws k
in-no-life direction joint (suc n) zero laws unbegun k = in-life-zero direction joint (suc n) laws k
in-no-life direction joint (suc n) (suc m) laws unbegun k = go (cases_lt (begun_on (suc n) joint.client.kept.notes) (suc m))
  where
    go : (begun_on (suc n) joint.client.kept.notes < suc m) ⊎ (suc m ≤ begun_on (suc n) joint.client.kept.notes) → NothingOf (suc n) (suc m) direction (Some joint)
    go (inl above) = past-begun direction joint n (suc m) k above
    go (inr within) = absurd (unbegun (omega arith, omega arith, within))

-- that a list is empty is told from a truncation
empty-of : (A : Type 0) (one other : List Item) → ∥ A ∥₁ → (A → (one ≡ []) × (other ≡ [])) → (one ≡ []) × (other ≡ [])
empty-of A one other t both =
    let lengths : (length one ≡ 0) × (length other ≡ 0) = ∥∥₁_elim t (hlevel props) (λ a. (ap length (both a).0, ap length (both a).1)) in
    (nil_from_length one lengths.0, nil_from_length other lengths.1)

nothing-at : (direction : Direction) (there : Option Joint) (channel life : ℕ) → AllPromiseLaws → (BegunAt channel life there → ⊥) → ((joint : Joint) → there ≡ Some joint → ∥ KeepsPromises joint ∥₁)
    → NothingOf channel life direction there
nothing-at direction None channel life laws unbegun each = (refl, refl)
nothing-at direction (Some joint) channel life laws unbegun each =
    empty-of (KeepsPromises joint) (items_of channel life (said_at direction (Some joint))) (items_of channel life (told_at direction (Some joint))) (each joint refl) (λ k. in-no-life direction joint channel life laws unbegun k)

-- Each connection of a link.

some-is : (one other : Joint) → Some one ≡ Some other → one ≡ other
some-is one other e = ap (λ o. the one o) e
  where
    the : Joint → Option Joint → Joint
    the default None = default
    the default (Some joint) = joint

at : (connection : Option Connection) (joint : Joint) → AllPromiseLaws → option_map connection_view connection ≡ Some joint → ∥ KeepsPromises joint ∥₁
at None joint laws e = absurd (none-some joint e)
at (Some connection) joint laws e =
    subst (λ j. ∥ KeepsPromises j ∥₁) (some-is (connection_view connection) joint e) (∥∥₁_map connection.joined (λ j. kept (connection_view connection) laws j))

each : (connections : List Connection) → AllPromiseLaws → (index : ℕ) (joint : Joint) → slice_get (map connection_view connections) index ≡ Some joint → ∥ KeepsPromises joint ∥₁
each connections laws index joint found = at (slice_get connections index) joint laws (sym (slice_get-map connection_view connections index) ∙ found)

-- The headline holds of every link.
pub headline : (link : Link) → AllPromiseLaws → Headline (link_view link)
headline link laws = record {
  prefix = λ life direction. prefix-at direction (slice_get (map connection_view link.connections.items) life.connection) life.channel life.number laws
      (λ joint found. each link.connections.items laws life.connection joint found);
  not_begun = λ life direction unbegun. nothing-at direction (slice_get (map connection_view link.connections.items) life.connection) life.channel life.number laws (λ begun. unbegun (record { on_channel = begun.0; least = begun.1; most = begun.2 }))
      (λ joint found. each link.connections.items laws life.connection joint found);
  connections = each link.connections.items laws;
}
