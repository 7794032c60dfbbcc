-- The headline.
--
-- Whatever the applications ask, however the two octet streams are cut and interleaved, and wherever connections are
-- dropped and begun anew, what an end acts on in a channel's life is a prefix of what the other sent in that life, the
-- rest being in flight, lost in a drop, or after the reader's close; no frame is taken in another life; neither end
-- finds fault.
--
-- "Whatever is asked, cut, interleaved, dropped, begun anew" is any list of steps: `Link::step` and `Link::run` ensure
-- this of the link that they leave. `sent` and `acted` answer the two lists of which the one is a prefix of the other,
-- `tally` their lengths; each of them ensures the same of the link that it is asked of.
use Rattle.std.specs.Prelude.{◌≡◌, ℕ, [], Some, slice_get}
use Rattle.amqp_model.specs.History.Negotiation.{Config}
use Rattle.amqp_model.specs.Wire.Notes.{Client, Server}
use Rattle.amqp_model.specs.Output.Prefixes.{IsPrefixOf}
use Rattle.amqp_link.specs.Items.{HasBegun, acted_in, sent_in}
use Rattle.amqp_link.specs.LinkSteps.{Linked}
use Rattle.amqp_link.specs.Promises.{Promises}
use Rattle.amqp_link.specs.Seats.{Joint}
use Rattle.amqp_link.specs.declared.lives.Life.{Life}
use Rattle.amqp_link.specs.declared.steps.Direction.{Direction}

-- A connection, of a client and a server with their configurations: in each life, in both directions, no frame is taken
-- in another life, all of a life was acted on where the other's close ended it, the rest of one that goes on is in
-- flight, nothing waits for a closed end, no content comes while paused, each reply answers its request in turn, and no
-- fault is found. What the ends wrote down as sent and acted on is exactly what the frames of the life encode.
pub record KeepsPromises (joint : Joint) : Type 0 where
  pub client_config : Config Client
  pub server_config : Config Server
  pub client_is : joint.client.set_up ≡ (Client, client_config)
  pub server_is : joint.server.set_up ≡ (Server, server_config)
  pub promises : Promises client_config server_config joint.client joint.server

pub record Headline (link : Linked) : Type 0 where
  -- what an end acts on in a channel's life is a prefix of what the other sent in that life
  pub prefix : (life : Life) (direction : Direction) → ∥ IsPrefixOf (acted_in link life direction)
      (sent_in link life direction) ∥₁
  -- nothing is sent and nothing acted on in a life that has not begun: there is none of channel 0, and none with the
  -- number 0
  pub not_begun : (life : Life) (direction : Direction) → (HasBegun link life → ⊥)
      → (sent_in link life direction ≡ []) × (acted_in link life direction ≡ [])
  -- and so for all that its connections promise
  pub connections : (index : ℕ) (joint : Joint) → slice_get link.connections index ≡ Some joint
      → ∥ KeepsPromises joint ∥₁
