-- What an end keeps of a content under way whose octets it lends as they come: no method's arguments, no properties, no
-- octet of the body. AMQP 0-9-1 specification, section 4.2.6, "Content Framing".
--
-- `Gathering` is what an end keeps that gives whole contents. `streamed` leaves of it what is looked at by the rules.
use Rattle.std.specs.Prelude.{Bool, true, false, cond, nat_lt, ℕ, ◌+◌, List, [], ◌∷◌, length, replicate}
use Rattle.std.specs.Prelude.{◌==◌}
use Rattle.amqp_model.specs.Wire.Methods.{MethodKind, Method, carries_content}
use Rattle.amqp_model.specs.Wire.Contents.{Payload, Calls, Header, Body, Unread}
use Rattle.amqp_model.specs.Wire.Gathering.{Gathering, Nothing, HeaderDue, BodyDue, Misfit, NothingBegun, HeaderAwaited}
use Rattle.amqp_model.specs.Wire.Gathering.{BodyAwaited, PastSize, MethodInside, NotRead, Step, Keeps, Completes}
use Rattle.amqp_model.specs.Wire.Gathering.{Breaks}

-- Nothing is under way; or a method of this kind was taken, and the header is due; or the header was taken too, and of
-- a body of so many octets so many have come.
pub data Streaming : Type 0 where
  NoContent : Streaming
  AwaitsHeader : (kind : MethodKind) → Streaming
  AwaitsBody : (kind : MethodKind) → (size came : ℕ) → Streaming

-- what a payload does to it: it goes on, a content whose method is of this kind is whole, or the payload doesn't fit
pub data Streams : Type 0 where
  GoesOn : Streaming → Streams
  Ends : (kind : MethodKind) → Streams
  Stops : Misfit → Streams

-- a method that carries a content begins one
abbrev pub stream_begun : Method → Streaming
stream_begun method = cond (carries_content method) (AwaitsHeader method.kind) NoContent

-- so many octets of a body of this size have come: it is whole, or more is due, or they are too many
abbrev pub stream_came : (kind : MethodKind) → (size came : ℕ) → Streams
stream_came kind size came =
    cond (came == size) (Ends kind)
    (cond (nat_lt came size) (GoesOn (AwaitsBody kind size came)) (Stops PastSize))

-- what a payload does where such is kept
abbrev pub stream_step : Streaming → Payload → Streams
stream_step streaming Unread = Stops NotRead
stream_step NoContent (Calls method) = GoesOn (stream_begun method)
stream_step NoContent (Header size properties) = Stops NothingBegun
stream_step NoContent (Body octets) = Stops NothingBegun
stream_step (AwaitsHeader kind) (Header size properties) = stream_came kind size 0
stream_step (AwaitsHeader kind) (Body octets) = Stops HeaderAwaited
stream_step (AwaitsBody kind size came) (Body octets) = stream_came kind size (came + length octets)
stream_step (AwaitsBody kind size came) (Header again others) = Stops BodyAwaited
stream_step streaming (Calls method) = Stops MethodInside

-- a content that is whole is kept no more; a payload that doesn't fit ends the content, and may begin another
abbrev pub stream_remains : Streams → Payload → Streaming
stream_remains (GoesOn streaming) payload = streaming
stream_remains (Ends kind) payload = NoContent
stream_remains (Stops misfit) (Calls method) = stream_begun method
stream_remains (Stops misfit) payload = NoContent

-- what is kept after these payloads
abbrev pub streaming : (taken : List Payload) → Streaming
streaming [] = NoContent
streaming (payload ∷ before) = stream_remains (stream_step (streaming before) payload) payload

-- how many octets of the body have come
abbrev pub came : Streaming → ℕ
came NoContent = 0
came (AwaitsHeader kind) = 0
came (AwaitsBody kind size octets) = octets

-- a content is under way
abbrev pub is_streaming : Streaming → Bool
is_streaming NoContent = false
is_streaming streaming = true

-- the octets that a payload brings to a body
abbrev pub octets_of : Payload → List ℕ
octets_of (Body octets) = octets
octets_of payload = []

-- what of a gathered content is kept where its octets are lent
abbrev pub streamed : Gathering → Streaming
streamed Nothing = NoContent
streamed (HeaderDue method) = AwaitsHeader method.kind
streamed (BodyDue method size properties body) = AwaitsBody method.kind size (length body)

abbrev pub streamed_step : Step → Streams
streamed_step (Keeps gathering) = GoesOn (streamed gathering)
streamed_step (Completes content) = Ends content.method.kind
streamed_step (Breaks misfit) = Stops misfit

-- a method of this kind, of which nothing else is known
abbrev method_of_kind : MethodKind → Method
method_of_kind kind = record { kind = kind; args = [] }

-- a content under way of which as much is known: one of those that `streamed` takes there
abbrev pub gathered_as : Streaming → Gathering
gathered_as NoContent = Nothing
gathered_as (AwaitsHeader kind) = HeaderDue (method_of_kind kind)
gathered_as (AwaitsBody kind size octets) = BodyDue (method_of_kind kind) size [] (replicate octets 0)
