-- What is put on a channel is what the end puts: payload by payload.
use Rattle.std.proofs.Common.{◌≡◌, ◌<◌, ℕ, List, [], ◌∷◌, map, refl, ap, ◌∙◌}
use Rattle.amqp_model.specs.End.Asks.{payload_frame}
use Rattle.amqp_model.specs.End.Channels.{Agreed, Channel}
use Rattle.amqp_model.specs.Wire.Contents as contents
use Rattle.amqp_model.specs.Wire.Contents.{Payload, Unread}
use Rattle.amqp_model.specs.History.Histories.{PutHere}
use Rattle.amqp_model.specs.End.Machine.{set_channel, channel_after, end_after, end_after_put}
use Rattle.amqp_model.specs.Wire.Methods.{Method, Properties}
use Rattle.amqp_model.specs.History.Negotiation.{Config}
use Rattle.amqp_model.specs.Wire.Readings.{Reading, Calls, UnknownMethod, MalformedMethod, HeaderOf, MalformedHeader, BodyOf, Beat, payload_of, reading as reading_of}
use Rattle.amqp_channel.specs.Channels.Payloads.{reading_as, after_payloads}
use Rattle.amqp_channel.specs.Roles.{role_of}
use Rattle.amqp_channel.specs.declared.site.Site.{Site}
use Rattle.amqp_core.proofs.EndLemmas.{entry_above, set_here, set_twice}
use Rattle.amqp_core.specs.Connection.OneChannel.{running_end, IsWritten, AreWritten, SayPayloads, PutsAsEnd}

read_call : (reading : Reading) (method : Method) → payload_of reading ≡ contents.Calls method → reading ≡ Calls method
read_call (Calls other) method e = cc
read_call UnknownMethod method e = cc
read_call MalformedMethod method e = cc
read_call (HeaderOf size properties) method e = cc
read_call MalformedHeader method e = cc
read_call (BodyOf octets) method e = cc
read_call (Beat empty) method e = cc

read_header : (reading : Reading) (size : ℕ) (properties : Properties) → payload_of reading ≡ contents.Header size properties → reading ≡ HeaderOf size properties
read_header (Calls other) size properties e = cc
read_header UnknownMethod size properties e = cc
read_header MalformedMethod size properties e = cc
read_header (HeaderOf other others) size properties e = cc
read_header MalformedHeader size properties e = cc
read_header (BodyOf octets) size properties e = cc
read_header (Beat empty) size properties e = cc

read_body : (reading : Reading) (octets : List ℕ) → payload_of reading ≡ contents.Body octets → reading ≡ BodyOf octets
read_body (Calls other) octets e = cc
read_body UnknownMethod octets e = cc
read_body MalformedMethod octets e = cc
read_body (HeaderOf other others) octets e = cc
read_body MalformedHeader octets e = cc
read_body (BodyOf other) octets e = cc
read_body (Beat empty) octets e = cc

-- a frame that says a payload reads as it
read_as : (reading : Reading) (payload : Payload) → IsWritten payload → payload_of reading ≡ payload → reading ≡ reading_as payload
read_as reading (contents.Calls method) written e = read_call reading method e
read_as reading (contents.Header size properties) written e = read_header reading size properties e
read_as reading (contents.Body octets) written e = read_body reading octets e
read_as reading Unread written e = absurd written

channel_is : (number : ℕ) (payload : Payload) → (payload_frame number payload).channel ≡ number
channel_is number (contents.Calls method) = refl
channel_is number (contents.Header size properties) = refl
channel_is number (contents.Body octets) = refl
channel_is number Unread = refl

-- one frame
put_once : (site : Site) (config : Config (role_of site.side)) (limits : Agreed) (payload : Payload) (channels : ℕ → Channel) → 0 < site.number → IsWritten payload → payload_of (reading_of (payload_frame site.number payload)) ≡ payload → end_after (role_of site.side) config (payload_frame site.number payload).channel (PutHere (reading_of (payload_frame site.number payload)) (payload_frame site.number payload)) (running_end site limits channels) ≡ running_end site limits (set_channel site.number (channel_after (role_of site.side) (PutHere (reading_as payload) (payload_frame site.number payload)) (channels site.number)) channels)
put_once site config limits payload channels h written says =
    ap (λ k. end_after (role_of site.side) config k (PutHere (reading_of (payload_frame site.number payload)) (payload_frame site.number payload)) (running_end site limits channels)) (channel_is site.number payload)
    ∙ (ap (λ r. end_after (role_of site.side) config site.number (PutHere r (payload_frame site.number payload)) (running_end site limits channels)) (read_as (reading_of (payload_frame site.number payload)) payload written says)
    ∙ entry_above site config limits site.number (PutHere (reading_as payload) (payload_frame site.number payload)) channels h)

from_set : (site : Site) (config : Config (role_of site.side)) (limits : Agreed) (payloads : List Payload) (channel : Channel) (channels : ℕ → Channel) → 0 < site.number → AreWritten payloads → SayPayloads site.number payloads → end_after_put (role_of site.side) config (map (payload_frame site.number) payloads) (running_end site limits (set_channel site.number channel channels)) ≡ running_end site limits (set_channel site.number (after_payloads (role_of site.side) site.number payloads channel) channels)
from_set site config limits [] channel channels h written say = refl
from_set site config limits (payload ∷ payloads) channel channels h written say =
    let after : Channel → Channel = channel_after (role_of site.side) (PutHere (reading_as payload) (payload_frame site.number payload)) in
    let here : after (set_channel site.number channel channels site.number) ≡ after channel = ap after (set_here site.number channel channels) in
    ap (end_after_put (role_of site.side) config (map (payload_frame site.number) payloads))
    (put_once site config limits payload (set_channel site.number channel channels) h written.0 say.0
    ∙ (ap (λ c. running_end site limits (set_channel site.number c (set_channel site.number channel channels))) here
    ∙ ap (running_end site limits) (set_twice site.number channel (after channel) channels)))
    ∙ from_set site config limits payloads (after channel) channels h written.1 say.1

pub puts_as_end : PutsAsEnd
puts_as_end site config limits channels payload later h written say =
    ap (end_after_put (role_of site.side) config (map (payload_frame site.number) later)) (put_once site config limits payload channels h written.0 say.0)
    ∙ from_set site config limits later (channel_after (role_of site.side) (PutHere (reading_as payload) (payload_frame site.number payload)) (channels site.number)) channels h written.1 say.1
