-- A content whose body lies in chunks: why it is refused is no matter of its body, and to put it wants no memory.
use Rattle.std.proofs.Common.{◌≡◌, ◌+◌, ◌⊎◌, ◌||◌, nat_lt, true, false, ℕ, List, [], ◌∷◌, length, inl, inr, refl, ap}
use Rattle.amqp_method.specs.Kinds.{has_content}
use Rattle.amqp_method.specs.declared.kinds.Kind.TheVariants.{BasicPublish, BasicReturn, BasicDeliver, BasicGetOk}
use Rattle.amqp_method.proofs.KindLemmas.{content_is}
use Rattle.amqp_model.specs.End.Asks.{Ask, TooLarge, bad_channel, first_refusal, flow_pending, frame_max, no_free_channel, no_such_request, not_open, not_running, not_sendable, paused, refusal, reply_pending, when}
use Rattle.amqp_model.specs.End.Channels.{End}
use Rattle.amqp_model.specs.Wire.Methods.{Method, MethodKind, Properties, Never, is_request, is_wanted, plain_header, plain_method, wants}
use Rattle.amqp_model.specs.Wire.Notes.{Role, Client, Server}
use Rattle.amqp_core.specs.Asks.Outcomes.{content_asked}

-- A header is as long whatever the size that it says.
sizes_alike : (properties : Properties) (size other : ℕ)
    → length (plain_header (record { body_size = size; properties = properties })) ≡ length (plain_header (record { body_size = other; properties = properties }))
unfolding plain_header
sizes_alike properties size other = refl

-- the same refusals apply to a content with another body
pub refused_alike : (role : Role) (end : End) (number : ℕ) (method : Method) (properties : Properties) (body other : List ℕ)
    → refusal role end (content_asked number method properties body) ≡ refusal role end (content_asked number method properties other)
refused_alike Client end number method properties body other =
    let ask : Ask = content_asked number method properties body in
    ap (λ (octets : ℕ). first_refusal
    (not_running end
    ∷ bad_channel end ask
    ∷ not_open end ask
    ∷ paused end ask
    ∷ not_sendable Client ask
    ∷ when (nat_lt (frame_max end.agreed) (length (plain_method method) + 8) || nat_lt (frame_max end.agreed) (octets + 8)) TooLarge
    ∷ flow_pending end ask
    ∷ no_free_channel end ask
    ∷ reply_pending Client end ask
    ∷ no_such_request Client end ask
    ∷ []))
    (sizes_alike properties (length body) (length other))
refused_alike Server end number method properties body other =
    let ask : Ask = content_asked number method properties body in
    ap (λ (octets : ℕ). first_refusal
    (not_running end
    ∷ bad_channel end ask
    ∷ not_open end ask
    ∷ paused end ask
    ∷ not_sendable Server ask
    ∷ when (nat_lt (frame_max end.agreed) (length (plain_method method) + 8) || nat_lt (frame_max end.agreed) (octets + 8)) TooLarge
    ∷ flow_pending end ask
    ∷ no_free_channel end ask
    ∷ reply_pending Server end ask
    ∷ no_such_request Server end ask
    ∷ []))
    (sizes_alike properties (length body) (length other))

-- No method of a content is a request.
never_wanted : (kind : MethodKind) → (kind ≡ BasicPublish) ⊎ (kind ≡ BasicReturn) ⊎ (kind ≡ BasicDeliver) ⊎ (kind ≡ BasicGetOk) → wants kind ≡ Never
never_wanted kind (inl e) = ap wants e
never_wanted kind (inr (inl e)) = ap wants e
never_wanted kind (inr (inr (inl e))) = ap wants e
never_wanted kind (inr (inr (inr e))) = ap wants e

pub no_request : (method : Method) → has_content method.kind ≡ true → is_request method ≡ false
no_request method content = ap (is_wanted method) (never_wanted method.kind (content_is method.kind content))
