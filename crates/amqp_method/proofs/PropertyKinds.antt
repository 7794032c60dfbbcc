-- The properties of the code are of the standard's kinds.
use Rattle.std.proofs.Common.{◌≡◌, List, ◌∷◌, Option, Some, None, refl}
use Rattle.amqp_method.specs.Arguments.{Argument, octet, long_long, short_string, kind_of}
use Rattle.amqp_method.specs.HeaderView.{present, table_argument, properties_view}
use Rattle.amqp_method.specs.Properties.{HaveKinds, property_kinds}
use Rattle.amqp_method.specs.declared.fields.FieldKind.{FieldKind}
use Rattle.amqp_method.specs.declared.headers.Properties.{Properties}

next : {A : Type 0} (make : A → Argument) (kind : FieldKind) (p : Option A) (properties : List (Option Argument)) (kinds : List FieldKind) → ((x : A) → kind_of (make x) ≡ kind)
    → HaveKinds properties kinds → HaveKinds (present make p ∷ properties) (kind ∷ kinds)
next make kind None properties kinds is h = h
next make kind (Some x) properties kinds is h = (is x, h)

pub properties_have_kinds : (p : Properties) → HaveKinds (properties_view p) property_kinds
properties_have_kinds p =
    next short_string _ p.content_type _ _ (λ x. refl) (
    next short_string _ p.content_encoding _ _ (λ x. refl) (
    next table_argument _ p.headers _ _ (λ x. refl) (
    next octet _ p.delivery_mode _ _ (λ x. refl) (
    next octet _ p.priority _ _ (λ x. refl) (
    next short_string _ p.correlation_id _ _ (λ x. refl) (
    next short_string _ p.reply_to _ _ (λ x. refl) (
    next short_string _ p.expiration _ _ (λ x. refl) (
    next short_string _ p.message_id _ _ (λ x. refl) (
    next long_long _ p.timestamp _ _ (λ x. refl) (
    next short_string _ p.type_name _ _ (λ x. refl) (
    next short_string _ p.user_id _ _ (λ x. refl) (
    next short_string _ p.app_id _ _ (λ x. refl) (
    next short_string _ p.cluster_id _ _ (λ x. refl) (
    tt))))))))))))))
