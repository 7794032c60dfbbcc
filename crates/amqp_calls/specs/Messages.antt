-- Messages that C gives by their octets, and why octets aren't one.
use Rattle.std.specs.Prelude.{◌≡◌, ◌≢◌, ℕ, List, [], length, Bool, true, false, Option, Some, None}
use Rattle.std.specs.Prelude.{◌⊎◌}
use Rattle.amqp_method.specs.Arguments.{Argument, Call}
use Rattle.amqp_method.specs.FirstFault.{FirstFaultOfHeader, FirstFaultOfMethod}
use Rattle.amqp_method.specs.Kinds.{has_content}
use Rattle.amqp_method.specs.Messages.{Letter}
use Rattle.amqp_method.specs.Properties.{ContentHeader, header, EncodesHeader}
use Rattle.amqp_method.specs.declared.faults.MethodFault.{MethodFault}
use Rattle.amqp_method.specs.declared.faults.MethodFaultKind.{MethodFaultKind}
use Rattle.amqp_method.specs.declared.faults.MethodFaultKind.TheVariants as kinds
use Rattle.amqp_calls.specs.CodecStatuses.{method_status}
use Rattle.amqp_calls.specs.declared.ends.messages.Unmade.{Unmade}
use Rattle.amqp_calls.specs.declared.ends.messages.Unmade.TheVariants.{Unread, Misfit, OutOfMemory}

abbrev pub unmade_status : Unmade → ℕ
unmade_status (Unread fault) = method_status fault.kind
unmade_status Misfit = 9
unmade_status OutOfMemory = 4

-- a fault that isn't one of memory is the payload's own
abbrev pub unread_by : MethodFaultKind → MethodFault → Unmade
unread_by kinds.OutOfMemory fault = OutOfMemory
unread_by kinds.UnknownMethod fault = Unread fault
unread_by (kinds.Value kind) fault = Unread fault
unread_by kinds.Trailing fault = Unread fault
unread_by kinds.BadWeight fault = Unread fault
unread_by kinds.BadFlags fault = Unread fault

abbrev pub unread_as : MethodFault → Unmade
unread_as fault = unread_by fault.kind fault

-- with a content exactly where the method has one
abbrev pub IsContent : Option (List (Option Argument)) → (follows : Bool)
    → (header_octets body : List ℕ) → Type 0
IsContent None follows header_octets body = (follows ≡ false) × (header_octets ≡ []) × (body ≡ [])
IsContent (Some properties) follows header_octets body =
    (follows ≡ true) × EncodesHeader (header (length body) properties) header_octets

-- a message whose method is one of these, of the octets of its header, and its body
pub record IsLetter (IsCall : Call → Type 0) (header_octets body : List ℕ) (letter : Letter) : Type 0 where
  -- its method
  pub method_is : IsCall letter.call
  -- its content, where one follows
  pub content_is : IsContent letter.properties (has_content letter.call.kind) header_octets body
  pub body_is : letter.body ≡ body

-- why a payload isn't read: the first fault in it
abbrev pub NotRead : (MethodFault → Type 0) → Unmade → Type 0
NotRead IsFirst (Unread fault) = IsFirst fault
NotRead IsFirst Misfit = ⊥
NotRead IsFirst OutOfMemory = Unit {0}

-- the header says another size than the body's
abbrev OtherSize : (header_octets body : List ℕ) → Type 0
OtherSize header_octets body = (h : ContentHeader) × EncodesHeader h header_octets × (h.body_size ≢ length body)

-- why these octets aren't a content: the header can't be read or says another size, or no content follows
abbrev pub NotContent : (header_octets body : List ℕ) → Unmade → Type 0
NotContent header_octets body (Unread fault) = FirstFaultOfHeader header_octets fault
NotContent header_octets body Misfit = OtherSize header_octets body ⊎ ((header_octets ≢ []) ⊎ (body ≢ []))
NotContent header_octets body OutOfMemory = Unit {0}

-- why these octets aren't a message
abbrev pub NotLetter : (method_octets header_octets body : List ℕ) → Unmade → Type 0
NotLetter method_octets header_octets body (Unread fault) =
    FirstFaultOfMethod method_octets fault ⊎ FirstFaultOfHeader header_octets fault
NotLetter method_octets header_octets body Misfit = NotContent header_octets body Misfit
NotLetter method_octets header_octets body OutOfMemory = Unit {0}
