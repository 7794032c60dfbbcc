-- Messages that are sent: from a header that says a size to all the octets of a message.
use Rattle.std.proofs.Common.{◌≡◌, ◌≢◌, ◌==◌, ℕ, List, [], ◌∷◌, length, Bool, true, false, ◌⊎◌, refl, inl, inr, sym, subst, ap, ◌∙◌, arith}
use Rattle.std.proofs.lemmas.Bool.{eqb-true, false≢true}
use Rattle.amqp_method.specs.Arguments.{Call}
use Rattle.amqp_method.specs.Encoding.{EncodesMethod}
use Rattle.amqp_method.specs.Faults.{out_of_memory}
use Rattle.amqp_method.specs.FirstFault.{FirstFaultOfHeader, FirstFaultOfMethod}
use Rattle.amqp_method.specs.Kinds.{has_content}
use Rattle.amqp_method.specs.Messages.{letter_with}
use Rattle.amqp_method.specs.Properties.{ContentHeader, header, EncodesHeader}
use Rattle.amqp_method.specs.declared.faults.MethodFault.{MethodFault}
use Rattle.amqp_method.specs.declared.faults.MethodFaultKind.{MethodFaultKind}
use Rattle.amqp_method.specs.declared.faults.MethodFaultKind.TheVariants as kinds
use Rattle.amqp_core.specs.declared.roles.Role.{Ghosts}
use Rattle.amqp_core.specs.declared.stream.StreamEnd.{StreamEnd}
use Rattle.amqp_handle.specs.declared.kept.Kept.{Kept}
use Rattle.amqp_calls.specs.Messages.{unread_as, unread_by, NotContent, NotLetter, NotRead}
use Rattle.amqp_calls.specs.Sending.{SendsCall, SendsKept, SizedOne}
use Rattle.amqp_calls.specs.Sending.SendsOne.{unmade, sent}
use Rattle.amqp_calls.specs.Sending.SizedOne.{other, sized}
use Rattle.amqp_calls.specs.declared.ends.messages.Unmade.{Unmade}
use Rattle.amqp_calls.specs.declared.ends.messages.Unmade.TheVariants.{Unread, Misfit, OutOfMemory}

-- a content, once its header is read
pub of_sized : {R H : Type 0} {G : Ghosts R H} (old : Kept (StreamEnd R H G)) (channel : ℕ) (call : Call) (h : ContentHeader) (octets body : List ℕ)
    (status : ℕ) (new : Kept (StreamEnd R H G)) → has_content call.kind ≡ true → EncodesHeader h octets → SizedOne old channel call h body status new
    → SendsCall old channel call octets body status new
of_sized old channel call h octets body status new follows encodes (other differs is same) = unmade Misfit (inl (h, encodes, differs)) is same
of_sized old channel call h octets body status new follows encodes (sized is kept) =
    sent (letter_with call h.properties body)
    (record {
      method_is = refl;
      content_is = (follows, subst (λ (n : ℕ). EncodesHeader (header n h.properties) octets) is encodes);
      body_is = refl;
    })
    kept

not_read_by : (P : MethodFault → Type 0) (kind : MethodFaultKind) (fault : MethodFault) → P fault → NotRead P (unread_by kind fault)
not_read_by P kinds.OutOfMemory fault first = tt
not_read_by P kinds.UnknownMethod fault first = first
not_read_by P (kinds.Value kind) fault first = first
not_read_by P kinds.Trailing fault first = first
not_read_by P kinds.BadWeight fault first = first
not_read_by P kinds.BadFlags fault first = first

-- a payload isn't read for its first fault, or for want of memory
pub not_read : (P : MethodFault → Type 0) (fault : MethodFault) → (fault ≡ out_of_memory) ⊎ P fault → NotRead P (unread_as fault)
not_read P fault (inl is) = subst (λ (f : MethodFault). NotRead P (unread_as f)) (sym is) tt
not_read P fault (inr first) = not_read_by P fault.kind fault first

-- octets are there, or none
pub some_there : (octets : List ℕ) (none : Bool) → none ≡ (length octets == 0) → none ≡ false → octets ≢ []
some_there octets none is unset empty = absurd (false≢true (sym unset ∙ (is ∙ ap (λ (o : List ℕ). length o == 0) empty)))

pub none_there : (octets : List ℕ) (none : Bool) → none ≡ (length octets == 0) → none ≡ true → octets ≡ []
none_there [] none is there = refl
none_there (n ∷ octets) none is there = absurd (omega (arith, eqb-true (length (n ∷ octets)) 0 (sym is ∙ there)))

-- a header that can't be read is no content's
pub not_content : (octets body : List ℕ) (fault : Unmade) → NotRead (FirstFaultOfHeader octets) fault → NotContent octets body fault
not_content octets body (Unread fault) not = not
not_content octets body Misfit not = absurd not
not_content octets body OutOfMemory not = tt

-- a method that can't be read is no message's
pub not_method : (method header body : List ℕ) (fault : Unmade) → NotRead (FirstFaultOfMethod method) fault → NotLetter method header body fault
not_method method header body (Unread fault) not = inl not
not_method method header body Misfit not = absurd not
not_method method header body OutOfMemory not = tt

not_letter : (method header body : List ℕ) (fault : Unmade) → NotContent header body fault → NotLetter method header body fault
not_letter method header body (Unread fault) not = inr not
not_letter method header body Misfit not = not
not_letter method header body OutOfMemory not = tt

-- a message, once its method is read
pub of_call : {R H : Type 0} {G : Ghosts R H} (old : Kept (StreamEnd R H G)) (channel : ℕ) (call : Call) (method header body : List ℕ) (status : ℕ)
    (new : Kept (StreamEnd R H G)) → EncodesMethod call method → SendsCall old channel call header body status new
    → SendsKept old channel method header body status new
of_call old channel call method header body status new encodes (unmade fault not is same) =
    unmade fault (not_letter method header body fault not) is same
of_call old channel call method header body status new encodes (sent letter is kept) =
    sent letter
    (record {
      method_is = subst (λ (c : Call). EncodesMethod c method) (sym is.method_is) encodes;
      content_is = is.content_is;
      body_is = is.body_is;
    })
    kept
