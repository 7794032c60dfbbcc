-- What reading a content header answers, where it is kept (`ReadsHeader`) and where it is only checked
-- (`ChecksHeader`). Read before: what a header is encoded as (`Properties`), its first fault (`FirstFault`), and what
-- is read (`HeaderReading`).
use Rattle.std.specs.Prelude.{◌≡◌, ◌⊎◌, ℕ, List, Option, Result, Ok, Err, IfOk, IfErr}
use Rattle.amqp_method.specs.Arguments.{Argument}
use Rattle.amqp_method.specs.Faults.{out_of_memory}
use Rattle.amqp_method.specs.FirstFault.{FirstFaultOfHeader}
use Rattle.amqp_method.specs.HeaderChecking.{size_read}
use Rattle.amqp_method.specs.HeaderReading.{header_at}
use Rattle.amqp_method.specs.HeaderView.{header_view}
use Rattle.amqp_method.specs.Properties.{ContentHeader, EncodesHeader, header}
use Rattle.amqp_method.specs.Reading.{Gives}
use Rattle.amqp_method.specs.declared.faults.MethodFault.{MethodFault}
use Rattle.amqp_method.specs.declared.headers.Header.{Header}

pub record ReadsHeader (octets : List ℕ) (result : Result Header MethodFault) : Type 0 where
  -- What is read is encoded so.
  pub found : IfOk result (λ h. EncodesHeader (header_view h) octets)
  -- What is encoded so is read, unless memory runs out.
  pub only : (h : ContentHeader) → EncodesHeader h octets → Gives header_view result (Ok h)
  -- Every other fault comes where the octets encode no header.
  pub refused : IfErr result (λ e. (e ≡ out_of_memory) ⊎ ((h : ContentHeader) → EncodesHeader h octets → ⊥))
  -- It is the fault of the first field that can't be read.
  pub fault : IfErr result (λ e. (e ≡ out_of_memory) ⊎ FirstFaultOfHeader octets e)
  -- That one is reported whatever memory there is.
  pub told : (e : MethodFault) → FirstFaultOfHeader octets e → result ≡ Err e
  -- What is read, as a function of the octets.
  pub exact : Gives header_view result (header_at octets)

pub record ChecksHeader (octets : List ℕ) (result : Result ℕ MethodFault) : Type 0 where
  -- What passes is encoded so.
  pub found :
      IfOk result (λ size. (properties : List (Option Argument)) × EncodesHeader (header size properties) octets)
  -- What is encoded so passes.
  pub only : (h : ContentHeader) → EncodesHeader h octets → result ≡ Ok h.body_size
  -- A fault comes where the octets encode no header.
  pub refused : IfErr result (λ e. (h : ContentHeader) → EncodesHeader h octets → ⊥)
  -- It is the fault of the first field that can't be read.
  pub fault : IfErr result (λ e. FirstFaultOfHeader octets e)
  -- That one is reported.
  pub told : (e : MethodFault) → FirstFaultOfHeader octets e → result ≡ Err e
  -- What is read, as a function of the octets.
  pub exact : result ≡ size_read (header_at octets)
