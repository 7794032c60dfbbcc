-- The line below a frame's, of what its payload says.
use Rattle.std.specs.Prelude.{ℕ, List, ◌++◌, Bool, true, false, Option, Some, None, Result, Ok, Err, codes}
use Rattle.std.specs.Fmt.{decimal}
use Rattle.std.specs.String.{string_bytes}
use Rattle.amqp_frame.specs.Frame.{Frame}
use Rattle.amqp_frame.specs.declared.frames.FrameKind.{FrameKind}
use Rattle.amqp_frame.specs.declared.frames.FrameKind.TheVariants.{Method, Header, Body, Heartbeat}
use Rattle.amqp_value.specs.Faults.{fault_number}
use Rattle.amqp_method.specs.HeaderReading.{header_at}
use Rattle.amqp_method.specs.Reading.{method_at}
use Rattle.amqp_method.specs.Texts.{text_of_header, text_of_method}
use Rattle.amqp_method.specs.declared.faults.MethodFault.{MethodFault}
use Rattle.amqp_method.specs.declared.faults.MethodFaultKind.{MethodFaultKind}
use Rattle.amqp_method.specs.declared.faults.MethodFaultKind.TheVariants as faults
use Rattle.amqp_text.specs.declared.payloads.PayloadLine.{PayloadLine}

-- a line, and whether it shows a fault
pub record Line : Type 0 where
  pub text : List ℕ
  pub is_fault : Bool

abbrev pub line_view : PayloadLine → Line
line_view line = record { text = string_bytes line.text; is_fault = line.is_fault }

-- two spaces and the text of what was read
abbrev pub text_line : List ℕ → Line
text_line text = record { text = codes "  " ++ text; is_fault = false }

-- the number of a fault of a field value, which begins with that of such faults
abbrev pub own_fault_number : (kind : ℕ) → List ℕ
own_fault_number kind = codes "2." ++ decimal kind

abbrev fault_number_text : MethodFaultKind → List ℕ
fault_number_text faults.UnknownMethod = codes "1"
fault_number_text (faults.Value kind) = own_fault_number (fault_number kind)
fault_number_text faults.Trailing = codes "3"
fault_number_text faults.BadWeight = codes "4"
fault_number_text faults.BadFlags = codes "5"
fault_number_text faults.OutOfMemory = codes "6"

-- two spaces, the number, and the place in the payload
abbrev pub fault_line_of : MethodFault → Line
fault_line_of fault =
    record {
      text = codes "  fault " ++ (fault_number_text fault.kind
          ++ (codes " at " ++ decimal fault.at));
      is_fault = true;
    }

-- the line of what reading gives
abbrev pub line_of_read : {X : Type 0} → (text_of : X → List ℕ) → Result X MethodFault → Line
line_of_read text_of (Ok x) = text_line (text_of x)
line_of_read text_of (Err fault) = fault_line_of fault

-- the line below a frame's, if one stands there: of a method and of a header
abbrev line_below : FrameKind → (payload : List ℕ) → Option Line
line_below Method payload = Some (line_of_read text_of_method (method_at payload))
line_below Header payload = Some (line_of_read text_of_header (header_at payload))
line_below Body payload = None
line_below Heartbeat payload = None

abbrev pub payload_line_of : Frame → Option Line
payload_line_of frame = line_below frame.kind frame.payload
