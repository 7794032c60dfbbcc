-- The header is the one that the payload encodes.
use Rattle.std.proofs.Common.{◌≡◌, IfOk, sym, ap, subst}
use Rattle.amqp_method.specs.Texts.{text_of_header}
use Rattle.amqp_text.specs.Payloads.{line_of_read, line_view}
use Rattle.amqp_text.proofs.payloads.header_line.Goals as goal

pub returns-in-Ok : goal.returns-in-Ok
returns-in-Ok c =
    subst (λ l. IfOk c.line_of_header.result (λ line. line_view line ≡ l)) (ap (line_of_read text_of_header) (sym c.in-Ok.ensures.exact)) c.line_of_header.ensures
