use Rattle.std.proofs.Common.{ℕ, ◌+◌, List, ◌∷◌, take, ◌∙◌, sym, ap}
use Rattle.std.proofs.lemmas.List.{take_rest}
use Rattle.amqp_text.specs.Hexadecimal.{lines}
use Rattle.amqp_text.proofs.HexadecimalLemmas.{one_line, line_and_others}
use Rattle.amqp_text.proofs.hexadecimal.cut_line.Goals as goal

pub returns-in-Some-clause-lines : goal.returns-in-Some-clause-lines
returns-in-Some-clause-lines c = line_and_others c.args.text.now c.in-Some.end (sym c.line_end.ensures ∙ c.in-Some.is) ∙ ap (λ (rest : List ℕ). take c.in-Some.end c.args.text.now ∷ lines rest) (sym (take_rest c.args.text.now (c.in-Some.end + 1)))

pub returns-in-None-clause-lines : goal.returns-in-None-clause-lines
returns-in-None-clause-lines c = one_line c.args.text.now (sym c.line_end.ensures ∙ c.in-None.is)
