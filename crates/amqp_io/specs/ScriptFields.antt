-- How a script keeps what callers see of it.
use Rattle.std.specs.Prelude.{◌≤◌, drop, length}
use Rattle.amqp_io.specs.Tape.{Tape}
use Rattle.amqp_io.specs.declared.script.Script.TheInside.{Inside}

-- what callers see of a script
abbrev pub tape_of : Inside → Tape
tape_of script = record {
  to_give = drop script.given script.input.items;
  taken = script.taken.items;
  answers = drop script.used script.answers.items;
  failures = script.failures;
  ends = script.ends;
}

-- no more was given than the input has, and no more answers were used than there are
abbrev pub ScriptIsSound : Inside → Type 0
ScriptIsSound script = (script.given ≤ length script.input.items) × (script.used ≤ length script.answers.items)
