-- How many lines were given.
use Rattle.std.proofs.Common.{◌+◌, ◌≤◌, Option, None, Some, Bool, Ok, arith}
use Rattle.decl_outside.specs.Inputs.{InputState}
use Rattle.decl_outside.specs.Lines.{LinesState, LineValue, GivesLine, TakesLine}

given_by : (old new : LinesState) (before after : InputState) (line : Option LineValue) → GivesLine old new before after line → new.given ≤ old.given + 1
given_by old new before after None h = omega (arith, h.0)
given_by old new before after (Some line) h = omega (arith, h.1)

-- a call gives at most one line more
pub given_most : (old new : LinesState) (before after : InputState) (found : Bool) → TakesLine old new before after (Ok found) → new.given ≤ old.given + 1
given_most old new before after found h = given_by old new before after new.line h.given
