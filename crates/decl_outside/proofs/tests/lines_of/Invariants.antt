use Rattle.std.proofs.Common.{◌≡◌, ◌≤◌, true}
use Rattle.decl_outside.specs.MemInputs.{state_of}
use Rattle.decl_outside.proofs.tests.lines_of.Given as goal

abbrev pub invariant-loop-turn : goal.invariant-loop-turn
invariant-loop-turn l = ((state_of l.inputs).is_open ≡ true) × (l.lines.given ≤ l._turn)
