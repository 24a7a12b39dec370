use Rattle.std.proofs.Common.{ℕ, ◌<◌, get_or}
use Rattle.template_core.specs.Constraints.{IsWellMadeFor}
use Rattle.template_core.specs.declared.constraint.Constraint.{Constraint}
use Rattle.automata_tests.proofs.reductions.admitted.Given as goal

abbrev pub invariant-loop-constraint : goal.invariant-loop-constraint
invariant-loop-constraint l = (k : ℕ) (d : Constraint) → k < l.constraint-index → IsWellMadeFor l.symbols (get_or l.list k d)
