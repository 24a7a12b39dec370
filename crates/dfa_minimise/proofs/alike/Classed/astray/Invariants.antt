use Rattle.std.proofs.Common.{◌≡◌, ◌<◌, ℕ}
use Rattle.dfa_minimise.specs.Classes.{class_after, first_beside}
use Rattle.dfa_minimise.proofs.alike.Classed.astray.Given as goal

abbrev pub invariant-loop-column : goal.invariant-loop-column
invariant-loop-column l =
    (k : ℕ) → k < l.column
    → class_after l.self.dfa.now l.self.classes.now.class.items l.fn.state k ≡ class_after l.self.dfa.now l.self.classes.now.class.items l.fn.state (first_beside l.groups k)
