use Rattle.std.proofs.Common.{◌+◌, ◌-◌, ◌≤◌, length}
use Rattle.decl_outside.specs.Held.{held_bytes}
use Rattle.decl_outside.specs.Lines.{line_length}
use Rattle.decl_outside.proofs.Reading.{IsHeld}
use Rattle.decl_outside.proofs.find.fill.Given as goal

abbrev pub invariant-reads : goal.invariant-reads
invariant-reads g l =
    IsHeld (g.I.Inputs.state l.fn.inputs) (g.I.Inputs.state l.inputs) (held_bytes l.fn.held) (held_bytes l.held) × (l.searched ≤ line_length (held_bytes l.held))

abbrev pub decreases-reads : goal.decreases-reads
decreases-reads g l = l.limit + 1 - length (held_bytes l.held)
