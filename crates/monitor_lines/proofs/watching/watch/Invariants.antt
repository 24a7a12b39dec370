use Rattle.std.proofs.Common.{ℕ, List, ◌-◌}
use Rattle.monitor_lines.specs.Cases.{Event}
use Rattle.monitor_lines.proofs.Steps.{IsBetween}
use Rattle.monitor_lines.proofs.watching.watch.Given as goal

-- the lines that were read are printed, or wait
abbrev pub invariant-lines : goal.invariant-lines
invariant-lines g l =
    (events : List Event) × (texts : List (List ℕ))
    × IsBetween l.limits l.names.names l.list (g.I.Inputs.state l.fn.inputs) (g.I.Inputs.state l.inputs) (g.O.Sink.state l.fn.out) (g.O.Sink.state l.out) l.lines l.cases l.texts.waiting.items events texts

abbrev pub decreases-lines : goal.decreases-lines
decreases-lines g l = l.limits.events - l.lines.given
