use Rattle.std.proofs.Common.{ℕ, List, length, ◌-◌}
use Rattle.strings_log.proofs.Steps.{IsReading}
use Rattle.strings_log.proofs.reading.read_into.Given as goal

-- the sink holds the traces that were read
abbrev pub invariant-lines : goal.invariant-lines
invariant-lines g l =
    (traces : List (List ℕ)) × g.S.TraceSink.holds l.sink l.limits (length l.numbers.names.names) traces
    × IsReading l.limits (g.I.Inputs.state l.fn.inputs) (g.I.Inputs.state l.inputs) l.lines l.numbers.names l.room traces

abbrev pub decreases-lines : goal.decreases-lines
decreases-lines g l = l.limits.traces - l.lines.given
