use Rattle.std.proofs.Common.{take}
use Rattle.trace_check.specs.Index.{lists, AddsPlaces}
use Rattle.trace_check.proofs.index.add_places.Given as goal

abbrev pub invariant-loop-i : goal.invariant-loop-i
invariant-loop-i l = AddsPlaces l.start (take l.i l.trace) (lists l.initial.index.items) (lists l.index.items)
