use Rattle.std.proofs.Common.{take}
use Rattle.dfa_minimise.proofs.Progress.{IsMarkedSoFar, IsCutSoFar}
use Rattle.dfa_minimise.proofs.refinable.Refinable.split.Given as goal

abbrev pub invariant-marks : goal.invariant-marks
invariant-marks l = IsMarkedSoFar l.fn.self l.self (take l.state-index l.touched)

abbrev pub invariant-cuts : goal.invariant-cuts
invariant-cuts l = IsCutSoFar l.fn.self l.self l.touched l.state-index
