use Rattle.std.proofs.Common.{◌≡◌, ◌+◌, ◌*◌, ◌≤◌, drop}
use Rattle.dfa_product.specs.AfterSteps.{sides}
use Rattle.dfa_product.proofs.after.sides.Given as goal

abbrev pub invariant-loop-given : goal.invariant-loop-given
invariant-loop-given l = record {
  few : l.sum ≤ 2 * l.given-index;
  left : l.sum + sides (drop l.given-index l.trace) l.event ≡ sides l.trace l.event;
}
