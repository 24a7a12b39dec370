use Rattle.std.proofs.Common.{◌≡◌, ℕ, Bool, length, ◌-◌, ◌<◌, ◌≤◌, take, count_by, get_or}
use Rattle.trace_check.specs.Demands.{IsTest}
use Rattle.trace_check.specs.Standing.{IsFirstFailing}
use Rattle.trace_check.proofs.side.side_of.Given as goal

abbrev pub invariant-loop-i : goal.invariant-loop-i
invariant-loop-i l = record {
  fulfilled : (test : ℕ → Bool) → IsTest l.demand l.own l.other test → l.side.fulfilled ≡ count_by test (take l.i l.own);
  broken : (test : ℕ → Bool) → IsTest l.demand l.own l.other test → IsFirstFailing test l.own l.i l.side.broken;
  activated : l.side.activated ≡ length l.own;
  within : l.side.fulfilled ≤ l.i;
  most : l.passed ≤ length l.other;
  before : 0 < l.passed → l.i < length l.own → get_or l.other (l.passed - 1) 0 < get_or l.own l.i 0;
}
