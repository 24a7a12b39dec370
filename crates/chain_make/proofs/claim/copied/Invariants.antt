use Rattle.std.proofs.Common.{◌≡◌, take}
use Rattle.chain_make.proofs.claim.copied.Given as goal

abbrev pub invariant-loop-trace : goal.invariant-loop-trace
invariant-loop-trace l = l.copied.items ≡ take l.trace-index l.traces
