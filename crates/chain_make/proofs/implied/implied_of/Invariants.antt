use Rattle.std.proofs.Common.{take}
use Rattle.chain_make.specs.Chains.{AreImplied}
use Rattle.chain_make.proofs.implied.implied_of.Given as goal

abbrev pub invariant-loop-item : goal.invariant-loop-item
invariant-loop-item l = AreImplied l.dfa (take l.item-index l.dropped) l.implied.items
