use Rattle.std.proofs.Common.{take}
use Rattle.chain_make.specs.Chains.{AreLinks}
use Rattle.chain_make.proofs.links.links_of.Given as goal

abbrev pub invariant-loop-constraint : goal.invariant-loop-constraint
invariant-loop-constraint l = AreLinks l.symbols (take l.constraint-index l.model) l.links.items l.last
