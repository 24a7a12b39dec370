use Rattle.std.proofs.Common.{ℕ, ◌<◌}
use Rattle.chain_cert.specs.Checks.{ArePairsClosedUnder}
use Rattle.chain_cert.specs.Links.{last}
use Rattle.chain_cert.proofs.implying.Decision.is_closed.Given as goal

abbrev pub invariant-loop-symbol : goal.invariant-loop-symbol
invariant-loop-symbol l = (s : ℕ) → s < l.symbol → ArePairsClosedUnder (last l.self.links.now) l.self.dropped.now.constraint l.self.table.now l.self.pairs.now s
