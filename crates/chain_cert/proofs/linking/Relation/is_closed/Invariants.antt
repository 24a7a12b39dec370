use Rattle.std.proofs.Common.{ℕ, ◌<◌}
use Rattle.chain_cert.specs.Checks.{IsClosedUnder}
use Rattle.chain_cert.specs.Links.{before}
use Rattle.chain_cert.proofs.linking.Relation.is_closed.Given as goal

abbrev pub invariant-loop-symbol : goal.invariant-loop-symbol
invariant-loop-symbol l = (s : ℕ) → s < l.symbol → IsClosedUnder (before l.self.links.now l.self.place) l.self.constraint.now l.self.table.now l.self.link.now s
