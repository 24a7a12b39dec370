use Rattle.std.proofs.Common.{refl}
use Rattle.chain_cert.proofs.Earlier.{pairs_closed-earlier}
use Rattle.chain_cert.specs.Links.{last}
use Rattle.chain_cert.proofs.implying.Decision.follows.Goals as goal

pub returns-then-has_earlier : goal.returns-then-has_earlier
returns-then-has_earlier c = (
  λ yes. pairs_closed-earlier (last c.args.self.now.links.now) c.args.self.now.dropped.now.constraint c.args.self.now.table.now c.args.self.now.pairs.now c.args.symbol c.if-has_earlier.ensures c.requires.earlier,
  λ closed. refl,
)
