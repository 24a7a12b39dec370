use Rattle.std.proofs.Common.{refl}
use Rattle.chain_cert.proofs.Earlier.{closed-earlier}
use Rattle.chain_cert.specs.Links.{before}
use Rattle.chain_cert.proofs.linking.Relation.follows.Goals as goal

pub returns-then-has_earlier : goal.returns-then-has_earlier
returns-then-has_earlier c = (
  λ yes. closed-earlier (before c.args.self.now.links.now c.args.self.now.place) c.args.self.now.constraint.now c.args.self.now.table.now c.args.self.now.link.now c.args.symbol c.if-has_earlier.ensures c.requires.earlier,
  λ closed. refl,
)
