use Rattle.dfa_product.proofs.ColumnPairs.{meet-columns}
use Rattle.dfa_product.proofs.Pairing.{meet-reachable}
use Rattle.dfa_product.proofs.products.meet.Goals as goal

pub returns-clause-language : goal.returns-clause-language
returns-clause-language c = meet-reachable c.args.dfa.now c.args.table.now c.args.constraint.now c.in_ok-product.product c.requires.table c.in_ok-product.ensures.ok

pub returns-clause-columns : goal.returns-clause-columns
returns-clause-columns c = meet-columns c.args.dfa.now c.args.constraint.now c.in_ok-product.product c.in_ok-product.ensures.columns
