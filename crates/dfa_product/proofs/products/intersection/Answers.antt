use Rattle.dfa_product.proofs.ColumnPairs.{intersection-columns}
use Rattle.dfa_product.proofs.Pairing.{intersection-reachable}
use Rattle.dfa_product.proofs.products.intersection.Goals as goal

pub returns-clause-language : goal.returns-clause-language
returns-clause-language c =
    intersection-reachable c.args.first.now c.args.second.now c.in_ok-product.product c.states.ensures.whole c.requires.same_symbols c.in_ok-product.ensures.ok

pub returns-clause-columns : goal.returns-clause-columns
returns-clause-columns c =
    intersection-columns c.args.first.now c.args.second.now c.in_ok-product.product c.states.ensures.whole c.requires.same_symbols c.in_ok-product.ensures.ok.over c.in_ok-product.ensures.columns
