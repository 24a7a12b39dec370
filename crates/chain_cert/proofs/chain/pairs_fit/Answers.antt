use Rattle.chain_cert.proofs.Fits.{fits-pairs, pairs-begin}
use Rattle.chain_cert.specs.Links.{last}
use Rattle.chain_cert.proofs.chain.pairs_fit.Goals as goal

pub returns : goal.returns
returns c =
    let is = c.table_for-table.ensures in (
      λ yes. fits-pairs (last c.args.links.now) c.args.constraint.now.kind c.table_for-table.result c.states_before.result c.pairs.result.now c.args.pairs.now is c.states_before.ensures c.pairs.ensures.value
          (c.begin_below.ensures.0 yes),
      λ fits. c.begin_below.ensures.1 (pairs-begin (last c.args.links.now) c.args.constraint.now.kind c.table_for-table.result c.states_before.result c.pairs.result.now c.args.pairs.now is c.states_before.ensures
          c.pairs.ensures.value fits),
    )
