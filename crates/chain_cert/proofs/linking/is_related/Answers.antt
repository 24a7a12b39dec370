use Rattle.chain_cert.proofs.Fits.{link-middle, related-by}
use Rattle.chain_cert.specs.Links.{before}
use Rattle.chain_cert.proofs.linking.is_related.Goals as goal

pub invariant_of-relation-clause-middle_below : goal.invariant_of-relation-clause-middle_below
invariant_of-relation-clause-middle_below c =
    let is = c.table_for-table.ensures in
    link-middle c.args.symbols (before c.args.links.now c.args.place) c.args.link.now c.args.constraint.now.kind c.table_for-table.result is c.requires.fits

pub returns : goal.returns
returns c =
    let is = c.table_for-table.ensures in (
      λ yes. record {
        table = c.table_for-table.result;
        table_is = is;
        relates = c.relates.ensures.0 yes;
      },
      λ related. c.relates.ensures.1 (related-by c.args.symbols (before c.args.links.now c.args.place) c.args.constraint.now c.args.link.now c.table_for-table.result is c.requires.fits related),
    )
