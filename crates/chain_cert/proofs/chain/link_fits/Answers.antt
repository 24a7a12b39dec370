use Rattle.std.proofs.Common.{ℕ, List, length, ap, sym, ◌∙◌}
use Rattle.chain_cert.proofs.Fits.{fits-link, link-begins}
use Rattle.chain_cert.specs.Links.{before}
use Rattle.chain_cert.proofs.chain.link_fits.Goals as goal

pub returns-then-columns-symbols : goal.returns-then-columns-symbols
returns-then-columns-symbols c =
    let is = c.table_for-table.ensures in (
      λ yes. fits-link c.args.symbols (before c.args.links.now c.args.place) c.args.link.now c.args.constraint.now.kind c.table_for-table.result c.states_before.result c.pairs.result.now is (ap (λ (l : List ℕ). length l) (sym c.columns.ensures) ∙ c.if-columns-symbols.true) c.states_before.ensures
          c.pairs.ensures.value (c.begin_below.ensures.0 yes),
      λ fits. c.begin_below.ensures.1 (link-begins c.args.symbols (before c.args.links.now c.args.place) c.args.link.now c.args.constraint.now.kind c.table_for-table.result c.states_before.result c.pairs.result.now is
          c.states_before.ensures c.pairs.ensures.value fits),
    )
