use Rattle.std.proofs.Common.{◌<◌, ℕ, List, All, sym, subst}
use Rattle.chain_cert.proofs.Fits.{decided-by, pairs-middle}
use Rattle.chain_cert.specs.Checks.{Decides}
use Rattle.chain_cert.specs.Forms.{left, middle}
use Rattle.chain_cert.specs.Links.{last, state_count}
use Rattle.chain_cert.proofs.implying.is_decided.Goals as goal

pub invariant_of-decision-clause-left_below : goal.invariant_of-decision-clause-left_below
invariant_of-decision-clause-left_below c =
    subst (λ (l : List (List ℕ)). All (λ pair. left pair < state_count (last c.args.links.now)) l) (sym c.pairs.ensures.value) c.requires.fits.left_below

pub invariant_of-decision-clause-middle_below : goal.invariant_of-decision-clause-middle_below
invariant_of-decision-clause-middle_below c =
    let kind = c.args.dropped.now.constraint.kind in
    let is = c.table_for-table.ensures in
    subst (λ (l : List (List ℕ)). All (λ pair. middle pair < c.table_for-table.result.states) l) (sym c.pairs.ensures.value)
    (pairs-middle (last c.args.links.now) kind c.table_for-table.result c.args.pairs.now is c.requires.fits)

pub returns : goal.returns
returns c =
    let kind = c.args.dropped.now.constraint.kind in
    let is = c.table_for-table.ensures in
    let P : List (List ℕ) → Type 0 = λ l. Decides c.args.symbols (last c.args.links.now) c.args.dropped.now c.table_for-table.result l in (
      λ yes. record {
        table = c.table_for-table.result;
        table_is = is;
        decides = subst P c.pairs.ensures.value (c.decides.ensures.0 yes);
      },
      λ decided. c.decides.ensures.1 (subst P (sym c.pairs.ensures.value) (decided-by c.args.symbols (last c.args.links.now) c.args.dropped.now c.args.pairs.now c.table_for-table.result is c.requires.fits decided)),
    )
