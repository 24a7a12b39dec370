use Rattle.std.proofs.Common.{arith}
use Rattle.dfa_core.proofs.Runs.{whole-everything, everything-from_whole}
use Rattle.dfa_core.proofs.table.Dfa.everything.Goals as goal

pub of-requires : goal.of-requires
of-requires c =
    whole-everything c.args.symbols c.in_ok-columns.columns.items c.in_ok-next.next.items c.in_ok-accepting.accepting.items (omega (arith, c.ranges.symbols)) (c.in_ok-columns.ensures.items_if_clones_equal (λ y e. e)) c.in_ok-next.ensures.items c.in_ok-accepting.ensures.items

pub returns-clause-ok : goal.returns-clause-ok
returns-clause-ok c =
    rw c.of.ensures (everything-from_whole c.args.symbols c.in_ok-columns.columns.items c.in_ok-next.next.items c.in_ok-accepting.accepting.items (c.in_ok-columns.ensures.items_if_clones_equal (λ y e. e)) c.in_ok-accepting.ensures.items
    (whole-everything c.args.symbols c.in_ok-columns.columns.items c.in_ok-next.next.items c.in_ok-accepting.accepting.items (omega (arith, c.ranges.symbols)) (c.in_ok-columns.ensures.items_if_clones_equal (λ y e. e)) c.in_ok-next.ensures.items c.in_ok-accepting.ensures.items))
