use Rattle.std.proofs.Common.{arith}
use Rattle.dfa_core.proofs.Reaching.{built}
use Rattle.dfa_core.proofs.reach.reachable.Goals as goal

pub invariant_of-explore : goal.invariant_of-explore
invariant_of-explore g c =
    let h = c.in_ok-grouping.ensures.ok in
    record { few = omega (arith, h.few, c.in_ok-grouping.ensures.few); bound = h.least_bound }

pub of-requires-2 : goal.of-requires-2
of-requires-2 g c =
    (built (g.S.System.steps c.args.system.now) (g.S.Columned.columns c.args.system.now) c.in_ok-grouping.grouping.of.items c.in_ok-grouping.grouping.least.items
    c.in_ok-states.field-0.states.items c.in_ok-states.field-0.next.items c.deref-state-items.result.now c.loop-state.accepting.items c.len.result c.loop-state.state-index
    c.in_ok-grouping.ensures.ok c.in_ok-grouping.ensures.alike c.in_ok-states.ensures.ok c.in_ok-grouping.ensures.few c.loop-state.invariant c.loop-state-test.false c.deref-state-items.ensures.value
    (omega (arith, c.len.ensures, c.in_ok-grouping.grouping.least.ok.0))).0.whole

pub returns : goal.returns
returns g c =
    let is = built (g.S.System.steps c.args.system.now) (g.S.Columned.columns c.args.system.now) c.in_ok-grouping.grouping.of.items c.in_ok-grouping.grouping.least.items
    c.in_ok-states.field-0.states.items c.in_ok-states.field-0.next.items c.deref-state-items.result.now c.loop-state.accepting.items c.len.result c.loop-state.state-index
    c.in_ok-grouping.ensures.ok c.in_ok-grouping.ensures.alike c.in_ok-states.ensures.ok c.in_ok-grouping.ensures.few c.loop-state.invariant c.loop-state-test.false c.deref-state-items.ensures.value
    (omega (arith, c.len.ensures, c.in_ok-grouping.grouping.least.ok.0)) in
    record { ok = rw c.of-2.ensures is.0; columns = rw c.of-2.ensures is.1; err = tt }
