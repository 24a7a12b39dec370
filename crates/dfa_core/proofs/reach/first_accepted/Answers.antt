use Rattle.std.proofs.Common.{arith}
use Rattle.dfa_core.proofs.Grouped.{least-symbols, none-symbols}
use Rattle.dfa_core.proofs.reach.first_accepted.Goals as goal

pub invariant_of-columns : goal.invariant_of-columns
invariant_of-columns g c =
    let h = c.in_ok-grouping.ensures.ok in
    record { few = omega (arith, h.few, c.in_ok-grouping.ensures.few); bound = h.least_bound }

pub returns-in-Some-clause-ok : goal.returns-in-Some-clause-ok
returns-in-Some-clause-ok g c =
    let s = g.S.System.steps c.args.system.now in
    let columns = g.S.Columned.columns c.args.system.now in
    let of = c.in_ok-grouping.grouping.of.items in
    let least = c.in_ok-grouping.grouping.least.items in
    let h = c.in_ok-grouping.ensures.ok in
    let are = c.in_ok-grouping.ensures.alike in
    let found = rw c.in-Some.is at c.in_ok-found.ensures.ok in
    rw (c.in_ok-least_trace-in-Some.ensures.ok, c.events.ensures) (least-symbols s columns of least h are c.in-Some.found found)

pub returns-clause-ok : goal.returns-clause-ok
returns-clause-ok g c =
    let s = g.S.System.steps c.args.system.now in
    let columns = g.S.Columned.columns c.args.system.now in
    let none = rw c.in-None.is at c.in_ok-found.ensures.ok in
    none-symbols s columns c.in_ok-grouping.grouping.of.items c.in_ok-grouping.grouping.least.items c.in_ok-grouping.ensures.ok c.in_ok-grouping.ensures.alike none
