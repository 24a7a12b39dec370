use Rattle.std.proofs.Common.{refl}
use Rattle.reduce_model.proofs.Grows.{found, missing}
use Rattle.list_dfa.specs.Growing.{grown_from}
use Rattle.reduce_model.proofs.grown.seek.Goals as goal

pub returns-in-Some-clause-ok : goal.returns-in-Some-clause-ok
returns-in-Some-clause-ok c =
    let h = rw c.in-All.is at c.in_ok-grown.ensures.ok in (
      found c.args.states c.args.start.now.dfa c.args.list.now (grown_from c.args.start.now.dfa c.in-All.grown) h c.args.constraint.now c.in-Some.trace (rw c.or_start.ensures at (rw c.in-Some.is at c.in_ok-trace-in-All.ensures.ok)),
      h.narrow,
    )

pub returns-in-All-clause-ok : goal.returns-in-All-clause-ok
returns-in-All-clause-ok c =
    let h = rw c.in-All.is at c.in_ok-grown.ensures.ok in (
      missing c.args.states c.args.start.now.dfa c.args.list.now (grown_from c.args.start.now.dfa c.in-All.grown) h c.args.constraint.now (rw c.or_start.ensures at (rw c.in-None.is at c.in_ok-trace-in-All.ensures.ok)),
      h.narrow,
    )

pub returns-clause-ok : goal.returns-clause-ok
returns-clause-ok c = (c.in-Wide.count, refl, rw c.in-Wide.is at c.in_ok-grown.ensures.ok)
