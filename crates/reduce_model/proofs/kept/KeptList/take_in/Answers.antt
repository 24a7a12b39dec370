use Rattle.std.proofs.Common.{inr, refl}
use Rattle.reduce_model.proofs.Joins.{joins, too-wide}
use Rattle.reduce_model.proofs.kept.KeptList.take_in.Goals as goal

pub returns-in-None-clause-ok : goal.returns-in-None-clause-ok
returns-in-None-clause-ok c = (
  refl,
  too-wide c.args.states c.args.self.now.dfa c.args.candidate.now c.in_ok-both.both c.in-Some.example c.in_ok-both.ensures.ok (rw c.in-Some.is at c.in_ok-example.ensures.ok) (rw c.in-None.is at c.in_ok-dfa.ensures.ok),
)

pub returns-in-Some-2-clause-ok : goal.returns-in-Some-2-clause-ok
returns-in-Some-2-clause-ok c =
    inr (joins c.args.states c.args.self.now c.args.candidate.now c.in_ok-both.both _ c.in_ok-both.ensures.ok (rw c.in-Some.is at c.in_ok-example.ensures.ok) (rw c.in-Some-2.is at c.in_ok-dfa.ensures.ok) refl)
