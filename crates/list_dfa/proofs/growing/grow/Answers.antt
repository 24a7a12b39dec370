use Rattle.std.proofs.Common.{get_or, refl, ap, ◌+◌, ℕ}
use Rattle.std.proofs.lemmas.List.{take_all, take_more}
use Rattle.list_dfa.proofs.Grows.{growing-all, growing-more, growing-none, growing-wide}
use Rattle.list_dfa.proofs.Keeping.{anything}
use Rattle.list_dfa.specs.Growing.{grown_from}
use Rattle.list_dfa.proofs.growing.grow.Goals as goal

pub loop-constraint-init : goal.loop-constraint-init
loop-constraint-init c = record {
  grows = growing-none c.args.states c.args.start.now c.args.list.now c.requires.few;
  counted = refl;
}

pub returns-in-None-clause-ok : goal.returns-in-None-clause-ok
returns-in-None-clause-ok c =
    let at = c.loop-constraint.constraint-index in
    let list = c.args.list.now in
    rw c.loop-constraint.invariant.counted
    (growing-wide c.args.states c.args.start.now list at (grown_from c.args.start.now c.loop-constraint.grown) (get_or list at anything) (take_more list at anything c.loop-constraint-test.true) c.loop-constraint-test.true c.loop-constraint.invariant.grows
    (rw c.or_start.ensures at (rw c.in-None.is at c.in_ok-more.ensures.ok)))

pub loop-constraint-preserved : goal.loop-constraint-preserved
loop-constraint-preserved c =
    let at = c.loop-constraint.constraint-index in
    let list = c.args.list.now in
    record {
      grows = growing-more c.args.states c.args.start.now list at (grown_from c.args.start.now c.loop-constraint.grown) c.in-Some.more (get_or list at anything) (take_more list at anything c.loop-constraint-test.true) c.requires.few_states
          c.loop-constraint.invariant.grows (rw c.or_start.ensures at (rw c.in-Some.is at c.in_ok-more.ensures.ok));
      counted = ap (λ (k : ℕ). k + 1) c.loop-constraint.invariant.counted;
    }

pub returns-clause-ok : goal.returns-clause-ok
returns-clause-ok c =
    let at = c.loop-constraint.constraint-index in
    growing-all c.args.states c.args.start.now c.args.list.now at (grown_from c.args.start.now c.loop-constraint.grown) (take_all at c.args.list.now c.loop-constraint-test.false) c.loop-constraint-test.false c.loop-constraint.invariant.grows
