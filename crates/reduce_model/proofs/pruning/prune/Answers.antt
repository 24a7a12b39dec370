use Rattle.std.proofs.Common.{sym, ◌∙◌}
use Rattle.reduce_model.proofs.Prunes.{pruning-all, pruning-conflict, pruning-none, pruning-strongest, pruning-weaker}
use Rattle.reduce_model.proofs.pruning.prune.Goals as goal
use Rattle.reduce_model.proofs.pruning.prune.Goals.{then-is_consistent+in-Some, then-is_consistent+in_default, else-is_consistent}

pub loop-place-init : goal.loop-place-init
loop-place-init c = pruning-none c.args.list.now c.args.decisions.now c.requires.as_many c.requires.sifted

pub loop-place-preserved : goal.loop-place-preserved
loop-place-preserved c =
    let list = c.args.list.now in
    let old = c.args.decisions.now in
    let new = c.loop-place.decisions in
    let at = c.loop-place.place in
    elim c.if-is_consistent.branch [
      | then-is_consistent+in-Some w ↦
          rw w.decisions-is
          (pruning-weaker list old new at w.in-Some.by c.loop-place-test.true c.loop-place.invariant (sym c.is_consistent.ensures ∙ w.if-is_consistent.true) (rw w.in-Some.is at w.first_above.ensures))
      | then-is_consistent+in_default w ↦
          rw w.decisions-is
          (pruning-strongest list old new at c.loop-place-test.true c.loop-place.invariant (sym c.is_consistent.ensures ∙ w.if-is_consistent.true) (rw w.in_default.is at w.first_above.ensures))
      | else-is_consistent w ↦ rw w.decisions-is (pruning-conflict list old new at c.loop-place.invariant (sym c.is_consistent.ensures ∙ w.if-is_consistent.false))
    ]

pub returns : goal.returns
returns c = pruning-all c.args.list.now c.args.decisions.now c.loop-place.decisions c.loop-place.place c.loop-place-test.false c.loop-place.invariant
