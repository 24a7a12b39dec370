use Rattle.std.proofs.Common.{arith, sym, ◌∙◌}
use Rattle.list_dfa.proofs.Keeping.{anything}
use Rattle.reduce_model.specs.declared.decision.Decision.TheVariants.{Kept}
use Rattle.chain_make.proofs.Claiming.{left_out-skip, left_out-take}
use Rattle.chain_make.proofs.claim.left_out.Goals as goal
use Rattle.chain_make.proofs.claim.left_out.Goals.{then-not-is_kept+in_ok-push, else-not-is_kept}

pub loop-place-preserved : goal.loop-place-preserved
loop-place-preserved c =
    let list = c.args.list.now in
    let ds = c.args.decisions.now in
    let at = c.loop-place.place in
    let inside = c.loop-place-test.true in
    elim c.if-not-is_kept.branch [
      | then-not-is_kept+in_ok-push w ↦
          rw (w.dropped-is, w.in_ok-push.ensures.items, w.dropped_as.ensures) (left_out-take list ds at anything Kept inside (omega (arith, inside, c.requires)) c.loop-place.dropped.items c.loop-place.invariant (sym c.is_kept.ensures ∙ w.if-not-is_kept.true))
      | else-not-is_kept w ↦ rw w.dropped-is (left_out-skip list ds at anything Kept inside (omega (arith, inside, c.requires)) c.loop-place.dropped.items c.loop-place.invariant (sym c.is_kept.ensures ∙ w.if-not-is_kept.false))
    ]
