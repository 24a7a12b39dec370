use Rattle.std.proofs.Common.{false, map, arith, sym, refl, ◌∙◌}
use Rattle.std.proofs.lemmas.List.{get_or-map, length-map}
use Rattle.reduce_model.specs.Deciding.{is_kept}
use Rattle.reduce_model.specs.declared.decision.Decision.TheVariants.{Kept}
use Rattle.reduce_model.proofs.FirstPasses.{before-has, before-lacks}
use Rattle.chain_make.proofs.claim.kept.Goals as goal
use Rattle.chain_make.proofs.claim.kept.Goals.{then-is_kept+in_ok-push, else-is_kept}

pub loop-place-preserved : goal.loop-place-preserved
loop-place-preserved c =
    let list = c.args.list.now in
    let ds = c.args.decisions.now in
    let at = c.loop-place.place in
    let long = length-map ds is_kept in
    let many = c.requires in
    let in_list = c.loop-place-test.true in
    let mark = get_or-map is_kept ds at Kept false (omega (arith, many, in_list)) in
    elim c.if-is_kept.branch [
      | then-is_kept+in_ok-push w ↦
          rw (w.kept-is, w.in_ok-push.ensures.items, before-has list (map is_kept ds) at (omega (arith, long, many, in_list)) in_list (mark ∙ (sym c.is_kept.ensures ∙ w.if-is_kept.true)), c.loop-place.invariant) refl
      | else-is_kept w ↦
          rw (w.kept-is, before-lacks list (map is_kept ds) at (omega (arith, long, many, in_list)) in_list (mark ∙ (sym c.is_kept.ensures ∙ w.if-is_kept.false))) c.loop-place.invariant
    ]
