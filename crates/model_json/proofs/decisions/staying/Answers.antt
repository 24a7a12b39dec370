use Rattle.std.proofs.Common.{Bool, get_or, map, ap, sym, ◌∙◌, refl}
use Rattle.scoring.specs.declared.scored.Scored.{Scored}
use Rattle.reduce_model.specs.declared.decision.Decision.{Decision}
use Rattle.reduce_model.specs.declared.decision.Decision.TheVariants.{Kept}
use Rattle.reduce_model.specs.Deciding.{is_kept}
use Rattle.model_json.proofs.Chosen.{zip-more, filter-taken, filter-left}
use Rattle.model_json.proofs.Values.{map-pushed}
use Rattle.model_json.proofs.decisions.staying.Goals.{then-is_kept+in_ok-push, else-is_kept}
use Rattle.model_json.proofs.decisions.staying.Goals as goal

pub loop-place-preserved : goal.loop-place-preserved
loop-place-preserved c =
    let list = c.args.list.now in
    let decisions = c.args.decisions.now in
    let i = c.loop-place.place in
    let x = c.index-list-place.result in
    let d = get_or decisions i Kept in
    let kept : Scored × Decision → Bool = λ q. is_kept q.1 in
    let grown = zip-more list decisions i x d Kept c.requires c.loop-place-test.true c.index-list-place.is refl in
    elim c.if-is_kept.branch [
      | then-is_kept+in_ok-push w ↦
          ap (λ k. k.items) w.kept-is
          ∙ map-pushed (λ (q : Scored × Decision). q.0) c.loop-place.kept.items _ _ _ (x, d)
          (filter-taken kept _ _ (x, d) grown (sym c.is_kept.ensures ∙ w.if-is_kept.true)) c.loop-place.invariant w.in_ok-push.ensures.items
      | else-is_kept w ↦
          ap (λ k. k.items) w.kept-is ∙ c.loop-place.invariant
          ∙ ap (map (λ (q : Scored × Decision). q.0)) (sym (filter-left kept _ _ (x, d) grown (sym c.is_kept.ensures ∙ w.if-is_kept.false)))
    ]
