use Rattle.std.proofs.Common.{get_or, map, not, Bool, ap, sym, ◌∙◌, refl}
use Rattle.scoring.specs.declared.scored.Scored.{Scored}
use Rattle.serde_json.specs.Data.{Data}
use Rattle.serde_json.specs.View.{view}
use Rattle.reduce_model.specs.declared.decision.Decision.{Decision}
use Rattle.reduce_model.specs.declared.decision.Decision.TheVariants.{Kept}
use Rattle.reduce_model.specs.Deciding.{is_kept}
use Rattle.model_json.specs.Report.{decided_value}
use Rattle.model_json.proofs.Chosen.{zip-more, filter-taken, filter-left}
use Rattle.model_json.proofs.Values.{values-pushed}
use Rattle.model_json.proofs.decisions.dropped_values.Goals.{then-not-is_kept+in_ok-decided_value+in_ok-push, else-not-is_kept}
use Rattle.model_json.proofs.decisions.dropped_values.Goals as goal

pub loop-place-preserved : goal.loop-place-preserved
loop-place-preserved c =
    let list = c.args.list.now in
    let decisions = c.args.decisions.now in
    let i = c.loop-place.place in
    let x = c.index-list-place.result in
    let d = get_or decisions i Kept in
    let dropped : Scored × Decision → Bool = λ q. not (is_kept q.1) in
    let value : Scored × Decision → Data = λ q. decided_value c.args.names.now.names list q.0 q.1 in
    let grown = zip-more list decisions i x d Kept c.requires.decisions c.loop-place-test.true c.index-list-place.is refl in
    elim c.if-not-is_kept.branch [
      | then-not-is_kept+in_ok-decided_value+in_ok-push w ↦
          ap (λ v. map view v.items) w.values-is
          ∙ values-pushed value c.loop-place.values.items _ _ _ (x, d) w.in_ok-decided_value.field-0
          (filter-taken dropped _ _ (x, d) grown (ap not (sym c.is_kept.ensures) ∙ ap not w.if-not-is_kept.true))
          w.in_ok-decided_value.ensures w.in_ok-push.ensures.items c.loop-place.invariant
      | else-not-is_kept w ↦
          ap (λ v. map view v.items) w.values-is ∙ c.loop-place.invariant
          ∙ ap (map value) (sym (filter-left dropped _ _ (x, d) grown (ap not (sym c.is_kept.ensures) ∙ ap not w.if-not-is_kept.false)))
    ]
