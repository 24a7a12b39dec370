use Rattle.std.proofs.Common.{◌≡◌, ◌++◌, ◌+◌, ℕ, List, Option, None, Some, map, get_or, refl, sym, ap, subst, ◌∙◌}
use Rattle.scoring.specs.declared.scored.Scored.{Scored}
use Rattle.serde_json.specs.Data.{Data}
use Rattle.serde_json.specs.View.{view}
use Rattle.reduce_model.specs.declared.decision.Decision.{Decision}
use Rattle.reduce_model.specs.declared.decision.Decision.TheVariants.{Kept}
use Rattle.model_json.specs.Report.{listed_value, with_witnesses}
use Rattle.model_json.proofs.Chosen.{AreLeft, rest_of, rest-tested, rest-untested, rest-dropped, left-tested, left-untested}
use Rattle.model_json.proofs.Values.{values-moved}
use Rattle.model_json.proofs.report.listed_values.Goals.{then-is_tested+in_ok-witnessed_value+in_ok-push, else-is_tested+then-is_kept+in_ok-untested_value+in_ok-push-2, else-is_tested+else-is_kept}
use Rattle.model_json.proofs.report.listed_values.Goals as goal

pub loop-place-preserved : goal.loop-place-preserved
loop-place-preserved c =
    let list = c.args.list.now in
    let decisions = c.args.decisions.now in
    let witnesses = c.args.witnesses.now in
    let i = c.loop-place.place in
    let next = c.loop-place.next in
    let s = c.index-list-place.result in
    let d : Decision = get_or decisions i Kept in
    let old = c.loop-place.values.items in
    let value : Scored × Option (List ℕ) → Data = λ p. listed_value c.args.names.now.names p.0 p.1 in
    let all = map value (with_witnesses list decisions witnesses) in
    let rest : ℕ → ℕ → List (Scored × Option (List ℕ)) = rest_of list decisions witnesses in
    let IsOn : ℕ → Type 0 = λ n. (map view c.if-is_tested.values.items ++ map value (rest (i + 1) n) ≡ all) × AreLeft decisions witnesses (i + 1) n in
    let inside = c.loop-place-test.true in
    let s_is = c.index-list-place.is in
    let left = c.loop-place.invariant.1 in
    elim c.if-is_tested.branch [
      | then-is_tested+in_ok-witnessed_value+in_ok-push w ↦
          let witness = w.index-witnesses-next.result in
          let is = w.index-witnesses-next.is in
          let tested = sym c.is_tested.ensures ∙ w.if-is_tested.true in
          subst IsOn (sym w.next-is) (
            values-moved value old _ (s, Some witness) w.in_ok-witnessed_value.field-0 (rest i next) (rest (i + 1) (next + 1)) all
                (rest-tested list decisions witnesses i next s d Kept c.requires.decisions inside s_is refl left witness is tested)
                w.in_ok-witnessed_value.ensures (ap (λ v. v.items) w.values-is ∙ w.in_ok-push.ensures.items) c.loop-place.invariant.0,
            left-tested list decisions witnesses i next s d Kept c.requires.decisions inside s_is refl left witness is tested,
          )
      | else-is_tested+then-is_kept+in_ok-untested_value+in_ok-push-2 w ↦
          let untested = sym c.is_tested.ensures ∙ w.if-is_tested.false in
          subst IsOn (sym w.next-is) (
            values-moved value old _ (s, None) w.in_ok-untested_value.field-0 (rest i next) (rest (i + 1) next) all
                (rest-untested list decisions witnesses i next s d Kept c.requires.decisions inside s_is refl left untested (sym w.is_kept.ensures ∙ w.if-is_kept.true))
                w.in_ok-untested_value.ensures (ap (λ v. v.items) w.values-is ∙ w.in_ok-push-2.ensures.items) c.loop-place.invariant.0,
            left-untested list decisions witnesses i next s d Kept c.requires.decisions inside s_is refl left untested,
          )
      | else-is_tested+else-is_kept w ↦
          let untested = sym c.is_tested.ensures ∙ w.if-is_tested.false in
          subst IsOn (sym w.next-is) (
            ap (λ v. map view v.items ++ map value (rest (i + 1) next)) w.values-is
                ∙ ap (λ l. map view old ++ map value l)
                (sym (rest-dropped list decisions witnesses i next s d Kept c.requires.decisions inside s_is refl left untested (sym w.is_kept.ensures ∙ w.if-is_kept.false)))
                ∙ c.loop-place.invariant.0,
            left-untested list decisions witnesses i next s d Kept c.requires.decisions inside s_is refl left untested,
          )
    ]
