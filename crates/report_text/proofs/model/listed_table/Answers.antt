use Rattle.std.proofs.Common.{◌≡◌, ◌++◌, ◌+◌, ◌∷◌, [], ℕ, List, Option, None, Some, codes, map, get_or, string_bytes, refl, sym, ap, ap₂, subst, ◌∙◌, append_assoc}
use Rattle.std.specs.List.{flat_map}
use Rattle.serde_json.specs.Written.{compact_text}
use Rattle.scoring.specs.declared.scored.Scored.{Scored}
use Rattle.reduce_model.specs.declared.decision.Decision.{Decision}
use Rattle.reduce_model.specs.declared.decision.Decision.TheVariants.{Kept}
use Rattle.model_json.specs.Report.{trace_value}
use Rattle.model_json.proofs.Chosen.{AreLeft, rest_of, rest-tested, rest-untested, rest-dropped, left-tested, left-untested, untested-dropped}
use Rattle.report_text.specs.ModelTable.{scored_text, listed_line, model_table_text}
use Rattle.report_text.proofs.Joined.{line_moved}
use Rattle.report_text.proofs.model.listed_table.Goals.{then-is_kept+in_ok-put_scored+then-is_tested+in_ok-put_witness, then-is_kept+in_ok-put_scored+else-is_tested+in_ok-extend_from_slice-2, else-is_kept}
use Rattle.report_text.proofs.model.listed_table.Goals as goal

pub loop-place-preserved : goal.loop-place-preserved
loop-place-preserved c =
    let names = c.args.names.now.names in
    let list = c.args.list.now in
    let decisions = c.args.decisions.now in
    let witnesses = c.args.witnesses.now in
    let i = c.loop-place.place in
    let next = c.loop-place.next in
    let s = c.index-list-place.result in
    let d : Decision = get_or decisions i Kept in
    let done = c.loop-place.out.items in
    let line : Scored × Option (List ℕ) → List ℕ = λ p. listed_line names p.0 p.1 in
    let all = model_table_text names list decisions witnesses in
    let rest : ℕ → ℕ → List (Scored × Option (List ℕ)) = rest_of list decisions witnesses in
    let IsOn : ℕ → Type 0 = λ n. (c.if-is_kept.out.items ++ flat_map line (rest (i + 1) n) ≡ all) × AreLeft decisions witnesses (i + 1) n in
    let inside = c.loop-place-test.true in
    let s_is = c.index-list-place.is in
    let left = c.loop-place.invariant.1 in
    elim c.if-is_kept.branch [
      | then-is_kept+in_ok-put_scored+then-is_tested+in_ok-put_witness w ↦
          let witness = w.index-witnesses-next.result in
          let is = w.index-witnesses-next.is in
          let told = ap (map string_bytes) w.deref.ensures.value ∙ c.in_ok-texts.ensures in
          let tested = sym w.is_tested.ensures ∙ w.if-is_tested.true in
          let behind = 32 ∷ [] ++ compact_text (trace_value names witness) ++ 10 ∷ [] in
          subst IsOn (sym w.next-is) (
            line_moved line done _ (s, Some witness) (rest i next) (rest (i + 1) (next + 1)) all
                (rest-tested list decisions witnesses i next s d Kept c.requires.decisions inside s_is refl left witness is tested)
                (ap (λ v. v.items) w.out-is ∙ w.in_ok-put_witness.ensures ∙ ap (λ xs. xs ++ behind) (w.in_ok-put_scored.ensures names told) ∙ append_assoc done (scored_text names s) behind)
                c.loop-place.invariant.0,
            left-tested list decisions witnesses i next s d Kept c.requires.decisions inside s_is refl left witness is tested,
          )
      | then-is_kept+in_ok-put_scored+else-is_tested+in_ok-extend_from_slice-2 w ↦
          let told = ap (map string_bytes) w.deref.ensures.value ∙ c.in_ok-texts.ensures in
          let untested = sym w.is_tested.ensures ∙ w.if-is_tested.false in
          subst IsOn (sym w.next-is) (
            line_moved line done _ (s, None) (rest i next) (rest (i + 1) next) all
                (rest-untested list decisions witnesses i next s d Kept c.requires.decisions inside s_is refl left untested (sym c.is_kept.ensures ∙ w.if-is_kept.true))
                (ap (λ v. v.items) w.out-is ∙ w.in_ok-extend_from_slice-2.ensures.items ∙ ap₂ (λ xs ys. xs ++ ys) (w.in_ok-put_scored.ensures names told) w.as_bytes-else-is_tested.ensures.value
                ∙ append_assoc done (scored_text names s) (codes " -\n"))
                c.loop-place.invariant.0,
            left-untested list decisions witnesses i next s d Kept c.requires.decisions inside s_is refl left untested,
          )
      | else-is_kept w ↦
          let out = sym c.is_kept.ensures ∙ w.if-is_kept.false in
          let untested = untested-dropped d out in
          subst IsOn (sym w.next-is) (
            ap (λ v. v.items ++ flat_map line (rest (i + 1) next)) w.out-is
                ∙ ap (λ l. done ++ flat_map line l) (sym (rest-dropped list decisions witnesses i next s d Kept c.requires.decisions inside s_is refl left untested out))
                ∙ c.loop-place.invariant.0,
            left-untested list decisions witnesses i next s d Kept c.requires.decisions inside s_is refl left untested,
          )
    ]
