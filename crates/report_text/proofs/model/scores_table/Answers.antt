use Rattle.std.proofs.Common.{◌++◌, ◌+◌, ◌∷◌, [], map, take, string_bytes, sym, ap, ◌∙◌, append_assoc}
use Rattle.std.proofs.lemmas.List.{take_more}
use Rattle.report_text.specs.ModelTable.{model_heading, scored_text, scored_line}
use Rattle.report_text.proofs.Joined.{line_more}
use Rattle.report_text.proofs.model.scores_table.Goals as goal

pub loop-scored-preserved : goal.loop-scored-preserved
loop-scored-preserved c =
    let names = c.args.names.now.names in
    let list = c.args.list.now in
    let i = c.loop-scored.scored-index in
    let s = c.scored-item.result in
    let told = ap (map string_bytes) c.deref.ensures.value ∙ c.in_ok-texts.ensures in
    line_more (scored_line names) model_heading _ _ (take i list) (take (i + 1) list) s
    (take_more list i s c.loop-scored-test.true ∙ ap (λ e. take i list ++ e ∷ []) (sym c.scored-item.is))
    c.loop-scored.invariant
    (c.in_ok-push.ensures.items ∙ ap (λ xs. xs ++ 10 ∷ []) (c.in_ok-put_scored.ensures names told) ∙ append_assoc c.loop-scored.out.items (scored_text names s) (10 ∷ []))
