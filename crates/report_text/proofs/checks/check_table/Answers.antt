use Rattle.std.proofs.Common.{List, ℕ, None, map, length, get_or, string_bytes, refl, ap, ◌∙◌}
use Rattle.std.proofs.lemmas.List.{get_or_default}
use Rattle.template_core.specs.declared.constraint.Constraint.{Constraint}
use Rattle.template_core.specs.declared.kind.Kind.TheVariants.{Init}
use Rattle.trace_check.specs.declared.checked.Checked.{Checked}
use Rattle.model_json.proofs.Chosen.{zip-more}
use Rattle.report_text.specs.CheckTable.{check_heading, check_line}
use Rattle.report_text.proofs.Joined.{line_more}
use Rattle.report_text.proofs.checks.check_table.Goals as goal

abbrev some_constraint : Constraint
some_constraint = record { kind = Init; first = 0; second = 0 }

abbrev some_row : Checked
some_row = record { activated = 0; fulfilled = 0; kept = 0; broken = None }

pub loop-place-preserved : goal.loop-place-preserved
loop-place-preserved c =
    let names = c.args.names.now.names in
    let list = c.args.list.now in
    let rows = c.rows-rows.result.now in
    let i = c.loop-place.place in
    let within = c.loop-place-test.true in
    let k = get_or list i some_constraint in
    let row = get_or rows i some_row in
    let told = ap (map string_bytes) c.deref.ensures.value ∙ c.in_ok-texts.ensures in
    let line : Constraint × Checked → List ℕ = λ q. check_line names q.0 q.1 in
    line_more line check_heading _ _ _ _ (k, row)
    (zip-more list rows i k row some_row (ap length c.rows-rows.ensures ∙ c.requires.rows) within (get_or_default list i some_constraint k within) refl)
    c.loop-place.invariant (c.in_ok-put_checked.ensures names told)
