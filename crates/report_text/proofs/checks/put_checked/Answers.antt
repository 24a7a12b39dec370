use Rattle.std.proofs.Common.{◌++◌, ◌∷◌, [], ap, ◌∙◌}
use Rattle.report_text.specs.CheckTable.{broken_columns}
use Rattle.report_text.specs.Fields.{columns, constraint_text}
use Rattle.report_text.proofs.Joined.{four}
use Rattle.report_text.proofs.checks.put_checked.Goals as goal

pub returns : goal.returns
returns c = λ names texts.
    let row = c.args.row.now in
    let numbers = columns 10 (row.activated ∷ row.fulfilled ∷ row.kept ∷ []) in
    let broken = broken_columns row.broken in
    let text = constraint_text names c.args.constraint.now in
    c.in_ok-push.ensures.items
    ∙ ap (λ xs. xs ++ 10 ∷ []) (c.in_ok-put_constraint.ensures names texts ∙ ap (λ xs. xs ++ text) (c.in_ok-put_broken.ensures ∙ ap (λ xs. xs ++ broken) c.in_ok-put_columns.ensures))
    ∙ four c.args.out.now.items numbers broken text (10 ∷ [])
