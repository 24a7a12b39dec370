use Rattle.std.proofs.Common.{◌++◌, ap, ◌∙◌}
use Rattle.report_text.specs.Fields.{column, constraint_text}
use Rattle.report_text.specs.ModelTable.{score_text}
use Rattle.report_text.proofs.Joined.{four}
use Rattle.report_text.proofs.model.put_scored.Goals as goal

pub returns : goal.returns
returns c = λ names texts.
    let s = c.args.scored.now in
    let support = column 12 (score_text s.support) in
    let confidence = column 12 (score_text s.confidence) in
    let interest = column 12 (score_text s.interest) in
    let text = constraint_text names s.constraint in
    c.in_ok-put_constraint.ensures names texts
    ∙ ap (λ xs. xs ++ text) (c.in_ok-put_score-3.ensures ∙ ap (λ xs. xs ++ interest) (c.in_ok-put_score-2.ensures ∙ ap (λ xs. xs ++ confidence) c.in_ok-put_score.ensures))
    ∙ four c.args.out.now.items support confidence interest text
