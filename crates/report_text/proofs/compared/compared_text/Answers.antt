use Rattle.std.proofs.Common.{◌++◌, codes, ap₂, ◌∙◌, append_assoc}
use Rattle.report_text.specs.ComparisonText.{trace_line, relation_line}
use Rattle.report_text.proofs.compared.compared_text.Goals as goal

pub returns-clause-ok : goal.returns-clause-ok
returns-clause-ok c =
    let names = c.args.names.now.names in
    let relation = c.in_ok-put_relation.ensures ∙ ap₂ (λ l r. l ++ relation_line r) c.new-out.ensures.items c.relation.ensures in
    let first = c.in_ok-put_found.ensures ∙ ap₂ (λ l t. l ++ trace_line names (codes "only first") t) relation c.only_first.ensures in
    let second = c.in_ok-put_found-2.ensures ∙ ap₂ (λ l t. l ++ trace_line names (codes "only second") t) first c.only_second.ensures in
    second ∙ append_assoc (relation_line c.args.compared.now.relation) (trace_line names (codes "only first") c.args.compared.now.only_first) (trace_line names (codes "only second") c.args.compared.now.only_second)
