use Rattle.std.proofs.Common.{rules, ◌≡◌, ◌∙◌, sym}
use Rattle.std.proofs.lemmas.List.Sorted.{answers_always}
use Rattle.std.proofs.lemmas.List.Elements.{filter_agree}
use Rattle.csv_log.specs.declared.kept.Kept.{Kept}
use Rattle.csv_log.proofs.Orders.{of_case, ties_of_case}
use Rattle.csv_log.proofs.group.sort_by_case.Goals as goal

pub returns-clause-sorted : goal.returns-clause-sorted
returns-clause-sorted c =
    c.in_ok-sort_by_key.ensures.sorted (λ (kept : Kept). kept.case)
    (answers_always _ (λ a r. r ≡ a.0.now.case) _ (λ f a r g k. search rules))

pub returns-clause-kept : goal.returns-clause-kept
returns-clause-kept c = λ case.
    filter_agree _ _ (λ kept. sym (ties_of_case case kept)) c.sort_by_key.new.self.items
    ∙ c.in_ok-sort_by_key.ensures.stable (λ (kept : Kept). kept.case) (answers_always _ (λ a r. r ≡ a.0.now.case) _ (λ f a r g k. search rules)) (of_case case)
    ∙ filter_agree _ _ (ties_of_case case) c.args.events.now.items
