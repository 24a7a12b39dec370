use Rattle.std.proofs.Common.{rules, ◌≡◌}
use Rattle.std.specs.Ordering.{is_lt}
use Rattle.std.proofs.lemmas.List.Sorted.{ranks_by, answers_always}
use Rattle.scoring.proofs.Priorities.{sound_priority, sound_priority-total, sorted_is, answers_soundly}
use Rattle.scoring.proofs.priority.sort.Goals as goal

pub returns-clause-order : goal.returns-clause-order
returns-clause-order c = λ log all.
    sorted_is log _ _ all c.in_ok-sort_by.ensures.permutation
    (c.in_ok-sort_by.ensures.sorted (λ x y. is_lt (sound_priority x y)) (ranks_by sound_priority-total (λ x. x))
    (answers_always _ (λ a r. is_lt r ≡ is_lt (sound_priority a.0.now a.1.0.now)) _ (λ f a r g k. search (rules, answers_soundly))))
