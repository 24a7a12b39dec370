use Rattle.std.proofs.Common.{rules, ◌≡◌}
use Rattle.std.specs.Ordering.{is_lt}
use Rattle.csv_log.specs.Kept.{is_less}
use Rattle.csv_log.proofs.Answering.{answers_alike}
use Rattle.csv_log.proofs.Orders.{is_less_weak}
use Rattle.csv_log.proofs.Sorts.{stably_sorted-is}
use Rattle.csv_log.proofs.group.sort_by_value.Goals as goal

pub returns-clause-sorted : goal.returns-clause-sorted
returns-clause-sorted c =
    let keys = c.args.keys.now in
    let answers = answers_alike _ (λ a r. is_lt r ≡ is_less keys a.0.now a.1.0.now) _ (λ a r next called. (search rules, search rules)) in
    stably_sorted-is (is_less keys) (is_less_weak keys) c.args.events.now.items c.sort_by.new.self.items
    (c.in_ok-sort_by.ensures.sorted (is_less keys) (is_less_weak keys) answers)
    (c.in_ok-sort_by.ensures.stable (is_less keys) (is_less_weak keys) answers)
