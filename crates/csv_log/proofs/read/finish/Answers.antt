use Rattle.std.proofs.Common.{rules, ◌∙◌, ℕ, map, filter, if◌then◌else◌, ap}
use Rattle.std.specs.List.{range_with_len}
use Rattle.csv_log.specs.declared.kept.Kept.{Kept}
use Rattle.csv_log.specs.Kept.{is_less, is_of_case}
use Rattle.csv_log.specs.Sorting.{stably_sorted}
use Rattle.csv_log.proofs.Finishing.{is_log}
use Rattle.csv_log.proofs.read.finish.Goals as goal

pub returns-clause-ok : goal.returns-clause-ok
returns-clause-ok c = λ events collects.
    let moved = c.in_ok-log.ensures.events in
    let kept = c.args.collected.events.items in
    is_log c.args.columns.now c.args.limits.now events c.args.collected collects c.in_ok-log.log moved.0 moved.1 moved.2 c.is_some.result (search rules)
    (c.in_ok-log.ensures.traces
    ∙ ap (λ (n : ℕ). map (λ case. map (λ (kept : Kept). kept.activity) (filter (is_of_case case) (if c.is_some.result then stably_sorted (is_less c.args.collected.keys) kept else kept))) (range_with_len 0 n))
    c.len.ensures)
    c.in_ok-log.ensures.within
