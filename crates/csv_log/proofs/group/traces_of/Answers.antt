use Rattle.std.proofs.Common.{◌≡◌, ◌∙◌, ◌+◌, ◌++◌, ◌∷◌, [], List, ℕ, take, drop, ap, sym, subst, arith}
use Rattle.csv_log.specs.declared.kept.Kept.{Kept}
use Rattle.csv_log.specs.Kept.{is_earlier_case}
use Rattle.csv_log.proofs.Groups.{AreGrouped, activities, grouped-none, grouped-more, grouped-all, few_traces, few_events}
use Rattle.csv_log.proofs.Orders.{is_earlier_case_weak}
use Rattle.csv_log.proofs.Sorts.{Rises-from_sort}
use Rattle.csv_log.proofs.group.traces_of.Goals as goal

pub loop-case-init : goal.loop-case-init
loop-case-init c =
    grouped-none c.args.limits.now c.args.events.now c.args.cases c.new-log.result
    (Rises-from_sort is_earlier_case is_earlier_case_weak c.args.events.now c.requires.sorted) c.requires.inside c.new-log.ensures

pub push_trace-requires-clause-few_traces : goal.push_trace-requires-clause-few_traces
push_trace-requires-clause-few_traces c =
    few_traces c.args.limits.now c.args.events.now c.args.cases c.loop-case.case c.loop-case.rest.now c.loop-case.log c.loop-case.invariant (omega arith) c.requires.few_cases

pub push_trace-requires-clause-few_events : goal.push_trace-requires-clause-few_events
push_trace-requires-clause-few_events c =
    rw c.split_at.ensures.front
    (few_events c.args.limits.now c.args.events.now c.args.cases c.loop-case.case c.loop-case.rest.now c.loop-case.log c.loop-case.invariant c.first_of_case.result c.requires.few_events)

pub loop-case-preserved : goal.loop-case-preserved
loop-case-preserved c =
    let rest = c.loop-case.rest.now in
    let front = c.split_at.ensures.front ∙ ap (λ (n : ℕ). take n rest) c.first_of_case.ensures.count in
    let back = c.split_at.ensures.back ∙ ap (λ (n : ℕ). drop n rest) c.first_of_case.ensures.count in
    let log = c.loop-case.log in
    subst (λ (l : List Kept). AreGrouped c.args.limits.now c.args.events.now c.args.cases (c.loop-case.case + 1) l c.push_trace.new.log) (sym back)
    (grouped-more c.args.limits.now c.args.events.now c.args.cases c.loop-case.case rest log c.loop-case.invariant c.push_trace.new.log
    (c.in_ok-push_trace.ensures.ok ∙ ap (λ (l : List Kept). record log { traces = log.traces ++ activities l ∷ [] }) front))

pub returns-clause-traces : goal.returns-clause-traces
returns-clause-traces c =
    let end : c.loop-case.case ≡ c.args.cases = omega arith in
    rw (← end) c.loop-case.invariant.traces

pub returns-clause-events : goal.returns-clause-events
returns-clause-events c =
    grouped-all c.args.limits.now c.args.events.now c.args.cases c.loop-case.case c.loop-case.rest.now c.loop-case.log c.loop-case.invariant (omega arith)

pub returns-clause-within : goal.returns-clause-within
returns-clause-within c = (c.loop-case.invariant.trace_limit, c.loop-case.invariant.event_limit)
