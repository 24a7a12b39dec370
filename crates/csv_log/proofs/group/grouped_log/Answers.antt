use Rattle.std.proofs.Common.{◌≡◌, ◌∙◌, ◌<◌, ℕ, List, All, filter, length, map, ap, sym, subst, arith}
use Rattle.std.specs.List.{range_with_len}
use Rattle.std.specs.List.Sorted.{IsPermutation}
use Rattle.std.proofs.lemmas.List.Sorted.{IsPermutation-trans, length_permutation, All-permutation}
use Rattle.event_log.specs.Log.{Traces}
use Rattle.event_log.specs.Logs.{events_of}
use Rattle.csv_log.specs.declared.kept.Kept.{Kept}
use Rattle.csv_log.specs.Kept.{is_of_case, sorted_where, traces_by_case}
use Rattle.csv_log.proofs.Firsts.{ok_then}
use Rattle.csv_log.proofs.group.grouped_log.Goals as goal

pub traces_of-requires-clause-few_events : goal.traces_of-requires-clause-few_events
traces_of-requires-clause-few_events c =
    let same = length_permutation _ _ (IsPermutation-trans c.args.events.now.items c.sort_where_ordered.new.events.items c.sort_by_case.new.events.items c.in_ok-sort_where_ordered.ensures.same c.sort_by_case.ensures.same) in
    let whole = ap (λ (l : List Kept). length l) c.deref.ensures.value in
    omega (arith, c.requires.few_events)

pub traces_of-requires-clause-inside : goal.traces_of-requires-clause-inside
traces_of-requires-clause-inside c =
    let P : Kept → Type 0 = λ kept. kept.case < c.args.cases in
    let all = All-permutation P c.args.events.now.items c.sort_by_case.new.events.items (IsPermutation-trans c.args.events.now.items c.sort_where_ordered.new.events.items c.sort_by_case.new.events.items c.in_ok-sort_where_ordered.ensures.same c.sort_by_case.ensures.same) c.requires.inside in
    subst (λ (l : List Kept). All P l) (sym c.deref.ensures.value) all

pub returns-clause-events : goal.returns-clause-events
returns-clause-events c =
    let moved = IsPermutation-trans c.args.events.now.items c.sort_where_ordered.new.events.items c.sort_by_case.new.events.items c.in_ok-sort_where_ordered.ensures.same c.sort_by_case.ensures.same in
    ok_then c.traces_of.result _ (λ (log : Traces). (all : List Kept) × IsPermutation c.args.events.now.items all × (events_of log.traces ≡ map (λ (kept : Kept). kept.activity) all)) c.traces_of.ensures.events
    (λ (log : Traces) same. (c.sort_by_case.new.events.items, moved, same ∙ ap (map (λ (kept : Kept). kept.activity)) c.deref.ensures.value))

-- what stands case by case after a sort by case stood so before
same_cases : (cases : ℕ) (sorted before : List Kept) → ((case : ℕ) → filter (is_of_case case) sorted ≡ filter (is_of_case case) before) → traces_by_case cases sorted ≡ traces_by_case cases before
same_cases cases sorted before same = λ i. map (λ case. map (λ (kept : Kept). kept.activity) (same case i)) (range_with_len 0 cases)

pub returns-clause-traces : goal.returns-clause-traces
returns-clause-traces c =
    ok_then c.traces_of.result _ (λ (log : Traces). log.traces ≡ traces_by_case c.args.cases (sorted_where c.args.ordered c.args.keys.now c.args.events.now.items)) c.traces_of.ensures.traces
    (λ (log : Traces) is. is ∙ ap (traces_by_case c.args.cases) c.deref.ensures.value
    ∙ same_cases c.args.cases c.sort_by_case.new.events.items c.sort_where_ordered.new.events.items c.in_ok-sort_by_case.ensures.kept
    ∙ ap (traces_by_case c.args.cases) c.in_ok-sort_where_ordered.ensures.sorted)
