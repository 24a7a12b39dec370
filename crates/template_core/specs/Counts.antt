-- The counters of a log, and its numbers of traces that the scores take.
use Rattle.std.specs.Prelude.{◌≡◌, ℕ, ◌+◌, ◌≤◌, List, Bool, ◌==◌, map, length, count_by, sum_by, min, ◌&&◌, ◌||◌, nat_lt, nat_eq}
use Rattle.std.specs.List.{range_with_len}
use Rattle.template_core.specs.Constraints.{IsWellMade}
use Rattle.template_core.specs.Counters.{occurrences, without, no_later, no_earlier, next, previous, rep_later, rep_earlier}
use Rattle.template_core.specs.Events.{occurs, is_first, is_last}
use Rattle.template_core.specs.Groups.{group_of, activation_of, target_of}
use Rattle.template_core.specs.declared.group.Group.{Group}
use Rattle.template_core.specs.declared.group.Group.TheVariants.{Existence, Relation, Mutual, Negative}
use Rattle.template_core.specs.declared.counts.Counts.{Counts}
use Rattle.template_core.specs.declared.counts.PairCounts.{PairCounts}
use Rattle.template_core.specs.declared.counts.UnaryCounts.{UnaryCounts}
use Rattle.template_core.specs.declared.kind.Kind.{Kind}

-- the counters of an activity: its events; the traces with it, with two or more of it, that begin with it, that end with it;
-- and at each place k from 0 to 8, the traces with exactly k + 1 of it
abbrev pub unary_counts : ℕ → List (List ℕ) → UnaryCounts
unary_counts a log = record {
  occurrences = sum_by (occurrences nat_eq a) log;
  traces = count_by (occurs nat_eq a) log;
  repeated = count_by (λ trace. nat_lt 1 (occurrences nat_eq a trace)) log;
  first = count_by (is_first nat_eq a) log;
  last = count_by (is_last nat_eq a) log;
  exact = map (λ k. count_by (λ trace. occurrences nat_eq a trace == k + 1) log) (range_with_len 0 9);
}

-- the counters of an ordered pair of activities: a's of all traces, and the traces with both
abbrev pub pair_counts : ℕ → ℕ → List (List ℕ) → PairCounts
pair_counts a b log = record {
  without = sum_by (without nat_eq a b) log;
  no_later = sum_by (no_later nat_eq a b) log;
  no_earlier = sum_by (no_earlier nat_eq a b) log;
  next = sum_by (next nat_eq a b) log;
  previous = sum_by (previous nat_eq a b) log;
  rep_later = sum_by (rep_later nat_eq a b) log;
  rep_earlier = sum_by (rep_earlier nat_eq a b) log;
  together = count_by (λ trace. occurs nat_eq a trace && occurs nat_eq b trace) log;
}

-- the counters of no pair
abbrev pub no_pair : PairCounts
no_pair = record {
  without = 0;
  no_later = 0;
  no_earlier = 0;
  next = 0;
  previous = 0;
  rep_later = 0;
  rep_earlier = 0;
  together = 0;
}

-- a template of one activity has no pair
abbrev pub pair_in : Group → ℕ → ℕ → List (List ℕ) → PairCounts
pair_in Existence a b log = no_pair
pair_in (Relation activation) a b log = pair_counts a b log
pair_in Mutual a b log = pair_counts a b log
pair_in Negative a b log = pair_counts a b log

abbrev pub pair_of : Kind → ℕ → ℕ → List (List ℕ) → PairCounts
pair_of kind a b log = pair_in (group_of kind) a b log

-- the counters that a constraint needs
abbrev pub counts_of : Kind → ℕ → ℕ → List (List ℕ) → Counts
counts_of kind a b log = record {
  traces = length log;
  first = unary_counts a log;
  second = unary_counts b log;
  onward = pair_of kind a b log;
  back = pair_of kind b a log;
}

-- the counters are those of some log within the limits, for two activities that the template may have
pub record AreCounts (kind : Kind) (counts : Counts) : Type 0 where
  pub a : ℕ
  pub b : ℕ
  pub log : List (List ℕ)
  pub made : IsWellMade kind a b
  pub few_events : sum_by (λ trace. length trace) log ≤ 16777215
  pub few_traces : length log ≤ 1048575
  pub are : counts ≡ counts_of kind a b log

module _ {A : Type 0} (same : A → A → Bool) where
  -- the traces with a, and those with a or b
  abbrev pub traces_with : A → List (List A) → ℕ
  traces_with a log = count_by (occurs same a) log

  abbrev pub traces_with_either : A → A → List (List A) → ℕ
  traces_with_either a b log = count_by (λ trace. occurs same a trace || occurs same b trace) log

  -- existence: all traces; relation: the traces with the activation; mutual and negative: the traces with a or b
  abbrev pub traces_in : Group → A → A → List (List A) → ℕ
  traces_in Existence a b log = length log
  traces_in (Relation activation) a b log = traces_with (activation_of activation a b) log
  traces_in Mutual a b log = traces_with_either a b log
  traces_in Negative a b log = traces_with_either a b log

  abbrev pub traces_of : Kind → A → A → List (List A) → ℕ
  traces_of kind a b log = traces_in (group_of kind) a b log

  -- existence: the traces with a; relation: the traces with the target; mutual and negative: the lesser of those with a and with b
  abbrev pub targets_in : Group → A → A → List (List A) → ℕ
  targets_in Existence a b log = traces_with a log
  targets_in (Relation activation) a b log = traces_with (target_of activation a b) log
  targets_in Mutual a b log = min (traces_with a log) (traces_with b log)
  targets_in Negative a b log = min (traces_with a log) (traces_with b log)

  abbrev pub targets_of : Kind → A → A → List (List A) → ℕ
  targets_of kind a b log = targets_in (group_of kind) a b log
