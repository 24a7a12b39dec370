-- Counters of one log bound each other, so a template's sums and differences fit.
use Rattle.std.proofs.Common.{ℕ, ◌+◌, ◌≤◌, List, ◌&&◌, length, sum_by, count_by, nat_lt, nat_eq, sym, subst, arith}
use Rattle.std.proofs.lemmas.List.Sums.{count_by-le-length, sum_by-le-sum_by}
use Rattle.template_core.specs.Events.{occurs}
use Rattle.template_core.specs.Tests.{failing, has, has_next, has_previous}
use Rattle.template_core.specs.Repertoire.{alternates_later, alternates_earlier}
use Rattle.template_core.specs.Counters.{occurrences, no_later, no_earlier, rep_later, rep_earlier}
use Rattle.template_core.proofs.Gains.{occurrences-le-length}
use Rattle.template_core.proofs.Laws.{sum_by-plus}
use Rattle.template_core.proofs.Parts.{sum_failing-le, sum_passing-le, failing-alternates_later, failing-alternates_earlier}
use Rattle.template_core.proofs.Counters.{and_first}
use Rattle.template_core.proofs.Traces.{count_by-le}
use Rattle.template_core.specs.Counts.{AreCounts, unary_counts, pair_counts, pair_in, no_pair}
use Rattle.template_core.specs.Groups.{group_of}
use Rattle.template_core.specs.declared.group.Group.{Group}
use Rattle.template_core.specs.declared.group.Group.TheVariants.{Existence, Relation, Mutual, Negative}
use Rattle.template_core.specs.declared.kind.Kind.{Kind}
use Rattle.template_core.specs.declared.counts.Counts.{Counts}
use Rattle.template_core.specs.declared.counts.PairCounts.{PairCounts}
use Rattle.template_core.specs.declared.counts.UnaryCounts.{UnaryCounts}

pub record PairBounds (first : UnaryCounts) (pair : PairCounts) : Type 0 where
  pub without : pair.without ≤ first.occurrences
  pub later : pair.no_later + pair.rep_later ≤ first.occurrences
  pub earlier : pair.no_earlier + pair.rep_earlier ≤ first.occurrences
  pub next : pair.next ≤ first.occurrences
  pub previous : pair.previous ≤ first.occurrences
  pub together : pair.together ≤ first.traces
  pub small : first.occurrences ≤ 16777215
  pub few : first.traces ≤ 1048575

pub record Bounds (counts : Counts) : Type 0 where
  pub onward : PairBounds counts.first counts.onward
  pub back : PairBounds counts.second counts.back
  pub traces : counts.first.traces ≤ counts.traces
  pub repeated : counts.first.repeated ≤ counts.traces

few_occurrences : (a : ℕ) (log : List (List ℕ)) → sum_by (λ trace. length trace) log ≤ 16777215 → sum_by (occurrences nat_eq a) log ≤ 16777215
few_occurrences a log h = omega (arith, h, sum_by-le-sum_by (occurrences nat_eq a) (λ trace. length trace) log (λ t. occurrences-le-length nat_eq a t))

few_traces : (a : ℕ) (log : List (List ℕ)) → length log ≤ 1048575 → count_by (occurs nat_eq a) log ≤ 1048575
few_traces a log g = omega (arith, count_by-le-length (occurs nat_eq a) log, g)

pair_bounds : (a b : ℕ) (log : List (List ℕ)) → sum_by (λ trace. length trace) log ≤ 16777215 → length log ≤ 1048575 → PairBounds (unary_counts a log) (pair_counts a b log)
pair_bounds a b log h g = record {
  without = sum_failing-le nat_eq a (has nat_eq b) log;
  later =
      omega (
        arith,
        sum_failing-le nat_eq a (alternates_later nat_eq a b) log,
        sum_by-plus (no_later nat_eq a b) (rep_later nat_eq a b) (failing nat_eq a (alternates_later nat_eq a b)) (λ t. sym (failing-alternates_later nat_eq a b t)) log,
      );
  earlier =
      omega (
        arith,
        sum_failing-le nat_eq a (alternates_earlier nat_eq b a) log,
        sum_by-plus (no_earlier nat_eq a b) (rep_earlier nat_eq a b) (failing nat_eq a (alternates_earlier nat_eq b a)) (λ t. sym (failing-alternates_earlier nat_eq b a t)) log,
      );
  next = sum_passing-le nat_eq a (has_next nat_eq b) log;
  previous = sum_passing-le nat_eq a (has_previous nat_eq b) log;
  together = count_by-le (λ trace. occurs nat_eq a trace && occurs nat_eq b trace) (occurs nat_eq a) (λ t e. and_first (occurs nat_eq a t) (occurs nat_eq b t) e) log;
  small = few_occurrences a log h;
  few = few_traces a log g;
}

no_bounds : (a : ℕ) (log : List (List ℕ)) → sum_by (λ trace. length trace) log ≤ 16777215 → length log ≤ 1048575 → PairBounds (unary_counts a log) no_pair
no_bounds a log h g = record {
  without = omega arith;
  later = omega arith;
  earlier = omega arith;
  next = omega arith;
  previous = omega arith;
  together = omega arith;
  small = few_occurrences a log h;
  few = few_traces a log g;
}

either_bounds : (group : Group) (a b : ℕ) (log : List (List ℕ)) → sum_by (λ trace. length trace) log ≤ 16777215 → length log ≤ 1048575 → PairBounds (unary_counts a log) (pair_in group a b log)
either_bounds Existence a b log h g = no_bounds a log h g
either_bounds (Relation activation) a b log h g = pair_bounds a b log h g
either_bounds Mutual a b log h g = pair_bounds a b log h g
either_bounds Negative a b log h g = pair_bounds a b log h g

pub bounds_of : (kind : Kind) (counts : Counts) → AreCounts kind counts → Bounds counts
bounds_of kind counts h =
    subst Bounds (sym h.are) (record {
      onward = either_bounds (group_of kind) h.a h.b h.log h.few_events h.few_traces;
      back = either_bounds (group_of kind) h.b h.a h.log h.few_events h.few_traces;
      traces = count_by-le-length (occurs nat_eq h.a) h.log;
      repeated = count_by-le-length (λ trace. nat_lt 1 (occurrences nat_eq h.a trace)) h.log;
    })
