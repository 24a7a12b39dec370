-- The automata of the templates that count accept the traces that keep them, and the counters tell how many do.
use Rattle.std.proofs.Common.{◌≡◌, ◌↔◌, ℕ, zero, suc, ◌+◌, ◌-◌, ◌<◌, ◌≤◌, not, length, count_by, slice_index_or, min, sym, arith, nat_lt, nat_le, List, [], ◌∷◌, ◌++◌, Bool, true, false, cond, eqb, IsTrue, nat_eq, ap, subst, ◌∙◌}
use Rattle.std.proofs.lemmas.Bool.Decides.{nat_tests}
use Rattle.std.proofs.lemmas.List.FromFn.{get_or-map-range_with_len}
use Rattle.template_core.proofs.Counters.{occurrences-snoc}
use Rattle.template_core.proofs.Gains.{occurs-count}
use Rattle.template_core.proofs.Laws.{sum_by-same, sum_by-plus}
use Rattle.template_core.proofs.Places.{count_events-nil}
use Rattle.template_core.proofs.Runs.{run_is}
use Rattle.template_core.proofs.Traces.{count_by-not}
use Rattle.template_core.proofs.Wholes.{keeps_whole, whole_fulfilled}
use Rattle.template_core.specs.Automaton.{run, class_of}
use Rattle.template_core.specs.Counters.{occurrences}
use Rattle.template_core.specs.Counts.{AreCounts, unary_counts}
use Rattle.template_core.specs.Events.{one_if, occurs}
use Rattle.template_core.specs.Recognition.{Recognises, TellsFulfilled}
use Rattle.template_core.specs.declared.class.Class.{Class}
use Rattle.template_core.specs.declared.class.Class.TheVariants.{First, Second, Other}
use Rattle.template_core.specs.declared.counts.Counts.{Counts}
use Rattle.template_core.specs.declared.counts.UnaryCounts.{UnaryCounts}
use Rattle.template_core.specs.declared.kind.Kind.{Kind}
use Rattle.template_core.specs.declared.kind.Kind.TheVariants.{Exactly, AtLeast, AtMost}
use Rattle.templates_unary.specs.Counted.{next_after, accepts_at, accepts_below, exactly, at_least, at_most, more_than}

-- an automaton whose state is the number of a's so far, up to the top, tells of a trace what its states tell of that number
module _ (next : ℕ → Class → ℕ) (top : ℕ) (step : (n : ℕ) (v w : Bool) → min (n + one_if v) top ≡ next (min n top) (cond v First (cond w Second Other))) where
  counted : (a b : ℕ) (trace : List ℕ) → run next 0 a b trace ≡ min (occurrences nat_eq a trace) top
  counted a b trace = run_is next 0 a b says at_start each_event trace
    where
      says : List ℕ → ℕ
      says t = min (occurrences nat_eq a t) top

      at_start : says [] ≡ 0
      at_start = rw (count_events-nil {A = ℕ}) (omega arith)

      each_event : (t : List ℕ) (x : ℕ) → says (t ++ x ∷ []) ≡ next (says t) (class_of a b x)
      each_event t x = ap (λ n. min n top) (occurrences-snoc nat_eq a t x) ∙ step (occurrences nat_eq a t) (eqb x a) (eqb x b)

  pub kept_by : (accepts test : ℕ → Bool) → ((k : ℕ) → accepts (min k top) ≡ test k) → (a b : ℕ) (trace : List ℕ)
      → IsTrue (accepts (run next 0 a b trace)) ↔ ((place : ℕ) → place ≤ length trace → eqb place (length trace) ≡ true → test (occurrences nat_eq a trace) ≡ true)
  kept_by accepts test says a b trace =
      keeps_whole trace (accepts (run next 0 a b trace)) (test (occurrences nat_eq a trace)) (ap accepts (counted a b trace) ∙ says (occurrences nat_eq a trace))

step : (top n : ℕ) (v w : Bool) → min (n + one_if v) top ≡ next_after top (min n top) (cond v First (cond w Second Other))
step top n true w = grind (arith, nat_tests)
step top n false true = grind (arith, nat_tests)
step top n false false = grind (arith, nat_tests)

pub exactly_kept : (n : ℕ) → Recognises (exactly n) (Exactly n)
exactly_kept n a b trace made = kept_by (next_after (n + 1)) (n + 1) (step (n + 1)) (accepts_at n) (λ k. eqb k n) says a b trace
  where
    says : (k : ℕ) → accepts_at n (min k (n + 1)) ≡ eqb k n
    says k = grind (arith, nat_tests)

pub at_least_kept : (n : ℕ) → Recognises (at_least n) (AtLeast n)
at_least_kept n a b trace made = kept_by (next_after n) n (step n) (accepts_at n) (λ k. nat_le n k) says a b trace
  where
    says : (k : ℕ) → accepts_at n (min k n) ≡ nat_le n k
    says k = grind (arith, nat_tests)

pub at_most_kept : (n : ℕ) → Recognises (at_most n) (AtMost n)
at_most_kept n a b trace made = kept_by (next_after (n + 1)) (n + 1) (step (n + 1)) (accepts_below (n + 1)) (λ k. nat_le k n) says a b trace
  where
    says : (k : ℕ) → accepts_below (n + 1) (min k (n + 1)) ≡ nat_le k n
    says k = grind (arith, nat_tests)

module _ (a : ℕ) (log : List (List ℕ)) where
  abbrev with : (ℕ → Bool) → ℕ
  with p = count_by (λ trace. p (occurrences nat_eq a trace)) log

  exact_is : (k : ℕ) → k < 9 → slice_index_or (unary_counts a log).exact k 0 ≡ with (λ m. eqb m (k + 1))
  exact_is k h = get_or-map-range_with_len (λ k. count_by (λ trace. eqb (occurrences nat_eq a trace) (k + 1)) log) 0 9 k k 0 h (omega arith)

  one_more : (n : ℕ) → with (λ m. eqb m (n + 1)) + with (nat_lt (suc n)) ≡ with (nat_lt n)
  one_more n = sum_by-plus _ _ _ (λ trace. each (occurrences nat_eq a trace)) log
    where
      each : (m : ℕ) → cond (eqb m (n + 1)) 1 0 + cond (nat_lt (suc n) m) 1 0 ≡ cond (nat_lt n m) 1 0
      each m = grind (arith, nat_tests)

  more_is : (n : ℕ) → n ≤ 9 → more_than (unary_counts a log) n ≡ with (nat_lt n)
  more_is zero h = sum_by-same _ _ (λ trace. ap (λ v. cond v 1 0) (each (occurrences nat_eq a trace) (occurs nat_eq a trace) (occurs-count nat_eq a trace))) log
    where
      each : (m : ℕ) (v : Bool) → eqb m 0 ≡ not v → v ≡ nat_lt 0 m
      each m true e = grind (arith, nat_tests)
      each m false e = grind (arith, nat_tests)
  more_is (suc n) h = omega (arith, more_is n (omega arith), exact_is n (omega arith), one_more n)

  within_log : (k : ℕ) → k < 9 → slice_index_or (unary_counts a log).exact k 0 ≤ more_than (unary_counts a log) k
  within_log k h = omega (arith, more_is k (omega arith), exact_is k h, one_more k)

-- the counters tell the fulfilled places
pub exactly_told : (n : ℕ) → TellsFulfilled (exactly n) (Exactly n)
exactly_told n a b log made =
    exact_is a log (n - 1) (omega (arith, made.1.0, made.1.1))
    ∙ ap (λ k. with a log (λ m. eqb m k)) (omega (arith, made.1.0))
    ∙ whole_fulfilled (λ trace. eqb (occurrences nat_eq a trace) n) log

pub at_least_told : (n : ℕ) → TellsFulfilled (at_least n) (AtLeast n)
at_least_told n a b log made =
    more_is a log (n - 1) (omega (arith, made.1.1))
    ∙ sum_by-same _ _ (λ trace. ap (λ v. cond v 1 0) (each (occurrences nat_eq a trace))) log
    ∙ whole_fulfilled (λ trace. nat_le n (occurrences nat_eq a trace)) log
  where
    each : (m : ℕ) → nat_lt (n - 1) m ≡ nat_le n m
    each m = grind (arith, nat_tests, made.1.0)

pub at_most_told : (n : ℕ) → TellsFulfilled (at_most n) (AtMost n)
at_most_told n a b log made =
    ap (λ k. length log - k) (more_is a log n made.1.1)
    ∙ sym (count_by-not (λ trace. nat_le (occurrences nat_eq a trace) n) (λ trace. nat_lt n (occurrences nat_eq a trace)) (λ trace. each (occurrences nat_eq a trace)) log)
    ∙ whole_fulfilled (λ trace. nat_le (occurrences nat_eq a trace) n) log
  where
    each : (m : ℕ) → one_if (nat_le m n) + one_if (nat_lt n m) ≡ 1
    each m = grind (arith, nat_tests)

-- no more traces have exactly k + 1 a's than have more than k
pub exact_within : (kind : Kind) (counts : Counts) → AreCounts kind counts → (k : ℕ) → k < 9 → slice_index_or counts.first.exact k 0 ≤ more_than counts.first k
exact_within kind counts h = subst (λ (c : Counts). (k : ℕ) → k < 9 → slice_index_or c.first.exact k 0 ≤ more_than c.first k) (sym h.are) (within_log h.a h.log)

pub more_than-le : (counts : UnaryCounts) (n : ℕ) → more_than counts n ≤ counts.traces
more_than-le counts zero = omega arith
more_than-le counts (suc n) = omega (arith, more_than-le counts n)
