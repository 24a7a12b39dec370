-- How large the numbers of a constraint are.
use Rattle.std.proofs.Common.{◌≢◌, ℕ, zero, suc, ◌+◌, ◌<◌, ◌≤◌, List, [], ◌∷◌, Bool, true, false, ◌&&◌, ◌||◌, length, sum_by, nat_eq, refl, arith}
use Rattle.std.proofs.lemmas.List.Sums.{sum_by-le-sum_by, count_by-le-length}
use Rattle.template_core.proofs.Gains.{count_places-le, occurrences-le-length}
use Rattle.template_core.proofs.Laws.{sum_by-plus}
use Rattle.template_core.proofs.Made.{made-in}
use Rattle.template_core.proofs.Parts.{each_a, each_of_both, each_of_count}
use Rattle.template_core.proofs.Runs.{apart}
use Rattle.template_core.proofs.Wholes.{whole_places}
use Rattle.template_core.specs.Constraints.{IsWellMadeIn, IsWellMade}
use Rattle.template_core.specs.Counters.{occurrences}
use Rattle.template_core.specs.Counts.{traces_in, targets_in, traces_of, targets_of}
use Rattle.template_core.specs.Events.{one_if, count_places, at_place, occurs}
use Rattle.template_core.specs.Repertoire.{each_of, is_activated_in, is_activated, is_fulfilled, activated, fulfilled}
use Rattle.template_core.specs.Groups.{group_of, activation_of, target_of}
use Rattle.template_core.specs.declared.group.Activation.TheVariants as by
use Rattle.template_core.specs.declared.group.Group.{Group}
use Rattle.template_core.specs.declared.group.Group.TheVariants.{Existence, Relation, Mutual, Negative}
use Rattle.template_core.specs.declared.kind.Kind.{Kind}

count_places-both : (p q : ℕ → Bool) (n : ℕ) → count_places (λ k. p k && q k) n ≤ count_places p n
unfolding count_places
count_places-both p q zero = omega arith
count_places-both p q (suc n) = omega (arith, count_places-both p q n, one (p n) (q n))
  where
    one : (x y : Bool) → one_if (x && y) ≤ one_if x
    one true true = omega arith
    one true false = omega arith
    one false y = omega arith

pub fulfilled-le : {A : Type 0} (same : A → A → Bool) (kind : Kind) (a b : A) (log : List (List A)) → fulfilled same kind a b log ≤ activated same kind a b log
fulfilled-le same kind a b log =
    sum_by-le-sum_by (λ trace. count_places (λ place. is_activated same kind a b trace place && is_fulfilled same kind a b trace place) (suc (length trace)))
    (λ trace. count_places (is_activated same kind a b trace) (suc (length trace))) log
    (λ trace. count_places-both (is_activated same kind a b trace) (is_fulfilled same kind a b trace) (suc (length trace)))

-- the activated places of a constraint of the group
abbrev activated_in : {A : Type 0} (same : A → A → Bool) → Group → A → A → List (List A) → ℕ
activated_in same group a b log = sum_by (λ trace. count_places (is_activated_in same group a b trace) (suc (length trace))) log

some_trace : (a : ℕ) (log : List (List ℕ)) → 0 < sum_by (occurrences nat_eq a) log → 0 < length log
some_trace a [] h = absurd (omega arith)
some_trace a (t ∷ log) h = omega arith

positive_in : (group : Group) (a b : ℕ) (log : List (List ℕ)) → IsWellMadeIn group a b → 0 < sum_by (occurrences nat_eq a) log → 0 < sum_by (occurrences nat_eq b) log
    → 0 < activated_in nat_eq group a b log
positive_in Existence a b log made h g = omega (arith, some_trace a log h, whole_places log)
positive_in (Relation by.First) a b log made h g = omega (arith, h, each_a nat_eq a log)
positive_in (Relation by.Second) a b log made h g = omega (arith, g, each_a nat_eq b log)
positive_in Mutual a b log made h g = omega (arith, h, each_of_both nat_eq a b (apart a b made) log)
positive_in Negative a b log made h g = omega (arith, h, each_of_both nat_eq a b (apart a b made) log)

-- a constraint whose activities have an event each is activated somewhere
pub activated-positive : (kind : Kind) (a b : ℕ) (log : List (List ℕ)) → IsWellMade kind a b
    → 0 < sum_by (occurrences nat_eq a) log → 0 < sum_by (occurrences nat_eq b) log → 0 < activated nat_eq kind a b log
activated-positive kind a b log made h g = positive_in (group_of kind) a b log (made-in kind a b made) h g

events_of : (a : ℕ) (log : List (List ℕ)) → sum_by (occurrences nat_eq a) log ≤ sum_by (λ trace. length trace) log
events_of a log = sum_by-le-sum_by (occurrences nat_eq a) (λ trace. length trace) log (λ t. occurrences-le-length nat_eq a t)

events_of_both : (a b : ℕ) → a ≢ b → (log : List (List ℕ)) → sum_by (occurrences nat_eq a) log + sum_by (occurrences nat_eq b) log ≤ sum_by (λ trace. length trace) log
events_of_both a b differ log =
    omega (
      arith,
      sum_by-plus (occurrences nat_eq a) (occurrences nat_eq b) (λ t. occurrences nat_eq a t + occurrences nat_eq b t) (λ t. refl) log,
      sum_by-le-sum_by (λ t. occurrences nat_eq a t + occurrences nat_eq b t) (λ trace. length trace) log (λ t. both t),
    )
  where
    both : (t : List ℕ) → occurrences nat_eq a t + occurrences nat_eq b t ≤ length t
    both t = omega (arith, each_of_count nat_eq a b (apart a b differ) t, count_places-le (at_place (each_of nat_eq a b) t) (length t))

le_in : (group : Group) (a b : ℕ) (log : List (List ℕ)) → IsWellMadeIn group a b → (most : ℕ)
    → length log ≤ most → sum_by (λ trace. length trace) log ≤ most → activated_in nat_eq group a b log ≤ most
le_in Existence a b log made most h g = omega (arith, h, whole_places log)
le_in (Relation by.First) a b log made most h g = omega (arith, g, events_of a log, each_a nat_eq a log)
le_in (Relation by.Second) a b log made most h g = omega (arith, g, events_of b log, each_a nat_eq b log)
le_in Mutual a b log made most h g = omega (arith, g, events_of_both a b made log, each_of_both nat_eq a b (apart a b made) log)
le_in Negative a b log made most h g = omega (arith, g, events_of_both a b made log, each_of_both nat_eq a b (apart a b made) log)

-- the activated places are at most the traces, or at most the events
pub activated-le : (kind : Kind) (a b : ℕ) (log : List (List ℕ)) → IsWellMade kind a b → (most : ℕ)
    → length log ≤ most → sum_by (λ trace. length trace) log ≤ most → activated nat_eq kind a b log ≤ most
activated-le kind a b log made most h g = le_in (group_of kind) a b log (made-in kind a b made) most h g

module _ {A : Type 0} (same : A → A → Bool) where
  traces_in-le : (group : Group) (a b : A) (log : List (List A)) → traces_in same group a b log ≤ length log
  traces_in-le Existence a b log = omega arith
  traces_in-le (Relation activation) a b log = count_by-le-length (occurs same (activation_of activation a b)) log
  traces_in-le Mutual a b log = count_by-le-length (λ trace. occurs same a trace || occurs same b trace) log
  traces_in-le Negative a b log = count_by-le-length (λ trace. occurs same a trace || occurs same b trace) log

  pub traces_of-le : (kind : Kind) (a b : A) (log : List (List A)) → traces_of same kind a b log ≤ length log
  traces_of-le kind a b log = traces_in-le (group_of kind) a b log

  targets_in-le : (group : Group) (a b : A) (log : List (List A)) → targets_in same group a b log ≤ length log
  targets_in-le Existence a b log = count_by-le-length (occurs same a) log
  targets_in-le (Relation activation) a b log = count_by-le-length (occurs same (target_of activation a b)) log
  targets_in-le Mutual a b log = omega (arith, count_by-le-length (occurs same a) log)
  targets_in-le Negative a b log = omega (arith, count_by-le-length (occurs same a) log)

  pub targets_of-le : (kind : Kind) (a b : A) (log : List (List A)) → targets_of same kind a b log ≤ length log
  targets_of-le kind a b log = targets_in-le (group_of kind) a b log
