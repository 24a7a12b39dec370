-- The a's that no b directly follows, with an event more.
use Rattle.std.proofs.Common.{◌≡◌, ℕ, ◌+◌, ◌-◌, ◌≤◌, List, [], ◌∷◌, ◌++◌, Bool, true, false, ◌&&◌, eqb, nat_eq, ap, arith}
use Rattle.template_core.proofs.Counters.{is_last-snoc, next-snoc, occurrences-snoc, passing-failing}
use Rattle.template_core.proofs.Places.{snoc_induction}
use Rattle.template_core.specs.Events.{is_last, one_if}
use Rattle.template_core.specs.Tests.{failing, has_next}

module _ (a b : ℕ) where
  pub unfollowed-snoc : (t : List ℕ) (x : ℕ)
      → failing nat_eq a (has_next nat_eq b) (t ++ x ∷ []) ≡ (failing nat_eq a (has_next nat_eq b) t + one_if (eqb x a)) - one_if (is_last nat_eq a t && eqb x b)
  unfollowed-snoc t x =
      omega
      (arith, passing-failing nat_eq a (has_next nat_eq b) t, passing-failing nat_eq a (has_next nat_eq b) (t ++ x ∷ []), next-snoc nat_eq a b t x, occurrences-snoc nat_eq a t x)

  -- an a at the end has no b behind it
  pub last-unfollowed : (t : List ℕ) → one_if (is_last nat_eq a t) ≤ failing nat_eq a (has_next nat_eq b) t
  last-unfollowed t =
      snoc_induction (λ t. one_if (is_last nat_eq a t) ≤ failing nat_eq a (has_next nat_eq b) t) (omega arith)
      (λ t x h. omega (arith, h, unfollowed-snoc t x, ap one_if (is_last-snoc nat_eq a t x), one (is_last nat_eq a t) (eqb x b))) t
    where
      one : (l w : Bool) → one_if (l && w) ≤ one_if l
      one true true = omega arith
      one true false = omega arith
      one false w = omega arith
