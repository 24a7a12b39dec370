-- The first place that fails a test, with one place more.
use Rattle.std.proofs.Common.{◌≡◌, ℕ, ◌+◌, List, Bool, true, false, get_or, refl, sym, arith, Option, None, Some, below_more}
use Rattle.std.proofs.lemmas.Bool.{true≢false}
use Rattle.std.specs.Option.{is_some}
use Rattle.trace_check.specs.Standing.{IsFirstFailing}

pub first-found : (test : ℕ → Bool) (places : List ℕ) (n place : ℕ) → IsFirstFailing test places n (Some place) → IsFirstFailing test places (n + 1) (Some place)
first-found test places n place h = (h.0, omega (arith, h.1), h.2, h.3, h.4)

pub first-passed : (test : ℕ → Bool) (places : List ℕ) (n : ℕ) (found : Option ℕ) → test (get_or places n 0) ≡ true → IsFirstFailing test places n found → IsFirstFailing test places (n + 1) found
first-passed test places n None passes h = below_more (λ k. test (get_or places k 0) ≡ true) n h passes
first-passed test places n (Some place) passes h = first-found test places n place h

pub first-failed : (test : ℕ → Bool) (places : List ℕ) (n : ℕ) → test (get_or places n 0) ≡ false → IsFirstFailing test places n None → IsFirstFailing test places (n + 1) (Some (get_or places n 0))
first-failed test places n fails h = (n, omega arith, refl, fails, h)

pub first-kept : (test : ℕ → Bool) (places : List ℕ) (n : ℕ) (found : Option ℕ) → is_some found ≡ true → IsFirstFailing test places n found → IsFirstFailing test places (n + 1) found
first-kept test places n (Some place) some h = first-found test places n place h
first-kept test places n None some h = absurd (true≢false (sym some))

pub first-new : (test : ℕ → Bool) (places : List ℕ) (n : ℕ) (found : Option ℕ) → is_some found ≡ false → test (get_or places n 0) ≡ false → IsFirstFailing test places n found
    → IsFirstFailing test places (n + 1) (Some (get_or places n 0))
first-new test places n None none fails h = first-failed test places n fails h
first-new test places n (Some place) none fails h = absurd (true≢false none)
