-- Where the events of an activity stand.
use Rattle.std.specs.Prelude.{◌≡◌, ℕ, ◌+◌, ◌<◌, List, [], ◌∷◌, Bool, true, false, if◌then◌else◌, ◌==◌, Option, None, Some, slice_index}

-- the places of an activity's events, where the first event stands at n
abbrev pub places_from : ℕ → ℕ → List ℕ → List ℕ
places_from c n [] = []
places_from c n (event ∷ trace) = if event == c then n ∷ places_from c (n + 1) trace else places_from c (n + 1) trace

-- of the first n of these places, the first that fails the test
abbrev pub IsFirstFailing : (ℕ → Bool) → List ℕ → ℕ → Option ℕ → Type 0
IsFirstFailing test places n None = (k : ℕ) → k < n → test (slice_index places k) ≡ true
IsFirstFailing test places n (Some place) =
    (k : ℕ) × (k < n) × (slice_index places k ≡ place) × (test place ≡ false) × ((j : ℕ) → j < k → test (slice_index places j) ≡ true)
