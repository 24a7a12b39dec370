-- Where an activity's events stand in a trace, place by place.
use Rattle.std.proofs.Common.{◌≡◌, ℕ, zero, suc, ◌+◌, ◌-◌, ◌<◌, ◌≤◌, List, [], ◌∷◌, Bool, true, false, cond, eqb, Some, slice_get, get_or, length, refl, sym, ap, ◌∙◌, subst, arith}
use Rattle.std.proofs.lemmas.Bool.{eqb-true, eq-eqb, true≢false}
use Rattle.std.proofs.lemmas.Option.{none-some}
use Rattle.std.specs.List.{AllPairs}
use Rattle.template_core.specs.Places.{EventIs}
use Rattle.trace_check.specs.Standing.{places_from}

-- ---- one more place at the front, where it is one

above-step : (v : Bool) (n : ℕ) (rest : List ℕ) → ((k d : ℕ) → k < length rest → n + 1 ≤ get_or rest k d) → (k d : ℕ) → k < length (cond v (n ∷ rest) rest) → n ≤ get_or (cond v (n ∷ rest) rest) k d
above-step true n rest h zero d inside = omega arith
above-step true n rest h (suc k) d inside = omega (arith, h k d (omega arith))
above-step false n rest h k d inside = omega (arith, h k d inside)

below-step : (v : Bool) (n m : ℕ) (rest : List ℕ) → n < m → ((k d : ℕ) → k < length rest → get_or rest k d < m) → (k d : ℕ) → k < length (cond v (n ∷ rest) rest) → get_or (cond v (n ∷ rest) rest) k d < m
below-step true n m rest lt h zero d inside = lt
below-step true n m rest lt h (suc k) d inside = h k d (omega arith)
below-step false n m rest lt h k d inside = h k d inside

ascends-step : (v : Bool) (n : ℕ) (rest : List ℕ) → ((k d : ℕ) → k < length rest → n + 1 ≤ get_or rest k d) → AllPairs (λ x y. x < y) rest → AllPairs (λ x y. x < y) (cond v (n ∷ rest) rest)
ascends-step true n rest above asc zero zero d lt inside = absurd (omega arith)
ascends-step true n rest above asc zero (suc j) d lt inside = omega (arith, above j d (omega arith))
ascends-step true n rest above asc (suc i) zero d lt inside = absurd (omega arith)
ascends-step true n rest above asc (suc i) (suc j) d lt inside = asc i j d (omega arith) (omega arith)
ascends-step false n rest above asc i j d lt inside = asc i j d lt inside

inside-step : (v : Bool) (c e n : ℕ) (t rest : List ℕ) → eqb e c ≡ v → ((k d : ℕ) → k < length rest → n + 1 ≤ get_or rest k d)
    → ((k : ℕ) → k < length rest → EventIs c t (get_or rest k 0 - (n + 1))) → (k : ℕ) → k < length (cond v (n ∷ rest) rest) → EventIs c (e ∷ t) (get_or (cond v (n ∷ rest) rest) k 0 - n)
inside-step true c e n t rest is above h zero inside = ap (slice_get (e ∷ t)) {x = n - n} {y = 0} (omega arith) ∙ ap Some (eqb-true e c is)
inside-step true c e n t rest is above h (suc k) inside =
    ap (slice_get (e ∷ t)) {x = get_or rest k 0 - n} {y = suc (get_or rest k 0 - (n + 1))} (omega (arith, above k 0 (omega arith))) ∙ h k (omega arith)
inside-step false c e n t rest is above h k inside =
    ap (slice_get (e ∷ t)) {x = get_or rest k 0 - n} {y = suc (get_or rest k 0 - (n + 1))} (omega (arith, above k 0 inside)) ∙ h k inside

all-step : (v : Bool) (n x : ℕ) (rest : List ℕ) → (k : ℕ) × (k < length rest) × (get_or rest k 0 ≡ x) → (k : ℕ) × (k < length (cond v (n ∷ rest) rest)) × (get_or (cond v (n ∷ rest) rest) k 0 ≡ x)
all-step true n x rest r = (suc r.0, omega (arith, r.1), r.2)
all-step false n x rest r = r

all-here : (v : Bool) (n : ℕ) (rest : List ℕ) → v ≡ true → (k : ℕ) × (k < length (cond v (n ∷ rest) rest)) × (get_or (cond v (n ∷ rest) rest) k 0 ≡ n + 0)
all-here true n rest is = (0, omega arith, omega arith)
all-here false n rest is = absurd (true≢false (sym is))

-- ---- all places

pub places-above : (c n : ℕ) (t : List ℕ) (k d : ℕ) → k < length (places_from c n t) → n ≤ get_or (places_from c n t) k d
places-above c n [] k d inside = absurd (omega arith)
places-above c n (e ∷ t) k d inside = above-step (eqb e c) n (places_from c (n + 1) t) (places-above c (n + 1) t) k d inside

pub places-below : (c n : ℕ) (t : List ℕ) (k d : ℕ) → k < length (places_from c n t) → get_or (places_from c n t) k d < n + length t
places-below c n [] k d inside = absurd (omega arith)
places-below c n (e ∷ t) k d inside =
    below-step (eqb e c) n (n + suc (length t)) (places_from c (n + 1) t) (omega arith) (λ j e inside. omega (arith, places-below c (n + 1) t j e inside)) k d inside

pub places-ascend : (c n : ℕ) (t : List ℕ) → AllPairs (λ x y. x < y) (places_from c n t)
places-ascend c n [] = λ i j d lt inside. absurd (omega arith)
places-ascend c n (e ∷ t) = ascends-step (eqb e c) n (places_from c (n + 1) t) (places-above c (n + 1) t) (places-ascend c (n + 1) t)

pub places-inside : (c n : ℕ) (t : List ℕ) (k : ℕ) → k < length (places_from c n t) → EventIs c t (get_or (places_from c n t) k 0 - n)
places-inside c n [] k inside = absurd (omega arith)
places-inside c n (e ∷ t) k inside =
    inside-step (eqb e c) c e n t (places_from c (n + 1) t) refl (places-above c (n + 1) t) (places-inside c (n + 1) t) k inside

some_is : (x y : ℕ) → Some x ≡ Some y → x ≡ y
some_is x y e = cc

pub places-all : (c n : ℕ) (t : List ℕ) (p : ℕ) → EventIs c t p → (k : ℕ) × (k < length (places_from c n t)) × (get_or (places_from c n t) k 0 ≡ n + p)
places-all c n [] p is = absurd (none-some c is)
places-all c n (e ∷ t) zero is = all-here (eqb e c) n (places_from c (n + 1) t) (eq-eqb e c (some_is e c is))
places-all c n (e ∷ t) (suc p) is =
    let r = places-all c (n + 1) t p is in
    all-step (eqb e c) n (n + suc p) (places_from c (n + 1) t) (r.0, r.1, omega (arith, r.2))

-- the list has these places and no others, ascending
pub record Stand (c n : ℕ) (t places : List ℕ) : Type 0 where
  pub above : (k d : ℕ) → k < length places → n ≤ get_or places k d
  pub below : (k d : ℕ) → k < length places → get_or places k d < n + length t
  pub ascends : AllPairs (λ x y. x < y) places
  pub inside : (k : ℕ) → k < length places → EventIs c t (get_or places k 0 - n)
  pub all : (p : ℕ) → EventIs c t p → (k : ℕ) × (k < length places) × (get_or places k 0 ≡ n + p)

pub stand : (c n : ℕ) (t places : List ℕ) → places ≡ places_from c n t → Stand c n t places
stand c n t places are =
    subst (Stand c n t) (sym are)
    (record {
      above = places-above c n t;
      below = places-below c n t;
      ascends = places-ascend c n t;
      inside = places-inside c n t;
      all = places-all c n t;
    })
