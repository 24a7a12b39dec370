-- Counting the places of a trace, by the list of those where an activity's events stand.
use Rattle.std.proofs.Common.{◌≡◌, ◌↔◌, ℕ, zero, suc, ◌+◌, ◌-◌, ◌<◌, ◌≤◌, List, [], ◌∷◌, Bool, true, false, ◌&&◌, not, cond, eqb, get_or, nat_eq, length, count_by, filter, refl, sym, ap, ◌∙◌, arith, ⊎_elim}
use Rattle.std.proofs.lemmas.Bool.{true≢false, cases_lt}
use Rattle.std.specs.List.{range_with_len}
use Rattle.template_core.proofs.ByPlaces.{activated-iff}
use Rattle.template_core.proofs.Places.{count_places-same}
use Rattle.template_core.proofs.Traces.{count_by-cons}
use Rattle.template_core.specs.Events.{one_if, count_places, at_place}
use Rattle.template_core.specs.Places.{EventIs}
use Rattle.template_core.specs.Repertoire.{each}
use Rattle.template_core.specs.declared.kind.Kind.TheVariants.{Response}
use Rattle.trace_check.specs.Standing.{places_from}

-- whether the event at a place is the activity
abbrev pub stands : ℕ → List ℕ → ℕ → Bool
stands c t i = at_place (each nat_eq c) t i

pub stands-iff : (c : ℕ) (t : List ℕ) (i : ℕ) → stands c t i ≡ true ↔ EventIs c t i
stands-iff c t i = activated-iff Response c c t i

pub stands-end : (c : ℕ) (t : List ℕ) → stands c t (length t) ≡ false
stands-end c [] = refl
stands-end c (e ∷ t) = stands-end c t

-- ---- one place more at the front

pub count_places-front : (p : ℕ → Bool) (n : ℕ) → count_places p (suc n) ≡ one_if (p 0) + count_places (λ k. p (suc k)) n
unfolding count_places
count_places-front p zero = omega arith
count_places-front p (suc n) = omega (arith, count_places-front p n)

pub count_by-cond : (h : ℕ → Bool) (v : Bool) (n : ℕ) (rest : List ℕ) → count_by h (cond v (n ∷ rest) rest) ≡ one_if (v && h n) + count_by h rest
count_by-cond h true n rest = count_by-cons h n rest
count_by-cond h false n rest = omega arith

-- ---- as many places pass as elements of the list

pub count_standing : (c n : ℕ) (t : List ℕ) (h : ℕ → Bool) → count_places (λ i. stands c t i && h (n + i)) (length t) ≡ count_by h (places_from c n t)
unfolding count_places
count_standing c n [] h = refl
count_standing c n (e ∷ t) h =
    omega (
      arith,
      count_places-front (λ i. stands c (e ∷ t) i && h (n + i)) (length t),
      ap (λ m. one_if (eqb e c && h m)) {x = n + 0} {y = n} (omega arith),
      count_places-same (λ k. stands c t k && h (n + suc k)) (λ k. stands c t k && h (n + 1 + k)) (length t) (λ k lt. ap (λ m. stands c t k && h m) {x = n + suc k} {y = n + 1 + k} (omega arith)),
      count_standing c (n + 1) t h,
      count_by-cond h (eqb e c) n (places_from c (n + 1) t),
    )

-- the place of the whole trace is no event
pub count_to_end : (c : ℕ) (t : List ℕ) (p : ℕ → Bool) → count_places (λ i. stands c t i && p i) (suc (length t)) ≡ count_places (λ i. stands c t i && p i) (length t)
unfolding count_places
count_to_end c t p = rw (stands-end c t) (omega arith)

pub count_fulfilled : (c n : ℕ) (t : List ℕ) (p : ℕ → Bool) → count_places (λ i. stands c t i && p i) (suc (length t)) ≡ count_by (λ x. p (x - n)) (places_from c n t)
count_fulfilled c n t p =
    count_to_end c t p
    ∙ count_places-same (λ i. stands c t i && p i) (λ i. stands c t i && p (n + i - n)) (length t) (λ k lt. ap (λ m. stands c t k && p m) {x = k} {y = n + k - n} (omega arith))
    ∙ count_standing c n t (λ x. p (x - n))

pub count_all : (xs : List ℕ) → count_by (λ x. true) xs ≡ length xs
count_all [] = refl
count_all (x ∷ xs) = omega (arith, count_by-cons (λ y. true) x xs, count_all xs)

pub count_activated : (c n : ℕ) (t : List ℕ) → count_places (λ i. stands c t i && true) (suc (length t)) ≡ length (places_from c n t)
count_activated c n t = count_fulfilled c n t (λ i. true) ∙ count_all (places_from c n t)

-- ---- two tests of which at most one passes

pub count_places-none : (p : ℕ → Bool) (n : ℕ) → ((k : ℕ) → p k ≡ false) → count_places p n ≡ 0
unfolding count_places
count_places-none p zero none = refl
count_places-none p (suc n) none = rw (none n) (omega (arith, count_places-none p n none))

pub count_places-split : (p q r : ℕ → Bool) (n : ℕ) → ((k : ℕ) → one_if (p k) ≡ one_if (q k) + one_if (r k)) → count_places p n ≡ count_places q n + count_places r n
unfolding count_places
count_places-split p q r zero each = omega arith
count_places-split p q r (suc n) each = omega (arith, count_places-split p q r n each, each n)

-- ---- the first of some numbers

filter-cond : (p : ℕ → Bool) (v : Bool) (x : ℕ) (rest : List ℕ) → filter p (cond v (x ∷ rest) rest) ≡ cond (v && p x) (x ∷ filter p rest) (filter p rest)
filter-cond p true x rest = refl
filter-cond p false x rest = refl

skipped : (x y : Bool) (a p : ℕ) (rest : List ℕ) → (x ≡ true → y ≡ true) → get_or rest 0 0 ≡ p → get_or (cond (x && not y) (a ∷ rest) rest) 0 0 ≡ p
skipped true true a p rest h is = is
skipped true false a p rest h is = absurd (true≢false (sym (h refl)))
skipped false y a p rest h is = is

taken : (x y : Bool) (a p : ℕ) (rest : List ℕ) → x ≡ true → y ≡ false → a ≡ p → get_or (cond (x && not y) (a ∷ rest) rest) 0 0 ≡ p
taken true false a p rest e f same = same
taken true true a p rest e f same = absurd (true≢false f)
taken false y a p rest e f same = absurd (true≢false (sym e))

-- the first of the numbers from a on that passes one test and fails the other
pub first_failing : (act ful : ℕ → Bool) (a n p : ℕ) → a ≤ p → p < a + n → act p ≡ true → ful p ≡ false → ((q : ℕ) → q < p → act q ≡ true → ful q ≡ true)
    → get_or (filter (λ i. not (ful i)) (filter act (range_with_len a n))) 0 0 ≡ p
first_failing act ful a zero p low high active fails before = absurd (omega arith)
first_failing act ful a (suc n) p low high active fails before =
    let rest : List ℕ = filter (λ i. not (ful i)) (filter act (range_with_len (a + 1) n)) in
    ap (λ l. get_or l 0 0) (filter-cond (λ i. not (ful i)) (act a) a (filter act (range_with_len (a + 1) n)))
    ∙ ⊎_elim (λ lt. skipped (act a) (ful a) a p rest (before a lt) (first_failing act ful (a + 1) n p (omega arith) (omega arith) active fails before))
    (λ le. let same : a ≡ p = omega arith in taken (act a) (ful a) a p rest (ap act same ∙ active) (ap ful same ∙ fails) same) (cases_lt a p)
