-- The first of each number of a list: those of a front, and those of a list whose numbers are replaced by others.
use Rattle.std.proofs.Common.{◌≡◌, ℕ, zero, suc, ◌+◌, ◌<◌, ◌≤◌, inl, inr, List, [], ◌∷◌, ◌++◌, length, map, Bool, true, false, not, cond, eqb, refl, sym, ap, ◌∙◌, arith, subst}
use Rattle.std.proofs.lemmas.Bool.{cases_lt, false≢true}
use Rattle.std.proofs.lemmas.Bool.Decides.{eqb_tells}
use Rattle.std.proofs.lemmas.List.Elements.{All-filter, All-from_recursion, filter-append, recursion_from_All}
use Rattle.std.specs.List.{AllByRecursion, filter, range_with_len}
use Rattle.template_set.specs.Tables.{first_seen}

-- a list begins with another
pub record Front (front whole : List ℕ) : Type 0 where
  pub back : List ℕ
  pub is : whole ≡ front ++ back

-- the numbers other than x
abbrev pub others : ℕ → List ℕ → List ℕ
others x xs = filter (λ m. not (eqb m x)) xs

pub front-seen : (xs ys : List ℕ) → Front (first_seen xs) (first_seen (xs ++ ys))
unfolding first_seen
front-seen [] ys = record {
  back = first_seen ys;
  is = refl;
}
front-seen (x ∷ xs) ys =
    let rest = front-seen xs ys in
    record {
      back = others x rest.back;
      is = ap (λ (l : List ℕ). x ∷ l) (ap (others x) rest.is ∙ filter-append (λ m. not (eqb m x)) (first_seen xs) rest.back);
    }

-- what holds of the first ones holds of all, and the other way round
all-others : (P : ℕ → Type 0) (x : ℕ) (xs : List ℕ) → P x → AllByRecursion P (others x xs) → AllByRecursion P xs
all-others P x [] one all = tt
all-others P x (y ∷ xs) one all = go (eqb y x) refl all (all-others P x xs one)
  where
    go : (b : Bool) → eqb y x ≡ b → AllByRecursion P (cond (not b) (y ∷ others x xs) (others x xs)) → (AllByRecursion P (others x xs) → AllByRecursion P xs) → P y × AllByRecursion P xs
    go true e rest more = (elim (eqb_tells y x) [ inl same ↦ subst P (sym same.1) one | inr other ↦ absurd (false≢true (sym other.0 ∙ e)) ], more rest)
    go false e rest more = (rest.0, more rest.1)

pub all-seen : (P : ℕ → Type 0) (xs : List ℕ) → AllByRecursion P (first_seen xs) → AllByRecursion P xs
unfolding first_seen
all-seen P [] all = tt
all-seen P (x ∷ xs) all = (all.0, all-seen P xs (all-others P x (first_seen xs) all.0 all.1))

seen-all : (P : ℕ → Type 0) (xs : List ℕ) → AllByRecursion P xs → AllByRecursion P (first_seen xs)
unfolding first_seen
seen-all P [] all = tt
seen-all P (x ∷ xs) all =
    (all.0, recursion_from_All P (others x (first_seen xs)) (All-filter (λ m. not (eqb m x)) P (first_seen xs) (All-from_recursion P (first_seen xs) (seen-all P xs all.1))))

-- different numbers below n have different ones in their place
abbrev pub StayDifferent : (ℕ → ℕ) → ℕ → Type 0
StayDifferent f n = (p q : ℕ) → p < n → q < n → f p ≡ f q → p ≡ q

same-test : (f : ℕ → ℕ) (n x y : ℕ) → StayDifferent f n → x < n → y < n → eqb (f y) (f x) ≡ eqb y x
same-test f n x y differ x_below y_below = elim (eqb_tells y x) [
  | inl same ↦ elim (eqb_tells (f y) (f x)) [ inl too ↦ too.0 ∙ sym same.0 | inr unlike ↦ absurd (unlike.1 (ap f same.1)) ]
  | inr other ↦ elim (eqb_tells (f y) (f x)) [ inl again ↦ absurd (other.1 (differ y x y_below x_below again.1)) | inr unlike ↦ unlike.0 ∙ sym other.0 ]
]

others-map : (f : ℕ → ℕ) (n x : ℕ) (xs : List ℕ) → StayDifferent f n → x < n → AllByRecursion (λ m. m < n) xs → others (f x) (map f xs) ≡ map f (others x xs)
others-map f n x [] differ below all = refl
others-map f n x (y ∷ xs) differ below all =
    ap (λ b. cond (not b) (f y ∷ others (f x) (map f xs)) (others (f x) (map f xs))) (same-test f n x y differ below all.0) ∙ go (eqb y x) (others-map f n x xs differ below all.1)
  where
    go : (b : Bool) → others (f x) (map f xs) ≡ map f (others x xs)
        → cond (not b) (f y ∷ others (f x) (map f xs)) (others (f x) (map f xs)) ≡ map f (cond (not b) (y ∷ others x xs) (others x xs))
    go true rest = rest
    go false rest = ap (λ (l : List ℕ). f y ∷ l) rest

pub seen-map : (f : ℕ → ℕ) (n : ℕ) (xs : List ℕ) → StayDifferent f n → AllByRecursion (λ m. m < n) xs → first_seen (map f xs) ≡ map f (first_seen xs)
unfolding first_seen
seen-map f n [] differ all = refl
seen-map f n (x ∷ xs) differ all =
    ap (λ (l : List ℕ). f x ∷ l) (ap (others (f x)) (seen-map f n xs differ all.1) ∙ others-map f n x (first_seen xs) differ all.0 (seen-all (λ m. m < n) xs all.1))

-- ---- the numbers from one on

pub front-range : (s n : ℕ) (front back : List ℕ) → range_with_len s n ≡ front ++ back → front ≡ range_with_len s (length front)
front-range s n [] back is = refl
front-range s zero (x ∷ front) back is = cc
front-range s (suc n) (x ∷ front) back is =
    let first : s ≡ x = cc in
    let rest : range_with_len (s + 1) n ≡ front ++ back = cc in
    ap (λ k. k ∷ front) (sym first) ∙ ap (λ (l : List ℕ). s ∷ l) (front-range (s + 1) n front back rest)

pub range-below : (s n bound : ℕ) → s + n ≤ bound → AllByRecursion (λ m. m < bound) (range_with_len s n)
range-below s zero bound le = tt
range-below s (suc n) bound le = (omega arith, range-below (s + 1) n bound (omega arith))

-- where what stands in their place are numbers from the same one on, each stands in its own
pub range-fixed : (f : ℕ → ℕ) (s n m i : ℕ) → map f (range_with_len s n) ≡ range_with_len s m → s ≤ i → i < s + n → f i ≡ i
range-fixed f s zero m i is low high = absurd (omega arith)
range-fixed f s (suc n) zero i is low high = cc
range-fixed f s (suc n) (suc m) i is low high =
    let first : f s ≡ s = cc in
    let rest : map f (range_with_len (s + 1) n) ≡ range_with_len (s + 1) m = cc in
    elim (cases_lt s i) [ inl less ↦ range-fixed f (s + 1) n m i rest (omega arith) (omega arith) | inr le ↦ let same : s ≡ i = omega arith in subst (λ k. f k ≡ k) same first ]
