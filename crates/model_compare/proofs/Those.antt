-- Lists of the numbers that have a property, as they are found in ascending order.
use Rattle.std.proofs.Common.{◌≡◌, ◌↔◌, inl, inr, ℕ, ◌+◌, ◌<◌, ◌≤◌, List, [], ◌∷◌, ◌++◌, length, get_or, sym, subst, arith}
use Rattle.std.specs.List.{Contains}
use Rattle.std.proofs.lemmas.Bool.{cases_lt}
use Rattle.std.proofs.lemmas.List.{get_or_append_left, get_or_push, length_push}
use Rattle.std.proofs.lemmas.List.Elements.{Contains-append_left, Contains-get_or, Contains-push, Contains-push_cases}
use Rattle.model_compare.specs.Analysis.{AreThose}

pub those-none : (Has : ℕ → Type 0) → ((x : ℕ) → Has x → ⊥) → AreThose Has []
those-none Has none = record {
  ascending = λ i j less lt. absurd (omega (arith, lt));
  exact = λ x. (λ is. absurd (omega (arith, is.1)), λ has. absurd (none x has));
}

pub those-same : (Has Now : ℕ → Type 0) (numbers : List ℕ) → ((x : ℕ) → Has x ↔ Now x) → AreThose Has numbers → AreThose Now numbers
those-same Has Now numbers same h = record {
  ascending = h.ascending;
  exact = λ x. (λ is. (same x).0 ((h.exact x).0 is), λ now. (h.exact x).1 ((same x).1 now));
}

module _ (P : ℕ → Type 0) (k : ℕ) (numbers : List ℕ) (h : AreThose (λ x. (x < k) × P x) numbers) where
  pub below-more : P k → AreThose (λ x. (x < k + 1) × P x) (numbers ++ k ∷ [])
  below-more has = record {
    ascending = λ i j less lt.
        let long = length_push numbers k in
        let within : i < length numbers = omega (arith, less, lt, long) in
        let old : get_or (numbers ++ k ∷ []) i 0 ≡ get_or numbers i 0 = get_or_append_left numbers (k ∷ []) 0 i within in
        elim (cases_lt j (length numbers)) [
          | inl before ↦
              let old_too : get_or (numbers ++ k ∷ []) j 0 ≡ get_or numbers j 0 = get_or_append_left numbers (k ∷ []) 0 j before in
              let order = h.ascending i j less before in omega (arith, old, old_too, order)
          | inr last ↦
              let new : get_or (numbers ++ k ∷ []) j 0 ≡ k = get_or_push numbers k 0 j (omega (arith, last, lt, long)) in
              let below = ((h.exact (get_or numbers i 0)).0 (Contains-get_or numbers i 0 within)).0 in omega (arith, old, new, below)
        ];
    exact = λ x. (
      λ is. elim (Contains-push_cases numbers k x is) [
        | inl old ↦ let p = (h.exact x).0 old in let lt = p.0 in (omega (arith, lt), p.1)
        | inr e ↦ (omega (arith, e), subst P e has)
      ],
      λ p. elim (cases_lt x k) [
        | inl lt ↦ Contains-append_left numbers (k ∷ []) x ((h.exact x).1 (lt, p.1))
        | inr ge ↦ let e : k ≡ x = (let lt = p.0 in omega (arith, ge, lt)) in subst (λ (z : ℕ). Contains (numbers ++ k ∷ []) z) e (Contains-push numbers k)
      ],
    );
  }

  pub below-skip : (P k → ⊥) → AreThose (λ x. (x < k + 1) × P x) numbers
  below-skip lacks = those-same (λ x. (x < k) × P x) (λ x. (x < k + 1) × P x) numbers (λ x. (
    λ p. let lt = p.0 in (omega (arith, lt), p.1),
    λ p. elim (cases_lt x k) [
      | inl lt ↦ (lt, p.1)
      | inr ge ↦ let e : x ≡ k = (let lt = p.0 in omega (arith, ge, lt)) in absurd (lacks (subst P e p.1))
    ],
  )) h
