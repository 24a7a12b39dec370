-- Pairs and triples, which are listed in the order of their numbers.
use Rattle.std.proofs.Common.{◌≡◌, ◌⊎◌, inl, inr, ℕ, zero, suc, ◌+◌, ◌*◌, ◌/◌, ◌%◌, ◌<◌, ◌≤◌, List, [], ◌∷◌, ◌++◌, Option, Some, None, length, get_or, All, Contains, Less, Equal, Ordering, nat_cmp, refl, sym, ap, ◌∙◌, arith, subst}
use Rattle.std.proofs.lemmas.Bool.{cases_lt}
use Rattle.std.proofs.lemmas.List.{append-nil, get_or_append_left, length_push}
use Rattle.std.proofs.lemmas.List.Elements.{All-nil, All-push, Contains-append_left, Contains-push}
use Rattle.std.proofs.lemmas.Nat.{div-add-mod'}
use Rattle.std.proofs.Math.Nat.{mul-le-mul_right, mod-lt}
use Rattle.std.specs.Cmp.{nat_cmp_is}
use Rattle.std.specs.Ordering.{ordering_then}
use Rattle.std.specs.Cmp.Lexicographic.{slice_cmp}
use Rattle.dfa_core.proofs.Places.{pushed}
use Rattle.chain_cert.specs.Forms.{IsAscending}
use Rattle.chain_make.specs.Entries.{entries, entry, pair, triple}

-- one more, after all of an ascending list
ascend-push : (es : List (List ℕ)) (y : List ℕ) → IsAscending es → All (λ e. slice_cmp nat_cmp e y ≡ Less) es → IsAscending (es ++ y ∷ [])
ascend-push es y up last k d lt =
    let long = length_push es y in
    let first : get_or (es ++ y ∷ []) k d ≡ get_or es k d = get_or_append_left es (y ∷ []) d k (omega (arith, lt, long)) in
    elim (pushed es y d (k + 1) (length es) refl (omega (arith, lt, long))) [
      | inl p ↦ rw (first, p.1) (up k d p.0)
      | inr p ↦ rw (first, p.1) (last k d (omega (arith, p.0)))
    ]

-- what holds of one form of each number and of what stands beside it holds of all
module _ (form : ℕ → ℕ → List ℕ) (beside : List (Option ℕ)) where
  pub entries-all : (P : List ℕ → Type 0) (n : ℕ) → ((q r : ℕ) → q < n → get_or beside q None ≡ Some r → P (form q r)) → All P (entries form beside n)
  entries-all P zero h = All-nil P
  entries-all P (suc n) h = go (get_or beside n None) refl (entries-all P n (λ q r lt e. h q r (omega (arith, lt)) e))
    where
      go : (o : Option ℕ) → get_or beside n None ≡ o → All P (entries form beside n) → All P (entries form beside n ++ entry form n o)
      go None e before = subst (All P) (sym (append-nil (entries form beside n))) before
      go (Some r) e before = All-push P (entries form beside n) (form n r) before (h n r (omega arith) e)

  pub entries-have : (n q r : ℕ) → q < n → get_or beside q None ≡ Some r → Contains (entries form beside n) (form q r)
  entries-have zero q r lt e = absurd (omega (arith, lt))
  entries-have (suc n) q r lt e = elim (cases_lt q n) [
    | inl before ↦ Contains-append_left (entries form beside n) (entry form n (get_or beside n None)) (form q r) (entries-have n q r before e)
    | inr last ↦
        let same : q ≡ n = omega arith in
        let here : get_or beside n None ≡ Some r = ap (λ (k : ℕ). get_or beside k None) (sym same) ∙ e in
        let grown : entries form beside n ++ entry form n (get_or beside n None) ≡ entries form beside n ++ form n r ∷ [] = ap (λ (o : Option ℕ). entries form beside n ++ entry form n o) here in
        subst (λ (l : List (List ℕ)). Contains l (form q r)) (sym grown) (subst (λ (k : ℕ). Contains (entries form beside n ++ form n r ∷ []) (form k r)) (sym same) (Contains-push (entries form beside n) (form n r)))
  ]

  -- a later number is after an earlier one
  module _ (later : (p q r k : ℕ) → p < q → slice_cmp nat_cmp (form p r) (form q k) ≡ Less) where
    pub entries-ascend : (n : ℕ) → IsAscending (entries form beside n)
    entries-ascend zero = λ k d lt. absurd (omega (arith, lt))
    entries-ascend (suc n) = go (get_or beside n None) (entries-ascend n)
      where
        go : (o : Option ℕ) → IsAscending (entries form beside n) → IsAscending (entries form beside n ++ entry form n o)
        go None before = subst IsAscending (sym (append-nil (entries form beside n))) before
        go (Some r) before = ascend-push (entries form beside n) (form n r) before (entries-all (λ e. slice_cmp nat_cmp e (form n r) ≡ Less) n (λ q s less e. later q n s r less))

-- ---- the order of the pairs of states of the numbers

less-first : (a b : ℕ) (xs ys : List ℕ) → a < b → slice_cmp nat_cmp (a ∷ xs) (b ∷ ys) ≡ Less
less-first a b xs ys lt = ap (λ (o : Ordering). ordering_then o (slice_cmp nat_cmp xs ys)) (sym (nat_cmp_is a b Less lt))

less-rest : (a : ℕ) (xs ys : List ℕ) → slice_cmp nat_cmp xs ys ≡ Less → slice_cmp nat_cmp (a ∷ xs) (a ∷ ys) ≡ Less
less-rest a xs ys e = ap (λ (o : Ordering). ordering_then o (slice_cmp nat_cmp xs ys)) (sym (nat_cmp_is a a Equal refl)) ∙ e

row-order : (w p q : ℕ) → 0 < w → p < q → (p / w < q / w) ⊎ ((p / w ≡ q / w) × (p % w < q % w))
row-order w p q some lt = elim (cases_lt (p / w) (q / w)) [
  | inl less ↦ inl less
  | inr ge ↦
      let dp = div-add-mod' p w in
      let dq = div-add-mod' q w in
      elim (cases_lt (q / w) (p / w)) [
        | inl more ↦ absurd (falls more)
        | inr le ↦ let e : p / w ≡ q / w = omega arith in let m : p / w * w ≡ q / w * w = ap (λ (n : ℕ). n * w) e in inr (e, omega (arith, dp, dq, m, lt))
      ]
]
  where
    falls : q / w < p / w → ⊥
    falls more =
        let dp = div-add-mod' p w in
        let dq = div-add-mod' q w in
        let m : suc (q / w) * w ≤ p / w * w = mul-le-mul_right w more in
        let b = mod-lt q some in
        omega (arith, dp, dq, m, b, lt)

pub pair-later : (w p q r k : ℕ) → 0 < w → p < q → slice_cmp nat_cmp (pair w p r) (pair w q k) ≡ Less
pair-later w p q r k some lt = elim (row-order w p q some lt) [
  | inl row ↦ less-first (p / w) (q / w) (p % w ∷ []) (q % w ∷ []) row
  | inr same ↦ rw same.0 (less-rest (q / w) (p % w ∷ []) (q % w ∷ []) (less-first (p % w) (q % w) [] [] same.1))
]

pub triple-later : (w p q r k : ℕ) → 0 < w → p < q → slice_cmp nat_cmp (triple w p r) (triple w q k) ≡ Less
triple-later w p q r k some lt = elim (row-order w p q some lt) [
  | inl row ↦ less-first (p / w) (q / w) (p % w ∷ r ∷ []) (q % w ∷ k ∷ []) row
  | inr same ↦ rw same.0 (less-rest (q / w) (p % w ∷ r ∷ []) (q % w ∷ k ∷ []) (less-first (p % w) (q % w) (r ∷ []) (k ∷ []) same.1))
]
