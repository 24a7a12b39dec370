-- Places in lists that grow, and in tables of rows.
use Rattle.std.proofs.Common.{◌≡◌, ◌⊎◌, inl, inr, ℕ, suc, ◌+◌, ◌*◌, ◌^◌, ◌<◌, ◌≤◌, List, [], ◌∷◌, ◌++◌, length, get_or, arith}
use Rattle.std.proofs.lemmas.List.{get_or_append_left, get_or_push}
use Rattle.std.proofs.lemmas.Nat.{mul-add-lt}
use Rattle.std.proofs.lemmas.Bool.{cases_lt}
use Rattle.std.proofs.Math.Nat.{mul-le-mul_right, mul_comm}

-- a push leaves what stands before it, and puts its element at the end
pub pushed : {X : Type 0} (xs : List X) (y d : X) (k n : ℕ) → length xs ≡ n → k ≤ n
    → ((k < n) × (get_or (xs ++ y ∷ []) k d ≡ get_or xs k d)) ⊎ ((k ≡ n) × (get_or (xs ++ y ∷ []) k d ≡ y))
pushed xs y d k n e le = elim (cases_lt k n) [
  | inl lt ↦ inl (lt, get_or_append_left xs (y ∷ []) d k (omega arith))
  | inr ge ↦ let same : k ≡ n = omega arith in inr (same, get_or_push xs y d k (omega arith))
]

-- a place of a row that is filled, or is being filled
pub row_le : (t x at y s : ℕ) → t * s + x ≤ at * s + y → y < s → t ≤ at
row_le t x at y s le lt = elim (cases_lt at t) [
  | inl more ↦ let p : suc at * s ≤ t * s = mul-le-mul_right s more in absurd (omega arith)
  | inr few ↦ few
]

-- the place of a step is a number of 64 bits
pub place_fits : (at x n s : ℕ) → at < n → x < s → n < 2 ^ 32 → s < 2 ^ 32 → at * s + x + 1 < 2 ^ 64
place_fits at x n s la lx ln ls =
    let b = mul-add-lt at s x n la lx in
    let c = mul_comm s n in
    let m : n * s ≤ 4294967296 * s = mul-le-mul_right s (omega arith) in
    omega arith
