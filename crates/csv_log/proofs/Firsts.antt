-- The first of a list that passes a test.
use Rattle.std.proofs.Common.{◌≡◌, ℕ, zero, suc, ◌+◌, ◌<◌, List, [], ◌∷◌, Bool, true, false, cond, not, ◌||◌, nat_lt, Option, Some, None, option_to_list, Result, Ok, Err, IfOk, IfErr, length, take, get_or, refl, arith}
use Rattle.std.specs.Result.{IsErrAnd}
use Rattle.std.specs.List.{list_any, position, position_or_len}

module _ {X : Type 0} (p : X → Bool) where
  pub first_at : (xs : List X) (i : ℕ) (d : X) → i < length xs → list_any p (take i xs) ≡ false → p (get_or xs i d) ≡ true
      → (position_or_len p xs ≡ i) × (list_any p xs ≡ true)
  first_at [] i d inside none here = absurd (omega arith)
  first_at (x ∷ xs) zero d inside none here = rw here (refl, refl)
  first_at (x ∷ xs) (suc i) d inside none here = go (p x) none (first_at xs i d (omega arith))
    where
      go : (b : Bool) → (b || list_any p (take i xs)) ≡ false
          → (list_any p (take i xs) ≡ false → p (get_or xs i d) ≡ true → (position_or_len p xs ≡ i) × (list_any p xs ≡ true))
          → (cond (not b) (1 + position_or_len p xs) 0 ≡ suc i) × ((b || list_any p xs) ≡ true)
      go true none more = cc
      go false none more = let rest = more none here in (omega (arith, rest.0), rest.1)

-- behind two that fail
pub third_of : {X : Type 0} (p : X → Bool) (first second : X) (last : Option X) → p first ≡ false → p second ≡ false
    → position p (option_to_list last) ≡ Some 0 → position p (first ∷ second ∷ option_to_list last) ≡ Some 2
third_of p first second None no_first no_second h = cc
third_of p first second (Some x) no_first no_second h = rw (no_first, no_second) (go (p x) h)
  where
    go : (b : Bool) → cond (nat_lt (cond (not b) (1 + 0) 0) 1) (Some (cond (not b) (1 + 0) 0)) None ≡ Some 0
        → cond (nat_lt (1 + (1 + cond (not b) (1 + 0) 0)) 3) (Some (1 + (1 + cond (not b) (1 + 0) 0))) None ≡ Some 2
    go true h = refl
    go false h = cc

pub err_then : {T E : Type 0} (r : Result T E) (P Q : E → Type 0) → IsErrAnd r P → ((e : E) → P e → Q e) → IfErr r Q
err_then (Ok x) P Q h then = tt
err_then (Err e) P Q h then = then e h

pub ok_then : {T E : Type 0} (r : Result T E) (P Q : T → Type 0) → IfOk r P → ((x : T) → P x → Q x) → IfOk r Q
ok_then (Ok x) P Q h then = then x h
ok_then (Err e) P Q h then = tt
