-- Counting the traces of a log that pass a test.
use Rattle.std.proofs.Common.{◌≡◌, ◌+◌, ◌-◌, ◌≤◌, List, [], ◌∷◌, Bool, true, false, ◌&&◌, ◌||◌, cond, length, count_by, refl, ap, ◌∙◌, arith}
use Rattle.std.proofs.lemmas.List.Sums.{sum_by-cons}
use Rattle.template_core.specs.Events.{one_if}

module _ {A : Type 0} where
  pub count_by-cons : (p : A → Bool) (x : A) (xs : List A) → count_by p (x ∷ xs) ≡ one_if (p x) + count_by p xs
  count_by-cons p x xs = sum_by-cons (λ x. cond (p x) 1 0) x xs ∙ ap (λ n. n + count_by p xs) (same (p x))
    where
      same : (v : Bool) → cond v 1 0 ≡ one_if v
      same true = refl
      same false = refl

  pub count_by-le : (p q : A → Bool) → ((t : A) → p t ≡ true → q t ≡ true) → (log : List A) → count_by p log ≤ count_by q log
  count_by-le p q each [] = omega arith
  count_by-le p q each (t ∷ log) =
      omega (arith, count_by-cons p t log, count_by-cons q t log, one (p t) (q t) (each t), count_by-le p q each log)
    where
      one : (x y : Bool) → (x ≡ true → y ≡ true) → one_if x ≤ one_if y
      one true y h = rw (h refl) (omega arith)
      one false y h = omega arith

  -- those that pass either and those that pass both
  pub count_by-either : (p q : A → Bool) (log : List A)
      → count_by (λ t. p t || q t) log + count_by (λ t. p t && q t) log ≡ count_by p log + count_by q log
  count_by-either p q [] = omega arith
  count_by-either p q (t ∷ log) =
      omega (
        arith,
        count_by-cons p t log,
        count_by-cons q t log,
        count_by-cons (λ t. p t || q t) t log,
        count_by-cons (λ t. p t && q t) t log,
        one (p t) (q t),
        count_by-either p q log,
      )
    where
      one : (x y : Bool) → one_if (x || y) + one_if (x && y) ≡ one_if x + one_if y
      one true true = omega arith
      one true false = omega arith
      one false y = omega arith

  -- those that pass and those that don't are all
  pub count_by-not : (p q : A → Bool) → ((t : A) → one_if (p t) + one_if (q t) ≡ 1) → (log : List A) → count_by p log ≡ length log - count_by q log
  count_by-not p q each log = omega (arith, go log)
    where
      go : (log : List A) → count_by p log + count_by q log ≡ length log
      go [] = refl
      go (t ∷ log) = omega (arith, count_by-cons p t log, count_by-cons q t log, each t, go log)
