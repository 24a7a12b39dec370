-- Two logs that hold the same traces equally often have the same sums over their traces, and the same names.
use Rattle.std.proofs.Common.{◌≡◌, ℕ, ◌+◌, ◌<◌, List, [], ◌∷◌, Bool, true, false, ◌||◌, cond, map, length, count_by, sum_by, nat_lt, refl, sym, ap, ◌∙◌, arith}
use Rattle.std.proofs.lemmas.Bool.Decides.{nat_tests}
use Rattle.std.proofs.lemmas.List.Concat.{length-flat_map}
use Rattle.std.proofs.lemmas.List.Folds.{list_any-append}
use Rattle.std.proofs.lemmas.List.Sums.{sum_by-cons}
use Rattle.std.specs.Cmp.Lexicographic.{pointwise, pointwise_decides, bytes_decides}
use Rattle.std.specs.List.{list_any}
use Rattle.std.specs.Str.{bytes_eq}
use Rattle.event_log.specs.Logs.{by_ranks, events_of, place_of, sorted_names}
use Rattle.event_log.proofs.Alphabets.{ascending-same, sorted_names-ascends, sorted_names-has}
use Rattle.scoring.proofs.Orders.{count-cons}
use Rattle.minerful_core.specs.SameTraces.{HoldTheSame, times}

abbrev one_if : Bool → ℕ
one_if b = cond b 1 0

abbrev is_trace : List (List ℕ) → List (List ℕ) → Bool
is_trace t u = pointwise bytes_eq t u

-- all but the first of the traces that are this one
abbrev but_one : List (List ℕ) → List (List (List ℕ)) → List (List (List ℕ))
but_one t [] = []
but_one t (x ∷ xs) = cond (is_trace t x) xs (x ∷ but_one t xs)

sum-but_one : (f : List (List ℕ) → ℕ) (t : List (List ℕ)) (xs : List (List (List ℕ))) → 0 < times t xs → sum_by f xs ≡ f t + sum_by f (but_one t xs)
sum-but_one f t [] h = absurd (omega arith)
sum-but_one f t (x ∷ xs) h = go (is_trace t x) refl (sum-but_one f t xs)
  where
    go : (b : Bool) → is_trace t x ≡ b → (0 < times t xs → sum_by f xs ≡ f t + sum_by f (but_one t xs)) → sum_by f (x ∷ xs) ≡ f t + sum_by f (cond b xs (x ∷ but_one t xs))
    go true e rest = sum_by-cons f x xs ∙ ap (λ y. f y + sum_by f xs) (sym ((pointwise_decides bytes_decides t x).0 e))
    go false e rest =
        let none : one_if (is_trace t x) ≡ one_if false = ap one_if e in
        let some : 0 < times t xs = omega (arith, h, none, count-cons (is_trace t) x xs) in
        omega (arith, rest some, sum_by-cons f x xs, sum_by-cons f x (but_one t xs))

itself : (t : List (List ℕ)) (log : List (List (List ℕ))) → 0 < times t (t ∷ log)
itself t log =
    let one : one_if (is_trace t t) ≡ one_if true = ap one_if ((pointwise_decides bytes_decides t t).1 refl) in
    omega (arith, one, count-cons (is_trace t) t log)

pub same_sums : (log other : List (List (List ℕ))) → HoldTheSame log other → (f : List (List ℕ) → ℕ) → sum_by f log ≡ sum_by f other
same_sums [] [] h f = refl
same_sums [] (t ∷ other) h f = absurd (omega (arith, h t, itself t other))
same_sums (t ∷ log) other h f =
    let some : 0 < times t other = omega (arith, h t, itself t log) in
    let rest : HoldTheSame log (but_one t other) = λ u. omega (arith, h u, count-cons (is_trace u) t log, sum-but_one (λ x. cond (is_trace u x) 1 0) t other some) in
    sum_by-cons f t log ∙ ap (λ n. f t + n) (same_sums log (but_one t other) rest f) ∙ sym (sum-but_one f t other some)

-- some event passes where the number of traces with one is above 0
any-count : (p : List ℕ → Bool) (log : List (List (List ℕ))) → list_any p (events_of log) ≡ nat_lt 0 (count_by (list_any p) log)
any-count p [] = refl
any-count p (trace ∷ log) =
    list_any-append p trace (events_of log) ∙ go (list_any p trace) (any-count p log) ∙ ap (nat_lt 0) (sym (count-cons (list_any p) trace log))
  where
    go : (b : Bool) → list_any p (events_of log) ≡ nat_lt 0 (count_by (list_any p) log) → (b || list_any p (events_of log)) ≡ nat_lt 0 (cond b 1 0 + count_by (list_any p) log)
    go true rest = grind (arith, nat_tests)
    go false rest = rest ∙ ap (nat_lt 0) (omega arith)

sum_by-map : {X Y : Type 0} (f : Y → ℕ) (g : X → Y) (xs : List X) → sum_by f (map g xs) ≡ sum_by (λ x. f (g x)) xs
sum_by-map f g [] = refl
sum_by-map f g (x ∷ xs) = sum_by-cons f (g x) (map g xs) ∙ ap (λ n. f (g x) + n) (sum_by-map f g xs) ∙ sym (sum_by-cons (λ y. f (g y)) x xs)

-- the logs of ranks have the same sums
abbrev pub SumAlike : List (List ℕ) → List (List ℕ) → Type 0
SumAlike xs ys = (f : List ℕ → ℕ) → sum_by f xs ≡ sum_by f ys

module _ (log other : List (List (List ℕ))) (h : HoldTheSame log other) where
  pub same_names : sorted_names log ≡ sorted_names other
  same_names =
      ascending-same (sorted_names log) (sorted_names other) (sorted_names-ascends log) (sorted_names-ascends other)
      (λ name. sorted_names-has log name
      ∙ any-count (bytes_eq name) log
      ∙ ap (nat_lt 0) (same_sums log other h (λ t. cond (list_any (bytes_eq name) t) 1 0))
      ∙ sym (any-count (bytes_eq name) other)
      ∙ sym (sorted_names-has other name))

  pub same_events : length (events_of log) ≡ length (events_of other)
  same_events =
      length-flat_map (λ (t : List (List ℕ)). t) log ∙ same_sums log other h (λ t. length t) ∙ sym (length-flat_map (λ (t : List (List ℕ)). t) other)

  pub ranks_alike : SumAlike (by_ranks log) (by_ranks other)
  ranks_alike f =
      sum_by-map f (map (place_of (sorted_names log))) log
      ∙ same_sums log other h (λ t. f (map (place_of (sorted_names log)) t))
      ∙ ap (λ names. sum_by (λ t. f (map (place_of names) t)) other) same_names
      ∙ sym (sum_by-map f (map (place_of (sorted_names other))) other)
