-- The search goes over the constraints in another order: each once, and no other.
use Rattle.std.proofs.Common.{◌≡◌, ℕ, zero, suc, ◌+◌, ◌<◌, List, [], ◌∷◌, Bool, true, false, ◌&&◌, cond, map, filter, count_by, sum_by, length, refl, sym, ap, ◌∙◌, add-one, arith}
use Rattle.std.specs.List.{AllByRecursion, range_with_len, flat_map}
use Rattle.std.proofs.lemmas.List.Sums.{sum_by-cons, sum_by-append, sum_by_push}
use Rattle.decl_base.specs.declared.threshold.Thresholds.{Thresholds}
use Rattle.interplay_kb.proofs.Ranges.{range_more}
use Rattle.template_core.proofs.Laws.{sum_by-same, sum_by-plus}
use Rattle.template_core.specs.Constraints.{IsTemplate}
use Rattle.template_core.specs.declared.constraint.Constraint.{Constraint}
use Rattle.template_core.specs.declared.kind.Kind.{Kind}
use Rattle.template_core.specs.Groups.{takes}
use Rattle.scoring.specs.Candidates.{constraint_of, constraints_from, constraints_of, constraints_over, IsConstraintOver, reaches_all}
use Rattle.scoring.specs.Scores.{scored}
use Rattle.scoring.specs.Search.{taken, constraints_at, constraints_of_two, constraints_with_smaller, constraints_by_pair, reaching_of}
use Rattle.scoring.specs.declared.scored.Scored.{Scored}
use Rattle.scoring.proofs.Listing.{all-append, all-flat_map, each_below}
use Rattle.scoring.proofs.Orders.{count-cons}

-- sums over the numbers below n
below : (ℕ → ℕ) → ℕ → ℕ
below f n = sum_by f (range_with_len 0 n)

below-more : (f : ℕ → ℕ) (n : ℕ) → below f (suc n) ≡ below f n + f n
unfolding below
below-more f n = ap (λ k. sum_by f (range_with_len 0 k)) (sym (add-one n)) ∙ ap (sum_by f) (range_more n) ∙ sum_by_push f (range_with_len 0 n) n

below-plus : (f g h : ℕ → ℕ) → ((k : ℕ) → f k + g k ≡ h k) → (n : ℕ) → below f n + below g n ≡ below h n
unfolding below
below-plus f g h each n = sum_by-plus f g h each (range_with_len 0 n)

-- over a square by its diagonal, and the two of each pair beside it
square : (at : ℕ → ℕ → ℕ) (n : ℕ) → below (λ r. at r r + below (λ s. at s r + at r s) r) n ≡ below (λ r. below (at r) n) n
unfolding below
square at zero = refl
square at (suc n) =
    omega (
      arith,
      square at n,
      below-more (λ r. at r r + below (λ s. at s r + at r s) r) n,
      below-more (λ r. below (at r) (suc n)) n,
      below-plus (λ r. below (at r) n) (λ r. at r n) (λ r. below (at r) (suc n)) (λ r. sym (below-more (at r) n)) n,
      below-more (at n) n,
      below-plus (λ s. at s n) (at n) (λ s. at s n + at n s) (λ s. refl) n,
    )

sum_by-zero : {X : Type 0} (xs : List X) → 0 ≡ sum_by (λ (x : X). 0) xs
sum_by-zero [] = refl
sum_by-zero {X} (x ∷ xs) = omega (arith, sum_by-cons (λ (x : X). 0) x xs, sum_by-zero xs)

-- sums over two lists, in either order
swap : {X Y : Type 0} (f : X → Y → ℕ) (xs : List X) (ys : List Y) → sum_by (λ x. sum_by (f x) ys) xs ≡ sum_by (λ y. sum_by (λ x. f x y) xs) ys
swap f [] ys = sum_by-zero ys
swap f (x ∷ xs) ys =
    sum_by-cons (λ x. sum_by (f x) ys) x xs
    ∙ ap (λ n. sum_by (f x) ys + n) (swap f xs ys)
    ∙ sum_by-plus (f x) (λ y. sum_by (λ x. f x y) xs) (λ y. sum_by (λ x. f x y) (x ∷ xs)) (λ y. sym (sum_by-cons (λ x. f x y) x xs)) ys

count-flat_map : {X Y : Type 0} (p : Y → Bool) (f : X → List Y) (xs : List X) → count_by p (flat_map f xs) ≡ sum_by (λ x. count_by p (f x)) xs
count-flat_map p f [] = refl
count-flat_map p f (x ∷ xs) =
    sum_by-append (λ y. cond (p y) 1 0) (f x) (flat_map f xs) ∙ ap (λ n. count_by p (f x) + n) (count-flat_map p f xs) ∙ sym (sum_by-cons (λ x. count_by p (f x)) x xs)

module _ (kinds : List Kind) (p : Constraint → Bool) where
  picked : (kind : Kind) (first : ℕ) (xs : List ℕ)
      → count_by p (map (constraint_of kind first) (filter (takes kind first) xs)) ≡ sum_by (λ second. count_by p (taken first second kind)) xs
  picked kind first [] = refl
  picked kind first (x ∷ xs) = go (takes kind first x) refl (picked kind first xs) ∙ sym (sum_by-cons (λ second. count_by p (taken first second kind)) x xs)
    where
      go : (v : Bool) → takes kind first x ≡ v
          → count_by p (map (constraint_of kind first) (filter (takes kind first) xs)) ≡ sum_by (λ second. count_by p (taken first second kind)) xs
          → count_by p (map (constraint_of kind first) (cond v (x ∷ filter (takes kind first) xs) (filter (takes kind first) xs)))
          ≡ count_by p (cond v (constraint_of kind first x ∷ []) []) + sum_by (λ second. count_by p (taken first second kind)) xs
      go true e rest =
          omega (
            arith,
            rest,
            count-cons p (constraint_of kind first x) (map (constraint_of kind first) (filter (takes kind first) xs)),
            count-cons p (constraint_of kind first x) [],
          )
      go false e rest = omega (arith, rest)

  -- those of two ranks in this order
  at : ℕ → ℕ → ℕ
  at first second = count_by p (constraints_at kinds first second)

  over-count : (n : ℕ) → count_by p (constraints_over kinds n) ≡ below (λ first. below (at first) n) n
  unfolding constraints_over constraints_of constraints_from constraints_at at below
  over-count n =
      let ranks : List ℕ = range_with_len 0 n in
      let one : Kind → ℕ → ℕ → ℕ = λ kind first second. count_by p (taken first second kind) in
      count-flat_map p (constraints_of n) kinds
      ∙ sum_by-same (λ kind. count_by p (constraints_of n kind)) (λ kind. sum_by (λ first. sum_by (one kind first) ranks) ranks)
      (λ kind. count-flat_map p (constraints_from n kind) ranks ∙ sum_by-same (λ first. count_by p (constraints_from n kind first)) (λ first. sum_by (one kind first) ranks) (λ first. picked kind first ranks) ranks)
      kinds
      ∙ swap (λ kind first. sum_by (one kind first) ranks) kinds ranks
      ∙ sum_by-same (λ first. sum_by (λ kind. sum_by (one kind first) ranks) kinds) (λ first. sum_by (at first) ranks)
      (λ first. swap (λ kind. one kind first) kinds ranks
      ∙ sum_by-same (λ second. sum_by (λ kind. one kind first second) kinds) (at first) (λ second. sym (count-flat_map p (taken first second) kinds)) ranks)
      ranks

  two-count : (low high : ℕ) → count_by p (constraints_of_two kinds low high) ≡ at low high + at high low
  unfolding constraints_of_two at
  two-count low high = sum_by-append (λ c. cond (p c) 1 0) (constraints_at kinds low high) (constraints_at kinds high low)

  by_pair-count : (n : ℕ) → count_by p (constraints_by_pair kinds n) ≡ below (λ r. at r r + below (λ s. at s r + at r s) r) n
  unfolding constraints_by_pair constraints_with_smaller at below
  by_pair-count n =
      count-flat_map p (constraints_with_smaller kinds) (range_with_len 0 n)
      ∙ sum_by-same (λ r. count_by p (constraints_with_smaller kinds r)) (λ r. at r r + sum_by (λ s. at s r + at r s) (range_with_len 0 r))
      (λ r. sum_by-append (λ c. cond (p c) 1 0) (constraints_at kinds r r) (flat_map (λ smaller. constraints_of_two kinds smaller r) (range_with_len 0 r))
      ∙ ap (λ k. at r r + k)
      (count-flat_map p (λ smaller. constraints_of_two kinds smaller r) (range_with_len 0 r)
      ∙ sum_by-same (λ s. count_by p (constraints_of_two kinds s r)) (λ s. at s r + at r s) (λ s. two-count s r) (range_with_len 0 r)))
      (range_with_len 0 n)

  same_constraints : (n : ℕ) → count_by p (constraints_by_pair kinds n) ≡ count_by p (constraints_over kinds n)
  same_constraints n = by_pair-count n ∙ square at n ∙ sym (over-count n)

module _ (kinds : List Kind) (log : List (List ℕ)) (thresholds : Thresholds) where
  count-reaching : (p : Scored → Bool) (cs : List Constraint)
      → count_by p (reaching_of log thresholds cs) ≡ count_by (λ c. reaches_all thresholds (scored log c) && p (scored log c)) cs
  unfolding reaching_of
  count-reaching p [] = refl
  count-reaching p (c ∷ cs) =
      go (reaches_all thresholds (scored log c)) (count-reaching p cs) ∙ sym (count-cons (λ c. reaches_all thresholds (scored log c) && p (scored log c)) c cs)
    where
      go : (v : Bool) → count_by p (reaching_of log thresholds cs) ≡ count_by (λ c. reaches_all thresholds (scored log c) && p (scored log c)) cs
          → count_by p (cond v (scored log c ∷ reaching_of log thresholds cs) (reaching_of log thresholds cs))
          ≡ cond (v && p (scored log c)) 1 0 + count_by (λ c. reaches_all thresholds (scored log c) && p (scored log c)) cs
      go true h = omega (arith, h, count-cons p (scored log c) (reaching_of log thresholds cs))
      go false h = omega (arith, h)

  -- the same of them reach the thresholds
  pub same_reaching : (n : ℕ) (p : Scored → Bool) → count_by p (reaching_of log thresholds (constraints_by_pair kinds n)) ≡ count_by p (reaching_of log thresholds (constraints_over kinds n))
  same_reaching n p =
      count-reaching p (constraints_by_pair kinds n) ∙ same_constraints kinds (λ c. reaches_all thresholds (scored log c) && p (scored log c)) n ∙ sym (count-reaching p (constraints_over kinds n))

pub length-count : {X : Type 0} (xs : List X) → length xs ≡ count_by (λ (x : X). true) xs
length-count [] = refl
length-count {X} (x ∷ xs) = omega (arith, length-count xs, count-cons (λ (x : X). true) x xs)

module _ (kinds : List Kind) (templates : AllByRecursion IsTemplate kinds) where
  at_all : (n first second : ℕ) → first < n → second < n → AllByRecursion (IsConstraintOver n) (constraints_at kinds first second)
  unfolding constraints_at
  at_all n first second h k =
      all-flat_map IsTemplate (IsConstraintOver n) (taken first second) (λ kind template. one kind template (takes kind first second) refl) kinds templates
    where
      one : (kind : Kind) → IsTemplate kind → (v : Bool) → takes kind first second ≡ v → AllByRecursion (IsConstraintOver n) (cond v (constraint_of kind first second ∷ []) [])
      one kind template true e = (record { template = template; first = h; second = k; takes = e }, tt)
      one kind template false e = tt

  two_all : (n low high : ℕ) → low < n → high < n → AllByRecursion (IsConstraintOver n) (constraints_of_two kinds low high)
  unfolding constraints_of_two
  two_all n low high h k = all-append (IsConstraintOver n) (constraints_at kinds low high) (constraints_at kinds high low) (at_all n low high h k) (at_all n high low k h)

  pub by_pair_all : (n : ℕ) → AllByRecursion (IsConstraintOver n) (constraints_by_pair kinds n)
  unfolding constraints_by_pair constraints_with_smaller
  by_pair_all n =
      all-flat_map (λ r. r < n) (IsConstraintOver n) (constraints_with_smaller kinds)
      (λ r h. all-append (IsConstraintOver n) (constraints_at kinds r r) (flat_map (λ smaller. constraints_of_two kinds smaller r) (range_with_len 0 r)) (at_all n r r h h)
      (all-flat_map (λ s. s < r) (IsConstraintOver n) (λ smaller. constraints_of_two kinds smaller r) (λ s k. two_all n s r (omega arith) h) (range_with_len 0 r) (each_below r)))
      (range_with_len 0 n) (each_below n)
