-- Lists in order: a list has one, and a sort finds it.
use Rattle.std.proofs.Common.{◌≡◌, ℕ, suc, ◌+◌, ◌<◌, ◌≤◌, List, [], ◌∷◌, Bool, true, false, cond, length, get_or, count_by, fold, Less, Equal, Greater, Ordering, refl, sym, ap, ap₂, subst, ◌∙◌, arith, ◌++◌}
use Rattle.std.specs.Bool.{⊤}
use Rattle.std.specs.Cmp.{IsTotalOrder, upto, alike_right, tied_itself}
use Rattle.std.specs.List.{AllByRecursion}
use Rattle.std.specs.List.Sorted.{IsPermutation, IsSortedBy, IsStrictlySortedBy}
use Rattle.std.specs.Ordering.{is_lt, is_gt, is_eq, ordering_reverse, eq_by_cmp}
use Rattle.std.proofs.lemmas.List.{append-nil}
use Rattle.std.proofs.lemmas.List.Elements.{recursion_from_All, All-from_recursion}
use Rattle.std.proofs.lemmas.List.Sorted.{sorted_far, ranks_by, IsPermutation-refl, IsPermutation-trans, IsPermutation-cons, IsPermutation-append, IsPermutation-middle, All-permutation, sum_by-IsPermutation}
use Rattle.std.proofs.lemmas.List.Sums.{sum_by-cons}
use Rattle.scoring.specs.Priority.{insert_in_order, in_order}

-- how many elements pass
pub count-cons : {X : Type 0} (p : X → Bool) (x : X) (xs : List X) → count_by p (x ∷ xs) ≡ cond (p x) 1 0 + count_by p xs
count-cons p x xs = sum_by-cons (λ y. cond (p y) 1 0) x xs

rest_same : (v w : Bool) (m n : ℕ) → v ≡ w → cond v 1 0 + m ≡ cond w 1 0 + n → m ≡ n
rest_same true true m n e h = omega arith
rest_same true false m n e h = absurd (cc)
rest_same false true m n e h = absurd (cc)
rest_same false false m n e h = omega arith

module _ {X : Type 0} (R : X → X → Ordering) where
  -- no element comes before an earlier one
  abbrev pub Rises : List X → Type 0
  Rises [] = ⊤
  Rises (x ∷ xs) = AllByRecursion (λ y. is_gt (R x y) ≡ false) xs × Rises xs

  -- an insertion only adds, and the order only moves
  insert-moves : (x : X) (xs : List X) → IsPermutation (x ∷ xs) (insert_in_order R xs x)
  insert-moves x [] = IsPermutation-refl (x ∷ [])
  insert-moves x (y ∷ ys) = go (is_lt (R x y)) (insert-moves x ys)
    where
      go : (v : Bool) → IsPermutation (x ∷ ys) (insert_in_order R ys x) → IsPermutation (x ∷ y ∷ ys) (cond v (x ∷ y ∷ ys) (y ∷ insert_in_order R ys x))
      go true h = IsPermutation-refl (x ∷ y ∷ ys)
      go false h = IsPermutation-trans (x ∷ y ∷ ys) (y ∷ x ∷ ys) (y ∷ insert_in_order R ys x) (IsPermutation-middle (x ∷ []) y ys) (IsPermutation-cons y (x ∷ ys) (insert_in_order R ys x) h)

  fold-moves : (done xs : List X) → IsPermutation (done ++ xs) (fold (insert_in_order R) done xs)
  fold-moves done [] = subst (λ ys. IsPermutation ys done) (sym (append-nil done)) (IsPermutation-refl done)
  fold-moves done (x ∷ xs) =
      IsPermutation-trans (done ++ x ∷ xs) (x ∷ (done ++ xs)) (fold (insert_in_order R) done (x ∷ xs)) (IsPermutation-middle done x xs)
      (IsPermutation-trans (x ∷ (done ++ xs)) (insert_in_order R done x ++ xs) (fold (insert_in_order R) (insert_in_order R done x) xs)
      (IsPermutation-append (x ∷ done) (insert_in_order R done x) xs xs (insert-moves x done) (IsPermutation-refl xs)) (fold-moves (insert_in_order R done x) xs))

  pub in_order-moves : (xs : List X) → IsPermutation xs (in_order R xs)
  in_order-moves xs = fold-moves [] xs

  pub in_order-count : (p : X → Bool) (xs : List X) → count_by p (in_order R xs) ≡ count_by p xs
  in_order-count p xs = sum_by-IsPermutation (λ y. cond (p y) 1 0) xs (in_order R xs) (in_order-moves xs)

  moved-all : (P : X → Type 0) (xs ys : List X) → IsPermutation xs ys → AllByRecursion P xs → AllByRecursion P ys
  moved-all P xs ys moved all = recursion_from_All P ys (All-permutation P xs ys moved (All-from_recursion P xs all))

  pub insert-all : (P : X → Type 0) (x : X) (xs : List X) → P x → AllByRecursion P xs → AllByRecursion P (insert_in_order R xs x)
  insert-all P x xs h all = moved-all P (x ∷ xs) (insert_in_order R xs x) (insert-moves x xs) (h, all)

  pub in_order-all : (P : X → Type 0) (xs : List X) → AllByRecursion P xs → AllByRecursion P (in_order R xs)
  in_order-all P xs all = moved-all P xs (in_order R xs) (in_order-moves xs) all

  module _ (o : IsTotalOrder R) where
    not_after : (x y : X) → R x y ≡ Less → is_gt (R x y) ≡ false
    not_after x y e = rw e refl

    back : (x y : X) → is_lt (R x y) ≡ false → is_gt (R y x) ≡ false
    back x y h = rw (o.antisymm y x) (go (R x y) h)
      where
        go : (r : Ordering) → is_lt r ≡ false → is_gt (ordering_reverse r) ≡ false
        go Less e = absurd (cc)
        go Equal e = refl
        go Greater e = refl

    less_along : (x y z : X) → R x y ≡ Less → is_gt (R y z) ≡ false → R x z ≡ Less
    less_along x y z e h = go (R y z) refl h
      where
        go : (r : Ordering) → R y z ≡ r → is_gt r ≡ false → R x z ≡ Less
        go Less d k = o.trans x y z e d
        go Equal d k = sym (alike_right o y z x d) ∙ e
        go Greater d k = absurd (cc)

    after_all : (x y : X) (ys : List X) → is_gt (R x y) ≡ false → AllByRecursion (λ z. is_gt (R y z) ≡ false) ys → AllByRecursion (λ z. is_gt (R x z) ≡ false) ys
    after_all x y [] h all = tt
    after_all x y (z ∷ zs) h all = (upto o x y z h all.0, after_all x y zs h all.1)

    insert-rises : (x : X) (xs : List X) → Rises xs → Rises (insert_in_order R xs x)
    insert-rises x [] h = (tt, tt)
    insert-rises x (y ∷ ys) h = go (is_lt (R x y)) refl (insert-rises x ys h.1)
      where
        less : (r : Ordering) → is_lt r ≡ true → is_gt r ≡ false
        less Less e = refl
        less Equal e = refl
        less Greater e = absurd (cc)

        go : (v : Bool) → is_lt (R x y) ≡ v → Rises (insert_in_order R ys x) → Rises (cond v (x ∷ y ∷ ys) (y ∷ insert_in_order R ys x))
        go true e rest = let first = less (R x y) e in ((first, after_all x y ys first h.0), h)
        go false e rest = (insert-all (λ z. is_gt (R y z) ≡ false) x ys (back x y e) h.0, rest)

    fold-rises : (done xs : List X) → Rises done → Rises (fold (insert_in_order R) done xs)
    fold-rises done [] h = h
    fold-rises done (x ∷ xs) h = fold-rises (insert_in_order R done x) xs (insert-rises x done h)

    pub in_order-rises : (xs : List X) → Rises (in_order R xs)
    in_order-rises xs = fold-rises [] xs tt

    -- how many elements tie with x
    abbrev pub tied : X → List X → ℕ
    tied x xs = count_by (eq_by_cmp R x) xs

    tied-head : (x : X) (xs : List X) → tied x (x ∷ xs) ≡ suc (tied x xs)
    tied-head x xs = count-cons (eq_by_cmp R x) x xs ∙ rw (tied_itself o x) (omega arith)

    none_tied : (x : X) (xs : List X) → AllByRecursion (λ y. R x y ≡ Less) xs → tied x xs ≡ 0
    none_tied x [] all = refl
    none_tied x (y ∷ ys) all = count-cons (eq_by_cmp R x) y ys ∙ rw (all.0, none_tied x ys all.1) refl

    before_all : (x y : X) (ys : List X) → R x y ≡ Less → AllByRecursion (λ z. is_gt (R y z) ≡ false) ys → AllByRecursion (λ z. R x z ≡ Less) ys
    before_all x y [] e all = tt
    before_all x y (z ∷ zs) e all = (less_along x y z e all.0, before_all x y zs e all.1)

    -- the first of one list is not before the first of another with the same elements
    not_first : (x y : X) (xs ys : List X) → Rises (y ∷ ys) → tied x (x ∷ xs) ≡ tied x (y ∷ ys) → R x y ≡ Less → ⊥
    not_first x y xs ys rises same e =
        let none : tied x (y ∷ ys) ≡ 0 = none_tied x (y ∷ ys) (e, before_all x y ys e rises.0) in
        let some : tied x (x ∷ xs) ≡ suc (tied x xs) = tied-head x xs in
        omega arith

    module _ (P : X → Type 0) (ties : (x y : X) → P x → P y → R x y ≡ Equal → x ≡ y) where
      -- two lists in order that have the same elements are the same list
      pub same_in_order : (xs ys : List X) → AllByRecursion P xs → AllByRecursion P ys → Rises xs → Rises ys
          → ((z : X) → tied z xs ≡ tied z ys) → xs ≡ ys
      same_in_order [] [] all others rises rises' same = refl
      same_in_order [] (y ∷ ys) all others rises rises' same = absurd (let h : 0 ≡ tied y (y ∷ ys) = same y in let some = tied-head y ys in omega arith)
      same_in_order (x ∷ xs) [] all others rises rises' same = absurd (let h : tied x (x ∷ xs) ≡ 0 = same x in let some = tied-head x xs in omega arith)
      same_in_order (x ∷ xs) (y ∷ ys) all others rises rises' same =
          go (R x y) refl (λ rest. same_in_order xs ys all.1 others.1 rises.1 rises'.1 rest)
        where
          go : (r : Ordering) → R x y ≡ r → (((z : X) → tied z xs ≡ tied z ys) → xs ≡ ys) → x ∷ xs ≡ y ∷ ys
          go Less e more = absurd (not_first x y xs ys rises' (same x) e)
          go Greater e more =
              absurd (not_first y x ys xs rises (sym (same y)) (o.antisymm y x ∙ ap ordering_reverse e))
          go Equal e more =
              let one : x ≡ y = ties x y all.0 others.0 e in
              let rest : xs ≡ ys = more (λ z.
              rest_same (eq_by_cmp R z x) (eq_by_cmp R z y) (tied z xs) (tied z ys) (ap (λ u. eq_by_cmp R z u) one)
              (sym (count-cons (eq_by_cmp R z) x xs) ∙ same z ∙ count-cons (eq_by_cmp R z) y ys)) in
              ap₂ ◌∷◌ one rest

    -- what a sort ensures
    pub rises_from_sorted : (xs : List X) → IsSortedBy (λ x y. is_lt (R x y)) xs → Rises xs
    rises_from_sorted xs sorted = go xs (λ i j d le h. sorted_far (λ x y. is_lt (R x y)) (ranks_by o (λ x. x)) xs sorted i j d le h)
      where
        go : (xs : List X) → ((i j : ℕ) (d : X) → i ≤ j → j < length xs → is_lt (R (get_or xs j d) (get_or xs i d)) ≡ false) → Rises xs
        go [] far = tt
        go (x ∷ xs) far = (
          recursion_from_All (λ y. is_gt (R x y) ≡ false) xs (λ k d h. back (get_or xs k d) x (far 0 (suc k) d (omega arith) (omega arith))),
          go xs (λ i j d le h. far (suc i) (suc j) d (omega arith) (omega arith)),
        )

    -- in order, and no two that tie
    pub strictly_from_rises : (xs : List X) → Rises xs → ((z : X) → tied z xs ≤ 1) → IsStrictlySortedBy R xs
    unfolding IsStrictlySortedBy
    strictly_from_rises [] rises once = tt
    strictly_from_rises (x ∷ xs) rises once = (
      alone xs rises.0 (let h = once x in let some = tied-head x xs in omega arith),
      strictly_from_rises xs rises.1 (λ z. let h = once z in let some = count-cons (eq_by_cmp R z) x xs in omega arith),
    )
      where
        less : (r : Ordering) (n : ℕ) → is_gt r ≡ false → cond (is_eq r) 1 0 + n ≡ 0 → r ≡ Less
        less Less n h e = refl
        less Equal n h e = absurd (omega arith)
        less Greater n h e = absurd (cc)

        alone : (ys : List X) → AllByRecursion (λ y. is_gt (R x y) ≡ false) ys → tied x ys ≡ 0 → AllByRecursion (λ y. R x y ≡ Less) ys
        alone [] all none = tt
        alone (y ∷ ys) all none =
            let split = count-cons (eq_by_cmp R x) y ys in
            (less (R x y) (tied x ys) all.0 (omega arith), alone ys all.1 (omega arith))
