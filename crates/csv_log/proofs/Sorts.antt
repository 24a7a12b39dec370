-- A stable sort gives the one list that is sorted and keeps ties in their order.
use Rattle.std.proofs.Common.{◌≡◌, ℕ, zero, suc, ◌<◌, ◌≤◌, Bool, true, false, cond, not, List, [], ◌∷◌, length, map, get_or, filter, refl, sym, ap, ◌∙◌, inl, inr, suc-le-suc, zero-le, ◌+◌, arith}
use Rattle.std.proofs.lemmas.Bool.{cond-true, cond-false, cases_Bool, and_parts, not-true}
use Rattle.std.proofs.lemmas.List.Sorted.{sorted_far}
use Rattle.std.specs.Cmp.{IsStrictWeakOrder}
use Rattle.std.specs.List.Sorted.{ties, IsSortedBy, IsStableBy}
use Rattle.csv_log.specs.Sorting.{insert_sorted, stably_sorted}

module _ {X : Type 0} (p : X → Bool) where
  pub filter-kept : (y : X) (ys : List X) → p y ≡ true → filter p (y ∷ ys) ≡ y ∷ filter p ys
  filter-kept y ys h = cond-true _ _ _ h

  pub filter-dropped : (y : X) (ys : List X) → p y ≡ false → filter p (y ∷ ys) ≡ filter p ys
  filter-dropped y ys h = cond-false _ _ _ h

module _ {X : Type 0} (less : X → X → Bool) where
  pub insert-past : (x y : X) (ys : List X) → less y x ≡ true → insert_sorted less x (y ∷ ys) ≡ y ∷ insert_sorted less x ys
  insert-past x y ys h = cond-true _ _ _ h

  pub insert-stays : (x y : X) (ys : List X) → less y x ≡ false → insert_sorted less x (y ∷ ys) ≡ x ∷ y ∷ ys
  insert-stays x y ys h = cond-false _ _ _ h

  -- not less than an element
  abbrev pub AreAtLeast : X → List X → Type 0
  AreAtLeast x [] = Unit {0}
  AreAtLeast x (y ∷ ys) = (less y x ≡ false) × AreAtLeast x ys

  abbrev pub Rises : List X → Type 0
  Rises [] = Unit {0}
  Rises (y ∷ ys) = AreAtLeast y ys × Rises ys

  AreAtLeast-at : (x : X) (ys : List X) → ((j : ℕ) → j < length ys → less (get_or ys j x) x ≡ false) → AreAtLeast x ys
  AreAtLeast-at x [] h = tt
  AreAtLeast-at x (y ∷ ys) h = (h zero (suc-le-suc zero-le), AreAtLeast-at x ys (λ j lt. h (suc j) (suc-le-suc lt)))

  far : (ys : List X) → ((i j : ℕ) (d : X) → i ≤ j → j < length ys → less (get_or ys j d) (get_or ys i d) ≡ false) → Rises ys
  far [] h = tt
  far (y ∷ ys) h = (
    AreAtLeast-at y ys (λ j lt. h zero (suc j) y zero-le (suc-le-suc lt)),
    far ys (λ i j d le lt. h (suc i) (suc j) d (suc-le-suc le) (suc-le-suc lt)),
  )

  module _ (o : IsStrictWeakOrder less) where
    pub Rises-from_sort : (ys : List X) → IsSortedBy less ys → Rises ys
    Rises-from_sort ys h = far ys (sorted_far less o ys h)

    pub irreflexive : (x : X) → less x x ≡ false
    irreflexive x = elim (cases_Bool (less x x)) [ inl less_itself ↦ o.one_way x x less_itself | inr not_less ↦ not_less ]

    pub ties_itself : (x : X) → ties less x x ≡ true
    ties_itself x = let e = irreflexive x in rw e refl

    tied : (x y : X) → ties less x y ≡ true → (less x y ≡ false) × (less y x ≡ false)
    tied x y h = let parts = and_parts (not (less x y)) (not (less y x)) h in (not-true _ parts.0, not-true _ parts.1)

    ties_from : (x y : X) → less x y ≡ false → less y x ≡ false → ties less x y ≡ true
    ties_from x y h k = rw (h, k) refl

    filter-insert : (x c : X) (ds : List X) → filter (ties less x) (insert_sorted less c ds) ≡ filter (ties less x) (c ∷ ds)
    filter-insert x c [] = refl
    filter-insert x c (d ∷ ds) =
        let p = ties less x in
        elim (cases_Bool (less d c)) [
          | inr stays ↦ ap (filter p) (insert-stays c d ds stays)
          | inl past ↦
              ap (filter p) (insert-past c d ds past)
              ∙ elim (cases_Bool (p d)) [
                | inr without ↦
                    filter-dropped p d (insert_sorted less c ds) without ∙ filter-insert x c ds
                    ∙ ap (λ l. cond (p c) (c ∷ l) l) (sym (filter-dropped p d ds without))
                | inl with ↦
                    elim (cases_Bool (p c)) [
                      | inl both ↦
                          let wrong = o.chain d x c (tied x d with).1 (tied x c both).0 in cc
                      | inr only ↦
                          filter-kept p d (insert_sorted less c ds) with ∙ ap (λ l. d ∷ l) (filter-insert x c ds ∙ filter-dropped p c ds only)
                          ∙ sym (filter-dropped p c (d ∷ ds) only ∙ filter-kept p d ds with)
                    ]
              ]
        ]

    -- those that tie keep their order
    pub filter-stably_sorted : (x : X) (cs : List X) → filter (ties less x) (stably_sorted less cs) ≡ filter (ties less x) cs
    filter-stably_sorted x [] = refl
    filter-stably_sorted x (c ∷ cs) =
        filter-insert x c (stably_sorted less cs) ∙ ap (λ l. cond (ties less x c) (c ∷ l) l) (filter-stably_sorted x cs)

    AreAtLeast-le : (x y : X) (ys : List X) → less y x ≡ false → AreAtLeast y ys → AreAtLeast x ys
    AreAtLeast-le x y [] le h = tt
    AreAtLeast-le x y (z ∷ zs) le h = (o.chain z y x h.0 le, AreAtLeast-le x y zs le h.1)

    AreAtLeast-insert : (x c : X) (ds : List X) → less c x ≡ false → AreAtLeast x ds → AreAtLeast x (insert_sorted less c ds)
    AreAtLeast-insert x c [] le h = (le, tt)
    AreAtLeast-insert x c (d ∷ ds) le h = go (less d c) (AreAtLeast-insert x c ds le h.1)
      where
        go : (b : Bool) → AreAtLeast x (insert_sorted less c ds) → AreAtLeast x (cond b (d ∷ insert_sorted less c ds) (c ∷ d ∷ ds))
        go true more = (h.0, more)
        go false more = (le, h)

    Rises-insert : (c : X) (ds : List X) → Rises ds → Rises (insert_sorted less c ds)
    Rises-insert c [] h = (tt, tt)
    Rises-insert c (d ∷ ds) h = go (less d c) refl (Rises-insert c ds h.1)
      where
        go : (b : Bool) → less d c ≡ b → Rises (insert_sorted less c ds) → Rises (cond b (d ∷ insert_sorted less c ds) (c ∷ d ∷ ds))
        go true past more = (AreAtLeast-insert d c ds (o.one_way d c past) h.0, more)
        go false stays more = ((stays, AreAtLeast-le c d ds stays h.0), h)

    pub Rises-stably_sorted : (cs : List X) → Rises (stably_sorted less cs)
    Rises-stably_sorted [] = tt
    Rises-stably_sorted (c ∷ cs) = Rises-insert c (stably_sorted less cs) (Rises-stably_sorted cs)

    -- one that ties with x occurs among them
    found : (n x : X) (ys : List X) (w : X) (ws : List X) → AreAtLeast n ys → filter (ties less x) ys ≡ w ∷ ws → less x n ≡ false
    found n x [] w ws h e = cc
    found n x (y ∷ ys) w ws h e =
        elim (cases_Bool (ties less x y)) [
          | inl with ↦ o.chain x y n (tied x y with).0 h.0
          | inr without ↦ found n x ys w ws h.1 (sym (filter-dropped (ties less x) y ys without) ∙ e)
        ]

    pub same_from_ties : (ys zs : List X) → Rises ys → Rises zs → ((x : X) → filter (ties less x) ys ≡ filter (ties less x) zs) → ys ≡ zs
    same_from_ties [] [] left right same = refl
    same_from_ties [] (z ∷ zs) left right same =
        let clash = same z ∙ filter-kept (ties less z) z zs (ties_itself z) in cc
    same_from_ties (y ∷ ys) [] left right same =
        let clash = sym (same y) ∙ filter-kept (ties less y) y ys (ties_itself y) in cc
    same_from_ties (y ∷ ys) (z ∷ zs) left right same =
        let at_y = filter-kept (ties less y) y ys (ties_itself y) in
        let at_z = filter-kept (ties less z) z zs (ties_itself z) in
        let up = found z y (z ∷ zs) y _ (irreflexive z, right.0) (sym (same y) ∙ at_y) in
        let down = found y z (y ∷ ys) z _ (irreflexive y, left.0) (same z ∙ at_z) in
        let heads = sym at_y ∙ same y ∙ filter-kept (ties less y) z zs (ties_from y z up down) in
        let head : y ≡ z = cc in
        let tails : (x : X) → filter (ties less x) ys ≡ filter (ties less x) zs =
        λ x. elim (cases_Bool (ties less x y)) [
          | inl with ↦
              let both = sym (filter-kept (ties less x) y ys with) ∙ same x ∙ filter-kept (ties less x) z zs (ap (ties less x) (sym head) ∙ with) in cc
          | inr without ↦
              sym (filter-dropped (ties less x) y ys without) ∙ same x ∙ filter-dropped (ties less x) z zs (ap (ties less x) (sym head) ∙ without)
        ] in
        ap (λ w. w ∷ ys) head ∙ ap (λ l. z ∷ l) (same_from_ties ys zs left.1 right.1 tails)

    -- what a stable sort leaves
    pub stably_sorted-is : (xs ys : List X) → IsSortedBy less ys → IsStableBy less xs ys → ys ≡ stably_sorted less xs
    stably_sorted-is xs ys sorted stable =
        same_from_ties ys (stably_sorted less xs) (Rises-from_sort ys sorted) (Rises-stably_sorted xs)
        (λ x. stable x ∙ sym (filter-stably_sorted x xs))

-- a sort by what f gives
module _ {X Y : Type 0} (f : X → Y) (less : X → X → Bool) (under : Y → Y → Bool) (same : (x y : X) → less x y ≡ under (f x) (f y)) where
  map-insert : (x : X) (ys : List X) → map f (insert_sorted less x ys) ≡ insert_sorted under (f x) (map f ys)
  map-insert x [] = refl
  map-insert x (y ∷ ys) =
      go (less y x) (map-insert x ys) ∙ ap (λ b. cond b (f y ∷ insert_sorted under (f x) (map f ys)) (f x ∷ f y ∷ map f ys)) (same y x)
    where
      go : (b : Bool) → map f (insert_sorted less x ys) ≡ insert_sorted under (f x) (map f ys)
          → map f (cond b (y ∷ insert_sorted less x ys) (x ∷ y ∷ ys)) ≡ cond b (f y ∷ insert_sorted under (f x) (map f ys)) (f x ∷ f y ∷ map f ys)
      go true h = ap (λ l. f y ∷ l) h
      go false h = refl

  pub map-stably_sorted : (xs : List X) → map f (stably_sorted less xs) ≡ stably_sorted under (map f xs)
  map-stably_sorted [] = refl
  map-stably_sorted (x ∷ xs) = map-insert x (stably_sorted less xs) ∙ ap (insert_sorted under (f x)) (map-stably_sorted xs)

-- each next one is not less
pub sorted-from_rises : {X : Type 0} (less : X → X → Bool) (xs : List X) → Rises less xs → (k : ℕ) (d : X) → k + 1 < length xs → less (get_or xs (k + 1) d) (get_or xs k d) ≡ false
sorted-from_rises less [] h k d inside = absurd (omega arith)
sorted-from_rises less (x ∷ []) h k d inside = absurd (omega arith)
sorted-from_rises less (x ∷ y ∷ xs) h zero d inside = h.0.0
sorted-from_rises less (x ∷ y ∷ xs) h (suc k) d inside =
    let one : suc k + 1 ≡ suc (k + 1) = omega arith in
    rw one (sorted-from_rises less (y ∷ xs) h.1 k d (omega arith))
