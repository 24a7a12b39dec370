-- What an event asks for, read off the places next to it in the two lists.
use Rattle.std.proofs.Common.{◌≡◌, ◌≢◌, ◌↔◌, ℕ, zero, suc, ◌+◌, ◌-◌, ◌<◌, ◌≤◌, List, Bool, true, false, not, ltb, eqb, Some, slice_get, get_or, length, refl, sym, ap, ◌∙◌, subst, arith, ⊎_elim}
use Rattle.std.proofs.lemmas.Bool.{eqb-true, eq-eqb, ltb-true, lt-ltb, cases_lt, true≢false, ne_eqb}
use Rattle.template_core.proofs.Zipper.{not-iff}
use Rattle.template_core.specs.Places.{EventIs, PreviousIs, SomeIs, LaterIs, EarlierIs, AlternatesLater as AlternatesLaterAt, AlternatesEarlier as AlternatesEarlierAt}
use Rattle.trace_check.specs.Demands.{Demanded, IsTest}
use Rattle.trace_check.specs.declared.demand.Demand.{Demand}
use Rattle.trace_check.specs.declared.demand.Demand.TheVariants.{Present, Later, Earlier, Next, Previous, AlternatesLater, AlternatesEarlier, Absent, NoneLater, NoneEarlier, NotNext, NotPrevious}
use Rattle.trace_check.proofs.Standing.{Stand, stand}

pub lt-iff : (x y : ℕ) → ltb x y ≡ true ↔ (x < y)
lt-iff x y = (ltb-true x y, lt-ltb x y)

pub eq-iff : (x y : ℕ) → eqb x y ≡ true ↔ (x ≡ y)
eq-iff x y = (eqb-true x y, eq-eqb x y)

pub through : {P Q : Type 0} {x : Bool} → x ≡ true ↔ P → P ↔ Q → x ≡ true ↔ Q
through h g = (λ e. g.0 (h.0 e), λ q. h.1 (g.1 q))

pub same_test : (x y : Bool) (P : Type 0) → x ≡ true ↔ P → y ≡ true ↔ P → x ≡ y
same_test true true P h g = refl
same_test true false P h g = sym (g.1 (h.0 refl))
same_test false true P h g = h.1 (g.0 refl)
same_test false false P h g = refl

pub twice : (x : Bool) → not (not x) ≡ x
twice true = refl
twice false = refl

-- the list has a first place
pub some-iff : (places : List ℕ) → not (eqb (length places) 0) ≡ true ↔ (0 < length places)
some-iff places = (λ e. go (length places) e, λ h. into (length places) h)
  where
    go : (n : ℕ) → not (eqb n 0) ≡ true → 0 < n
    go zero e = absurd (true≢false (sym e))
    go (suc n) e = omega arith

    into : (n : ℕ) → 0 < n → not (eqb n 0) ≡ true
    into zero h = absurd (omega arith)
    into (suc n) h = rw (ne_eqb (suc n) 0 (λ e. absurd (omega arith))) refl

some_same : (x y : ℕ) → Some x ≡ Some y → x ≡ y
some_same x y e = cc

module _ (own other : List ℕ) (a b n : ℕ) (t : List ℕ) (mine : Stand a n t own) (theirs : Stand b n t other) (differ : a ≢ b)
    (i passed : ℕ) (there : i < length own) (most : passed ≤ length other)
    (before : 0 < passed → get_or other (passed - 1) 0 < get_or own i 0) (behind : passed < length other → get_or own i 0 < get_or other passed 0) where
  abbrev place : ℕ
  place = get_or own i 0 - n

  from_start : n ≤ get_or own i 0
  from_start = mine.above i 0 there

  not_after : (j k : ℕ) → j ≤ k → k < length other → get_or other j 0 ≤ get_or other k 0
  not_after j k le inside = ⊎_elim (λ lt. omega (arith, theirs.ascends j k 0 lt inside)) (λ ge. omega (arith, ap (λ m. get_or other m 0) {x = j} {y = k} (omega arith))) (cases_lt j k)

  own_not_after : (j k : ℕ) → j ≤ k → k < length own → get_or own j 0 ≤ get_or own k 0
  own_not_after j k le inside = ⊎_elim (λ lt. omega (arith, mine.ascends j k 0 lt inside)) (λ ge. omega (arith, ap (λ m. get_or own m 0) {x = j} {y = k} (omega arith))) (cases_lt j k)

  -- a place of the other list that isn't before the event's own is past those before it, and the other way round
  past : (k : ℕ) → k < length other → get_or own i 0 < get_or other k 0 → passed ≤ k
  past k inside lt = ⊎_elim (λ early. absurd (omega (arith, before (omega arith), not_after k (passed - 1) (omega arith) (omega arith)))) (λ ge. ge) (cases_lt k passed)

  early : (k : ℕ) → k < length other → get_or other k 0 < get_or own i 0 → k < passed
  early k inside lt = ⊎_elim (λ h. h) (λ ge. absurd (omega (arith, behind (omega arith), not_after passed k ge inside))) (cases_lt k passed)

  pub present-iff : (0 < length other) ↔ SomeIs b t
  present-iff = (λ some. (get_or other 0 0 - n, theirs.inside 0 some), λ r. let w = theirs.all r.0 r.1 in omega (arith, w.1))

  pub later-iff : (passed < length other) ↔ LaterIs b t place
  later-iff = (
    λ h. (get_or other passed 0 - n, omega (arith, behind h, from_start), theirs.inside passed h),
    λ r. let w = theirs.all r.0 r.2 in omega (arith, w.1, past w.0 w.1 (omega (arith, w.2, r.1, from_start))),
  )

  pub earlier-iff : (0 < passed) ↔ EarlierIs b t place
  earlier-iff = (
    λ h. (get_or other (passed - 1) 0 - n, omega (arith, before h, theirs.above (passed - 1) 0 (omega arith)), theirs.inside (passed - 1) (omega arith)),
    λ r. let w = theirs.all r.0 r.2 in omega (arith, early w.0 w.1 (omega (arith, w.2, r.1, from_start))),
  )

  pub next-iff : ((passed < length other) × (get_or other passed 0 ≡ get_or own i 0 + 1)) ↔ EventIs b t (place + 1)
  next-iff = (
    λ r. ap (slice_get t) {x = place + 1} {y = get_or other passed 0 - n} (omega (arith, r.1, from_start)) ∙ theirs.inside passed r.0,
    λ is.
        let w = theirs.all (place + 1) is in
        let at : get_or other w.0 0 ≡ get_or own i 0 + 1 = omega (arith, w.2, from_start) in
        let le : passed ≤ w.0 = past w.0 w.1 (omega arith) in
        let there : passed < length other = omega (arith, w.1) in
        (there, omega (arith, behind there, not_after passed w.0 le w.1)),
  )

  pub previous-iff : ((0 < passed) × (get_or other (passed - 1) 0 + 1 ≡ get_or own i 0)) ↔ PreviousIs b t place
  previous-iff = (
    λ r.
        let low : n ≤ get_or other (passed - 1) 0 = theirs.above (passed - 1) 0 (omega (arith, r.0)) in (
          omega (arith, r.1),
          ap (slice_get t) {x = place - 1} {y = get_or other (passed - 1) 0 - n} (omega (arith, r.1)) ∙ theirs.inside (passed - 1) (omega (arith, r.0)),
        ),
    λ r.
        let w = theirs.all (place - 1) r.1 in
        let at : get_or other w.0 0 + 1 ≡ get_or own i 0 = omega (arith, w.2, r.0) in
        let lt : w.0 < passed = early w.0 w.1 (omega arith) in
        (omega arith, omega (arith, before (omega arith), not_after w.0 (passed - 1) (omega arith) (omega arith))),
  )

  pub alternates_later-iff : ((passed < length other) × (i + 1 < length own → get_or other passed 0 < get_or own (i + 1) 0)) ↔ AlternatesLaterAt a b t place
  alternates_later-iff = (
    λ r. (
      get_or other passed 0 - n,
      omega (arith, behind r.0, from_start),
      theirs.inside passed r.0,
      λ k low high is.
          let w = mine.all k is in
          let above : i < w.0 = ⊎_elim (λ h. h) (λ le. absurd (omega (arith, own_not_after w.0 i le there, w.2, low, from_start))) (cases_lt i w.0) in
          let next : i + 1 < length own = omega (arith, w.1) in
          absurd (omega (arith, r.1 next, own_not_after (i + 1) w.0 (omega arith) w.1, w.2, high, theirs.above passed 0 r.0)),
    ),
    λ s.
        let w = theirs.all s.0 s.2 in
        let le : passed ≤ w.0 = past w.0 w.1 (omega (arith, w.2, s.1, from_start)) in (
          omega (arith, w.1),
          λ next.
              let q : ℕ = get_or own (i + 1) 0 - n in
              let is : EventIs a t q = mine.inside (i + 1) next in
              let behind_own : place < q = omega (arith, mine.ascends i (i + 1) 0 (omega arith) next, from_start) in
              let far : s.0 < q = ⊎_elim (λ near. absurd (s.3 q behind_own near is)) (λ ge. ⊎_elim (λ lt. lt) (λ same. absurd (differ (some_same a b (sym is ∙ ap (slice_get t) {x = q} {y = s.0} (omega arith) ∙ s.2)))) (cases_lt s.0 q)) (cases_lt q s.0) in
              omega (arith, far, w.2, not_after passed w.0 le w.1, mine.above (i + 1) 0 next),
        ),
  )

  pub alternates_earlier-iff : ((0 < passed) × (0 < i → get_or own (i - 1) 0 < get_or other (passed - 1) 0)) ↔ AlternatesEarlierAt b a t place
  alternates_earlier-iff = (
    λ r. (
      get_or other (passed - 1) 0 - n,
      omega (arith, before r.0, theirs.above (passed - 1) 0 (omega (arith, r.0))),
      theirs.inside (passed - 1) (omega (arith, r.0)),
      λ k low high is.
          let w = mine.all k is in
          let under : w.0 < i = ⊎_elim (λ h. h) (λ le. absurd (omega (arith, own_not_after i w.0 le w.1, w.2, high, from_start))) (cases_lt w.0 i) in
          absurd (omega (arith, r.1 (omega arith), own_not_after w.0 (i - 1) (omega arith) (omega arith), w.2, low, theirs.above (passed - 1) 0 (omega (arith, r.0)))),
    ),
    λ s.
        let w = theirs.all s.0 s.2 in
        let lt : w.0 < passed = early w.0 w.1 (omega (arith, w.2, s.1, from_start)) in (
          omega arith,
          λ some.
              let inside : i - 1 < length own = omega arith in
              let q : ℕ = get_or own (i - 1) 0 - n in
              let is : EventIs a t q = mine.inside (i - 1) inside in
              let before_own : q < place = omega (arith, mine.ascends (i - 1) i 0 (omega arith) there, mine.above (i - 1) 0 inside) in
              let far : q < s.0 = ⊎_elim (λ near. absurd (s.3 q near before_own is)) (λ ge. ⊎_elim (λ lt. lt) (λ same. absurd (differ (some_same a b (sym is ∙ ap (slice_get t) {x = q} {y = s.0} (omega arith) ∙ s.2)))) (cases_lt q s.0)) (cases_lt s.0 q) in
              omega (arith, far, w.2, not_after w.0 (passed - 1) (omega arith) (omega arith), mine.above (i - 1) 0 inside),
        ),
  )

-- a test that says what the demand says is the one
module _ (own other : List ℕ) (test : ℕ → Bool) (i passed : ℕ) (there : i < length own) (most : passed ≤ length other)
    (before : 0 < passed → get_or other (passed - 1) 0 < get_or own i 0) (behind : passed < length other → get_or own i 0 < get_or other passed 0) where
  told : (demand : Demand) (is : IsTest demand own other test) (v : Bool) → v ≡ true ↔ Demanded demand is.a is.b is.trace (get_or own i 0 - is.start) → v ≡ test (get_or own i 0)
  told demand is v h =
      let mine = stand is.a is.start is.trace own is.own_are in
      let place : ℕ = get_or own i 0 - is.start in
      let back : is.start + place ≡ get_or own i 0 = omega (arith, mine.above i 0 there) in
      same_test v (test (get_or own i 0)) (Demanded demand is.a is.b is.trace place) h
      (subst (λ x. test x ≡ true ↔ Demanded demand is.a is.b is.trace place) back (is.tells place (mine.inside i there)))

  module _ (demand : Demand) (is : IsTest demand own other test) where
    abbrev mine : Stand is.a is.start is.trace own
    mine = stand is.a is.start is.trace own is.own_are

    abbrev theirs : Stand is.b is.start is.trace other
    theirs = stand is.b is.start is.trace other is.other_are

  pub asked-present : (is : IsTest Present own other test) (v : Bool) → v ≡ true ↔ (0 < length other) → v ≡ test (get_or own i 0)
  asked-present is v h =
      told Present is v (through h (present-iff own other is.a is.b is.start is.trace (mine Present is) (theirs Present is) is.apart i passed there most before behind))

  pub asked-later : (is : IsTest Later own other test) (v : Bool) → v ≡ true ↔ (passed < length other) → v ≡ test (get_or own i 0)
  asked-later is v h =
      told Later is v (through h (later-iff own other is.a is.b is.start is.trace (mine Later is) (theirs Later is) is.apart i passed there most before behind))

  pub asked-earlier : (is : IsTest Earlier own other test) (v : Bool) → v ≡ true ↔ (0 < passed) → v ≡ test (get_or own i 0)
  asked-earlier is v h =
      told Earlier is v (through h (earlier-iff own other is.a is.b is.start is.trace (mine Earlier is) (theirs Earlier is) is.apart i passed there most before behind))

  pub asked-next : (is : IsTest Next own other test) (v : Bool) → v ≡ true ↔ ((passed < length other) × (get_or other passed 0 ≡ get_or own i 0 + 1)) → v ≡ test (get_or own i 0)
  asked-next is v h =
      told Next is v (through h (next-iff own other is.a is.b is.start is.trace (mine Next is) (theirs Next is) is.apart i passed there most before behind))

  pub asked-previous : (is : IsTest Previous own other test) (v : Bool) → v ≡ true ↔ ((0 < passed) × (get_or other (passed - 1) 0 + 1 ≡ get_or own i 0)) → v ≡ test (get_or own i 0)
  asked-previous is v h =
      told Previous is v (through h (previous-iff own other is.a is.b is.start is.trace (mine Previous is) (theirs Previous is) is.apart i passed there most before behind))

  pub asked-alternates_later : (is : IsTest AlternatesLater own other test) (v : Bool)
      → v ≡ true ↔ ((passed < length other) × (i + 1 < length own → get_or other passed 0 < get_or own (i + 1) 0)) → v ≡ test (get_or own i 0)
  asked-alternates_later is v h =
      told AlternatesLater is v
      (through h (alternates_later-iff own other is.a is.b is.start is.trace (mine AlternatesLater is) (theirs AlternatesLater is) is.apart i passed there most before behind))

  pub asked-alternates_earlier : (is : IsTest AlternatesEarlier own other test) (v : Bool)
      → v ≡ true ↔ ((0 < passed) × (0 < i → get_or own (i - 1) 0 < get_or other (passed - 1) 0)) → v ≡ test (get_or own i 0)
  asked-alternates_earlier is v h =
      told AlternatesEarlier is v
      (through h (alternates_earlier-iff own other is.a is.b is.start is.trace (mine AlternatesEarlier is) (theirs AlternatesEarlier is) is.apart i passed there most before behind))

  pub asked-absent : (is : IsTest Absent own other test) (v : Bool) → v ≡ true ↔ (0 < length other) → not v ≡ test (get_or own i 0)
  asked-absent is v h =
      told Absent is (not v)
      (not-iff v (SomeIs is.b is.trace) (through h (present-iff own other is.a is.b is.start is.trace (mine Absent is) (theirs Absent is) is.apart i passed there most before behind)))

  pub asked-none_later : (is : IsTest NoneLater own other test) (v : Bool) → v ≡ true ↔ (passed < length other) → not v ≡ test (get_or own i 0)
  asked-none_later is v h =
      told NoneLater is (not v)
      (not-iff v (LaterIs is.b is.trace (get_or own i 0 - is.start)) (through h (later-iff own other is.a is.b is.start is.trace (mine NoneLater is) (theirs NoneLater is) is.apart i passed there most before behind)))

  pub asked-none_earlier : (is : IsTest NoneEarlier own other test) (v : Bool) → v ≡ true ↔ (0 < passed) → not v ≡ test (get_or own i 0)
  asked-none_earlier is v h =
      told NoneEarlier is (not v)
      (not-iff v (EarlierIs is.b is.trace (get_or own i 0 - is.start)) (through h (earlier-iff own other is.a is.b is.start is.trace (mine NoneEarlier is) (theirs NoneEarlier is) is.apart i passed there most before behind)))

  pub asked-not_next : (is : IsTest NotNext own other test) (v : Bool) → v ≡ true ↔ ((passed < length other) × (get_or other passed 0 ≡ get_or own i 0 + 1)) → not v ≡ test (get_or own i 0)
  asked-not_next is v h =
      told NotNext is (not v)
      (not-iff v (EventIs is.b is.trace (get_or own i 0 - is.start + 1)) (through h (next-iff own other is.a is.b is.start is.trace (mine NotNext is) (theirs NotNext is) is.apart i passed there most before behind)))

  pub asked-not_previous : (is : IsTest NotPrevious own other test) (v : Bool) → v ≡ true ↔ ((0 < passed) × (get_or other (passed - 1) 0 + 1 ≡ get_or own i 0)) → not v ≡ test (get_or own i 0)
  asked-not_previous is v h =
      told NotPrevious is (not v)
      (not-iff v (PreviousIs is.b is.trace (get_or own i 0 - is.start)) (through h (previous-iff own other is.a is.b is.start is.trace (mine NotPrevious is) (theirs NotPrevious is) is.apart i passed there most before behind)))
