-- All touched states are marked, and then each of their classes is cut.
use Rattle.std.proofs.Common.{◌≡◌, inl, inr, ℕ, zero, suc, ◌+◌, ◌^◌, ◌<◌, List, [], ◌∷◌, ◌++◌, Bool, true, false, ◌||◌, eqb, length, get_or, refl, sym, ap, ◌∙◌, arith}
use Rattle.std.proofs.lemmas.Bool.{cases_eq, cases_lt}
use Rattle.std.proofs.lemmas.List.{get_or_past}
use Rattle.dfa_minimise.proofs.Progress.{IsMarkedSoFar, IsCutSoFar}
use Rattle.dfa_minimise.specs.Partitions.{IsTidy, Marks, HasNoMarks, CutsClass, IsCut, is_in, is_marked}
use Rattle.dfa_minimise.specs.declared.refinable.Refinable.{Refinable}
use Rattle.dfa_minimise.proofs.Marking.{ltb_yes, ltb_not, or-false}

pub is_in-push : (xs : List ℕ) (x q : ℕ) → is_in (xs ++ x ∷ []) q ≡ (is_in xs q || eqb x q)
is_in-push [] x q = or-false (eqb x q)
is_in-push (y ∷ xs) x q = go (eqb y q) (is_in-push xs x q)
  where
    go : (b : Bool) → is_in (xs ++ x ∷ []) q ≡ (is_in xs q || eqb x q) → (b || is_in (xs ++ x ∷ []) q) ≡ ((b || is_in xs q) || eqb x q)
    go true ih = refl
    go false ih = ih

pub is_in-place : (xs : List ℕ) (q : ℕ) → is_in xs q ≡ true → (j : ℕ) × (j < length xs) × (get_or xs j 0 ≡ q)
is_in-place [] q e = absurd (cc)
is_in-place (y ∷ xs) q e = go (eqb y q) refl (is_in-place xs q) e
  where
    go : (b : Bool) → eqb y q ≡ b → (is_in xs q ≡ true → (j : ℕ) × (j < length xs) × (get_or xs j 0 ≡ q)) → (b || is_in xs q) ≡ true → (j : ℕ) × (j < length (y ∷ xs)) × (get_or (y ∷ xs) j 0 ≡ q)
    go true is later e2 = (zero, omega arith, grind (arith, is))
    go false is later e2 = let k = later e2 in (suc k.0, omega (arith, k.1), k.2)

pub marked-more : (old now after : Refinable) (touched : List ℕ) (state : ℕ) → IsMarkedSoFar old now touched → Marks (length now.class.items) now after state → IsMarkedSoFar old after (touched ++ state ∷ [])
marked-more old now after touched state h m =
    let n : length now.class.items ≡ length old.class.items = ap length h.class in
    record {
      refinable = rw (n, h.class, h.first, h.end) at m.refinable;
      class = m.class ∙ h.class;
      first = m.first ∙ h.first;
      end = m.end ∙ h.end;
      fit = rw (h.first, h.end) at m.fit;
      marks = λ q lq.
          let k = m.marks q (omega (arith, n, lq)) in
          let k2 : is_marked after.place.items old.class.items old.first.items after.marked.items q ≡ (is_marked now.place.items old.class.items old.first.items now.marked.items q || eqb state q) = rw (h.class, h.first) at k in
          k2 ∙ (ap (λ (b : Bool). b || eqb state q) (h.marks q lq) ∙ sym (is_in-push touched state q));
    }

pub cut-none : (old now : Refinable) (touched : List ℕ) → IsMarkedSoFar old now touched → IsCutSoFar old now touched 0
cut-none old now touched h =
    let none : (q : ℕ) → q < length old.class.items → get_or now.marked.items (get_or old.class.items q 0) 0 ≡ 0 → is_in touched q ≡ false = λ q lq z.
    sym (h.marks q lq) ∙ ltb_not (get_or now.place.items q 0) (get_or old.first.items (get_or old.class.items q 0) 0 + get_or now.marked.items (get_or old.class.items q 0) 0) (let b = h.refinable.class_first q lq in omega arith) in
    record {
      refinable = rw (h.class, h.first, h.end) h.refinable;
      fit = rw (h.first, h.end) h.fit;
      class_length = ap length h.class;
      grows = rw h.first (omega arith);
      refines = λ q r lq lr e. rw h.class at e;
      parts = λ q r lq lr e ne. absurd (ne (rw h.class e));
      clean = λ q r lq lr z e.
          let z2 : get_or now.marked.items (get_or old.class.items q 0) 0 ≡ 0 = rw h.class at z in
          let e2 : get_or old.class.items q 0 ≡ get_or old.class.items r 0 = rw h.class at e in
          none q lq z2 ∙ sym (none r lr (ap (λ (c : ℕ). get_or now.marked.items c 0) (sym e2) ∙ z2));
      dirty = λ q lq l. rw (h.class, h.first) (h.marks q lq);
      done = λ j l. absurd (omega arith);
      stays = λ q lq l. ap (λ (xs : List ℕ). get_or xs q 0) h.class;
    }

module _ (old now after : Refinable) (touched : List ℕ) (at c : ℕ) (h : IsCutSoFar old now touched at) (is_c : c ≡ get_or now.class.items (get_or touched at 0) 0) (lt : get_or touched at 0 < length old.class.items) (inside : (j : ℕ) → j < at → get_or touched j 0 < length old.class.items) (k : CutsClass now after c) where
  abbrev n : ℕ
  n = length old.class.items

  abbrev was : ℕ → ℕ
  was q = get_or now.class.items q 0

  abbrev is : ℕ → ℕ
  is q = get_or after.class.items q 0

  low : (q : ℕ) → q < n → q < length now.class.items
  low q lq = omega (arith, h.class_length, lq)

  unmarked : (q : ℕ) → q < n → get_or now.marked.items (was q) 0 ≡ 0 → is_marked now.place.items now.class.items now.first.items now.marked.items q ≡ false
  unmarked q lq z = ltb_not (get_or now.place.items q 0) (get_or now.first.items (was q) 0 + get_or now.marked.items (was q) 0) (let b = h.refinable.class_first q lq in omega arith)

  -- a state of another class stays
  other : (q : ℕ) → q < n → (was q ≡ c → ⊥) → is q ≡ was q
  other q lq ne = elim (k.stays q (low q lq)) [ inl e ↦ e | inr m ↦ absurd (ne m.0) ]

  -- and a state of the class ends in one with no mark
  unmarked_after : (q : ℕ) → q < n → was q ≡ c → get_or after.marked.items (is q) 0 ≡ 0
  unmarked_after q lq e = elim (k.stays q (low q lq)) [ inl s ↦ rw (s, e) k.cleared | inr m ↦ k.new_cleared (is q) m.1 ]

  refines_now : (q r : ℕ) → q < n → r < n → is q ≡ is r → was q ≡ was r
  refines_now q r lq lr e = elim (k.stays q (low q lq)) [
    | inl s ↦ elim (k.stays r (low r lr)) [
      | inl t ↦ sym s ∙ (e ∙ t)
      | inr m ↦ let b = h.refinable.class_bound q lq in absurd (omega (arith, s, e, m.1, b))
    ]
    | inr p ↦ elim (k.stays r (low r lr)) [
      | inl t ↦ let b = h.refinable.class_bound r lr in absurd (omega (arith, t, e, p.1, b))
      | inr m ↦ p.0 ∙ sym m.0
    ]
  ]

  abbrev marked_now : ℕ → Bool
  marked_now q = is_marked now.place.items now.class.items now.first.items now.marked.items q

  -- in one class the marks are the touched states, or there are none
  marks_touched : (q r : ℕ) → q < n → r < n → was q ≡ was r → is_in touched q ≡ is_in touched r → marked_now q ≡ marked_now r
  marks_touched q r lq lr e t = elim (cases_eq (get_or now.marked.items (was q) 0) 0) [
    | inl z ↦ unmarked q lq z ∙ sym (unmarked r lr (ap (λ (d : ℕ). get_or now.marked.items d 0) (sym e) ∙ z))
    | inr ne ↦ h.dirty q lq (omega arith) ∙ (t ∙ sym (h.dirty r lr (rw e at (pos (get_or now.marked.items (was q) 0) ne))))
  ]
    where
      pos : (m : ℕ) → (m ≡ 0 → ⊥) → 0 < m
      pos m ne = omega arith

  touched_marks : (q r : ℕ) → q < n → r < n → was q ≡ was r → marked_now q ≡ marked_now r → is_in touched q ≡ is_in touched r
  touched_marks q r lq lr e t = elim (cases_eq (get_or now.marked.items (was q) 0) 0) [
    | inl z ↦ h.clean q r lq lr z e
    | inr ne ↦ sym (h.dirty q lq (omega arith)) ∙ (t ∙ h.dirty r lr (rw e at (pos (get_or now.marked.items (was q) 0) ne)))
  ]
    where
      pos : (m : ℕ) → (m ≡ 0 → ⊥) → 0 < m
      pos m ne = omega arith

  -- a state whose class has no mark keeps that
  still : (q : ℕ) → q < n → get_or now.marked.items (was q) 0 ≡ 0 → get_or after.marked.items (is q) 0 ≡ 0
  still q lq z = elim (cases_eq (was q) c) [
    | inl in_c ↦ unmarked_after q lq in_c
    | inr out ↦ rw (other q lq out, (k.others (was q) (h.refinable.class_bound q lq) out).1) z
  ]

  pub cut-more : IsCutSoFar old after touched (at + 1)
  cut-more = record {
    refinable = let nn : length now.class.items ≡ n = h.class_length in rw (k.order, k.place) (rw nn at k.refinable);
    fit = k.fit;
    class_length = k.class_length ∙ h.class_length;
    grows = omega (arith, h.grows, k.grows);
    refines = λ q r lq lr e. h.refines q r lq lr (refines_now q r lq lr e);
    parts = λ q r lq lr e ne t. elim (cases_eq (was q) (was r)) [
      | inl same ↦ elim (cases_eq (was q) c) [
        | inl in_c ↦ ne (k.parts q r (low q lq) (low r lr) in_c (sym same ∙ in_c) (marks_touched q r lq lr same t))
        | inr out ↦ ne (other q lq out ∙ (same ∙ sym (other r lr (λ f. out (same ∙ f)))))
      ]
      | inr differ ↦ h.parts q r lq lr e differ t
    ];
    clean = λ q r lq lr z e.
        let same = refines_now q r lq lr e in
        elim (cases_eq (was q) c) [
          | inl in_c ↦ touched_marks q r lq lr same (k.together q r (low q lq) (low r lr) in_c (sym same ∙ in_c) e)
          | inr out ↦ h.clean q r lq lr (sym (k.others (was q) (h.refinable.class_bound q lq) out).1 ∙ (ap (λ (d : ℕ). get_or after.marked.items d 0) (sym (other q lq out)) ∙ z)) same
        ];
    dirty = λ q lq l. elim (cases_eq (was q) c) [
      | inl in_c ↦ let z = unmarked_after q lq in_c in absurd (omega arith)
      | inr out ↦
          let o = k.others (was q) (h.refinable.class_bound q lq) out in
          let s = other q lq out in
          let l2 : 0 < get_or now.marked.items (was q) 0 = rw (s, o.1) at l in
          rw (k.place, s, o.0, o.1) (h.dirty q lq l2)
    ];
    done = λ j l. elim (cases_eq j at) [
      | inl same ↦ rw same (unmarked_after (get_or touched at 0) lt (sym is_c))
      | inr ne ↦ still (get_or touched j 0) (inside j (omega arith)) (h.done j (omega arith))
    ];
    stays = λ q lq l. elim (k.stays q (low q lq)) [
      | inl s ↦ s ∙ h.stays q lq (omega (arith, s, l))
      | inr m ↦ absurd (omega (arith, m.1, l, h.grows))
    ];
  }

pub tidy-all : (old now : Refinable) (touched : List ℕ) → length old.class.items < 2 ^ 32 → IsCutSoFar old now touched (length touched) → IsTidy now
tidy-all old now touched few h = record {
  refinable = rw h.class_length h.refinable;
  fit = h.fit;
  no_marks = record {
    none = λ c. elim (cases_lt c (length now.first.items)) [
      | inl lc ↦ elim (cases_eq (get_or now.marked.items c 0) 0) [
        | inl z ↦ z
        | inr ne ↦ absurd (no_mark c lc (omega arith))
      ]
      | inr ge ↦ get_or_past now.marked.items c 0 (omega (arith, h.fit.marks_length))
    ];
  };
  few = omega (arith, h.class_length);
}
  where
    no_mark : (c : ℕ) → c < length now.first.items → 0 < get_or now.marked.items c 0 → ⊥
    no_mark c lc m =
        let i = get_or now.first.items c 0 in
        let s = h.refinable.some c lc in
        let b = h.refinable.end_bound c lc in
        let li : i < length old.class.items = omega arith in
        let p = get_or now.order.items i 0 in
        let lp = h.refinable.order_bound i li in
        let in_c : get_or now.class.items p 0 ≡ c = h.refinable.class_order c i lc (omega arith) s in
        let at_i : get_or now.place.items p 0 ≡ i = h.refinable.place_order i li in
        let m2 : 0 < get_or now.marked.items (get_or now.class.items p 0) 0 = rw in_c m in
        let yes_ : is_marked now.place.items now.class.items now.first.items now.marked.items p ≡ true = rw (in_c, at_i) (ltb_yes i (i + get_or now.marked.items c 0) (omega arith)) in
        let there = is_in-place touched p (sym (h.dirty p lp m2) ∙ yes_) in
        let z = h.done there.0 there.1 in
        let z2 : get_or now.marked.items (get_or now.class.items p 0) 0 ≡ 0 = rw there.2 at z in
        omega (arith, z2, m2)

pub cut-all : (old now : Refinable) (touched : List ℕ) → IsCutSoFar old now touched (length touched) → HasNoMarks now.marked.items → IsCut (length old.class.items) (length old.first.items) touched old.class.items now.class.items
cut-all old now touched h z = record {
  refines = h.refines;
  parts = h.parts;
  together = λ q r lq lr e. h.clean q r lq lr (z.none (get_or now.class.items q 0)) e;
  stays = h.stays;
}
