-- A class that is cut in two.
use Rattle.std.proofs.Common.{◌≡◌, ◌⊎◌, inl, inr, ℕ, zero, ◌+◌, ◌<◌, ◌≤◌, List, [], ◌∷◌, ◌++◌, Bool, true, false, ltb, length, get_or, set, refl, sym, ap, ◌∙◌, arith, get_or-set_same, get_or-set_other, length-set}
use Rattle.std.proofs.lemmas.Bool.{cases_eq, cases_lt}
use Rattle.std.proofs.lemmas.List.{get_or_append_left, get_or_past, get_or_push, get_or_read, length_push}
use Rattle.dfa_minimise.specs.Partitions.{IsRefinable, MarksFit, CutsClass, Begins, is_marked}
use Rattle.dfa_minimise.specs.declared.refinable.Refinable.{Refinable}
use Rattle.dfa_minimise.proofs.Marking.{ltb_yes, ltb_not}

-- The places of a class go into a new part and a kept part. The places below `middle` are one of the two.
pub record IsHalved (first middle end from to kept_from kept_to : ℕ) : Type 0 where
  pub some : from < to
  pub kept_some : kept_from < kept_to
  pub low : first ≤ from
  pub high : to ≤ end
  pub kept_low : first ≤ kept_from
  pub kept_high : kept_to ≤ end
  pub either : (p : ℕ) → first ≤ p → p < end → ((from ≤ p) × (p < to)) ⊎ ((kept_from ≤ p) × (p < kept_to))
  pub apart : (p : ℕ) → from ≤ p → p < to → kept_from ≤ p → p < kept_to → ⊥
  pub same : (p q : ℕ) → from ≤ p → p < to → from ≤ q → q < to → ltb p middle ≡ ltb q middle
  pub kept_same : (p q : ℕ) → kept_from ≤ p → p < kept_to → kept_from ≤ q → q < kept_to → ltb p middle ≡ ltb q middle
  pub differ : (p q : ℕ) → from ≤ p → p < to → kept_from ≤ q → q < kept_to → ltb p middle ≡ ltb q middle → ⊥

not-true_false : (b c : Bool) → b ≡ true → c ≡ false → b ≡ c → ⊥
not-true_false b c e f g = absurd (cc)

pub halved-front : (first middle end : ℕ) → first < middle → middle < end → IsHalved first middle end first middle middle end
halved-front first middle end h k = record {
  some = h;
  kept_some = k;
  low = omega arith;
  high = omega arith;
  kept_low = omega arith;
  kept_high = omega arith;
  either = λ p lo hi. elim (cases_lt p middle) [ inl lt ↦ inl (lo, lt) | inr ge ↦ inr (ge, hi) ];
  apart = λ p a b c d. omega arith;
  same = λ p q a b c d. ltb_yes p middle b ∙ sym (ltb_yes q middle d);
  kept_same = λ p q a b c d. ltb_not p middle a ∙ sym (ltb_not q middle c);
  differ = λ p q a b c d e. not-true_false (ltb p middle) (ltb q middle) (ltb_yes p middle b) (ltb_not q middle c) e;
}

-- the same the other way round
halved-other : (first middle end from to kept_from kept_to : ℕ) → IsHalved first middle end from to kept_from kept_to → IsHalved first middle end kept_from kept_to from to
halved-other first middle end from to kept_from kept_to h = record {
  some = h.kept_some;
  kept_some = h.some;
  low = h.kept_low;
  high = h.kept_high;
  kept_low = h.low;
  kept_high = h.high;
  either = λ p lo hi. elim (h.either p lo hi) [ inl new ↦ inr new | inr kept ↦ inl kept ];
  apart = λ p a b c d. h.apart p c d a b;
  same = h.kept_same;
  kept_same = h.same;
  differ = λ p q a b c d e. h.differ q p c d a b (sym e);
}

pub halved-back : (first middle end : ℕ) → first < middle → middle < end → IsHalved first middle end middle end first middle
halved-back first middle end h k = halved-other first middle end first middle middle end (halved-front first middle end h k)

-- a list in which a class has a new number, and that has one more
pub record IsListCut (old new : List ℕ) (c kept fresh : ℕ) : Type 0 where
  pub longer : length new ≡ length old + 1
  pub at : get_or new c 0 ≡ kept
  pub last : get_or new (length old) 0 ≡ fresh
  pub else_ : (d : ℕ) → d < length old → (d ≡ c → ⊥) → get_or new d 0 ≡ get_or old d 0

pub list-cut_set : (old new : List ℕ) (c kept fresh : ℕ) → c < length old → new ≡ set old c kept ++ fresh ∷ [] → IsListCut old new c kept fresh
list-cut_set old new c kept fresh lt e =
    let l : length (set old c kept) ≡ length old = length-set old c kept in
    rw e (record {
      longer = length_push (set old c kept) fresh ∙ ap (λ (n : ℕ). n + 1) l;
      at = get_or_append_left (set old c kept) (fresh ∷ []) 0 c (omega arith) ∙ get_or-set_same old c kept 0 lt;
      last = get_or_push (set old c kept) fresh 0 (length old) l;
      else_ = λ d ld ne. get_or_append_left (set old c kept) (fresh ∷ []) 0 d (omega arith) ∙ get_or-set_other old c d kept 0 ne;
    })

pub list-cut_same : (old new : List ℕ) (c kept fresh : ℕ) → c < length old → kept ≡ get_or old c 0 → new ≡ old ++ fresh ∷ [] → IsListCut old new c kept fresh
list-cut_same old new c kept fresh lt k e =
    rw e (record {
      longer = length_push old fresh;
      at = get_or_append_left old (fresh ∷ []) 0 c lt ∙ sym k;
      last = get_or_push old fresh 0 (length old) refl;
      else_ = λ d ld ne. get_or_append_left old (fresh ∷ []) 0 d ld;
    })

module _ (old new : Refinable) (c middle from to kept_from kept_to : ℕ) (h : IsRefinable (length old.class.items) old.order.items old.place.items old.class.items old.first.items old.end.items)
    (fit : MarksFit old.first.items old.end.items old.marked.items) (lc : c < length old.first.items) (is_middle : middle ≡ get_or old.first.items c 0 + get_or old.marked.items c 0)
    (half : IsHalved (get_or old.first.items c 0) middle (get_or old.end.items c 0) from to kept_from kept_to)
    (eo : new.order.items ≡ old.order.items) (ep : new.place.items ≡ old.place.items)
    (first : IsListCut old.first.items new.first.items c kept_from from) (end : IsListCut old.end.items new.end.items c kept_to to) (marked : IsListCut old.marked.items new.marked.items c 0 0)
    (class_length : length new.class.items ≡ length old.class.items)
    (inside : (q : ℕ) → q < length old.class.items → from ≤ get_or old.place.items q 0 → get_or old.place.items q 0 < to → get_or new.class.items q 0 ≡ length old.first.items)
    (outside : (q : ℕ) → q < length old.class.items → (from ≤ get_or old.place.items q 0 → get_or old.place.items q 0 < to → ⊥) → get_or new.class.items q 0 ≡ get_or old.class.items q 0) where
  abbrev n : ℕ
  n = length old.class.items

  abbrev count : ℕ
  count = length old.first.items

  abbrev place : ℕ → ℕ
  place q = get_or old.place.items q 0

  abbrev was : ℕ → ℕ
  was q = get_or old.class.items q 0

  abbrev is : ℕ → ℕ
  is q = get_or new.class.items q 0

  in_class : (q : ℕ) → q < n → from ≤ place q → place q < to → was q ≡ c
  in_class q lq lo hi =
      let a = half.low in
      let b = half.high in
      ap was (sym (h.order_place q lq)) ∙ h.class_order c (place q) lc (omega arith) (omega arith)

  -- in the new part, in the kept part, or in another class
  parts_of : (q : ℕ) → q < n → ((was q ≡ c) × (from ≤ place q) × (place q < to) × (is q ≡ count))
      ⊎ (((was q ≡ c) × (kept_from ≤ place q) × (place q < kept_to) × (is q ≡ c)) ⊎ ((was q ≡ c → ⊥) × (is q ≡ was q)))
  parts_of q lq = elim (cases_eq (was q) c) [
    | inl same ↦ elim (half.either (place q) (let b = h.class_first q lq in rw same at b) (let b = h.class_end q lq in rw same at b)) [
      | inl p ↦ inl (same, p.0, p.1, inside q lq p.0 p.1)
      | inr p ↦ inr (inl (same, p.0, p.1, outside q lq (λ lo hi. half.apart (place q) lo hi p.0 p.1) ∙ same))
    ]
    | inr ne ↦ inr (inr (ne, outside q lq (λ lo hi. ne (in_class q lq lo hi))))
  ]

  end_last : get_or new.end.items count 0 ≡ to
  end_last = ap (λ (k : ℕ). get_or new.end.items k 0) (sym h.end_length) ∙ end.last

  marked_last : get_or new.marked.items count 0 ≡ 0
  marked_last = ap (λ (k : ℕ). get_or new.marked.items k 0) (sym fit.marks_length) ∙ marked.last

  older : (d : ℕ) → d < length new.first.items → (d ≡ count → ⊥) → d < count
  older d ld nn = let l = first.longer in omega arith

  order_kept : (i : ℕ) → kept_from ≤ i → i < kept_to → is (get_or old.order.items i 0) ≡ c
  order_kept i lo hi =
      let a = half.kept_low in
      let b = half.kept_high in
      let z = h.end_bound c lc in
      let li : i < n = omega arith in
      let pl = h.place_order i li in
      outside (get_or old.order.items i 0) (h.order_bound i li) (λ lo2 hi2. half.apart i (rw pl at lo2) (rw pl at hi2) lo hi) ∙ h.class_order c i lc (omega arith) (omega arith)

  order_new : (i : ℕ) → from ≤ i → i < to → is (get_or old.order.items i 0) ≡ count
  order_new i lo hi =
      let a = half.high in
      let z = h.end_bound c lc in
      let li : i < n = omega arith in
      let pl = h.place_order i li in
      inside (get_or old.order.items i 0) (h.order_bound i li) (rw pl lo) (rw pl hi)

  order_other : (d i : ℕ) → d < count → (d ≡ c → ⊥) → get_or old.first.items d 0 ≤ i → i < get_or old.end.items d 0 → is (get_or old.order.items i 0) ≡ d
  order_other d i ld ne lo hi =
      let z = h.end_bound d ld in
      let li : i < n = omega arith in
      let k = h.class_order d i ld lo hi in
      outside (get_or old.order.items i 0) (h.order_bound i li) (λ lo2 hi2. ne (sym k ∙ in_class (get_or old.order.items i 0) (h.order_bound i li) lo2 hi2)) ∙ k

  test : (q : ℕ) → was q ≡ c → is_marked old.place.items old.class.items old.first.items old.marked.items q ≡ ltb (place q) middle
  test q e = rw (e, ← is_middle) refl

  refinable-cut : IsRefinable n old.order.items old.place.items new.class.items new.first.items new.end.items
  refinable-cut = record {
    order_length = h.order_length;
    place_length = h.place_length;
    class_length = class_length;
    end_length = end.longer ∙ (ap (λ (k : ℕ). k + 1) h.end_length ∙ sym first.longer);
    place_bound = h.place_bound;
    order_bound = h.order_bound;
    order_place = h.order_place;
    place_order = h.place_order;
    class_bound = λ q lq.
        let l = first.longer in
        elim (parts_of q lq) [
          | inl p ↦ rw p.3 (omega arith)
          | inr k ↦ elim k [ inl p ↦ rw p.3 (omega arith) | inr p ↦ let b = h.class_bound q lq in rw p.1 (omega arith) ]
        ];
    class_first = λ q lq. elim (parts_of q lq) [
      | inl p ↦ rw (p.3, first.last) p.1
      | inr k ↦ elim k [ inl p ↦ rw (p.3, first.at) p.1 | inr p ↦ rw (p.1, first.else_ (was q) (h.class_bound q lq) p.0) (h.class_first q lq) ]
    ];
    class_end = λ q lq. elim (parts_of q lq) [
      | inl p ↦ rw (p.3, ← h.end_length, end.last) p.2
      | inr k ↦ elim k [
        | inl p ↦ rw (p.3, end.at) p.2
        | inr p ↦ rw (p.1, end.else_ (was q) (let b = h.class_bound q lq in omega (arith, h.end_length, b)) p.0) (h.class_end q lq)
      ]
    ];
    some = λ d ld. elim (cases_eq d c) [
      | inl e ↦ rw (e, first.at, end.at) half.kept_some
      | inr ne ↦ elim (cases_eq d count) [
        | inl e ↦ rw (e, first.last, end_last) half.some
        | inr nn ↦ rw (first.else_ d (older d ld nn) ne, end.else_ d (omega (arith, h.end_length, older d ld nn)) ne) (h.some d (older d ld nn))
      ]
    ];
    end_bound = λ d ld. elim (cases_eq d c) [
      | inl e ↦ let a = half.kept_high in let b = h.end_bound c lc in rw (e, end.at) (omega arith)
      | inr ne ↦ elim (cases_eq d count) [
        | inl e ↦ let a = half.high in let b = h.end_bound c lc in rw (e, end_last) (omega arith)
        | inr nn ↦ rw (end.else_ d (omega (arith, h.end_length, older d ld nn)) ne) (h.end_bound d (older d ld nn))
      ]
    ];
    class_order = λ d i ld lo hi. elim (cases_eq d c) [
      | inl e ↦
          let lo2 : kept_from ≤ i = rw (e, first.at) at lo in
          let hi2 : i < kept_to = rw (e, end.at) at hi in
          rw e (order_kept i lo2 hi2)
      | inr ne ↦ elim (cases_eq d count) [
        | inl e ↦
            let lo2 : from ≤ i = rw (e, first.last) at lo in
            let hi2 : i < to = rw (e, end_last) at hi in
            rw e (order_new i lo2 hi2)
        | inr nn ↦
            let lo2 : get_or old.first.items d 0 ≤ i = rw (first.else_ d (older d ld nn) ne) at lo in
            let hi2 : i < get_or old.end.items d 0 = rw (end.else_ d (omega (arith, h.end_length, older d ld nn)) ne) at hi in
            order_other d i (older d ld nn) ne lo2 hi2
      ]
    ];
  }

  pub cut-class : CutsClass old new c
  cut-class = record {
    order = eo;
    place = ep;
    class_length = class_length;
    refinable = refinable-cut;
    fit = record {
      marks_length = marked.longer ∙ (ap (λ (k : ℕ). k + 1) fit.marks_length ∙ sym first.longer);
      marks_bound = λ d ld. elim (cases_eq d c) [
        | inl e ↦ let a = half.kept_some in rw (e, first.at, marked.at, end.at) (omega arith)
        | inr ne ↦ elim (cases_eq d count) [
          | inl e ↦ let a = half.some in rw (e, first.last, marked_last, end_last) (omega arith)
          | inr nn ↦ rw (first.else_ d (older d ld nn) ne, marked.else_ d (omega (arith, fit.marks_length, older d ld nn)) ne, end.else_ d (omega (arith, h.end_length, older d ld nn)) ne) (fit.marks_bound d (older d ld nn))
        ]
      ];
    };
    grows = let l = first.longer in omega arith;
    others = λ d ld ne. (first.else_ d ld ne, marked.else_ d (omega (arith, fit.marks_length, ld)) ne);
    cleared = marked.at;
    new_cleared = λ d ld. elim (cases_eq d count) [
      | inl e ↦ rw e marked_last
      | inr nn ↦ get_or_past new.marked.items d 0 (omega (arith, marked.longer, fit.marks_length))
    ];
    stays = λ q lq. elim (parts_of q lq) [
      | inl p ↦ inr (p.0, omega (arith, p.3))
      | inr k ↦ elim k [ inl p ↦ inl (p.3 ∙ sym p.0) | inr p ↦ inl p.1 ]
    ];
    parts = λ q r lq lr cq cr e.
        let t : ltb (place q) middle ≡ ltb (place r) middle = sym (test q cq) ∙ (e ∙ test r cr) in
        elim (parts_of q lq) [
          | inl p ↦ elim (parts_of r lr) [
            | inl s ↦ p.3 ∙ sym s.3
            | inr k ↦ elim k [ inl s ↦ absurd (half.differ (place q) (place r) p.1 p.2 s.1 s.2 t) | inr s ↦ absurd (s.0 cr) ]
          ]
          | inr j ↦ elim j [
            | inl p ↦ elim (parts_of r lr) [
              | inl s ↦ absurd (half.differ (place r) (place q) s.1 s.2 p.1 p.2 (sym t))
              | inr k ↦ elim k [ inl s ↦ p.3 ∙ sym s.3 | inr s ↦ absurd (s.0 cr) ]
            ]
            | inr p ↦ absurd (p.0 cq)
          ]
        ];
    together = λ q r lq lr cq cr e.
        let back : ltb (place q) middle ≡ ltb (place r) middle → is_marked old.place.items old.class.items old.first.items old.marked.items q ≡ is_marked old.place.items old.class.items old.first.items old.marked.items r = λ t. test q cq ∙ (t ∙ sym (test r cr)) in
        elim (parts_of q lq) [
          | inl p ↦ elim (parts_of r lr) [
            | inl s ↦ back (half.same (place q) (place r) p.1 p.2 s.1 s.2)
            | inr k ↦ elim k [ inl s ↦ absurd (omega (arith, e, p.3, s.3, lc)) | inr s ↦ absurd (s.0 cr) ]
          ]
          | inr j ↦ elim j [
            | inl p ↦ elim (parts_of r lr) [
              | inl s ↦ absurd (omega (arith, e, p.3, s.3, lc))
              | inr k ↦ elim k [ inl s ↦ back (half.kept_same (place q) (place r) p.1 p.2 s.1 s.2) | inr s ↦ absurd (s.0 cr) ]
            ]
            | inr p ↦ absurd (p.0 cq)
          ]
        ];
  }

-- where a class begins, how many of its states are marked and where it ends
pub record IsReadAt (old : Refinable) (c f m e : ℕ) : Type 0 where
  pub first : f ≡ get_or old.first.items c 0
  pub marked : m ≡ get_or old.marked.items c 0
  pub end : e ≡ get_or old.end.items c 0

pub read-at : (old : Refinable) (c f m e : ℕ) → IsRefinable (length old.class.items) old.order.items old.place.items old.class.items old.first.items old.end.items → MarksFit old.first.items old.end.items old.marked.items
    → c < length old.first.items → f ≡ get_or old.first.items c f → m ≡ get_or old.marked.items c m → e ≡ get_or old.end.items c e → IsReadAt old c f m e
read-at old c f m e h fit lc first marked end = record {
  first = get_or_read old.first.items c f lc first 0;
  marked = get_or_read old.marked.items c m (omega (arith, lc, fit.marks_length)) marked 0;
  end = get_or_read old.end.items c e (omega (arith, lc, h.end_length)) end 0;
}

pub cut-front : (old mid new : Refinable) (c f m e : ℕ) → IsRefinable (length old.class.items) old.order.items old.place.items old.class.items old.first.items old.end.items → MarksFit old.first.items old.end.items old.marked.items
    → c < length old.first.items → IsReadAt old c f m e → (f ≡ f + m → ⊥) → (f + m ≡ e → ⊥)
    → mid.order.items ≡ old.order.items → mid.place.items ≡ old.place.items → mid.class.items ≡ old.class.items → mid.first.items ≡ set old.first.items c (f + m) → mid.end.items ≡ old.end.items → mid.marked.items ≡ set old.marked.items c 0
    → Begins mid new f (f + m) (f + m) → CutsClass old new c
cut-front old mid new c f m e h fit lc reads nf ne eo ep ec emf eme emm b =
    let bound = fit.marks_bound c lc in
    let lf : length mid.first.items ≡ length old.first.items = ap length emf ∙ length-set old.first.items c (f + m) in
    cut-class old new c (f + m) f (f + m) (f + m) e h fit lc (ap (λ (k : ℕ). k + m) reads.first ∙ ap (λ (k : ℕ). get_or old.first.items c 0 + k) reads.marked)
    (rw (← reads.first, ← reads.end) (halved-front f (f + m) e (omega arith) (omega arith)))
    (b.order ∙ eo) (b.place ∙ ep)
    (list-cut_set old.first.items new.first.items c (f + m) f lc (b.first ∙ ap (λ (l : List ℕ). l ++ f ∷ []) emf))
    (list-cut_same old.end.items new.end.items c e (f + m) (omega (arith, lc, h.end_length)) reads.end (b.end ∙ ap (λ (l : List ℕ). l ++ (f + m) ∷ []) eme))
    (list-cut_set old.marked.items new.marked.items c 0 0 (omega (arith, lc, fit.marks_length)) (b.marked ∙ ap (λ (l : List ℕ). l ++ zero ∷ []) emm))
    (b.class_length ∙ ap length ec)
    (λ q lq lo hi. b.inside q (rw ec lq) (rw ep lo) (rw ep hi) ∙ lf)
    (λ q lq out. b.outside q (rw ec lq) (λ lo hi. out (rw ep at lo) (rw ep at hi)) ∙ ap (λ (l : List ℕ). get_or l q 0) ec)

pub cut-back : (old mid new : Refinable) (c f m e : ℕ) → IsRefinable (length old.class.items) old.order.items old.place.items old.class.items old.first.items old.end.items → MarksFit old.first.items old.end.items old.marked.items
    → c < length old.first.items → IsReadAt old c f m e → (f ≡ f + m → ⊥) → (f + m ≡ e → ⊥)
    → mid.order.items ≡ old.order.items → mid.place.items ≡ old.place.items → mid.class.items ≡ old.class.items → mid.first.items ≡ old.first.items → mid.end.items ≡ set old.end.items c (f + m) → mid.marked.items ≡ set old.marked.items c 0
    → Begins mid new (f + m) e e → CutsClass old new c
cut-back old mid new c f m e h fit lc reads nf ne eo ep ec emf eme emm b =
    let bound = fit.marks_bound c lc in
    let lf : length mid.first.items ≡ length old.first.items = ap length emf in
    cut-class old new c (f + m) (f + m) e f (f + m) h fit lc (ap (λ (k : ℕ). k + m) reads.first ∙ ap (λ (k : ℕ). get_or old.first.items c 0 + k) reads.marked)
    (rw (← reads.first, ← reads.end) (halved-back f (f + m) e (omega arith) (omega arith)))
    (b.order ∙ eo) (b.place ∙ ep)
    (list-cut_same old.first.items new.first.items c f (f + m) lc reads.first (b.first ∙ ap (λ (l : List ℕ). l ++ (f + m) ∷ []) emf))
    (list-cut_set old.end.items new.end.items c (f + m) e (omega (arith, lc, h.end_length)) (b.end ∙ ap (λ (l : List ℕ). l ++ e ∷ []) eme))
    (list-cut_set old.marked.items new.marked.items c 0 0 (omega (arith, lc, fit.marks_length)) (b.marked ∙ ap (λ (l : List ℕ). l ++ zero ∷ []) emm))
    (b.class_length ∙ ap length ec)
    (λ q lq lo hi. b.inside q (rw ec lq) (rw ep lo) (rw ep hi) ∙ lf)
    (λ q lq out. b.outside q (rw ec lq) (λ lo hi. out (rw ep at lo) (rw ep at hi)) ∙ ap (λ (l : List ℕ). get_or l q 0) ec)
