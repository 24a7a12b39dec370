-- A state that changes places with the first unmarked one of its class.
use Rattle.std.proofs.Common.{◌≡◌, inl, inr, ℕ, ◌+◌, ◌<◌, ◌≤◌, List, Bool, true, false, ◌||◌, eqb, ltb, length, get_or, set, eq-eqb, refl, sym, ap, ◌∙◌, arith, get_or-set_same, get_or-set_other, length-set}
use Rattle.std.proofs.lemmas.Bool.{cases_eq, cases_lt}
use Rattle.dfa_core.proofs.Pigeons.{le_from_injection}
use Rattle.dfa_minimise.specs.Partitions.{IsRefinable, Marks, MarksFit, is_marked}
use Rattle.dfa_minimise.specs.declared.refinable.Refinable.{Refinable}

-- classes are at most as many as states
pub classes_few : (n : ℕ) (order place class first end : List ℕ) → IsRefinable n order place class first end → length first ≤ n
classes_few n order place class first end h =
    le_from_injection (λ c. get_or order (get_or first c 0) 0) (length first) n
    (λ c lc. let s = h.some c lc in let b = h.end_bound c lc in h.order_bound (get_or first c 0) (omega arith))
    (λ c d lc ld e. sym (h.class_order c (get_or first c 0) lc (omega arith) (h.some c lc)) ∙ (ap (λ (q : ℕ). get_or class q 0) e ∙ h.class_order d (get_or first d 0) ld (omega arith) (h.some d ld)))

same_tests : (i j k l : ℕ) → (i < j → k < l) → (k < l → i < j) → ltb i j ≡ ltb k l
same_tests i j k l f g = elim (cases_lt i j) [
  | inl lt ↦ let m = f lt in grind (arith, m, lt)
  | inr ge ↦ elim (cases_lt k l) [
    | inl lt ↦ let m = g lt in absurd (omega (arith, m, ge))
    | inr ge2 ↦ grind (arith, ge, ge2)
  ]
]

pub ltb_yes : (i j : ℕ) → i < j → ltb i j ≡ true
ltb_yes i j h = grind arith

pub ltb_not : (i j : ℕ) → j ≤ i → ltb i j ≡ false
ltb_not i j h = grind arith

pub eqb_not : (i j : ℕ) → (i ≡ j → ⊥) → eqb i j ≡ false
eqb_not i j h = go (eqb i j) refl
  where
    go : (b : Bool) → eqb i j ≡ b → b ≡ false
    go true e = absurd (h (grind (arith, e)))
    go false e = refl

pub or-true : (b : Bool) → (b || true) ≡ true
or-true true = refl
or-true false = refl

pub or-false : (b : Bool) → (b || false) ≡ b
or-false true = refl
or-false false = refl

module _ (n : ℕ) (order place class first end marked : List ℕ) (e to from other : ℕ) (h : IsRefinable n order place class first end) (f : MarksFit first end marked) (le : e < n)
    (is_to : to ≡ get_or first (get_or class e 0) 0 + get_or marked (get_or class e 0) 0) (is_from : from ≡ get_or place e 0) (early : to ≤ from) (is_other : other ≡ get_or order to 0) where
  c : ℕ
  c = get_or class e 0

  c_in : get_or class e 0 < length first
  c_in = h.class_bound e le

  from_end : from < get_or end (get_or class e 0) 0
  from_end = let b = h.class_end e le in omega arith

  from_in : from < n
  from_in = let b = h.end_bound (get_or class e 0) c_in in let s = from_end in omega arith

  to_in : to < n
  to_in = let b = from_in in omega arith

  other_in : other < n
  other_in = rw is_other (h.order_bound to to_in)

  order_from : get_or order from 0 ≡ e
  order_from = rw is_from (h.order_place e le)

  place_other : get_or place other 0 ≡ to
  place_other = rw is_other (h.place_order to to_in)

  other_class : get_or class other 0 ≡ get_or class e 0
  other_class = let s = from_end in rw is_other (h.class_order (get_or class e 0) to c_in (omega arith) (omega arith))

  abbrev order2 : List ℕ
  order2 = set (set order to e) from other

  abbrev place2 : List ℕ
  place2 = set (set place other from) e to

  order_at_from : get_or order2 from 0 ≡ other
  order_at_from = get_or-set_same (set order to e) from other 0 (let b = from_in in omega (arith, length-set order to e, h.order_length))

  order_at_to : get_or order2 to 0 ≡ e
  order_at_to = elim (cases_eq to from) [
    | inl same ↦ ap (λ (i : ℕ). get_or order2 i 0) same ∙ (order_at_from ∙ (is_other ∙ (ap (λ (i : ℕ). get_or order i 0) same ∙ order_from)))
    | inr ne ↦ get_or-set_other (set order to e) from to other 0 ne ∙ get_or-set_same order to e 0 (let b = to_in in omega (arith, h.order_length))
  ]

  order_else : (i : ℕ) → (i ≡ from → ⊥) → (i ≡ to → ⊥) → get_or order2 i 0 ≡ get_or order i 0
  order_else i nf nt = get_or-set_other (set order to e) from i other 0 nf ∙ get_or-set_other order to i e 0 nt

  place_at_e : get_or place2 e 0 ≡ to
  place_at_e = get_or-set_same (set place other from) e to 0 (omega (arith, length-set place other from, h.place_length, le))

  place_at_other : get_or place2 other 0 ≡ from
  place_at_other = elim (cases_eq other e) [
    | inl same ↦
        let t : to ≡ from = sym place_other ∙ (ap (λ (q : ℕ). get_or place q 0) same ∙ sym is_from) in
        ap (λ (q : ℕ). get_or place2 q 0) same ∙ (place_at_e ∙ t)
    | inr ne ↦ get_or-set_other (set place other from) e other to 0 ne ∙ get_or-set_same place other from 0 (let b = other_in in omega (arith, h.place_length))
  ]

  place_else : (q : ℕ) → (q ≡ e → ⊥) → (q ≡ other → ⊥) → get_or place2 q 0 ≡ get_or place q 0
  place_else q ne nq = get_or-set_other (set place other from) e q to 0 ne ∙ get_or-set_other place other q from 0 nq

  at_from : (q : ℕ) → q < n → get_or place q 0 ≡ from → q ≡ e
  at_from q lq is = sym (h.order_place q lq) ∙ (ap (λ (i : ℕ). get_or order i 0) is ∙ order_from)

  at_to : (q : ℕ) → q < n → get_or place q 0 ≡ to → q ≡ other
  at_to q lq is = sym (h.order_place q lq) ∙ (ap (λ (i : ℕ). get_or order i 0) is ∙ sym is_other)

  pub refinable-marked : IsRefinable n order2 place2 class first end
  refinable-marked = record {
    order_length = length-set (set order to e) from other ∙ (length-set order to e ∙ h.order_length);
    place_length = length-set (set place other from) e to ∙ (length-set place other from ∙ h.place_length);
    class_length = h.class_length;
    end_length = h.end_length;
    place_bound = λ q lq. elim (cases_eq q e) [
      | inl is ↦ rw (is, place_at_e) to_in
      | inr ne ↦ elim (cases_eq q other) [ inl is ↦ rw (is, place_at_other) from_in | inr nq ↦ rw (place_else q ne nq) (h.place_bound q lq) ]
    ];
    order_bound = λ i li. elim (cases_eq i from) [
      | inl is ↦ rw (is, order_at_from) other_in
      | inr nf ↦ elim (cases_eq i to) [ inl is ↦ rw (is, order_at_to) le | inr nt ↦ rw (order_else i nf nt) (h.order_bound i li) ]
    ];
    order_place = λ q lq. elim (cases_eq q e) [
      | inl is ↦ rw (is, place_at_e) order_at_to
      | inr ne ↦ elim (cases_eq q other) [
        | inl is ↦ rw (is, place_at_other) order_at_from
        | inr nq ↦ rw (place_else q ne nq) (order_else (get_or place q 0) (λ is. ne (at_from q lq is)) (λ is. nq (at_to q lq is)) ∙ h.order_place q lq)
      ]
    ];
    place_order = λ i li. elim (cases_eq i from) [
      | inl is ↦ rw (is, order_at_from) place_at_other
      | inr nf ↦ elim (cases_eq i to) [
        | inl is ↦ rw (is, order_at_to) place_at_e
        | inr nt ↦ rw (order_else i nf nt) (place_else (get_or order i 0)
            (λ is. nf (sym (h.place_order i li) ∙ (ap (λ (q : ℕ). get_or place q 0) is ∙ sym is_from)))
            (λ is. nt (sym (h.place_order i li) ∙ (ap (λ (q : ℕ). get_or place q 0) is ∙ place_other)))
            ∙ h.place_order i li)
      ]
    ];
    class_bound = h.class_bound;
    class_first = λ q lq. elim (cases_eq q e) [
      | inl is ↦ rw (is, place_at_e) (omega arith)
      | inr ne ↦ elim (cases_eq q other) [
        | inl is ↦ let b = h.class_first e le in rw (is, place_at_other, other_class) (omega arith)
        | inr nq ↦ rw (place_else q ne nq) (h.class_first q lq)
      ]
    ];
    class_end = λ q lq. elim (cases_eq q e) [
      | inl is ↦ let b = from_end in rw (is, place_at_e) (omega arith)
      | inr ne ↦ elim (cases_eq q other) [
        | inl is ↦ rw (is, place_at_other, other_class) from_end
        | inr nq ↦ rw (place_else q ne nq) (h.class_end q lq)
      ]
    ];
    some = h.some;
    end_bound = h.end_bound;
    class_order = λ d i ld lo hi. elim (cases_eq i from) [
      | inl is ↦ rw (is, order_at_from) (other_class ∙ (ap (λ (q : ℕ). get_or class q 0) (sym (ap (λ (j : ℕ). get_or order j 0) is ∙ order_from)) ∙ h.class_order d i ld lo hi))
      | inr nf ↦ elim (cases_eq i to) [
        | inl is ↦ rw (is, order_at_to) (sym other_class ∙ (ap (λ (q : ℕ). get_or class q 0) (is_other ∙ ap (λ (j : ℕ). get_or order j 0) (sym is)) ∙ h.class_order d i ld lo hi))
        | inr nt ↦ rw (order_else i nf nt) (h.class_order d i ld lo hi)
      ]
    ];
  }

  abbrev marked2 : List ℕ
  marked2 = set marked (get_or class e 0) (get_or marked (get_or class e 0) 0 + 1)

  marks_at : get_or marked2 (get_or class e 0) 0 ≡ get_or marked (get_or class e 0) 0 + 1
  marks_at = get_or-set_same marked (get_or class e 0) (get_or marked (get_or class e 0) 0 + 1) 0 (let b = c_in in omega (arith, f.marks_length))

  marks_else : (d : ℕ) → (d ≡ get_or class e 0 → ⊥) → get_or marked2 d 0 ≡ get_or marked d 0
  marks_else d ne = get_or-set_other marked (get_or class e 0) d (get_or marked (get_or class e 0) 0 + 1) 0 ne

  pub fit-marked : MarksFit first end marked2
  fit-marked = record {
    marks_length = length-set marked (get_or class e 0) (get_or marked (get_or class e 0) 0 + 1) ∙ f.marks_length;
    marks_bound = λ d ld. elim (cases_eq d (get_or class e 0)) [
      | inl is ↦ let b = from_end in rw (is, marks_at) (omega arith)
      | inr ne ↦ rw (marks_else d ne) (f.marks_bound d ld)
    ];
  }

  pub marks-marked : (q : ℕ) → q < n → is_marked place2 class first marked2 q ≡ (is_marked place class first marked q || eqb e q)
  marks-marked q lq = elim (cases_eq q e) [
    | inl is ↦ rw (is, place_at_e, marks_at, eq-eqb e e refl) (ltb_yes to (get_or first (get_or class e 0) 0 + (get_or marked (get_or class e 0) 0 + 1)) (omega arith) ∙ sym (or-true (is_marked place class first marked e)))
    | inr ne ↦ rw (eqb_not e q (λ is. ne (sym is)), or-false (is_marked place class first marked q)) (elim (cases_eq q other) [
      | inl is ↦
          let apart : to ≡ from → ⊥ = λ t. ne (is ∙ (is_other ∙ (ap (λ (i : ℕ). get_or order i 0) t ∙ order_from))) in
          rw (is, place_at_other, other_class, marks_at, place_other)
          (ltb_not from (get_or first (get_or class e 0) 0 + (get_or marked (get_or class e 0) 0 + 1)) (omega arith) ∙ sym (ltb_not to (get_or first (get_or class e 0) 0 + get_or marked (get_or class e 0) 0) (omega arith)))
      | inr nq ↦ rw (place_else q ne nq) (elim (cases_eq (get_or class q 0) (get_or class e 0)) [
        | inl same ↦
            let off : get_or place q 0 ≡ to → ⊥ = λ is. nq (at_to q lq is) in
            rw (same, marks_at) (same_tests (get_or place q 0) (get_or first (get_or class e 0) 0 + (get_or marked (get_or class e 0) 0 + 1)) (get_or place q 0) (get_or first (get_or class e 0) 0 + get_or marked (get_or class e 0) 0) (λ l. omega arith) (λ l. omega arith))
        | inr nc ↦ rw (marks_else (get_or class q 0) nc) refl
      ])
    ])
  ]

pub marked-state : (old new : Refinable) (n e c f m from other k : ℕ) → IsRefinable n old.order.items old.place.items old.class.items old.first.items old.end.items → MarksFit old.first.items old.end.items old.marked.items
    → e < n → c ≡ get_or old.class.items e 0 → f ≡ get_or old.first.items c 0 → m ≡ get_or old.marked.items c 0 → from ≡ get_or old.place.items e 0 → f + m ≤ from → other ≡ get_or old.order.items (f + m) 0 → k ≡ get_or old.marked.items c 0
    → new.order.items ≡ set (set old.order.items (f + m) e) from other → new.place.items ≡ set (set old.place.items other from) e (f + m)
    → new.class.items ≡ old.class.items → new.first.items ≡ old.first.items → new.end.items ≡ old.end.items → new.marked.items ≡ set old.marked.items c (k + 1) → Marks n old new e
marked-state old new n e c f m from other k h fit le ec ef em efrom early eother ek no_ np nc nf ne nm =
    let first = old.first.items in
    let marked = old.marked.items in
    let class = old.class.items in
    let is_to : f + m ≡ get_or first (get_or class e 0) 0 + get_or marked (get_or class e 0) 0 = omega (arith, ef, em, ap (λ (d : ℕ). get_or first d 0) ec, ap (λ (d : ℕ). get_or marked d 0) ec) in
    let is_k : k ≡ get_or marked (get_or class e 0) 0 = ek ∙ ap (λ (d : ℕ). get_or marked d 0) ec in
    let is_marked2 : new.marked.items ≡ set marked (get_or class e 0) (get_or marked (get_or class e 0) 0 + 1) = nm ∙ (ap (λ (d : ℕ). set marked d (k + 1)) ec ∙ ap (λ (j : ℕ). set marked (get_or class e 0) (j + 1)) is_k) in
    record {
      refinable = rw (no_, np) (refinable-marked n old.order.items old.place.items class first old.end.items marked e (f + m) from other h fit le is_to efrom early eother);
      class = nc;
      first = nf;
      end = ne;
      fit = rw is_marked2 (fit-marked n old.order.items old.place.items class first old.end.items marked e (f + m) from other h fit le is_to efrom early eother);
      marks = λ q lq. rw (is_marked2, np) (marks-marked n old.order.items old.place.items class first old.end.items marked e (f + m) from other h fit le is_to efrom early eother q lq);
    }
