-- The columns in groups, which are split until two of one group lead alike.
use Rattle.std.proofs.Common.{◌≡◌, ◌≢◌, inl, inr, ℕ, ◌+◌, ◌<◌, ◌≤◌, List, [], ◌∷◌, ◌++◌, true, false, ◌&&◌, eqb, ltb, length, get_or, refl, sym, ap, ◌∙◌, arith, eq-eqb}
use Rattle.std.proofs.lemmas.Bool.{cases_eq, cases_lt}
use Rattle.std.proofs.lemmas.List.{length-map}
use Rattle.dfa_core.specs.Automaton.{Automaton, state_count}
use Rattle.dfa_core.proofs.Pigeons.{TakesNoneTwice, le_from_injection}
use Rattle.dfa_core.proofs.Places.{pushed}
use Rattle.dfa_minimise.specs.Classes.{AreAlike, IsAstray, IsEquivalence, LeadInto, class_after, first_beside}
use Rattle.dfa_minimise.specs.Partitions.{IsCut, IsPartition, IsTidy, is_in, members_of}
use Rattle.dfa_minimise.specs.declared.refinable.Refinable.{Refinable}
use Rattle.dfa_minimise.proofs.Marking.{eqb_not, ltb_not, ltb_yes, or-false, or-true}
use Rattle.dfa_minimise.proofs.Progress.{AreGroupedBelow}
use Rattle.dfa_minimise.proofs.Splitting.{is_in-push}
use Rattle.dfa_minimise.proofs.Wholes.{partition-tidy}

ltb-more : (k n : ℕ) → k ≢ n → ltb k (n + 1) ≡ ltb k n
ltb-more k n ne = elim (cases_lt k n) [ inl lt ↦ ltb_yes k (n + 1) (omega arith) ∙ sym (ltb_yes k n lt) | inr ge ↦ ltb_not k (n + 1) (omega arith) ∙ sym (ltb_not k n ge) ]

-- one column more, which leads to a class or doesn't
module _ (leads : ℕ → ℕ) (n c : ℕ) (columns : List ℕ) (are : (k : ℕ) → is_in columns k ≡ (ltb k n && eqb (leads k) c)) where
  pub leading-one : leads n ≡ c → (k : ℕ) → is_in (columns ++ n ∷ []) k ≡ (ltb k (n + 1) && eqb (leads k) c)
  leading-one here k = is_in-push columns n k ∙ elim (cases_eq k n) [
    | inl same ↦ rw (same, eq-eqb n n refl, or-true (is_in columns n), ltb_yes n (n + 1) (omega arith), here, eq-eqb c c refl) refl
    | inr ne ↦ rw (eqb_not n k (λ e. ne (sym e)), or-false (is_in columns k), ltb-more k n ne) (are k)
  ]

  pub leading-other : leads n ≢ c → (k : ℕ) → is_in columns k ≡ (ltb k (n + 1) && eqb (leads k) c)
  leading-other other k = elim (cases_eq k n) [
    | inl same ↦ rw (same, eqb_not (leads n) c other, ltb_yes n (n + 1) (omega arith)) (are n ∙ rw (ltb_not n n (omega arith)) refl)
    | inr ne ↦ rw (ltb-more k n ne) (are k)
  ]

-- Groups are split by where their columns lead from a state.
module _ (a : Automaton) (class : List ℕ) (old new : Refinable) (q c : ℕ) (touched : List ℕ) (lq : q < state_count a) (into : LeadInto a class q c touched) (tidy : IsTidy new)
    (known : length old.class.items ≡ a.width) (kept : length new.class.items ≡ length old.class.items)
    (cut : IsCut (length old.class.items) (length old.first.items) touched old.class.items new.class.items) where
  low : (k : ℕ) → k < a.width → k < length old.class.items
  low k lk = omega (arith, known, lk)

  pub grouped-split : (members : List ℕ) (count : ℕ) → AreGroupedBelow a class members old count → AreGroupedBelow a class members new count
  grouped-split members count h = record {
    tidy = tidy;
    columns = λ some. kept ∙ known;
    alike = λ d j k ld lj lk e. h.alike d j k ld lj lk (cut.refines j k (low j lj) (low k lk) e);
    one = λ j k lj lk al. elim (cases_eq (get_or new.class.items j 0) (get_or new.class.items k 0)) [
      | inl e ↦ e
      | inr ne ↦ absurd (cut.parts j k (low j lj) (low k lk) (h.one j k lj lk al) ne (into.are j lj ∙ (ap (λ d. eqb d c) (al.alike q lq) ∙ sym (into.are k lk))))
    ];
  }

  -- there is a group more
  pub more-groups : (k : ℕ) → IsTidy old → IsAstray a class old q k → c ≡ class_after a class q k → length old.first.items < length new.first.items
  more-groups k t astray is =
      let p = partition-tidy old t in
      let len : length (members_of old) ≡ length old.first.items = length-map old.first.items (λ f. get_or old.order.items f 0) in
      let lk = low k astray.bound in
      let g = get_or old.class.items k 0 in
      let lg = p.class_bound k lk in
      let m = first_beside old k in
      let lm : m < length old.class.items = p.member_bound g lg in
      let together : get_or old.class.items m 0 ≡ g = p.member_class g lg in
      let leads : is_in touched k ≡ true = into.are k astray.bound ∙ eq-eqb (class_after a class q k) c (sym is) in
      let other : is_in touched m ≡ false = into.are m (omega (arith, known, lm)) ∙ eqb_not (class_after a class q m) c (λ e. astray.apart (sym is ∙ sym e)) in
      elim (cases_lt (length old.first.items) (length new.first.items)) [
        | inl lt ↦ lt
        | inr few ↦
            let stay : (j : ℕ) → j < length old.class.items → get_or new.class.items j 0 ≡ get_or old.class.items j 0 = λ j lj.
            let b = tidy.refinable.class_bound j (omega (arith, kept, lj)) in cut.stays j lj (omega (arith, b, few)) in
            let e : is_in touched k ≡ is_in touched m = cut.together k m lk lm (stay k lk ∙ (sym together ∙ sym (stay m lm))) in
            let no : true ≡ false = sym leads ∙ (e ∙ other) in
            absurd (cc (no))
      ]

-- with as many groups as columns, each is alone
pub each-alone : (n : ℕ) (class members : List ℕ) → IsPartition n class members → n ≤ length members → (j k : ℕ) → j < n → k < n → get_or class j 0 ≡ get_or class k 0 → j ≡ k
each-alone n class members p few j k lj lk e = elim (cases_eq j k) [
  | inl same ↦ same
  | inr ne ↦ absurd (elim (cases_eq (get_or members (get_or class j 0) 0) j) [
    | inl is ↦ crowded k lk (λ z. ne (sym is ∙ (ap (λ g. get_or members g 0) e ∙ z)))
    | inr other ↦ crowded j lj other
  ])
]
  where
    -- one that doesn't stand first in its group is one too many
    crowded : (o : ℕ) → o < n → get_or members (get_or class o 0) 0 ≢ o → ⊥
    crowded o lo other =
        let count = length members in
        let of : ℕ → ℕ = λ i. get_or (members ++ o ∷ []) i 0 in
        let bound : (i : ℕ) → i < count + 1 → of i < n = λ i li. elim (pushed members o 0 i count refl (omega arith)) [ inl q ↦ rw q.1 (p.member_bound i q.0) | inr q ↦ rw q.1 lo ] in
        let first : (i : ℕ) → i < count → get_or members i 0 ≡ o → ⊥ = λ i li z.
        other (ap (λ g. get_or members g 0) (sym (ap (λ s. get_or class s 0) z) ∙ p.member_class i li) ∙ z) in
        let once : TakesNoneTwice of (count + 1) = λ i l li ll z. elim (pushed members o 0 i count refl (omega arith)) [
          | inl q ↦ elim (pushed members o 0 l count refl (omega arith)) [
            | inl r ↦ sym (p.member_class i q.0) ∙ (ap (λ s. get_or class s 0) (sym q.1 ∙ (z ∙ r.1)) ∙ p.member_class l r.0)
            | inr r ↦ absurd (first i q.0 (sym q.1 ∙ (z ∙ r.1)))
          ]
          | inr q ↦ elim (pushed members o 0 l count refl (omega arith)) [
            | inl r ↦ absurd (first l r.0 (sym r.1 ∙ (sym z ∙ q.1)))
            | inr r ↦ q.0 ∙ sym r.0
          ]
        ] in
        let le = le_from_injection of (count + 1) n bound once in
        omega (arith, le, few)

-- with all classes looked at, columns of one group lead alike from each state
pub alike-all : (a : Automaton) (class members : List ℕ) (groups : Refinable) (count : ℕ) → IsEquivalence a class members → length members ≤ count → AreGroupedBelow a class members groups count → AreAlike a class groups
alike-all a class members groups count h all g = record {
  tidy = g.tidy;
  columns = g.columns;
  alike = λ j k lj lk e. record {
    alike = λ q lq.
        let p = h.partition in
        let c = get_or class q 0 in
        let lc = p.class_bound q lq in
        let m = get_or members c 0 in
        let lm = p.member_bound c lc in
        let same : get_or class m 0 ≡ c = p.member_class c lc in
        sym (h.stable m q j lm lq lj same) ∙ (g.alike c j k (omega (arith, lc, all)) lj lk e ∙ h.stable m q k lm lq lk same);
  };
  one = g.one;
}

-- so they do where no group has two
pub alike-alone : (a : Automaton) (class members : List ℕ) (groups : Refinable) (count : ℕ) → a.width ≤ length groups.first.items → AreGroupedBelow a class members groups count → AreAlike a class groups
alike-alone a class members groups count many g = record {
  tidy = g.tidy;
  columns = g.columns;
  alike = λ j k lj lk e.
      let p = partition-tidy groups g.tidy in
      let len : length (members_of groups) ≡ length groups.first.items = length-map groups.first.items (λ f. get_or groups.order.items f 0) in
      let known : length groups.class.items ≡ a.width = g.columns (omega arith) in
      let same : j ≡ k = each-alone (length groups.class.items) groups.class.items (members_of groups) p (omega (arith, len, known, many)) j k (omega (arith, known, lj)) (omega (arith, known, lk)) e in
      rw same (record { alike = λ q lq. refl });
  one = g.one;
}
