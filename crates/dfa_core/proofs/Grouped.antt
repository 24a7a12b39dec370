-- Traces over symbols, and over the numbers of their columns.
use Rattle.std.proofs.Common.{◌≡◌, ◌⊎◌, inl, inr, ℕ, zero, suc, ◌+◌, ◌<◌, ◌≤◌, List, [], ◌∷◌, ◌++◌, Option, Some, None, MatchOption, map, length, replicate, get_or, set, refl, sym, ap, ◌∙◌, arith, get_or-set_same, get_or-set_other, length-set}
use Rattle.std.proofs.lemmas.List.{get_or_append_left, get_or_push, length_push, length-map, length-replicate}
use Rattle.std.proofs.lemmas.Bool.{cases_eq, cases_lt}
use Rattle.dfa_core.specs.Columns.{Columns, AreColumns}
use Rattle.dfa_core.specs.Grouping.{Adds, AreMet, IsGrouped, IsLeastOf, IsOfKnown, by_columns}
use Rattle.dfa_core.specs.Languages.{HasNoMember, IsLeastMember}
use Rattle.dfa_core.specs.Shortlex.{IsLexBefore, IsBefore, IsAtMost}
use Rattle.dfa_core.specs.Steps.{Steps, Accepts, run}
use Rattle.dfa_core.specs.Traces.{IsTrace}
use Rattle.dfa_core.specs.declared.columns.Grouping.{Grouping}
use Rattle.dfa_core.proofs.Places.{pushed}
use Rattle.dfa_core.proofs.Shortlex.{at_most_trans, before_total, not_before}

pub grouped-none : (c : Columns) → IsGrouped c 0 [] []
grouped-none c = record {
  of_length = refl;
  few = omega arith;
  of_bound = λ x lx. absurd (omega (arith, lx));
  least_bound = λ k lk. absurd (omega (arith, lk));
  least_of = λ k lk. absurd (omega (arith, lk));
  at_most = λ x lx. absurd (omega (arith, lx));
  ascending = λ i k lt lk. absurd (omega (arith, lk));
  apart = λ x lx. absurd (omega (arith, lx));
  together = λ x y lx ly e. absurd (omega (arith, lx));
}

nones : (n i : ℕ) → get_or {A = Option ℕ} (replicate n None) i None ≡ None
nones zero i = refl
nones (suc n) zero = refl
nones (suc n) (suc i) = nones n i

pub met-none : (c : Columns) (numbers : List (Option ℕ)) → numbers ≡ replicate c.count None → AreMet c 0 [] [] numbers
met-none c numbers e = rw e (record {
  numbers_length = length-replicate c.count None;
  numbered = λ x lx. absurd (omega (arith, lx));
  named = λ i k is. let no : None ≡ Some k = sym (nones c.count i) ∙ is in absurd (cc (no));
})

-- one symbol more
module _ (c : Columns) (n : ℕ) (of least : List ℕ) (numbers : List (Option ℕ)) (h : IsGrouped c n of least) (m : AreMet c n of least numbers) where
  -- of a column that was met
  grouped-known : (k : ℕ) → get_or numbers (c.of n) None ≡ Some k → IsGrouped c (n + 1) (of ++ k ∷ []) least × AreMet c (n + 1) (of ++ k ∷ []) least numbers
  grouped-known k has = (
    record {
      of_length = omega (arith, length_push of k, fl);
      few = omega (arith, h.few);
      of_bound = λ x lx. elim (pushed of k 0 x n fl (omega arith)) [ inl p ↦ rw p.1 (h.of_bound x p.0) | inr p ↦ rw p.1 name.0 ];
      least_bound = λ j lj. let b = h.least_bound j lj in omega arith;
      least_of = λ j lj. get_or_append_left of (k ∷ []) 0 (get_or least j 0) (omega (arith, fl, h.least_bound j lj)) ∙ h.least_of j lj;
      at_most = λ x lx. elim (pushed of k 0 x n fl (omega arith)) [
        | inl p ↦ rw p.1 (h.at_most x p.0)
        | inr p ↦ let b = h.least_bound k name.0 in rw p.1 (omega (arith, p.0))
      ];
      ascending = h.ascending;
      apart = λ x lx. elim (pushed of k 0 x n fl (omega arith)) [ inl p ↦ rw p.1 (h.apart x p.0) | inr p ↦ rw (p.1, p.0) name.1 ];
      together = λ x y lx ly e. elim (pushed of k 0 x n fl (omega arith)) [
        | inl p ↦ elim (pushed of k 0 y n fl (omega arith)) [
          | inl q ↦ p.1 ∙ (h.together x y p.0 q.0 e ∙ sym q.1)
          | inr q ↦ p.1 ∙ (met x p.0 (e ∙ ap c.of q.0) ∙ sym q.1)
        ]
        | inr p ↦ elim (pushed of k 0 y n fl (omega arith)) [
          | inl q ↦ p.1 ∙ (sym (met y q.0 (sym e ∙ ap c.of p.0)) ∙ sym q.1)
          | inr q ↦ p.1 ∙ sym q.1
        ]
      ];
    },
    record {
      numbers_length = m.numbers_length;
      numbered = λ x lx. elim (pushed of k 0 x n fl (omega arith)) [ inl p ↦ rw p.1 (m.numbered x p.0) | inr p ↦ rw (p.1, p.0) has ];
      named = m.named;
    },
  )
    where
      fl : length of ≡ n
      fl = h.of_length

      name : (k < length least) × (c.of (get_or least k 0) ≡ c.of n)
      name = m.named (c.of n) k has

      met : (x : ℕ) → x < n → c.of x ≡ c.of n → get_or of x 0 ≡ k
      met x lx e = let is : Some (get_or of x 0) ≡ Some k = sym (m.numbered x lx) ∙ (ap (λ (i : ℕ). get_or numbers i None) e ∙ has) in cc

  -- of another column
  grouped-new : c.of n < c.count → get_or numbers (c.of n) None ≡ None
      → IsGrouped c (n + 1) (of ++ length least ∷ []) (least ++ n ∷ []) × AreMet c (n + 1) (of ++ length least ∷ []) (least ++ n ∷ []) (set numbers (c.of n) (Some (length least)))
  grouped-new low none = (
    record {
      of_length = omega (arith, length_push of d, fl);
      few = omega (arith, h.few, grow);
      of_bound = λ x lx. elim (pushed of d 0 x n fl (omega arith)) [ inl p ↦ let b = h.of_bound x p.0 in rw p.1 (omega (arith, grow)) | inr p ↦ rw p.1 (omega (arith, grow)) ];
      least_bound = λ j lj. elim (pushed least n 0 j d refl (omega (arith, grow, lj))) [ inl p ↦ let b = h.least_bound j p.0 in rw p.1 (omega arith) | inr p ↦ rw p.1 (omega arith) ];
      least_of = λ j lj. elim (pushed least n 0 j d refl (omega (arith, grow, lj))) [
        | inl p ↦ rw p.1 (get_or_append_left of (d ∷ []) 0 (get_or least j 0) (omega (arith, fl, h.least_bound j p.0)) ∙ h.least_of j p.0)
        | inr p ↦ rw p.1 (get_or_push of d 0 n fl ∙ sym p.0)
      ];
      at_most = λ x lx. elim (pushed of d 0 x n fl (omega arith)) [
        | inl p ↦ rw (p.1, get_or_append_left least (n ∷ []) 0 (get_or of x 0) (h.of_bound x p.0)) (h.at_most x p.0)
        | inr p ↦ rw (p.1, get_or_push least n 0 d refl) (omega (arith, p.0))
      ];
      ascending = λ i j lt lj. elim (pushed least n 0 j d refl (omega (arith, grow, lj))) [
        | inl p ↦ rw (p.1, get_or_append_left least (n ∷ []) 0 i (omega (arith, lt, p.0))) (h.ascending i j lt p.0)
        | inr p ↦ rw (p.1, get_or_append_left least (n ∷ []) 0 i (omega (arith, lt, p.0))) (h.least_bound i (omega (arith, lt, p.0)))
      ];
      apart = λ x lx. elim (pushed of d 0 x n fl (omega arith)) [
        | inl p ↦ rw (p.1, get_or_append_left least (n ∷ []) 0 (get_or of x 0) (h.of_bound x p.0)) (h.apart x p.0)
        | inr p ↦ rw (p.1, get_or_push least n 0 d refl, p.0) refl
      ];
      together = λ x y lx ly e. elim (pushed of d 0 x n fl (omega arith)) [
        | inl p ↦ elim (pushed of d 0 y n fl (omega arith)) [
          | inl q ↦ p.1 ∙ (h.together x y p.0 q.0 e ∙ sym q.1)
          | inr q ↦ absurd (fresh x p.0 (e ∙ ap c.of q.0))
        ]
        | inr p ↦ elim (pushed of d 0 y n fl (omega arith)) [
          | inl q ↦ absurd (fresh y q.0 (sym e ∙ ap c.of p.0))
          | inr q ↦ p.1 ∙ sym q.1
        ]
      ];
    },
    record {
      numbers_length = length-set numbers (c.of n) (Some d) ∙ m.numbers_length;
      numbered = λ x lx. elim (pushed of d 0 x n fl (omega arith)) [
        | inl p ↦ rw p.1 (get_or-set_other numbers (c.of n) (c.of x) (Some d) None (fresh x p.0) ∙ m.numbered x p.0)
        | inr p ↦ rw (p.1, p.0) (get_or-set_same numbers (c.of n) (Some d) None there)
      ];
      named = λ i k e. elim (cases_eq i (c.of n)) [
        | inl same ↦
            let is : Some d ≡ Some k = sym (get_or-set_same numbers (c.of n) (Some d) None there) ∙ (rw same at e) in
            let z : d ≡ k = cc in
            (omega (arith, grow, z), ap c.of (get_or_push least n 0 k z) ∙ sym same)
        | inr ne ↦
            let was = m.named i k (sym (get_or-set_other numbers (c.of n) i (Some d) None ne) ∙ e) in
            (omega (arith, grow, was.0), ap c.of (get_or_append_left least (n ∷ []) 0 k was.0) ∙ was.1)
      ];
    },
  )
    where
      d : ℕ
      d = length least

      fl : length of ≡ n
      fl = h.of_length

      grow : length (least ++ n ∷ []) ≡ length least + 1
      grow = length_push least n

      there : c.of n < length numbers
      there = omega (arith, low, m.numbers_length)

      fresh : (x : ℕ) → x < n → c.of x ≡ c.of n → ⊥
      fresh x lx e = let is : Some (get_or of x 0) ≡ None = sym (m.numbered x lx) ∙ (ap (λ (i : ℕ). get_or numbers i None) e ∙ none) in cc

pub grouped-more : (c : Columns) (old new : Grouping) (x i : ℕ) → i ≡ c.of x → c.of x < c.count → IsGrouped c x old.of.items old.least.items → AreMet c x old.of.items old.least.items old.numbers.items
    → Adds old new x i → IsGrouped c (x + 1) new.of.items new.least.items × AreMet c (x + 1) new.of.items new.least.items new.numbers.items
grouped-more c old new x i is low h m adds = go (get_or old.numbers.items (c.of x) None) refl (rw is at adds)
  where
    go : (o : Option ℕ) → get_or old.numbers.items (c.of x) None ≡ o → MatchOption o (IsLeastOf old new x (c.of x)) (λ number. IsOfKnown old new number)
        → IsGrouped c (x + 1) new.of.items new.least.items × AreMet c (x + 1) new.of.items new.least.items new.numbers.items
    go None e a = rw (a.of, a.least, a.numbers) (grouped-new c x old.of.items old.least.items old.numbers.items h m low e)
    go (Some number) e a = rw (a.of, a.least, a.numbers) (grouped-known c x old.of.items old.least.items old.numbers.items h m number e)

module _ (s : Steps) (c : Columns) (of least : List ℕ) (h : IsGrouped c s.symbols of least) (are : AreColumns s c) where
  abbrev pub numbers : List ℕ → List ℕ
  numbers w = map (λ x. get_or of x 0) w

  abbrev pub symbols : List ℕ → List ℕ
  symbols u = map (λ k. get_or least k 0) u

  pub over-numbers : (w : List ℕ) → IsTrace s.symbols w → IsTrace (length least) (numbers w)
  over-numbers [] t = tt
  over-numbers (x ∷ w) t = (h.of_bound x t.0, over-numbers w t.1)

  pub over-symbols : (u : List ℕ) → IsTrace (length least) u → IsTrace s.symbols (symbols u)
  over-symbols [] t = tt
  over-symbols (k ∷ u) t = (h.least_bound k t.0, over-symbols u t.1)

  pub run-numbers : (q : ℕ) (w : List ℕ) → IsTrace s.symbols w → run (by_columns s least) q (numbers w) ≡ run s q w
  run-numbers q [] t = refl
  run-numbers q (x ∷ w) t =
      let lk = h.of_bound x t.0 in
      run-numbers (s.next q (get_or least (get_or of x 0) 0)) w t.1 ∙ ap (λ p. run s p w) (are.alike q (get_or least (get_or of x 0) 0) x (h.least_bound (get_or of x 0) lk) t.0 (h.apart x t.0))

  pub run-symbols : (q : ℕ) (u : List ℕ) → run s q (symbols u) ≡ run (by_columns s least) q u
  run-symbols q [] = refl
  run-symbols q (k ∷ u) = run-symbols (s.next q (get_or least k 0)) u

  lex-symbols : (u v : List ℕ) → IsTrace (length least) v → IsLexBefore u v → IsLexBefore (symbols u) (symbols v)
  lex-symbols [] v t l = absurd l
  lex-symbols (i ∷ u) [] t l = absurd l
  lex-symbols (i ∷ u) (k ∷ v) t l = go (lex-symbols u v t.1) l
    where
      go : (IsLexBefore u v → IsLexBefore (symbols u) (symbols v)) → (i < k) ⊎ ((i ≡ k) × IsLexBefore u v) → (get_or least i 0 < get_or least k 0) ⊎ ((get_or least i 0 ≡ get_or least k 0) × IsLexBefore (symbols u) (symbols v))
      go ih (inl lt) = inl (h.ascending i k lt t.0)
      go ih (inr p) = inr (ap (λ (j : ℕ). get_or least j 0) p.0, ih p.1)

  -- the order of columns is that of their least symbols
  pub before-symbols : (u v : List ℕ) → IsTrace (length least) v → IsBefore u v → IsBefore (symbols u) (symbols v)
  before-symbols u v t (inl lt) = inl (omega (arith, length-map u (λ k. get_or least k 0), length-map v (λ k. get_or least k 0), lt))
  before-symbols u v t (inr p) = inr (omega (arith, length-map u (λ k. get_or least k 0), length-map v (λ k. get_or least k 0), p.0), lex-symbols u v t p.1)

  lex-least : (w : List ℕ) → IsTrace s.symbols w → (symbols (numbers w) ≡ w) ⊎ IsLexBefore (symbols (numbers w)) w
  lex-least [] t = inl refl
  lex-least (x ∷ w) t = go (lex-least w t.1) (cases_lt (get_or least (get_or of x 0) 0) x)
    where
      go : (symbols (numbers w) ≡ w) ⊎ IsLexBefore (symbols (numbers w)) w → (get_or least (get_or of x 0) 0 < x) ⊎ (x ≤ get_or least (get_or of x 0) 0)
          → (symbols (numbers (x ∷ w)) ≡ x ∷ w) ⊎ IsLexBefore (symbols (numbers (x ∷ w))) (x ∷ w)
      go ih (inl lt) = inr (inl lt)
      go (inl e) (inr ge) = let same : get_or least (get_or of x 0) 0 ≡ x = omega (arith, ge, h.at_most x t.0) in inl cc
      go (inr l) (inr ge) = inr (inr (omega (arith, ge, h.at_most x t.0), l))

  -- of the traces that go through some columns, that of the least symbols is the least
  pub at_most-numbers : (u w : List ℕ) → IsTrace s.symbols w → IsAtMost u (numbers w) → IsAtMost (symbols u) w
  at_most-numbers u w t le =
      let long = length-map (numbers w) (λ k. get_or least k 0) in
      let long2 = length-map w (λ x. get_or of x 0) in
      at_most_trans (symbols u) (symbols (numbers w)) w
      (elim le [ inl e ↦ inl (ap symbols e) | inr b ↦ inr (before-symbols u (numbers w) (over-numbers w t) b) ])
      (elim (lex-least w t) [ inl e ↦ inl e | inr l ↦ inr (inr (omega (arith, long, long2), l)) ])

  pub least-symbols : (u : List ℕ) → IsLeastMember (length least) (Accepts (by_columns s least)) u → IsLeastMember s.symbols (Accepts s) (symbols u)
  least-symbols u l = record {
    over = over-symbols u l.over;
    member = ap s.accepting (run-symbols s.start u) ∙ l.member;
    none_before = λ w t is b. not_before (symbols u) w
        (at_most-numbers u w t (elim (before_total u (numbers w)) [
          | inl e ↦ inl e
          | inr (inl less) ↦ inr less
          | inr (inr more) ↦ absurd (l.none_before (numbers w) (over-numbers w t) (ap s.accepting (run-numbers s.start w t) ∙ is) more)
        ]))
        b;
  }

  pub none-symbols : HasNoMember (length least) (Accepts (by_columns s least)) → HasNoMember s.symbols (Accepts s)
  none-symbols none w t is = none (numbers w) (over-numbers w t) (ap s.accepting (run-numbers s.start w t) ∙ is)
