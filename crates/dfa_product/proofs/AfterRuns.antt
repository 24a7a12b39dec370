-- The automaton of the traces after a given one accepts those that stand after it.
use Rattle.std.proofs.Common.{◌≡◌, ◌↔◌, ◌⊎◌, ℕ, zero, suc, ◌+◌, ◌*◌, ◌/◌, ◌%◌, ◌<◌, ◌≤◌, inl, inr, List, [], ◌∷◌, length, drop, get_or, Option, Some, None, Bool, true, false, ◌&&◌, eqb, ltb, if◌then◌else◌, refl, sym, ap, ◌∙◌, arith, add-one, drop-cons}
use Rattle.std.specs.Bool.{⊤}
use Rattle.std.proofs.lemmas.Bool.{and_parts, and_from, cases_lt, eqb-false, eqb-true, le-ltb, lt-ltb, ltb-false, ltb-true}
use Rattle.std.proofs.lemmas.Nat.{div-mul-add, mod-mul-add}
use Rattle.dfa_core.specs.Automaton.{Automaton, Accepts as AcceptedBy, steps_of}
use Rattle.dfa_core.specs.Columns.{AreColumns}
use Rattle.dfa_core.specs.Languages.{IsLeastIfAny}
use Rattle.dfa_core.specs.Shortlex.{IsBefore, IsLexBefore}
use Rattle.dfa_core.specs.Steps.{Steps, Accepts, accepts, run}
use Rattle.dfa_core.specs.Traces.{IsTrace}
use Rattle.dfa_product.proofs.Pairing.{IsClosed, accepts-pairs}
use Rattle.dfa_product.specs.AfterSteps.{after_steps, side, side_columns, sides, standing}
use Rattle.dfa_product.specs.SideBySide.{pairs}

-- ---- sides

side-bound : (y x : ℕ) → side y x < 3
unfolding side
side-bound y x = go (ltb x y) (eqb x y)
  where
    go : (less same : Bool) → (if less then 0 else (if same then 1 else 2)) < 3
    go true same = omega arith
    go false true = omega arith
    go false false = omega arith

side-grows : (y x z : ℕ) → x ≤ z → side y x ≤ side y z
unfolding side
side-grows y x z le = go (ltb x y) (eqb x y) (ltb z y) (eqb z y) refl refl refl refl
  where
    go : (i j k l : Bool) → ltb x y ≡ i → eqb x y ≡ j → ltb z y ≡ k → eqb z y ≡ l → (if i then 0 else (if j then 1 else 2)) ≤ (if k then 0 else (if l then 1 else 2))
    go true j k l ei ej ek el = omega arith
    go false j true l ei ej ek el = let ge = ltb-false x y ei in let lt = ltb-true z y ek in absurd (omega (arith, ge, lt, le))
    go false true false true ei ej ek el = omega arith
    go false true false false ei ej ek el = omega arith
    go false false false true ei ej ek el =
        let ge = ltb-false x y ei in
        let same = eqb-true z y el in
        let e : x ≡ y = omega (arith, ge, same, le) in absurd (eqb-false x y ej e)
    go false false false false ei ej ek el = omega arith

sides-bound : (t : List ℕ) (x : ℕ) → sides t x < length t * 2 + 1
sides-bound [] x = omega arith
sides-bound (y ∷ t) x = let b = side-bound y x in let ih = sides-bound t x in omega (arith, b, ih)

sides-grow : (t : List ℕ) (x z : ℕ) → x ≤ z → sides t x ≤ sides t z
sides-grow [] x z le = omega arith
sides-grow (y ∷ t) x z le = let b = side-grows y x z le in let ih = sides-grow t x z le in omega (arith, b, ih)

-- equal sums have equal sides
same_side-up : (t : List ℕ) (x z : ℕ) → x ≤ z → sides t x ≡ sides t z → (k : ℕ) → k < length t → side (get_or t k 0) x ≡ side (get_or t k 0) z
same_side-up [] x z le e k lt = absurd (omega (arith, lt))
same_side-up (y ∷ t) x z le e zero lt = let b = side-grows y x z le in let g = sides-grow t x z le in omega (arith, b, g, e)
same_side-up (y ∷ t) x z le e (suc k) lt =
    let b = side-grows y x z le in
    let g = sides-grow t x z le in same_side-up t x z le (omega (arith, b, g, e)) k (omega (arith, lt))

same_side : (t : List ℕ) (x z : ℕ) → sides t x ≡ sides t z → (k : ℕ) → k < length t → side (get_or t k 0) x ≡ side (get_or t k 0) z
same_side t x z e k lt = elim (cases_lt x z) [
  | inl less ↦ same_side-up t x z (omega (arith, less)) e k lt
  | inr ge ↦ sym (same_side-up t z x ge (sym e) k lt)
]

pub columns-after : (n : ℕ) (t : List ℕ) → AreColumns (after_steps n t) (side_columns t)
columns-after n t = record {
  bound = λ x lx. sides-bound t x;
  alike = λ q x z lx lz e. go q x z e (ltb (q / 3) (length t)) refl;
}
  where
    go : (q x z : ℕ) → sides t x ≡ sides t z → (within : Bool) → ltb (q / 3) (length t) ≡ within
        → (if within then (q / 3 + 1) * 3 + standing (q % 3) (get_or t (q / 3) 0) x else length t * 3 + 3) ≡ (if within then (q / 3 + 1) * 3 + standing (q % 3) (get_or t (q / 3) 0) z else length t * 3 + 3)
    go q x z e true within = rw (same_side t x z e (q / 3) (ltb-true (q / 3) (length t) within)) refl
    go q x z e false within = refl

-- ---- runs

-- what is left stands after the rest of the given trace, where both are of one length
abbrev IsAhead : ℕ → List ℕ → List ℕ → Type 0
IsAhead zero rest w = ⊥
IsAhead (suc zero) rest w = IsLexBefore rest w
IsAhead (suc (suc m)) rest w = ⊤

ahead-same : (y x : ℕ) (r w : List ℕ) → IsAhead 1 (y ∷ r) (x ∷ w) ↔ IsAhead (side y x) r w
unfolding side
ahead-same y x r w = go (ltb x y) (eqb x y) refl refl
  where
    go : (less same : Bool) → ltb x y ≡ less → eqb x y ≡ same → ((y < x) ⊎ ((y ≡ x) × IsLexBefore r w)) ↔ IsAhead (if less then 0 else (if same then 1 else 2)) r w
    go true same e f = let lt = ltb-true x y e in (λ h. elim h [ inl more ↦ omega (arith, more, lt) | inr p ↦ (let e_ = p.0 in omega (arith, e_, lt)) ], λ h. absurd h)
    go false true e f = let same = eqb-true x y f in (λ h. elim h [ inl more ↦ absurd (omega (arith, more, same)) | inr p ↦ p.1 ], λ h. inr (sym same, h))
    go false false e f = let ge = ltb-false x y e in (λ h. tt, λ h. elim (cases_lt y x) [ inl lt ↦ inl lt | inr le ↦ (let e_ : x ≡ y = omega (arith, ge, le) in absurd (eqb-false x y f e_)) ])

ahead-step : (m y x : ℕ) (r w : List ℕ) → m < 3 → IsAhead m (y ∷ r) (x ∷ w) ↔ IsAhead (standing m y x) r w
ahead-step zero y x r w lt = (λ h. h, λ h. h)
ahead-step (suc zero) y x r w lt = ahead-same y x r w
ahead-step (suc (suc zero)) y x r w lt = (λ h. tt, λ h. tt)
ahead-step (suc (suc (suc m))) y x r w lt = absurd (omega (arith, lt))

standing-bound : (m y x : ℕ) → m < 3 → standing m y x < 3
standing-bound m y x lt = go (eqb m 1)
  where
    go : (same : Bool) → (if same then side y x else m) < 3
    go true = side-bound y x
    go false = lt

module _ (n : ℕ) (t : List ℕ) where
  abbrev s : Steps
  s = after_steps n t

  accepted-at : (q : ℕ) → (s.accepting q ≡ true) ↔ (length t * 3 + 1 < q)
  accepted-at q = (λ h. ltb-true (length t * 3 + 1) q h, λ h. lt-ltb (length t * 3 + 1) q h)

  next-end : (q x : ℕ) → length t ≤ q / 3 → s.next q x ≡ length t * 3 + 3
  next-end q x le = rw (le-ltb (q / 3) (length t) le) refl

  next-within : (k m x : ℕ) → m < 3 → k < length t → s.next (k * 3 + m) x ≡ (k + 1) * 3 + standing m (get_or t k 0) x
  next-within k m x lt within = rw (div-mul-add k 3 m lt, mod-mul-add k 3 m lt, lt-ltb k (length t) within) refl

  longer : (w : List ℕ) → run s (length t * 3 + 3) w ≡ length t * 3 + 3
  longer [] = refl
  longer (x ∷ w) = rw (next-end (length t * 3 + 3) x (omega arith)) (longer w)

  abbrev Stands : ℕ → List ℕ → List ℕ → Type 0
  Stands m rest w = (length rest < length w) ⊎ ((length rest ≡ length w) × IsAhead m rest w)

  stands : (w rest : List ℕ) (k m : ℕ) → m < 3 → k + length rest ≡ length t → drop k t ≡ rest → (s.accepting (run s (k * 3 + m) w) ≡ true) ↔ Stands m rest w
  stands [] [] k zero lt e d = (
    λ h. (let more = (accepted-at (k * 3 + 0)).0 h in absurd (omega (arith, e, more))),
    λ h. elim h [ inl less ↦ absurd (omega (arith, less)) | inr p ↦ absurd p.1 ],
  )
  stands [] [] k (suc zero) lt e d = (
    λ h. (let more = (accepted-at (k * 3 + 1)).0 h in absurd (omega (arith, e, more))),
    λ h. elim h [ inl less ↦ absurd (omega (arith, less)) | inr p ↦ absurd p.1 ],
  )
  stands [] [] k (suc (suc m)) lt e d = (λ h. inr (refl, tt), λ h. (accepted-at (k * 3 + suc (suc m))).1 (omega (arith, e)))
  stands [] (y ∷ r) k m lt e d = (
    λ h. (let more = (accepted-at (k * 3 + m)).0 h in absurd (omega (arith, e, more, lt))),
    λ h. elim h [ inl less ↦ absurd (omega (arith, less)) | inr p ↦ (let same = p.0 in absurd (omega (arith, same))) ],
  )
  stands (x ∷ w) [] k m lt e d =
      let at = div-mul-add k 3 m lt in
      let there : s.accepting (length t * 3 + 3) ≡ true = (accepted-at (length t * 3 + 3)).1 (omega arith) in
      rw (next-end (k * 3 + m) x (omega (arith, at, e)), longer w) (λ h. inl (omega arith), λ h. there)
  stands (x ∷ w) (y ∷ r) k m lt e d =
      let within : k < length t = omega (arith, e) in
      let split : drop k t ≡ get_or t k 0 ∷ drop (suc k) t = drop-cons t k 0 within in
      let at : get_or t k 0 ≡ y = cc (split, d) in
      let left : drop (suc k) t ≡ r = cc (split, d) in
      let ih = stands w r (k + 1) (standing m y x) (standing-bound m y x lt) (omega (arith, e)) (rw add-one left) in
      let step = ahead-step m y x r w lt in
      rw (next-within k m x lt within, at) (
        λ h. elim (ih.0 h) [ inl less ↦ inl (omega (arith, less)) | inr p ↦ inr ((let same = p.0 in omega (arith, same)), step.1 p.1) ],
        λ h. ih.1 (elim h [ inl less ↦ inl (omega (arith, less)) | inr p ↦ inr ((let same = p.0 in omega (arith, same)), step.0 p.1) ]),
      )

  accepts-after : (w : List ℕ) → Accepts s w ↔ IsBefore t w
  accepts-after w = stands w t 0 1 (omega arith) (omega arith) refl

  closed-after : IsClosed s
  closed-after = record {
    start_bound = omega arith;
    next_bound = λ q x lq lx. go q x (ltb (q / 3) (length t)) refl;
  }
    where
      go : (q x : ℕ) (within : Bool) → ltb (q / 3) (length t) ≡ within
          → (if within then (q / 3 + 1) * 3 + standing (q % 3) (get_or t (q / 3) 0) x else length t * 3 + 3) < length t * 3 + 4
      go q x true e =
          let lt = ltb-true (q / 3) (length t) e in
          let b = standing-bound (q % 3) (get_or t (q / 3) 0) x (omega arith) in omega (arith, lt, b)
      go q x false e = omega arith

-- the same members, the same least one
pub least-same : (n : ℕ) (P Q : List ℕ → Type 0) → ((w : List ℕ) → IsTrace n w → P w ↔ Q w) → (found : Option (List ℕ)) → IsLeastIfAny n P found → IsLeastIfAny n Q found
least-same n P Q same None none = λ w tw is. none w tw ((same w tw).1 is)
least-same n P Q same (Some trace) least = record {
  over = least.over;
  member = (same trace least.over).0 least.member;
  none_before = λ w tw is. least.none_before w tw ((same w tw).1 is);
}

-- what the automaton accepts beside the given trace's automaton stands after it
pub found-after : (a : Automaton) (t : List ℕ) (found : Option (List ℕ)) → IsLeastIfAny a.symbols (Accepts (pairs (steps_of a) (after_steps a.symbols t))) found
    → IsLeastIfAny a.symbols (λ w. AcceptedBy a w × IsBefore t w) found
found-after a t = least-same a.symbols (Accepts (pairs (steps_of a) (after_steps a.symbols t))) (λ w. AcceptedBy a w × IsBefore t w) (λ w tw.
    let both = accepts-pairs (steps_of a) (after_steps a.symbols t) (closed-after a.symbols t) w tw in
    let after = accepts-after a.symbols t w in (
      λ h. (let parts = and_parts (accepts (steps_of a) w) (accepts (after_steps a.symbols t) w) (sym both ∙ h) in (parts.0, after.0 parts.1)),
      λ h. both ∙ and_from (accepts (steps_of a) w) (accepts (after_steps a.symbols t) w) h.0 (after.1 h.1),
    ))
