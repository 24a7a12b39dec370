-- An automaton written as that of a link.
use Rattle.std.proofs.Common.{◌≡◌, subst, inl, inr, ℕ, zero, suc, ◌+◌, ◌*◌, ◌/◌, ◌%◌, ◌<◌, List, [], ◌∷◌, ◌++◌, Bool, true, false, All, length, get_or, refl, sym, ap, ◌∙◌, arith}
use Rattle.std.proofs.lemmas.List.{length_push}
use Rattle.std.proofs.lemmas.Nat.{div-mul-add, mod-mul-add, mod_below, div_below, mul-add-lt}
use Rattle.std.proofs.Math.Nat.{mul-div_cancel, mul_comm}
use Rattle.dfa_core.specs.Automaton.{Automaton, IsBreadthFirst, IsEverything, IsWhole, column, is_accepting, state_count, step, step_column}
use Rattle.dfa_core.specs.Shortlex.{IsBefore}
use Rattle.dfa_core.proofs.Places.{pushed}
use Rattle.chain_cert.specs.Forms.{IsAscending, IsLink, right}
use Rattle.chain_cert.specs.Links.{step as link_step, width, whole as whole_link}
use Rattle.chain_cert.specs.Parts.{link_parts}
use Rattle.chain_cert.proofs.Whole.{step-first}
use Rattle.chain_make.specs.Copies.{AreValues, Copies}
use Rattle.chain_make.proofs.Runs.{run-everything}

module _ {X : Type 0} (f : ℕ → X) where
  pub values-none : AreValues 0 f []
  values-none = record { as_many = refl; each = λ i d lt. absurd (omega (arith, lt)) }

  pub values-more : (n : ℕ) (xs : List X) (y : X) → AreValues n f xs → y ≡ f n → AreValues (n + 1) f (xs ++ y ∷ [])
  values-more n xs y h e =
      let long = length_push xs y in
      record {
        as_many = omega (arith, long, h.as_many);
        each = λ i d lt. elim (pushed xs y d i n h.as_many (omega (arith, lt))) [
          | inl p ↦ p.1 ∙ h.each i d p.0
          | inr p ↦ p.1 ∙ (e ∙ ap f (sym p.0))
        ];
      }

  pub values-all : (n m : ℕ) (xs : List X) → n ≡ m → AreValues n f xs → AreValues m f xs
  values-all n m xs e h = subst (λ (k : ℕ). AreValues k f xs) e h

-- the parts of an automaton
module _ (a : Automaton) (accepting : List Bool) (columns next : List ℕ) (pairs : List (List ℕ)) (is : IsWhole a) (acc : AreValues (state_count a) (is_accepting a) accepting)
    (cols : AreValues a.symbols (column a) columns) (rows : AreValues (state_count a * a.width) (λ k. step_column a (k / a.width) (k % a.width)) next) where
  some : 0 < state_count a
  some = omega (arith, is.start_bound)

  width-is : width (link_parts accepting columns next pairs) ≡ a.width
  width-is =
      ap (λ (n : ℕ). n / length accepting) rows.as_many
      ∙ (ap (λ (n : ℕ). state_count a * a.width / n) acc.as_many ∙ (ap (λ (n : ℕ). n / state_count a) (mul_comm (state_count a) a.width) ∙ mul-div_cancel a.width some))

  pub link-form : IsAscending pairs → All (λ triple. right triple < state_count a) pairs → IsLink (link_parts accepting columns next pairs)
  link-form ascending below = record {
    some_states = omega (arith, acc.as_many, some);
    rows = rows.as_many ∙ (ap (λ (n : ℕ). n * a.width) (sym acc.as_many) ∙ ap (λ (n : ℕ). length accepting * n) (sym width-is));
    next_below = λ k d lt.
        let lk : k < state_count a * a.width = omega (arith, lt, rows.as_many) in
        let some_width : 0 < a.width = wide a.width lk in
        let b = is.entry_bound (k / a.width) (k % a.width) (div_below k a.width (state_count a) some_width lk) (mod_below k a.width some_width) in
        let r : get_or next k d < length accepting = omega (arith, b, rows.each k d lk, acc.as_many) in
        r;
    columns_below = λ x d lt.
        let lx : x < a.symbols = omega (arith, lt, cols.as_many) in
        let b = is.column_bound x lx in
        let r : get_or columns x d < a.width = omega (arith, b, cols.each x d lx) in
        subst (λ (n : ℕ). get_or columns x d < n) (sym width-is) r;
    ascending = ascending;
    right_below = subst (λ (n : ℕ). All (λ triple. right triple < n) pairs) (sym acc.as_many) below;
  }
    where
      wide : {k : ℕ} (w : ℕ) → k < state_count a * w → 0 < w
      wide zero lt = absurd (omega (arith, lt))
      wide (suc w) lt = omega arith

  step-link : (q x : ℕ) → q < state_count a → x < a.symbols → link_step (link_parts accepting columns next pairs) q x ≡ step a q x
  unfolding link_step step
  step-link q x lq lx =
      let b : column a x < a.width = is.column_bound x lx in
      let lk = mul-add-lt q a.width (column a x) (state_count a) lq b in
      let m = mul_comm a.width (state_count a) in
      let lp : q * a.width + column a x < state_count a * a.width = omega (arith, lk, m) in
      ap (λ (n : ℕ). get_or next (q * n + get_or columns x 0) 0) width-is
      ∙ (ap (λ (n : ℕ). get_or next (q * a.width + n) 0) (cols.each x 0 lx)
      ∙ (rows.each (q * a.width + column a x) 0 lp
      ∙ (ap (λ (n : ℕ). step_column a n ((q * a.width + column a x) % a.width)) (div-mul-add q a.width (column a x) b)
      ∙ ap (λ (n : ℕ). step_column a q n) (mod-mul-add q a.width (column a x) b))))

  pub link-copies : a.start ≡ 0 → Copies a (link_parts accepting columns next pairs)
  link-copies start = record {
    start = start;
    states = acc.as_many;
    steps = step-link;
    accepting = λ q lq. acc.each q false lq;
  }

-- the automaton of one state, as the one before the first link
pub copies-whole : (n : ℕ) (a : Automaton) → IsEverything n a → Copies a whole_link
copies-whole n a all =
    let start : a.start ≡ 0 = run-everything n a all [] tt in
    record {
      start = start;
      states = sym all.one_state;
      steps = λ q x lq lx.
          let first : q < 1 = omega (arith, lq, all.one_state) in
          let same : q ≡ a.start = omega (arith, first, start) in
          let over : x < n = omega (arith, lx, all.over) in
          let z : step a q x ≡ 0 = ap (λ (p : ℕ). step a p x) same ∙ run-everything n a all (x ∷ []) (over, tt) in
          sym (step-first [] 0 q x refl first) ∙ sym z;
      accepting = λ q lq.
          let z : q ≡ 0 = omega (arith, lq, all.one_state) in
          let e : is_accepting a 0 ≡ true = ap (is_accepting a) (sym start) ∙ all.accepts_all [] tt in
          rw z (sym e);
    }

-- nothing is before the empty trace, so the start of a breadth-first automaton is its first state
not_before-nil : (u : List ℕ) → IsBefore u [] → ⊥
not_before-nil [] (inl less) = absurd (omega (arith, less))
not_before-nil [] (inr same) = absurd same.1
not_before-nil (x ∷ u) (inl less) = absurd (omega (arith, less))
not_before-nil (x ∷ u) (inr same) = absurd same.1

pub start-first : (a : Automaton) → IsWhole a → IsBreadthFirst a → a.start ≡ 0
start-first a is h = go a.start refl
  where
    go : (n : ℕ) → a.start ≡ n → a.start ≡ 0
    go zero e = e
    go (suc n) e = elim (h.least [] tt) [
      | inl nil ↦ absurd (not_before-nil (h.to 0) (subst (λ (l : List ℕ). IsBefore (h.to 0) l) nil (h.in_order 0 a.start (omega (arith, e)) is.start_bound)))
      | inr before ↦ absurd (not_before-nil (h.to a.start) before)
    ]
