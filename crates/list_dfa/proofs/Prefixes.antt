-- The automaton of a list, and what is known of longer lists when more constraints have joined it.
use Rattle.std.proofs.Common.{◌≡◌, ◌↔◌, ℕ, zero, suc, ◌+◌, ◌-◌, ◌<◌, ◌≤◌, inl, inr, List, ◌++◌, length, take, sym, ap, subst, ◌∙◌, arith, length-append}
use Rattle.std.proofs.Math.Seq.{take-append-add}
use Rattle.std.proofs.lemmas.Bool.{cases_lt}
use Rattle.std.proofs.lemmas.List.{append-nil, take-append-le, take_all}
use Rattle.dfa_core.specs.Traces.{IsTrace}
use Rattle.dfa_core.specs.Automaton.{Automaton}
use Rattle.dfa_minimise.proofs.Widths.{over-wide, wide-over}
use Rattle.dfa_minimise.specs.Wide.{IsWide}
use Rattle.template_core.specs.declared.constraint.Constraint.{Constraint}
use Rattle.list_dfa.proofs.Keeping.{keeps-append}
use Rattle.list_dfa.specs.Growing.{AcceptsAll, IsNarrowFrom, IsWideFrom}
use Rattle.list_dfa.specs.Lists.{IsAutomatonOf, IsFirstPrefix, IsNarrowList, KeepsAll}

module _ (n s : ℕ) (before rest full : List Constraint) (a : Automaton) (is : full ≡ before ++ rest) (e : IsAutomatonOf n before a) (narrow : IsNarrowList n s before) where
  pub all-same : (list : List Constraint) (w : List ℕ) → IsTrace n w → AcceptsAll a list w ↔ KeepsAll (before ++ list) w
  all-same list w tw =
      let p = e.same w tw in
      let q = keeps-append before list w in (λ both. q.1 (p.0 both.0, both.1), λ all. let parts = q.0 all in (p.1 parts.0, parts.1))

  some-narrow : (most : ℕ) → ((size : ℕ) → 0 < size → size ≤ most → IsWide a.symbols (AcceptsAll a (take size rest)) s → ⊥) → (size : ℕ) → size ≤ most → IsWide n (KeepsAll (before ++ take size rest)) s → ⊥
  some-narrow most h zero le wide =
      let here : IsWide n (KeepsAll before) s = rw append-nil at wide in
      narrow (length before) (rw (take_all (length before) before (omega arith)) here)
  some-narrow most h (suc size) le wide =
      h (suc size) (omega arith) le (wide-over a.symbols n s (AcceptsAll a (take (suc size) rest)) (KeepsAll (before ++ take (suc size) rest)) e.over (all-same (take (suc size) rest)) wide)

  below : (most : ℕ) → ((size : ℕ) → 0 < size → size ≤ most → IsWide a.symbols (AcceptsAll a (take size rest)) s → ⊥) → (size : ℕ) → size ≤ length before + most → IsWide n (KeepsAll (take size full)) s → ⊥
  below most h size le wide = elim (cases_lt (length before) size) [
    | inl past ↦
        let more : (k : ℕ) × (size ≡ length before + k) = (size - length before, omega arith) in
        let cut : take size full ≡ before ++ take more.0 rest = ap (take size) is ∙ (ap (λ (k : ℕ). take k (before ++ rest)) more.1 ∙ take-append-add before rest more.0) in
        let same = more.1 in
        some-narrow most h more.0 (omega (arith, same, le)) (subst (λ (l : List Constraint). IsWide n (KeepsAll l) s) cut wide)
    | inr few ↦
        let cut : take size full ≡ take size before = ap (take size) is ∙ take-append-le size before rest few in
        narrow size (subst (λ (l : List Constraint). IsWide n (KeepsAll l) s) cut wide)
  ]

  full-length : length full ≡ length before + length rest
  full-length = ap length is ∙ length-append before rest

  pub narrow-all : IsNarrowFrom s a rest → IsNarrowList n s full
  narrow-all h size wide = elim (cases_lt (length full) size) [
    | inl past ↦
        let long = full-length in
        let all_ : take size full ≡ take (length full) full = take_all size full (omega arith) ∙ sym (take_all (length full) full (omega arith)) in
        below (length rest) h (length full) (omega (arith, long)) (subst (λ (l : List Constraint). IsWide n (KeepsAll l) s) all_ wide)
    | inr le ↦ let long = full-length in below (length rest) h size (omega (arith, long, le)) wide
  ]

  pub first-all : (count : ℕ) → IsWideFrom s a rest count → IsFirstPrefix n s full (length before + count)
  first-all count h =
      let long = full-length in
      let some = h.some in
      let within = h.within in
      let cut : take (length before + count) full ≡ before ++ take count rest = ap (take (length before + count)) is ∙ take-append-add before rest count in
      let wide : IsWide n (KeepsAll (before ++ take count rest)) s = over-wide a.symbols n s (AcceptsAll a (take count rest)) (KeepsAll (before ++ take count rest)) e.over (all-same (take count rest)) h.wide in
      record {
        within = omega (arith, long, within);
        wide = subst (λ (l : List Constraint). IsWide n (KeepsAll l) s) (sym cut) wide;
        first = λ less lt. below (count - 1) (λ size positive le. h.first size positive (omega (arith, le, some))) less (omega (arith, lt, some));
      }
