-- An automaton that constraints join, one after the other.
use Rattle.std.proofs.Common.{◌≡◌, ◌↔◌, ℕ, ◌+◌, ◌<◌, ◌≤◌, inl, inr, List, [], ◌∷◌, ◌++◌, length, take, refl, ◌∙◌, arith}
use Rattle.std.proofs.lemmas.Bool.{cases_lt}
use Rattle.dfa_core.specs.Automaton.{Automaton, Accepts, state_count}
use Rattle.dfa_core.specs.Traces.{IsTrace}
use Rattle.dfa_minimise.proofs.Widths.{over-wide, wide-over}
use Rattle.dfa_minimise.specs.Wide.{IsWide}
use Rattle.template_core.specs.declared.constraint.Constraint.{Constraint}
use Rattle.list_dfa.proofs.Keeping.{keeps-push, push-keeps}
use Rattle.list_dfa.specs.Extending.{AcceptsKept, Extends}
use Rattle.list_dfa.specs.Growing.{AcceptsAll, IsGrownBy, IsWideFrom}

-- the automaton with so many of the constraints
pub record IsGrowing (s : ℕ) (a : Automaton) (list : List Constraint) (at : ℕ) (dfa : Automaton) : Type 0 where
  pub over : dfa.symbols ≡ a.symbols
  pub same : (w : List ℕ) → IsTrace a.symbols w → Accepts dfa w ↔ AcceptsAll a (take at list) w
  pub few : state_count dfa ≤ 65536
  pub narrow : (size : ℕ) → 0 < size → size ≤ at → IsWide a.symbols (AcceptsAll a (take size list)) s → ⊥

pub growing-none : (s : ℕ) (a : Automaton) (list : List Constraint) → state_count a ≤ 65536 → IsGrowing s a list 0 a
growing-none s a list few = record {
  over = refl;
  same = λ w tw. (λ is. (is, tt), λ both. both.0);
  few = few;
  narrow = λ size some le wide. omega (arith, some, le);
}

-- with one more
one-more : (s : ℕ) (a : Automaton) (list : List Constraint) (at : ℕ) (dfa : Automaton) (c : Constraint) → take (at + 1) list ≡ take at list ++ c ∷ [] → IsGrowing s a list at dfa
    → (w : List ℕ) → IsTrace a.symbols w → AcceptsKept dfa c w ↔ AcceptsAll a (take (at + 1) list) w
one-more s a list at dfa c more h w tw = rw more (
  λ p. let old = (h.same w tw).0 p.0 in (old.0, push-keeps (take at list) c w old.1 p.1),
  λ p. let parts = keeps-push (take at list) c w p.1 in ((h.same w tw).1 (p.0, parts.0), parts.1),
)

pub growing-more : (s : ℕ) (a : Automaton) (list : List Constraint) (at : ℕ) (dfa new : Automaton) (c : Constraint) → take (at + 1) list ≡ take at list ++ c ∷ [] → s ≤ 65536
    → IsGrowing s a list at dfa → Extends s dfa c new → IsGrowing s a list (at + 1) new
growing-more s a list at dfa new c more le h x =
    let joined = one-more s a list at dfa c more h in
    record {
      over = x.over ∙ h.over;
      same = λ w tw. let there = x.same w (rw h.over tw) in let here = joined w tw in (λ is. here.0 (there.0 is), λ both. there.1 (here.1 both));
      few = let few_ = x.few in omega (arith, few_, le);
      narrow = λ size some at_most wide. elim (cases_lt at size) [
        | inl last ↦
            let e : size ≡ at + 1 = omega arith in
            let wide_ : IsWide a.symbols (AcceptsAll a (take (at + 1) list)) s = rw e at wide in
            x.narrow (wide-over dfa.symbols a.symbols s (AcceptsKept dfa c) (AcceptsAll a (take (at + 1) list)) h.over joined wide_)
        | inr before ↦ h.narrow size some before wide
      ];
    }

pub growing-wide : (s : ℕ) (a : Automaton) (list : List Constraint) (at : ℕ) (dfa : Automaton) (c : Constraint) → take (at + 1) list ≡ take at list ++ c ∷ [] → at < length list → IsGrowing s a list at dfa
    → IsWide dfa.symbols (AcceptsKept dfa c) s → IsWideFrom s a list (at + 1)
growing-wide s a list at dfa c more lt h wide = record {
  some = omega arith;
  within = omega arith;
  wide = over-wide dfa.symbols a.symbols s (AcceptsKept dfa c) (AcceptsAll a (take (at + 1) list)) h.over (one-more s a list at dfa c more h) wide;
  first = λ less some before is. h.narrow less some (omega arith) is;
}

pub growing-all : (s : ℕ) (a : Automaton) (list : List Constraint) (at : ℕ) (dfa : Automaton) → take at list ≡ list → length list ≤ at → IsGrowing s a list at dfa → IsGrownBy s a list dfa
growing-all s a list at dfa all_ past h = record {
  over = h.over;
  same = λ w tw. let p = h.same w tw in rw all_ at p;
  few = h.few;
  narrow = λ size some le wide. h.narrow size some (omega (arith, le, past)) wide;
}
