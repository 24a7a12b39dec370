-- An automaton that is left as it is or made least, and one that a constraint joins.
use Rattle.std.proofs.Common.{◌↔◌, ℕ, ◌≤◌, List, Option, Some, None, MatchOption, refl, ◌∙◌}
use Rattle.dfa_core.specs.Automaton.{Automaton, Accepts, IsWhole, state_count}
use Rattle.dfa_core.specs.Traces.{IsTrace}
use Rattle.dfa_minimise.proofs.Widths.{narrow-few_states, over-wide, same-accepts, wide-over}
use Rattle.dfa_minimise.specs.Least.{IsLeastWithin}
use Rattle.dfa_minimise.specs.Wide.{IsWide}
use Rattle.template_core.specs.declared.constraint.Constraint.{Constraint}
use Rattle.list_dfa.specs.Extending.{AcceptsKept, Extends, IsFitted, IsNarrowed}

pub fitted-few : (s : ℕ) (a : Automaton) → IsWhole a → state_count a ≤ s → IsFitted s a a
fitted-few s a whole few = record {
  over = refl;
  same = λ w tw. (λ is. is, λ is. is);
  narrow = narrow-few_states a s whole few;
  few = few;
}

pub fitted-least : (s : ℕ) (a least : Automaton) → IsLeastWithin s a least → IsFitted s a least
fitted-least s a least h =
    let over = h.language.over in
    let same : (w : List ℕ) → IsTrace a.symbols w → Accepts least w ↔ Accepts a w = λ w tw. same-accepts a least h.language w (rw over tw) in
    record {
      over = over;
      same = same;
      narrow = λ wide. narrow-few_states least s h.least.whole h.few (wide-over least.symbols a.symbols s (Accepts least) (Accepts a) over same wide);
      few = h.few;
    }

pub narrowed-wide : (s : ℕ) (a : Automaton) (c : Constraint) (narrowed : Automaton) → IsNarrowed a c narrowed → IsWide narrowed.symbols (Accepts narrowed) s → IsWide a.symbols (AcceptsKept a c) s
narrowed-wide s a c narrowed h wide = over-wide narrowed.symbols a.symbols s (Accepts narrowed) (AcceptsKept a c) h.over h.same wide

pub extends : (s : ℕ) (a : Automaton) (c : Constraint) (narrowed fitted : Automaton) → IsNarrowed a c narrowed → IsFitted s narrowed fitted → Extends s a c fitted
extends s a c narrowed fitted h f = record {
  over = f.over ∙ h.over;
  same = λ w tw.
      let there = f.same w (rw h.over tw) in
      let here = h.same w tw in (λ is. here.0 (there.0 is), λ both. there.1 (here.1 both));
  narrow = λ wide. f.narrow (wide-over narrowed.symbols a.symbols s (Accepts narrowed) (AcceptsKept a c) h.over h.same wide);
  few = f.few;
}

pub extends-or-wide : (s : ℕ) (a : Automaton) (c : Constraint) (narrowed : Automaton) → IsNarrowed a c narrowed → (fitted : Option Automaton) → MatchOption fitted (IsWide narrowed.symbols (Accepts narrowed) s) (IsFitted s narrowed)
    → MatchOption fitted (IsWide a.symbols (AcceptsKept a c) s) (Extends s a c)
extends-or-wide s a c narrowed h None wide = narrowed-wide s a c narrowed h wide
extends-or-wide s a c narrowed h (Some fitted) f = extends s a c narrowed fitted h f
