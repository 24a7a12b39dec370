-- An automaton, and one constraint more that may join it.
use Rattle.std.specs.Prelude.{◌≡◌, ℕ, ◌≤◌, List, ◌↔◌}
use Rattle.dfa_core.specs.Automaton.{Automaton, Accepts, state_count}
use Rattle.dfa_core.specs.Traces.{IsTrace}
use Rattle.dfa_minimise.specs.Wide.{IsWide}
use Rattle.template_core.specs.Keeping.{KeepsOne}
use Rattle.template_core.specs.declared.constraint.Constraint.{Constraint}

-- what an automaton accepts that keeps the constraint too, and what of it breaks the constraint
abbrev pub AcceptsKept : Automaton → Constraint → List ℕ → Type 0
AcceptsKept a c w = Accepts a w × KeepsOne c w

abbrev pub AcceptsBroken : Automaton → Constraint → List ℕ → Type 0
AcceptsBroken a c w = Accepts a w × (KeepsOne c w → ⊥)

-- an automaton of that
pub record IsNarrowed (a : Automaton) (c : Constraint) (narrowed : Automaton) : Type 0 where
  pub over : narrowed.symbols ≡ a.symbols
  pub same : (w : List ℕ) → IsTrace a.symbols w → Accepts narrowed w ↔ AcceptsKept a c w

-- an automaton of the same traces, which is narrow for s
pub record IsFitted (s : ℕ) (a fitted : Automaton) : Type 0 where
  pub over : fitted.symbols ≡ a.symbols
  pub same : (w : List ℕ) → IsTrace a.symbols w → Accepts fitted w ↔ Accepts a w
  pub narrow : IsWide a.symbols (Accepts a) s → ⊥
  pub few : state_count fitted ≤ s

-- the automaton with the constraint is narrow for s
pub record Extends (s : ℕ) (a : Automaton) (c : Constraint) (extended : Automaton) : Type 0 where
  pub over : extended.symbols ≡ a.symbols
  pub same : (w : List ℕ) → IsTrace a.symbols w → Accepts extended w ↔ AcceptsKept a c w
  pub narrow : IsWide a.symbols (AcceptsKept a c) s → ⊥
  pub few : state_count extended ≤ s
