-- An automaton that a list of constraints joins, one after the other.
use Rattle.std.specs.Prelude.{◌≡◌, ℕ, ◌<◌, ◌≤◌, List, Option, None, Some, length, take, ◌↔◌}
use Rattle.decl_base.specs.Limits.{greatest_state_limit}
use Rattle.dfa_core.specs.Automaton.{Automaton, Accepts, state_count}
use Rattle.dfa_core.specs.Traces.{IsTrace}
use Rattle.dfa_minimise.specs.Wide.{IsWide}
use Rattle.template_core.specs.Keeping.{KeepsAll}
use Rattle.template_core.specs.declared.constraint.Constraint.{Constraint}
use Rattle.list_dfa.specs.declared.growing.Grown.{Grown}
use Rattle.list_dfa.specs.declared.growing.Grown.TheVariants.{All, Wide}

-- what an automaton accepts that keeps a list too
abbrev pub AcceptsAll : Automaton → List Constraint → List ℕ → Type 0
AcceptsAll a list w = Accepts a w × KeepsAll list w

-- no part of a list with one or more of its constraints is wide
abbrev pub IsNarrowFrom : ℕ → Automaton → List Constraint → Type 0
IsNarrowFrom s a list = (size : ℕ) → 0 < size → size ≤ length list → IsWide a.symbols (AcceptsAll a (take size list)) s → ⊥

-- an automaton joined with a list: no part of it with one or more of the constraints is wide
pub record IsGrownBy (s : ℕ) (a : Automaton) (list : List Constraint) (grown : Automaton) : Type 0 where
  pub over : grown.symbols ≡ a.symbols
  pub same : (w : List ℕ) → IsTrace a.symbols w → Accepts grown w ↔ AcceptsAll a list w
  pub few : state_count grown ≤ greatest_state_limit
  pub narrow : IsNarrowFrom s a list

-- or the first part that is
pub record IsWideFrom (s : ℕ) (a : Automaton) (list : List Constraint) (size : ℕ) : Type 0 where
  pub some : 0 < size
  pub within : size ≤ length list
  pub wide : IsWide a.symbols (AcceptsAll a (take size list)) s
  pub first : (less : ℕ) → 0 < less → less < size → IsWide a.symbols (AcceptsAll a (take less list)) s → ⊥

-- what has grown, or what was at the start
abbrev pub grown_from : {T : Type 0} → T → Option T → T
grown_from start None = start
grown_from start (Some grown) = grown

abbrev pub IsGrown : ℕ → Automaton → List Constraint → Grown → Type 0
IsGrown s a list (All grown) = IsGrownBy s a list (grown_from a grown)
IsGrown s a list (Wide size) = IsWideFrom s a list size
