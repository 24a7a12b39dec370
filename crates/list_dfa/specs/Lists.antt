-- Lists of constraints, by the traces that keep them, and as automata.
use Rattle.std.specs.Prelude.{◌≡◌, ℕ, ◌<◌, ◌≤◌, List, length, take, ◌↔◌}
use Rattle.decl_base.specs.Limits.{greatest_state_limit}
use Rattle.dfa_core.specs.Automaton.{Automaton, Accepts, IsBreadthFirst, state_count}
use Rattle.dfa_core.specs.Traces.{IsTrace}
use Rattle.dfa_minimise.specs.Least.{IsLeast}
use Rattle.dfa_minimise.specs.Wide.{IsWide}
use Rattle.template_core.specs.declared.constraint.Constraint.{Constraint}
pub use Rattle.template_core.specs.Keeping.{KeepsAll, KeepsOne}
use Rattle.list_dfa.specs.declared.listed.Listed.{Listed}
use Rattle.list_dfa.specs.declared.listed.Listed.TheVariants.{Narrow, Wide}

-- some trace over the symbols below n keeps the list
pub record IsKeepable (n : ℕ) (list : List Constraint) : Type 0 where
  pub by : List ℕ
  pub over : IsTrace n by
  pub keeps : KeepsAll list by

-- every trace over the symbols below n that keeps the list keeps the constraint
abbrev pub Implies : ℕ → List Constraint → Constraint → Type 0
Implies n list c = (w : List ℕ) → IsTrace n w → KeepsAll list w → KeepsOne c w

-- a trace keeps the list and breaks the constraint
abbrev pub Breaks : List Constraint → Constraint → List ℕ → Type 0
Breaks list c w = KeepsAll list w × (KeepsOne c w → ⊥)

-- neither the list nor a prefix of it is wide for s
abbrev pub IsNarrowList : ℕ → ℕ → List Constraint → Type 0
IsNarrowList n s list = (size : ℕ) → IsWide n (KeepsAll (take size list)) s → ⊥

-- the prefix of this length is wide for s, and no shorter one is
pub record IsFirstPrefix (n s : ℕ) (list : List Constraint) (size : ℕ) : Type 0 where
  pub within : size ≤ length list
  pub wide : IsWide n (KeepsAll (take size list)) s
  pub first : (less : ℕ) → less < size → IsWide n (KeepsAll (take less list)) s → ⊥

-- a list as an automaton
pub record IsAutomatonOf (n : ℕ) (list : List Constraint) (a : Automaton) : Type 0 where
  pub over : a.symbols ≡ n
  pub same : (w : List ℕ) → IsTrace n w → Accepts a w ↔ KeepsAll list w
  pub few : state_count a ≤ greatest_state_limit

-- the least automaton of a list
pub record IsLeastOf (n : ℕ) (list : List Constraint) (a : Automaton) : Type 0 where
  pub of : IsAutomatonOf n list a
  pub least : IsLeast a
  pub in_order : IsBreadthFirst a

-- what comes of a list that is built constraint by constraint
abbrev pub IsListed : ℕ → ℕ → List Constraint → Listed → Type 0
IsListed n s list (Narrow a) = IsLeastOf n list a × IsNarrowList n s list
IsListed n s list (Wide size) = IsFirstPrefix n s list size
