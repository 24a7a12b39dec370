-- Internal: a list as an automaton within a number of states.
use Rattle.std.specs.Prelude.{◌≡◌, ℕ, List, ⊤}
use Rattle.decl_base.specs.declared.refusal.Refusal.{Refusal}
use Rattle.decl_base.specs.declared.refusal.Refusal.TheVariants.{States, Memory}
use Rattle.dfa_core.specs.Automaton.{Automaton}
use Rattle.template_core.specs.declared.constraint.Constraint.{Constraint}
use Rattle.list_dfa.specs.Lists.{IsFirstPrefix, IsLeastOf, IsNarrowList}

-- the least automaton of a list, of which no prefix is wide for s
pub record IsNarrowAutomaton (n s : ℕ) (list : List Constraint) (a : Automaton) : Type 0 where
  pub least : IsLeastOf n list a
  pub narrow : IsNarrowList n s list

-- a prefix of the list is wide for s, and the first such has the length that is told; or there is no memory
abbrev pub RefusesList : ℕ → ℕ → ℕ → List Constraint → Refusal → Type 0
RefusesList n s phase list (States at built) = (at ≡ phase) × IsFirstPrefix n s list built
RefusesList n s phase list Memory = ⊤
RefusesList n s phase list refusal = ⊥
