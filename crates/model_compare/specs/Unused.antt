-- Internal: symbols that an automaton has no use for, constraints left out one by one, and traces found one by one.
use Rattle.std.specs.Prelude.{◌≡◌, ◌↔◌, ℕ, ◌<◌, List, length, Contains, Option, Some, None, false, IsTrue, Bool, slice_get, ⊤}
use Rattle.decl_base.specs.declared.refusal.Refusal.{Refusal}
use Rattle.decl_base.specs.declared.refusal.Refusal.TheVariants.{States, Memory}
use Rattle.dfa_core.specs.Automaton.{Automaton, Accepts, is_accepting, step}
use Rattle.dfa_core.specs.Shortlex.{IsBefore}
use Rattle.dfa_core.specs.Traces.{IsTrace}
use Rattle.template_core.specs.declared.constraint.Constraint.{Constraint}
use Rattle.list_dfa.specs.Lists.{Implies, IsNarrowList}
use Rattle.model_compare.specs.Analysis.{AreThose, IsFirstOfOthers, IsRedundant, others}

-- a state that isn't accepting and that each step leads back to
pub record IsSink (a : Automaton) (q : ℕ) : Type 0 where
  pub rejects : is_accepting a q ≡ false
  pub stays : (x : ℕ) → x < a.symbols → step a q x ≡ q

-- no accepted trace has the symbol
abbrev pub IsUnused : Automaton → ℕ → Type 0
IsUnused a x = (w : List ℕ) → IsTrace a.symbols w → Accepts a w → Contains w x → ⊥

-- whether the others imply the constraint at a place, where they are narrow for s
pub record IsTold (n s : ℕ) (list : List Constraint) (place : ℕ) (implied : Bool) : Type 0 where
  pub tells : (c : Constraint) → slice_get list place ≡ Some c → IsTrue implied ↔ Implies n (others place list) c
  pub narrow : IsNarrowList n s (others place list)

-- the redundant constraints, where all others are narrow for s each time
pub record AreRedundant (n s : ℕ) (list : List Constraint) (numbers : List ℕ) : Type 0 where
  pub those : AreThose (IsRedundant n list) numbers
  pub narrow : (place : ℕ) → place < length list → IsNarrowList n s (others place list)

-- the others are wide for s at some place, the first of them; or there is no memory
abbrev pub RefusesOthers : ℕ → ℕ → List Constraint → Refusal → Type 0
RefusesOthers n s list (States phase built) = (phase ≡ 7) × IsFirstOfOthers n s list built
RefusesOthers n s list Memory = ⊤
RefusesOthers n s list refusal = ⊥

-- it stands after the last trace, if there is one
abbrev pub IsPast : Option (List ℕ) → List ℕ → Type 0
IsPast None w = ⊤
IsPast (Some last) w = IsBefore last w
