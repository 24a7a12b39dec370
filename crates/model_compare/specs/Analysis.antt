-- What a list of constraints allows: the first traces that keep it, symbols that stand in none of them, and constraints that the others imply.
use Rattle.std.specs.Prelude.{◌≡◌, ◌↔◌, ◌⊎◌, ℕ, zero, suc, ◌+◌, ◌<◌, List, [], ◌∷◌, ◌++◌, take, drop, length, Option, Some, Contains, slice_get, slice_index_or as get_or, ⊤}
use Rattle.decl_base.specs.declared.refusal.Refusal.{Refusal}
use Rattle.decl_base.specs.declared.refusal.Refusal.TheVariants.{States, Memory}
use Rattle.dfa_core.specs.Languages.{HasNoMember, IsLeastIfAny, IsLeastMember}
use Rattle.dfa_core.specs.Shortlex.{IsBefore}
use Rattle.dfa_core.specs.Traces.{IsTrace}
use Rattle.template_core.specs.Keeping.{KeepsAll}
use Rattle.template_core.specs.declared.constraint.Constraint.{Constraint}
use Rattle.list_dfa.specs.Lists.{Implies, IsFirstPrefix, IsNarrowList}

-- the numbers that have a property, ascending
pub record AreThose (Has : ℕ → Type 0) (numbers : List ℕ) : Type 0 where
  pub ascending : (i j : ℕ) → i < j → j < length numbers → get_or numbers i 0 < get_or numbers j 0
  pub exact : (x : ℕ) → Contains numbers x ↔ Has x

-- a symbol that stands in no trace over the symbols below n that keeps the list
abbrev pub IsDead : ℕ → List Constraint → ℕ → Type 0
IsDead n list x = (w : List ℕ) → IsTrace n w → KeepsAll list w → Contains w x → ⊥

-- all constraints but the one at a place, from 0
abbrev pub others : ℕ → List Constraint → List Constraint
others place list = take place list ++ drop (suc place) list

-- a constraint, by its number from 1, that all others imply
pub record IsRedundant (n : ℕ) (list : List Constraint) (number : ℕ) : Type 0 where
  pub place : ℕ
  pub numbered : number ≡ place + 1
  pub constraint : Constraint
  pub there : slice_get list place ≡ Some constraint
  pub implied : Implies n (others place list) constraint

-- the first k members in shortlex order, or all where there are fewer: the least, and then the first of those that stand after it
abbrev pub AreFirst : ℕ → (List ℕ → Type 0) → ℕ → List (List ℕ) → Type 0
AreFirst n Member zero traces = traces ≡ []
AreFirst n Member (suc k) [] = HasNoMember n Member
AreFirst n Member (suc k) (trace ∷ traces) = IsLeastMember n Member trace × AreFirst n (λ w. Member w × IsBefore trace w) k traces

-- a trace if there is one, symbols, numbers of constraints, and traces
pub record Analysis : Type 0 where
  pub accepts : Option (List ℕ)
  pub dead : List ℕ
  pub redundant : List ℕ
  pub traces : List (List ℕ)

-- The least trace that keeps the list, the dead symbols but the last, the redundant constraints, and the first k traces that keep the list. Neither
-- the list nor a list without one of its constraints, nor a prefix of these, is wide for s.
pub record IsAnalysis (n s k : ℕ) (list : List Constraint) (a : Analysis) : Type 0 where
  pub accepts : IsLeastIfAny n (KeepsAll list) a.accepts
  pub dead : AreThose (λ x. (x + 1 < n) × IsDead n list x) a.dead
  pub redundant : AreThose (IsRedundant n list) a.redundant
  pub traces : AreFirst n (KeepsAll list) k a.traces
  pub narrow : IsNarrowList n s list
  pub others_narrow : (place : ℕ) → place < length list → IsNarrowList n s (others place list)

-- of the lists without one constraint, in the order of these constraints, the first that has a prefix which is wide for s, and the length of its first
pub record IsFirstOfOthers (n s : ℕ) (list : List Constraint) (built : ℕ) : Type 0 where
  pub place : ℕ
  pub within : place < length list
  pub wide : IsFirstPrefix n s (others place list) built
  pub first : (earlier : ℕ) → earlier < place → IsNarrowList n s (others earlier list)

-- A prefix of the list is wide for s, or none is and one of a list without one constraint: the first such has the length that is told. Or there is no
-- memory.
abbrev pub RefusesAnalysis : ℕ → ℕ → List Constraint → Refusal → Type 0
RefusesAnalysis n s list (States phase built) = ((phase ≡ 5) × IsFirstPrefix n s list built) ⊎ ((phase ≡ 7) × IsNarrowList n s list × IsFirstOfOthers n s list built)
RefusesAnalysis n s list Memory = ⊤
RefusesAnalysis n s list refusal = ⊥
