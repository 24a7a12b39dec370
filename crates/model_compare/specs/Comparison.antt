-- Two lists of constraints compared, by the traces that keep them.
use Rattle.std.specs.Prelude.{◌≡◌, ◌⊎◌, ℕ, List, Option, None, Some, ⊤}
use Rattle.decl_base.specs.declared.refusal.Refusal.{Refusal}
use Rattle.decl_base.specs.declared.refusal.Refusal.TheVariants.{States, Memory}
use Rattle.dfa_core.specs.Languages.{IsLeastIfAny}
use Rattle.dfa_core.specs.Traces.{IsTrace}
use Rattle.template_core.specs.Keeping.{KeepsAll}
use Rattle.template_core.specs.declared.constraint.Constraint.{Constraint}
use Rattle.list_dfa.specs.Lists.{IsFirstPrefix, IsNarrowList}
use Rattle.model_compare.specs.declared.compared.Relation.{Relation}
use Rattle.model_compare.specs.declared.compared.Relation.TheVariants.{Equal, Stronger, Weaker, Neither}

-- a trace keeps the one list and not the other
abbrev pub KeepsOnly : List Constraint → List Constraint → List ℕ → Type 0
KeepsOnly one other w = KeepsAll one w × (KeepsAll other w → ⊥)

-- each trace over the symbols below n that keeps the one list keeps the other
abbrev pub IsWithin : ℕ → List Constraint → List Constraint → Type 0
IsWithin n one other = (w : List ℕ) → IsTrace n w → KeepsAll one w → KeepsAll other w

-- some trace over the symbols below n keeps the one list and not the other
pub record IsBeyond (n : ℕ) (one other : List Constraint) : Type 0 where
  pub by : List ℕ
  pub over : IsTrace n by
  pub keeps : KeepsOnly one other by

-- the same traces, a proper part of the second's, a proper part of the first's, or neither
abbrev pub IsRelation : ℕ → List Constraint → List Constraint → Relation → Type 0
IsRelation n first second Equal = IsWithin n first second × IsWithin n second first
IsRelation n first second Stronger = IsWithin n first second × IsBeyond n second first
IsRelation n first second Weaker = IsBeyond n first second × IsWithin n second first
IsRelation n first second Neither = IsBeyond n first second × IsBeyond n second first

-- a relation, and for each list a trace that keeps it alone
pub record Comparison : Type 0 where
  pub relation : Relation
  pub only_first : Option (List ℕ)
  pub only_second : Option (List ℕ)

-- the relation is that of the lists, and each trace is the least that keeps its list and not the other, where there is one
pub record IsComparison (n : ℕ) (first second : List Constraint) (c : Comparison) : Type 0 where
  pub relation : IsRelation n first second c.relation
  pub only_first : IsLeastIfAny n (KeepsOnly first second) c.only_first
  pub only_second : IsLeastIfAny n (KeepsOnly second first) c.only_second

-- and neither the lists nor their prefixes are wide for s
pub record IsCompared (n s : ℕ) (first second : List Constraint) (c : Comparison) : Type 0 where
  pub comparison : IsComparison n first second c
  pub first_narrow : IsNarrowList n s first
  pub second_narrow : IsNarrowList n s second

-- A prefix of the first list is wide for s, or none is and one of the second: the first such has the length that is told. Or there is no memory.
abbrev pub RefusesComparing : ℕ → ℕ → List Constraint → List Constraint → Refusal → Type 0
RefusesComparing n s first second (States phase built) = ((phase ≡ 5) × IsFirstPrefix n s first built) ⊎ ((phase ≡ 6) × IsNarrowList n s first × IsFirstPrefix n s second built)
RefusesComparing n s first second Memory = ⊤
RefusesComparing n s first second refusal = ⊥

-- the relation that goes with the traces there are
abbrev pub relation_of : Option (List ℕ) → Option (List ℕ) → Relation
relation_of None None = Equal
relation_of None (Some second) = Stronger
relation_of (Some first) None = Weaker
relation_of (Some first) (Some second) = Neither
