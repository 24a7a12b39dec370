-- Conflicts removed: the candidates are gone through in their order with a kept list.
use Rattle.std.specs.Prelude.{◌≡◌, ℕ, ◌<◌, ◌≤◌, List, [], ◌∷◌, ◌++◌, length, take, ⊤}
use Rattle.decl_base.specs.declared.refusal.Refusal.{Refusal}
use Rattle.decl_base.specs.declared.refusal.Refusal.TheVariants.{States, Memory}
use Rattle.dfa_core.specs.Languages.{HasNoMember, IsLeastMember}
use Rattle.dfa_minimise.specs.Wide.{IsWide}
use Rattle.template_core.specs.declared.constraint.Constraint.{Constraint}
use Rattle.reduce_model.specs.Keeping.{KeepsAll, IsKeepable}
use Rattle.reduce_model.specs.declared.decision.Decision.{Decision}
use Rattle.reduce_model.specs.declared.decision.Decision.TheVariants.{Kept, Conflict}

-- a mark for each candidate, and a trace
pub record Sifting : Type 0 where
  pub decisions : List Decision
  pub example : List ℕ

-- the candidates that are marked as kept
abbrev pub kept_of : List Constraint → List Decision → List Constraint
kept_of [] decisions = []
kept_of (c ∷ list) [] = []
kept_of (c ∷ list) (Kept ∷ decisions) = c ∷ kept_of list decisions
kept_of (c ∷ list) (decision ∷ decisions) = kept_of list decisions

-- The sift: a candidate joins the kept list where some trace over the symbols below n keeps that list and it. Otherwise it is a conflict.
abbrev pub IsSifted : ℕ → List Constraint → List Constraint → List Decision → Type 0
IsSifted n kept [] [] = ⊤
IsSifted n kept [] (decision ∷ decisions) = ⊥
IsSifted n kept (c ∷ list) [] = ⊥
IsSifted n kept (c ∷ list) (Kept ∷ decisions) = IsKeepable n (kept ++ c ∷ []) × IsSifted n (kept ++ c ∷ []) list decisions
IsSifted n kept (c ∷ list) (Conflict ∷ decisions) = HasNoMember n (KeepsAll (kept ++ c ∷ [])) × IsSifted n kept list decisions
IsSifted n kept (c ∷ list) (decision ∷ decisions) = ⊥

-- a kept list as it arises: that of the sift of so many candidates
pub record IsKeptAfter (n : ℕ) (list : List Constraint) (count : ℕ) (kept : List Constraint) : Type 0 where
  pub within : count ≤ length list
  pub decisions : List Decision
  pub sifted : IsSifted n [] (take count list) decisions
  pub is : kept_of (take count list) decisions ≡ kept

-- no kept list, as it arises, is wide for s
abbrev pub IsNarrow : ℕ → ℕ → List Constraint → Type 0
IsNarrow n s list = (count : ℕ) (kept : List Constraint) → IsKeptAfter n list count kept → IsWide n (KeepsAll kept) s → ⊥

-- some kept list is wide for s, and the first such has the length that is told
pub record IsFirstWide (n s : ℕ) (list : List Constraint) (built : ℕ) : Type 0 where
  pub count : ℕ
  pub kept : List Constraint
  pub after : IsKeptAfter n list count kept
  pub wide : IsWide n (KeepsAll kept) s
  pub built_length : length kept ≡ built
  pub first : (earlier : ℕ) (before : List Constraint) → earlier < count → IsKeptAfter n list earlier before → IsWide n (KeepsAll before) s → ⊥

-- the marks are those of the sift, the trace is the least that keeps the kept list, and no kept list was wide
pub record IsSift (n s : ℕ) (list : List Constraint) (sifting : Sifting) : Type 0 where
  pub sifted : IsSifted n [] list sifting.decisions
  pub example : IsLeastMember n (KeepsAll (kept_of list sifting.decisions)) sifting.example
  pub narrow : IsNarrow n s list

-- there is no sift within the number of states, or no memory
abbrev pub RefusesSift : ℕ → ℕ → List Constraint → Refusal → Type 0
RefusesSift n s list (States phase built) = (phase ≡ 1) × IsFirstWide n s list built
RefusesSift n s list Memory = ⊤
RefusesSift n s list refusal = ⊥
