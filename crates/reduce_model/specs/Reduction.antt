-- The reduction of a list of candidates: conflicts, weaker ones, and what the others imply.
use Rattle.std.specs.Prelude.{◌≡◌, ◌↔◌, ℕ, ◌<◌, List, [], ◌∷◌, ◌++◌, Bool, true, false, IsTrue, Some, map, length, slice_get, ⊤}
use Rattle.std.specs.List.{AllByRecursion}
use Rattle.decl_base.specs.declared.refusal.Refusal.{Refusal}
use Rattle.decl_base.specs.declared.refusal.Refusal.TheVariants.{States, Memory}
use Rattle.dfa_core.specs.Languages.{HasNoMember, IsLeastMember}
pub use Rattle.list_dfa.specs.Lists.{Breaks, Implies}
use Rattle.template_core.specs.declared.constraint.Constraint.{Constraint}
use Rattle.reduce_model.specs.Building.{AreNarrow, IsFirstOfWide, built_lists}
use Rattle.reduce_model.specs.Deciding.{IsAt, after, before, is_at_limit, is_consistent, is_kept, is_left, is_strongest, those}
use Rattle.template_set.specs.Hierarchy.{IsStronger}
use Rattle.reduce_model.specs.Keeping.{KeepsAll}
use Rattle.reduce_model.specs.declared.decision.Decision.{Decision}
use Rattle.reduce_model.specs.declared.decision.Decision.TheVariants.{Conflict, Weaker, FirstPass, SecondPass}

-- at the place stands a constraint that has the mark and is above the given one
pub record IsAbove (list : List Constraint) (marks : List Bool) (c : Constraint) (place : ℕ) : Type 0 where
  pub constraint : Constraint
  pub at : slice_get list place ≡ Some constraint
  pub has_mark : slice_get marks place ≡ Some true
  pub above : IsStronger constraint c

-- and at no place before it
pub record IsFirstAbove (list : List Constraint) (marks : List Bool) (c : Constraint) (place : ℕ) : Type 0 where
  pub above : IsAbove list marks c place
  pub first : (earlier : ℕ) → earlier < place → IsAbove list marks c earlier → ⊥

-- Conflicts: no trace keeps the candidate and the constraints of the conflict-free model before it.
abbrev pub TellsConflicts : ℕ → List Constraint → List Decision → Type 0
TellsConflicts n list decisions =
    (place : ℕ) (c : Constraint) (d : Decision) → IsAt list decisions place c d → d ≡ Conflict ↔ HasNoMember n (KeepsAll (before is_consistent place list decisions ++ c ∷ []))

-- Weaker ones: a constraint of the conflict-free model is above it, the first of them at this place.
abbrev pub TellsWeaker : List Constraint → List Decision → Type 0
TellsWeaker list decisions =
    (place : ℕ) (c : Constraint) (d : Decision) (by : ℕ) → IsAt list decisions place c d → IsTrue (is_consistent d) → d ≡ Weaker by ↔ IsFirstAbove list (map is_consistent decisions) c by

-- First pass: of the others, those before it that are left imply it.
abbrev pub TellsFirstPass : ℕ → List Constraint → List Decision → Type 0
TellsFirstPass n list decisions =
    (place : ℕ) (c : Constraint) (d : Decision) → IsAt list decisions place c d → IsTrue (is_strongest d) → d ≡ FirstPass ↔ Implies n (before is_left place list decisions) c

-- Second pass: of those that are left, the ones before it and those after it that stay imply it.
abbrev pub TellsSecondPass : ℕ → List Constraint → List Decision → Type 0
TellsSecondPass n list decisions =
    (place : ℕ) (c : Constraint) (d : Decision) → IsAt list decisions place c d → IsTrue (is_left d)
    → d ≡ SecondPass ↔ Implies n (before is_left place list decisions ++ after is_kept place list decisions) c

-- what each decision says of the candidate at its place
pub record IsReduced (n : ℕ) (list : List Constraint) (decisions : List Decision) : Type 0 where
  pub as_many : length decisions ≡ length list
  pub none_at_limit : AllByRecursion (λ (d : Decision). is_at_limit d ≡ false) decisions
  pub conflicts : TellsConflicts n list decisions
  pub weaker : TellsWeaker list decisions
  pub first_pass : TellsFirstPass n list decisions
  pub second_pass : TellsSecondPass n list decisions

-- a decision for each candidate, a trace for each that stays, and a trace
pub record Reduction : Type 0 where
  pub decisions : List Decision
  pub witnesses : List (List ℕ)
  pub example : List ℕ

-- a trace for each constraint that comes after a list: the least that keeps all the others and breaks it
abbrev pub AreWitnesses : ℕ → List Constraint → List Constraint → List (List ℕ) → Type 0
AreWitnesses n before [] [] = ⊤
AreWitnesses n before [] (w ∷ witnesses) = ⊥
AreWitnesses n before (c ∷ after) [] = ⊥
AreWitnesses n before (c ∷ after) (w ∷ witnesses) = IsLeastMember n (Breaks (before ++ after) c) w × AreWitnesses n (before ++ c ∷ []) after witnesses

-- the decisions are those of the reduction, the traces the least of their kind, and no built list is wide for s
pub record IsReduction (n s : ℕ) (list : List Constraint) (reduction : Reduction) : Type 0 where
  pub reduced : IsReduced n list reduction.decisions
  pub witnesses : AreWitnesses n [] (those is_kept list reduction.decisions) reduction.witnesses
  pub example : IsLeastMember n (KeepsAll (those is_kept list reduction.decisions)) reduction.example
  pub narrow : AreNarrow n s (built_lists list reduction.decisions)

-- With the decisions of the reduction some built list is wide for s, and the first such has the phase and the length that are told. Or there is no memory.
abbrev pub RefusesReduction : ℕ → ℕ → List Constraint → Refusal → Type 0
RefusesReduction n s list (States phase built) = (decisions : List Decision) → IsReduced n list decisions → IsFirstOfWide n s (built_lists list decisions) phase built
RefusesReduction n s list Memory = ⊤
RefusesReduction n s list refusal = ⊥
