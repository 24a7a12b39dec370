-- The lists of constraints whose traces told apart are counted, in the order in which they are built.
use Rattle.std.specs.Prelude.{◌≡◌, ◌⊎◌, ℕ, List, [], ◌∷◌, ◌++◌, map, length, if◌then◌else◌}
use Rattle.std.specs.List.{AllByRecursion, flat_map}
use Rattle.dfa_minimise.specs.Wide.{IsWide}
use Rattle.template_core.specs.declared.constraint.Constraint.{Constraint}
use Rattle.reduce_model.specs.Deciding.{is_consistent, is_kept, is_left, those}
use Rattle.reduce_model.specs.Keeping.{KeepsAll}
use Rattle.reduce_model.specs.declared.decision.Decision.{Decision}

-- a list, and the phase that builds it
pub record Built : Type 0 where
  pub phase : ℕ
  pub list : List Constraint

-- a list, and then it with more and more of what comes after, up to all
abbrev pub growing : List Constraint → List Constraint → List (List Constraint)
growing list [] = list ∷ []
growing list (c ∷ after) = list ∷ growing (list ++ c ∷ []) after

-- for each constraint that comes after a list, all up to it and with it
abbrev pub up_to_each : List Constraint → List Constraint → List (List Constraint)
up_to_each before [] = []
up_to_each before (c ∷ after) = (before ++ c ∷ []) ∷ up_to_each (before ++ c ∷ []) after

-- for each constraint that the first pass leaves, from the last to the first: those that it leaves before it, and those after it that stay
abbrev pub tests : List Constraint → List Constraint → List Decision → List (List Constraint)
tests before [] decisions = []
tests before (c ∷ list) [] = []
tests before (c ∷ list) (d ∷ decisions) =
    if is_left d then tests (before ++ c ∷ []) list decisions ++ (before ++ those is_kept list decisions) ∷ [] else tests before list decisions

-- for each constraint that comes after a list, all but it
abbrev pub all_but_each : List Constraint → List Constraint → List (List Constraint)
all_but_each before [] = []
all_but_each before (c ∷ after) = (before ++ after) ∷ all_but_each (before ++ c ∷ []) after

abbrev pub built_in : ℕ → List Constraint → Built
built_in phase list = record { phase = phase; list = list }

-- the lists of a phase, each after its prefixes, the shorter first
abbrev pub in_phase : ℕ → List (List Constraint) → List Built
in_phase phase lists = flat_map (λ (list : List Constraint). map (built_in phase) (growing [] list)) lists

-- The kept lists of the conflict-free model and of the first pass as they arise, the tests of the second pass, and the model without each of its constraints.
abbrev pub built_lists : List Constraint → List Decision → List Built
built_lists list decisions =
    in_phase 1 (up_to_each [] (those is_consistent list decisions))
    ++ in_phase 2 (up_to_each [] (those is_left list decisions))
    ++ in_phase 3 (tests [] list decisions)
    ++ in_phase 4 (all_but_each [] (those is_kept list decisions))

-- none of the lists is wide for s
abbrev pub AreNarrow : ℕ → ℕ → List Built → Type 0
AreNarrow n s lists = AllByRecursion (λ (built : Built). IsWide n (KeepsAll built.list) s → ⊥) lists

-- the first of the lists that is wide for s is of this phase and length
abbrev pub IsFirstOfWide : ℕ → ℕ → List Built → ℕ → ℕ → Type 0
IsFirstOfWide n s [] phase size = ⊥
IsFirstOfWide n s (built ∷ lists) phase size =
    (IsWide n (KeepsAll built.list) s × (built.phase ≡ phase) × (length built.list ≡ size)) ⊎ ((IsWide n (KeepsAll built.list) s → ⊥) × IsFirstOfWide n s lists phase size)
