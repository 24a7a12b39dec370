-- The parts of a list of candidates by their decisions.
use Rattle.std.specs.Prelude.{◌≡◌, ℕ, suc, List, [], ◌∷◌, Bool, true, false, Some, map, take, drop, slice_get}
use Rattle.template_core.specs.declared.constraint.Constraint.{Constraint}
use Rattle.reduce_model.specs.declared.decision.Decision.{Decision}
use Rattle.reduce_model.specs.declared.decision.Decision.TheVariants.{Kept, Conflict, Weaker, FirstPass, SecondPass, Beyond, Untested}

-- it is in the conflict-free model
abbrev pub is_consistent : Decision → Bool
is_consistent Conflict = false
is_consistent Beyond = false
is_consistent decision = true

-- and no other constraint of that model is above it
abbrev pub is_strongest : Decision → Bool
is_strongest (Weaker by) = false
is_strongest decision = is_consistent decision

-- and the first pass leaves it
abbrev pub is_left : Decision → Bool
is_left FirstPass = false
is_left decision = is_strongest decision

-- and the second pass leaves it
abbrev pub is_kept : Decision → Bool
is_kept SecondPass = false
is_kept decision = is_left decision

-- a limit on states gives it in place of a refusal
abbrev pub is_at_limit : Decision → Bool
is_at_limit Beyond = true
is_at_limit Untested = true
is_at_limit decision = false

-- the decision of the sift that it came of
abbrev pub as_sifted : Decision → Decision
as_sifted Conflict = Conflict
as_sifted Beyond = Beyond
as_sifted decision = Kept

-- the constraints that have the mark
abbrev pub marked : List Bool → List Constraint → List Constraint
marked [] list = []
marked (mark ∷ marks) [] = []
marked (true ∷ marks) (c ∷ list) = c ∷ marked marks list
marked (false ∷ marks) (c ∷ list) = marked marks list

-- the constraints whose decision passes a test: of the whole list, before a place, and after it
abbrev pub those : (Decision → Bool) → List Constraint → List Decision → List Constraint
those test list decisions = marked (map test decisions) list

abbrev pub before : (Decision → Bool) → ℕ → List Constraint → List Decision → List Constraint
before test place list decisions = marked (take place (map test decisions)) (take place list)

abbrev pub after : (Decision → Bool) → ℕ → List Constraint → List Decision → List Constraint
after test place list decisions = marked (drop (suc place) (map test decisions)) (drop (suc place) list)

-- a candidate and its decision stand at the place
pub record IsAt (list : List Constraint) (decisions : List Decision) (place : ℕ) (c : Constraint) (d : Decision) : Type 0 where
  pub constraint : slice_get list place ≡ Some c
  pub decision : slice_get decisions place ≡ Some d
