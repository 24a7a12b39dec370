-- What a right certificate says of a claim, in words of traces alone.
use Rattle.std.specs.Prelude.{◌≡◌, ◌≢◌, ℕ, ◌<◌, List, [], ◌∷◌, ◌++◌, length, true, ◌↔◌, cond}
use Rattle.template_core.specs.declared.constraint.Constraint.{Constraint}
use Rattle.template_core.specs.Keeping.{KeepsAll, KeepsOne}
use Rattle.chain_cert.specs.Traces.{IsTrace}
use Rattle.chain_cert.specs.Parts.{ClaimParts, constraint_at, dropped_at, list_at}
use Rattle.chain_cert.specs.declared.claim.Dropped.{Dropped}

-- the dropped constraints that aren't conflicts
abbrev pub consistent : List Dropped → List Constraint
consistent [] = []
consistent (d ∷ dropped) = cond d.conflict (consistent dropped) (d.constraint ∷ consistent dropped)

-- the printed constraints with those
abbrev pub conflict_free : ClaimParts → List Constraint
conflict_free claim = claim.model ++ consistent claim.dropped

-- the printed model keeps the same traces as the conflict-free model
abbrev pub KeepsSame : ClaimParts → Type 0
KeepsSame claim = (w : List ℕ) → IsTrace claim.symbols w → KeepsAll claim.model w ↔ KeepsAll (conflict_free claim) w

-- the example is a trace that keeps it
abbrev pub IsKept : ClaimParts → Type 0
IsKept claim = IsTrace claim.symbols claim.example × KeepsAll claim.model claim.example

-- each witness keeps all other constraints and breaks its own
pub record IsNeeded (claim : ClaimParts) (i : ℕ) : Type 0 where
  pub over : IsTrace claim.symbols (list_at claim.witnesses i)
  pub keeps_others : (j : ℕ) → j < length claim.model → j ≢ i → KeepsOne (constraint_at claim.model j) (list_at claim.witnesses i)
  pub breaks_own : KeepsOne (constraint_at claim.model i) (list_at claim.witnesses i) → ⊥

abbrev pub AreNeeded : ClaimParts → Type 0
AreNeeded claim = (i : ℕ) → i < length claim.model → IsNeeded claim i

-- no trace keeps the printed model and a constraint that was dropped as a conflict
abbrev pub AreConflicts : ClaimParts → Type 0
AreConflicts claim =
    (i : ℕ) → i < length claim.dropped → (dropped_at claim.dropped i).conflict ≡ true
    → (w : List ℕ) → IsTrace claim.symbols w → KeepsAll claim.model w → KeepsOne (dropped_at claim.dropped i).constraint w → ⊥
