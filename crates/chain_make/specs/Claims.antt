-- The claim of a list of candidates and its reduction.
use Rattle.std.specs.Prelude.{ℕ, List, [], ◌∷◌, Bool, true, false, cond}
use Rattle.template_core.specs.declared.constraint.Constraint.{Constraint}
use Rattle.reduce_model.specs.Deciding.{is_kept, those}
use Rattle.reduce_model.specs.Reduction.{Reduction}
use Rattle.reduce_model.specs.declared.decision.Decision.{Decision}
use Rattle.reduce_model.specs.declared.decision.Decision.TheVariants.{Conflict}
use Rattle.chain_cert.specs.Parts.{ClaimParts, claim_parts}
use Rattle.chain_cert.specs.declared.claim.Dropped.{Dropped}

-- it was left out as a conflict
abbrev pub is_conflict : Decision → Bool
is_conflict Conflict = true
is_conflict decision = false

abbrev pub dropped_as : Decision → Constraint → Dropped
dropped_as decision c = record { constraint = c; conflict = is_conflict decision }

-- the candidates that don't stay, in their order, each with whether it was left out as a conflict
abbrev pub left_out : List Constraint → List Decision → List Dropped
left_out [] decisions = []
left_out (c ∷ list) [] = []
left_out (c ∷ list) (decision ∷ decisions) = cond (is_kept decision) (left_out list decisions) (dropped_as decision c ∷ left_out list decisions)

-- the constraints that stay with their witnesses, those that don't, and the example
abbrev pub claim_of : ℕ → List Constraint → Reduction → ClaimParts
claim_of symbols list reduction = claim_parts symbols (those is_kept list reduction.decisions) reduction.witnesses (left_out list reduction.decisions) reduction.example
