use Rattle.std.proofs.Common.{ℕ, ◌<◌, map}
use Rattle.reduce_model.specs.Deciding.{is_consistent}
use Rattle.reduce_model.specs.Reduction.{IsAbove}
use Rattle.reduce_model.proofs.pruning.first_above.Given as goal

abbrev pub invariant-loop-place : goal.invariant-loop-place
invariant-loop-place l = (earlier : ℕ) → earlier < l.place → IsAbove l.list (map is_consistent l.decisions) l.constraint earlier → ⊥
