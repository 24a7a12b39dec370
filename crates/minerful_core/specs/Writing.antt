-- What of a reduction can be written.
use Rattle.std.specs.Prelude.{◌≡◌, ◌<◌, ℕ, List, All, count_by, length}
use Rattle.model_json.specs.Report.{is_tested}
use Rattle.reduce_model.specs.Reduction.{Reduction}
use Rattle.scoring.specs.declared.scored.Scored.{Scored}

-- there is a decision for each candidate, and a witness for each that is tested; the traces are over so many names
pub record CanWrite (n : ℕ) (list : List Scored) (reduction : Reduction) : Type 0 where
  pub decisions : length reduction.decisions ≡ length list
  pub witnesses : length reduction.witnesses ≡ count_by is_tested reduction.decisions
  pub witness : All (λ trace. All (λ rank. rank < n) trace) reduction.witnesses
  pub example : All (λ rank. rank < n) reduction.example
