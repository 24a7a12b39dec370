-- What the candidates are asked with.
use Rattle.std.specs.Prelude.{ℕ, ◌≤◌, List, []}
use Rattle.decl_base.specs.declared.threshold.Thresholds.{Thresholds}
use Rattle.interplay_kb.specs.Stands.{StandsFor, activity_count}
use Rattle.interplay_kb.specs.declared.kb.Kb.{Kb}
use Rattle.scoring.specs.Candidates.{EachOccurs}

-- no trace is begun, and each activity has an event in the ended ones
abbrev pub HasEachEvent : Kb → Type 0
HasEachEvent kb = (ended : List (List ℕ)) × StandsFor kb ended [] × EachOccurs (activity_count kb) ended

-- each threshold is at most 1
pub record AreThresholds (thresholds : Thresholds) : Type 0 where
  pub support : thresholds.support.millionths ≤ 1000000
  pub confidence : thresholds.confidence.millionths ≤ 1000000
  pub interest : thresholds.interest.millionths ≤ 1000000
