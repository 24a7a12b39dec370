-- The order in which the search goes over the constraints, and what it finds.
use Rattle.std.specs.Prelude.{◌≡◌, ℕ, List, [], ◌∷◌, ◌++◌, true, ◌≤◌, length, map, filter, All, if◌then◌else◌}
use Rattle.std.specs.List.{range_with_len, flat_map}
use Rattle.decl_base.specs.declared.threshold.Thresholds.{Thresholds}
use Rattle.interplay_kb.specs.Ranks.{TellsOf, rank_count}
use Rattle.interplay_kb.specs.declared.ranked.RankedKb.{RankedKb}
use Rattle.template_core.specs.Constraints.{IsTemplate}
use Rattle.template_core.specs.Counts.{counts_of}
use Rattle.template_core.specs.declared.constraint.Constraint.{Constraint}
use Rattle.template_core.specs.declared.counts.Counts.{Counts}
use Rattle.template_core.specs.declared.kind.Kind.{Kind}
use Rattle.template_core.specs.Groups.{takes}
use Rattle.scoring.specs.Candidates.{constraint_of, EachOccurs, reaches_all}
use Rattle.scoring.specs.Conditions.{AreThresholds}
use Rattle.scoring.specs.Found.{Holds}
use Rattle.scoring.specs.Scores.{scored}
use Rattle.scoring.specs.declared.found.Found.{Found}
use Rattle.scoring.specs.declared.scored.Scored.{Scored}

-- the constraint of a template and two ranks, if it takes these
abbrev pub taken : ℕ → ℕ → Kind → List Constraint
taken first second kind = if takes kind first second then constraint_of kind first second ∷ [] else []

module _ (kinds : List Kind) where
  -- the constraints of these templates and two ranks in this order, and in both orders
  unfoldable pub constraints_at : ℕ → ℕ → List Constraint
  constraints_at first second = flat_map (taken first second) kinds

  unfoldable pub constraints_of_two : ℕ → ℕ → List Constraint
  constraints_of_two low high = constraints_at low high ++ constraints_at high low

  -- those of an activity alone, and those of it and each of smaller rank
  unfoldable pub constraints_with_smaller : ℕ → List Constraint
  constraints_with_smaller rank = constraints_at rank rank ++ flat_map (λ smaller. constraints_of_two smaller rank) (range_with_len 0 rank)

  -- those of n ranks
  unfoldable pub constraints_by_pair : ℕ → List Constraint
  constraints_by_pair n = flat_map constraints_with_smaller (range_with_len 0 n)

-- the constraints of a list whose scores reach the thresholds, with these
unfoldable pub reaching_of : List (List ℕ) → Thresholds → List Constraint → List Scored
reaching_of log thresholds cs = filter (reaches_all thresholds) (map (scored log) cs)

-- the same counters for the two activities in the other order
abbrev pub turned : Counts → Counts
turned counts = record { traces = counts.traces; first = counts.second; second = counts.first; onward = counts.back; back = counts.onward }

-- the counters of two ranks for each template that takes them
pub record HasCounts (counters : RankedKb) (first second : ℕ) (counts : Counts) : Type 0 where
  pub are : (log : List (List ℕ)) (kind : Kind) → TellsOf counters log → takes kind first second ≡ true → counts ≡ counts_of kind first second log

-- what the candidates are made from: counters of a log in which each activity occurs, templates, and thresholds
pub record IsReady (counters : RankedKb) (kinds : List Kind) (thresholds : Thresholds) : Type 0 where
  pub log : List (List ℕ)
  pub tells : TellsOf counters log
  pub each : EachOccurs (rank_count counters) log
  pub templates : All IsTemplate kinds
  pub few_kinds : length kinds ≤ 50
  pub few : AreThresholds thresholds

-- what the search over a list of constraints adds to what was found before
pub record Finds (counters : RankedKb) (thresholds : Thresholds) (cs : List Constraint) (old new : Found) : Type 0 where
  pub holds : (log : List (List ℕ)) (before : List Scored) → TellsOf counters log → Holds old before → Holds new (before ++ reaching_of log thresholds cs)
