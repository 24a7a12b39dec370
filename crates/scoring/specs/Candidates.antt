-- The candidates of a log.
use Rattle.std.specs.Prelude.{◌≡◌, ℕ, ◌<◌, List, Bool, true, ◌&&◌, nat_eq, length, map, filter}
use Rattle.std.specs.List.{range_with_len, flat_map}
use Rattle.decl_base.specs.Fraction.{Fraction}
use Rattle.decl_base.specs.Threshold.{is_met}
use Rattle.decl_base.specs.declared.refusal.Refusal.{Refusal}
use Rattle.decl_base.specs.declared.refusal.Refusal.TheVariants as refusal
use Rattle.decl_base.specs.declared.threshold.Threshold.{Threshold}
use Rattle.decl_base.specs.declared.threshold.Thresholds.{Thresholds}
use Rattle.template_core.specs.Constraints.{IsTemplate}
use Rattle.template_core.specs.Counts.{traces_with}
use Rattle.template_core.specs.Groups.{takes}
use Rattle.template_core.specs.Repertoires.{is_candidate}
use Rattle.template_core.specs.declared.constraint.Constraint.{Constraint}
use Rattle.template_core.specs.declared.kind.Kind.{Kind}
use Rattle.template_core.specs.declared.repertoire.Repertoire.{Repertoire}
use Rattle.template_set.specs.Names.{all_kinds}
use Rattle.scoring.specs.Priority.{priority_cmp, in_order}
use Rattle.scoring.specs.Scores.{scored}
use Rattle.scoring.specs.declared.scored.Scored.{Scored}

abbrev pub constraint_of : Kind → ℕ → ℕ → Constraint
constraint_of kind first second = record { kind = kind; first = first; second = second }

-- the templates of a repertoire whose constraints are mined, in the order of their numbers
abbrev pub mined_kinds : Repertoire → List Kind
mined_kinds repertoire = filter (is_candidate repertoire) all_kinds

-- the constraints of a template with this first rank, of n; of a template; of these templates
unfoldable pub constraints_from : ℕ → Kind → ℕ → List Constraint
constraints_from n kind first = map (constraint_of kind first) (filter (takes kind first) (range_with_len 0 n))

unfoldable pub constraints_of : ℕ → Kind → List Constraint
constraints_of n kind = flat_map (constraints_from n kind) (range_with_len 0 n)

unfoldable pub constraints_over : List Kind → ℕ → List Constraint
constraints_over kinds n = flat_map (constraints_of n) kinds

-- what such a constraint is
pub record IsConstraintOver (n : ℕ) (c : Constraint) : Type 0 where
  pub template : IsTemplate c.kind
  pub first : c.first < n
  pub second : c.second < n
  pub takes : takes c.kind c.first c.second ≡ true

-- a score reaches a threshold
abbrev pub reaches : Threshold → Fraction → Bool
reaches threshold score = is_met threshold.millionths score.num score.den

abbrev pub reaches_all : Thresholds → Scored → Bool
reaches_all thresholds s =
    reaches thresholds.support s.support && (reaches thresholds.confidence s.confidence && reaches thresholds.interest s.interest)

-- the constraints of a repertoire over n ranks whose scores each reach their threshold
unfoldable pub reaching : List (List ℕ) → ℕ → Repertoire → Thresholds → List Scored
reaching log n repertoire thresholds = filter (reaches_all thresholds) (map (scored log) (constraints_over (mined_kinds repertoire) n))

-- the candidates of a log of n ranks, in the order of priority
unfoldable pub candidates_of : List (List ℕ) → ℕ → Repertoire → Thresholds → List Scored
candidates_of log n repertoire thresholds = in_order priority_cmp (reaching log n repertoire thresholds)

-- what a candidate is
pub record IsCandidate (log : List (List ℕ)) (n : ℕ) (repertoire : Repertoire) (thresholds : Thresholds) (s : Scored) : Type 0 where
  pub over : IsConstraintOver n s.constraint
  pub mined : is_candidate repertoire s.constraint.kind ≡ true
  pub scores : s ≡ scored log s.constraint
  pub reaches : reaches_all thresholds s ≡ true

-- each of the n activities stands in some trace
abbrev pub EachOccurs : ℕ → List (List ℕ) → Type 0
EachOccurs n log = (rank : ℕ) → rank < n → 0 < traces_with nat_eq rank log

-- why the candidates of a log are not listed: they are more than the limit
abbrev pub CandidatesCause : ℕ → List Scored → Refusal → Type 0
CandidatesCause limit candidates (refusal.Candidates count) = (count ≡ length candidates) × (limit < length candidates)
CandidatesCause limit candidates refusal.Memory = Unit {0}
CandidatesCause limit candidates _ = ⊥
