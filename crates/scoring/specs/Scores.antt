-- The scores of a constraint over a log.
use Rattle.std.specs.Prelude.{◌≡◌, ℕ, ◌*◌, ◌<◌, List, length}
use Rattle.decl_base.specs.Fraction.{lowest_terms}
use Rattle.template_core.specs.Constraints.{IsTemplate}
use Rattle.template_core.specs.declared.constraint.Constraint.{Constraint}
use Rattle.template_set.specs.Numbers.{numbers_of}
use Rattle.template_set.specs.declared.numbers.Numbers.{Numbers}
use Rattle.scoring.specs.declared.scored.Scored.{Scored}

-- a constraint with its scores, from its numbers over a log of so many traces: the part of the activated places that is
-- fulfilled; that, times the part of the traces that count for the template; and that, times the part that has the target
unfoldable pub scored_from : Constraint → Numbers → ℕ → Scored
scored_from c numbers traces = record {
  constraint = c;
  support = lowest_terms numbers.fulfilled numbers.activated;
  confidence = lowest_terms (numbers.fulfilled * numbers.traces) (numbers.activated * traces);
  interest = lowest_terms (numbers.fulfilled * numbers.traces * numbers.target) (numbers.activated * traces * traces);
}

-- a constraint with its scores over a log of ranks
unfoldable pub scored : List (List ℕ) → Constraint → Scored
scored log c = scored_from c (numbers_of c.kind c.first c.second log) (length log)

-- each score is a fraction: its denominator is above 0
pub record HasScores (s : Scored) : Type 0 where
  pub support : 0 < s.support.den
  pub confidence : 0 < s.confidence.den
  pub interest : 0 < s.interest.den

-- a constraint of a template with the scores that it has over a log
pub record IsScored (log : List (List ℕ)) (s : Scored) : Type 0 where
  pub template : IsTemplate s.constraint.kind
  pub scores : s ≡ scored log s.constraint
  pub has : HasScores s
