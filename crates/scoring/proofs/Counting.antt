-- What a search counts: the numbers of its constraints, and which reach the thresholds.
use Rattle.std.proofs.Common.{◌≡◌, ◌≢◌, ℕ, ◌*◌, ◌<◌, List, true, ◌&&◌, length, refl, sym, ap, ap₂, arith}
use Rattle.decl_base.specs.Threshold.{is_met}
use Rattle.decl_base.specs.declared.threshold.Thresholds.{Thresholds}
use Rattle.template_core.specs.Counts.{unary_counts, pair_counts, no_pair, pair_in, counts_of}
use Rattle.template_core.specs.declared.constraint.Constraint.{Constraint}
use Rattle.template_core.specs.declared.counts.Counts.{Counts}
use Rattle.template_core.specs.declared.counts.PairCounts.{PairCounts}
use Rattle.template_core.specs.declared.counts.UnaryCounts.{UnaryCounts}
use Rattle.template_core.specs.declared.kind.Kind.{Kind}
use Rattle.template_set.specs.declared.numbers.Numbers.{Numbers}
use Rattle.template_core.specs.Constraints.{IsWellMadeIn}
use Rattle.template_core.specs.Groups.{group_of, takes}
use Rattle.template_core.specs.declared.group.Group.{Group}
use Rattle.template_core.specs.declared.group.Group.TheVariants.{Existence, Relation, Mutual, Negative}
use Rattle.scoring.specs.Candidates.{reaches_all}
use Rattle.scoring.specs.Scores.{scored_from}
use Rattle.scoring.specs.Scorable.{IsScorable}
use Rattle.scoring.proofs.Numbers.{taken_in}
use Rattle.scoring.proofs.Reaching.{is_met-lowest}

-- the scores reach their thresholds in lowest terms exactly where they do before
pub reaches-from : (c : Constraint) (numbers : Numbers) (traces : ℕ) (thresholds : Thresholds) (num den least most : ℕ) → IsScorable numbers traces
    → num ≡ numbers.fulfilled * numbers.traces → den ≡ numbers.activated * traces → least ≡ num * numbers.target → most ≡ den * traces
    → (is_met thresholds.support.millionths numbers.fulfilled numbers.activated && (is_met thresholds.confidence.millionths num den && is_met thresholds.interest.millionths least most))
    ≡ reaches_all thresholds (scored_from c numbers traces)
unfolding scored_from
reaches-from c numbers traces thresholds num den least most h p q r s =
    let twice : 0 < numbers.activated * traces = positive numbers.activated traces h.some h.some_traces in
    let thrice : 0 < numbers.activated * traces * traces = positive (numbers.activated * traces) traces twice h.some_traces in
    rw (r, s, p, q)
    (ap₂ ◌&&◌ (sym (is_met-lowest thresholds.support.millionths numbers.fulfilled numbers.activated h.some))
    (ap₂ ◌&&◌ (sym (is_met-lowest thresholds.confidence.millionths (numbers.fulfilled * numbers.traces) (numbers.activated * traces) twice))
    (sym (is_met-lowest thresholds.interest.millionths (numbers.fulfilled * numbers.traces * numbers.target) (numbers.activated * traces * traces) thrice))))
  where
    positive : (x y : ℕ) → 0 < x → 0 < y → 0 < x * y
    positive x y h k = grind (arith)

abbrev all_counts : ℕ → UnaryCounts → UnaryCounts → PairCounts → PairCounts → Counts
all_counts traces first second onward back = record { traces = traces; first = first; second = second; onward = onward; back = back }

-- the counters of an activity alone, and those of two, for each template that takes them
alone_in : (group : Group) (rank : ℕ) (log : List (List ℕ)) → IsWellMadeIn group rank rank → no_pair ≡ pair_in group rank rank log
alone_in Existence rank log made = refl
alone_in (Relation activation) rank log made = absurd (made refl)
alone_in Mutual rank log made = absurd (made refl)
alone_in Negative rank log made = absurd (made refl)

pub counts_alone : (kind : Kind) (rank : ℕ) (log : List (List ℕ)) → takes kind rank rank ≡ true
    → all_counts (length log) (unary_counts rank log) (unary_counts rank log) no_pair no_pair ≡ counts_of kind rank rank log
counts_alone kind rank log t =
    ap (λ pair. all_counts (length log) (unary_counts rank log) (unary_counts rank log) pair pair) (alone_in (group_of kind) rank log (taken_in kind rank rank t))

between_in : (group : Group) (first second : ℕ) (log : List (List ℕ)) → first ≢ second → IsWellMadeIn group first second
    → (pair_counts first second log ≡ pair_in group first second log) × (pair_counts second first log ≡ pair_in group second first log)
between_in Existence first second log differ made = absurd (differ made)
between_in (Relation activation) first second log differ made = (refl, refl)
between_in Mutual first second log differ made = (refl, refl)
between_in Negative first second log differ made = (refl, refl)

pub counts_between : (kind : Kind) (first second : ℕ) (log : List (List ℕ)) → first ≢ second → takes kind first second ≡ true
    → all_counts (length log) (unary_counts first log) (unary_counts second log) (pair_counts first second log) (pair_counts second first log)
    ≡ counts_of kind first second log
counts_between kind first second log differ t =
    let pairs = between_in (group_of kind) first second log differ (taken_in kind first second t) in
    ap₂ (all_counts (length log) (unary_counts first log) (unary_counts second log)) pairs.0 pairs.1
