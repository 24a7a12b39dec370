-- The numbers of a constraint over the activities of a log: scores can be made of them.
use Rattle.std.proofs.Common.{◌≡◌, ◌≢◌, ℕ, ◌<◌, ◌≤◌, List, Bool, true, false, not, ◌==◌, nat_lt, nat_eq, cond, eqb, length, sum_by, arith}
use Rattle.std.proofs.lemmas.Bool.Decides.{nat_tests}
use Rattle.std.proofs.lemmas.List.Sums.{count_by-le-length, sum_by-le-sum_by}
use Rattle.decl_base.specs.Limits.{standard}
use Rattle.template_core.specs.Constraints.{IsWellMade, IsWellMadeIn}
use Rattle.template_core.specs.Counters.{occurrences}
use Rattle.template_core.specs.Counts.{traces_with}
use Rattle.template_core.specs.Events.{occurs}
use Rattle.template_core.specs.Repertoire.{activated}
use Rattle.template_core.specs.declared.constraint.Constraint.{Constraint}
use Rattle.template_core.specs.declared.kind.Kind.{Kind}
use Rattle.template_core.specs.declared.kind.Kind.TheVariants.{CoExistence, NotCoExistence}
use Rattle.template_core.proofs.Gains.{occurs-count}
use Rattle.template_core.proofs.Sizes.{activated-positive, activated-le, fulfilled-le, traces_of-le, targets_of-le}
use Rattle.template_set.specs.Numbers.{numbers_of}
use Rattle.template_core.specs.Groups.{group_of, takes, takes_in}
use Rattle.template_core.specs.declared.group.Group.{Group}
use Rattle.template_core.specs.declared.group.Group.TheVariants.{Existence, Relation, Mutual, Negative}
use Rattle.template_core.proofs.Made.{made-from}
use Rattle.scoring.specs.Candidates.{IsConstraintOver, EachOccurs}
use Rattle.scoring.specs.Scorable.{IsScorable}

equal_from : (r s : ℕ) → (r == s) ≡ true → r ≡ s
equal_from r s h = grind (arith, nat_tests)

differ_from : (r s : ℕ) → not (r == s) ≡ true → r ≢ s
differ_from r s h e = grind (arith, nat_tests)

differ_from_less : (r s : ℕ) → nat_lt r s ≡ true → r ≢ s
differ_from_less r s h e = grind (arith, nat_tests)

-- two ranks that a template takes are two that it may have
by_group : (group : Group) (first second : ℕ) → takes_in group first second ≡ true → IsWellMadeIn group first second
by_group Existence first second t = equal_from first second t
by_group (Relation activation) first second t = differ_from first second t
by_group Mutual first second t = differ_from first second t
by_group Negative first second t = differ_from first second t

pub taken_in : (kind : Kind) (first second : ℕ) → takes kind first second ≡ true → IsWellMadeIn (group_of kind) first second
taken_in CoExistence first second t = differ_from_less first second t
taken_in NotCoExistence first second t = differ_from_less first second t
taken_in kind first second t = by_group (group_of kind) first second t

pub made_over : (n : ℕ) (c : Constraint) → IsConstraintOver n c → IsWellMade c.kind c.first c.second
made_over n c over = made-from c.kind c.first c.second over.template (taken_in c.kind c.first c.second over.takes)

some_events : (a : ℕ) (log : List (List ℕ)) → 0 < traces_with nat_eq a log → 0 < sum_by (occurrences nat_eq a) log
some_events a log h = omega (arith, h, sum_by-le-sum_by (λ trace. cond (occurs nat_eq a trace) 1 0) (occurrences nat_eq a) log each)
  where
    some : (n : ℕ) (v : Bool) → eqb n 0 ≡ not v → cond v 1 0 ≤ n
    some n true h = grind (arith, nat_tests)
    some n false h = omega arith

    each : (trace : List ℕ) → cond (occurs nat_eq a trace) 1 0 ≤ occurrences nat_eq a trace
    each trace = some (occurrences nat_eq a trace) (occurs nat_eq a trace) (occurs-count nat_eq a trace)

module _ (log : List (List ℕ)) (n : ℕ) (c : Constraint) (each : EachOccurs n log) (over : IsConstraintOver n c) where
  pub activated_over : 0 < activated nat_eq c.kind c.first c.second log
  activated_over =
      activated-positive c.kind c.first c.second log (made_over n c over) (some_events c.first log (each c.first over.first))
      (some_events c.second log (each c.second over.second))

  pub traces_over : 0 < length log
  traces_over = omega (arith, each c.first over.first, count_by-le-length (occurs nat_eq c.first) log)

  pub scorable : sum_by (λ trace. length trace) log ≤ standard.events → length log ≤ standard.traces → IsScorable (numbers_of c.kind c.first c.second log) (length log)
  scorable events traces = record {
    some = activated_over;
    some_traces = traces_over;
    few = omega (arith, activated-le c.kind c.first c.second log (made_over n c over) standard.events (omega (arith, traces)) events);
    few_traces = omega (arith, traces);
    fulfilled = fulfilled-le nat_eq c.kind c.first c.second log;
    traces_within = traces_of-le nat_eq c.kind c.first c.second log;
    target_within = targets_of-le nat_eq c.kind c.first c.second log;
  }
