-- What a check of a log says of each constraint. The traces are lists of names, and an activity is any event that has its name.
use Rattle.std.specs.Prelude.{ℕ, ◌+◌, List, [], Bool, not, Option, map, filter, slice_index, slice_index_or, count_by, nat_eq}
use Rattle.std.specs.List.{position}
use Rattle.std.specs.Option.{option_map}
use Rattle.std.specs.Str.{bytes_eq}
use Rattle.template_core.specs.Repertoire.{is_fulfilled, keeps, activated_places, activated, fulfilled}
use Rattle.template_core.specs.declared.constraint.Constraint.{Constraint}
use Rattle.template_core.specs.declared.kind.Kind.{Kind}
use Rattle.trace_check.specs.declared.checked.Broken.{Broken}
use Rattle.trace_check.specs.declared.checked.Checked.{Checked}

module _ {A : Type 0} (same : A → A → Bool) (kind : Kind) (a b : A) where
  -- the activated places of a trace that aren't fulfilled
  abbrev pub broken_places : List A → List ℕ
  broken_places trace = filter (λ place. not (is_fulfilled same kind a b trace place)) (activated_places same kind a b trace)

  -- the first of them
  abbrev pub first_place : List A → ℕ
  first_place trace = slice_index (broken_places trace) 0

  -- the first trace that doesn't keep the constraint, counted from 1, with its first activated place that isn't fulfilled
  abbrev pub first_broken : List (List A) → Option Broken
  first_broken log =
      option_map (λ i. record { trace = i + 1; place = first_place (slice_index_or log i []) }) (position (λ trace. not (keeps same kind a b trace)) log)

  -- how the traces of a log keep the constraint
  abbrev pub row : List (List A) → Checked
  row log = record {
    activated = activated same kind a b log;
    fulfilled = fulfilled same kind a b log;
    kept = count_by (keeps same kind a b) log;
    broken = first_broken log;
  }

-- the same where the events are the numbers of activities
abbrev pub numbered_row : List (List ℕ) → Constraint → Checked
numbered_row log c = row nat_eq c.kind c.first c.second log

-- the name of a constraint's activity
abbrev pub name_at : List (List ℕ) → ℕ → List ℕ
name_at names id = slice_index_or names id []

-- for each constraint over these names, how the traces of a log of names keep it
abbrev pub checked : List (List ℕ) → List Constraint → List (List (List ℕ)) → List Checked
checked names list log = map (λ c. row bytes_eq c.kind (name_at names c.first) (name_at names c.second) log) list
