-- What one trace says of a constraint.
use Rattle.std.specs.Prelude.{ℕ, suc, ◌+◌, ◌-◌, List, ◌&&◌, if◌then◌else◌, Option, None, Some, length, min, nat_eq}
use Rattle.std.specs.Option.{is_some, option_map, option_or}
use Rattle.template_core.specs.Events.{count_places}
use Rattle.template_core.specs.Repertoire.{is_activated, is_fulfilled, keeps}
use Rattle.template_core.specs.declared.kind.Kind.{Kind}
use Rattle.trace_check.specs.Checking.{first_place}
use Rattle.trace_check.specs.declared.checked.Checked.{Checked}
use Rattle.trace_check.specs.declared.tally.Tally.{Tally}

-- the activated places of a trace, those that are fulfilled too, and the first that isn't, where the trace's first event stands at start
abbrev pub tally_of : Kind → ℕ → ℕ → ℕ → List ℕ → Tally
tally_of kind a b start trace = record {
  activated = count_places (is_activated nat_eq kind a b trace) (suc (length trace));
  fulfilled = count_places (λ place. is_activated nat_eq kind a b trace place && is_fulfilled nat_eq kind a b trace place) (suc (length trace));
  broken = if keeps nat_eq kind a b trace then None else Some (start + first_place nat_eq kind a b trace);
}

-- the lesser of two places, where they are there
abbrev pub earliest : Option ℕ → Option ℕ → Option ℕ
earliest None other = other
earliest (Some place) None = Some place
earliest (Some place) (Some other) = Some (min place other)

-- a row with what one more trace says: the trace's number is the number of traces up to it
abbrev pub with_tally : ℕ → ℕ → Tally → Checked → Checked
with_tally number start tally row = record {
  activated = row.activated + tally.activated;
  fulfilled = row.fulfilled + tally.fulfilled;
  kept = row.kept + (if is_some tally.broken then 0 else 1);
  broken = option_or row.broken (option_map (λ place. record { trace = number; place = place - start }) tally.broken);
}
