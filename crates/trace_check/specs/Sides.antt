-- What the events of one activity say of a trace.
use Rattle.std.specs.Prelude.{◌≡◌, ℕ, ◌+◌, List, Bool, Option, None, Some, length, count_by}
use Rattle.template_core.specs.declared.kind.Kind.{Kind}
use Rattle.trace_check.specs.Demands.{demands_of, IsTest}
use Rattle.trace_check.specs.Standing.{IsFirstFailing}
use Rattle.trace_check.specs.declared.demand.Demand.{Demand}
use Rattle.trace_check.specs.Tallies.{earliest}
use Rattle.trace_check.specs.declared.side.Side.{Side}
use Rattle.trace_check.specs.declared.tally.Tally.{Tally}

-- these events stand at own: how many there are, how many of them have what they ask for, and the first that hasn't
pub record IsSideOf (demand : Demand) (own other : List ℕ) (side : Side) : Type 0 where
  pub activated : side.activated ≡ length own
  pub fulfilled : (test : ℕ → Bool) → IsTest demand own other test → side.fulfilled ≡ count_by test own
  pub broken : (test : ℕ → Bool) → IsTest demand own other test → IsFirstFailing test own (length own) side.broken

-- the same, or nothing where no event activates the constraint
abbrev pub IsSide : Option Demand → List ℕ → List ℕ → Side → Type 0
IsSide None own other side = side ≡ record { activated = 0; fulfilled = 0; broken = None }
IsSide (Some demand) own other side = IsSideOf demand own other side

-- the two sides of a constraint of the kind together
pub record IsJoined (kind : Kind) (firsts seconds : List ℕ) (tally : Tally) : Type 0 where
  pub first : Side
  pub second : Side
  pub first_is : IsSide (demands_of kind).first firsts seconds first
  pub second_is : IsSide (demands_of kind).second seconds firsts second
  pub tally_is : tally ≡ record {
    activated = first.activated + second.activated;
    fulfilled = first.fulfilled + second.fulfilled;
    broken = earliest first.broken second.broken;
  }
