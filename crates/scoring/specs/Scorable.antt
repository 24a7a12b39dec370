-- Numbers that scores can be made of.
use Rattle.std.specs.Prelude.{ℕ, ◌<◌, ◌≤◌, ◌^◌}
use Rattle.template_set.specs.declared.numbers.Numbers.{Numbers}

-- some place is activated, and the numbers are within those of the log and its limits
pub record IsScorable (numbers : Numbers) (traces : ℕ) : Type 0 where
  pub some : 0 < numbers.activated
  pub some_traces : 0 < traces
  pub few : numbers.activated < 2 ^ 24
  pub few_traces : traces ≤ 2 ^ 20
  pub fulfilled : numbers.fulfilled ≤ numbers.activated
  pub traces_within : numbers.traces ≤ traces
  pub target_within : numbers.target ≤ traces

-- a part of a whole that isn't nothing
pub record IsPart (num den : ℕ) : Type 0 where
  pub within : num ≤ den
  pub some : 0 < den
