-- The traces over some symbols.
use Rattle.std.specs.Prelude.{ℕ, List, ◌<◌}
use Rattle.std.specs.List.{AllByRecursion}

-- a trace over the symbols below n
abbrev pub IsTrace : ℕ → List ℕ → Type 0
IsTrace n w = AllByRecursion (λ s. s < n) w
