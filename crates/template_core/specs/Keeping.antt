-- Which traces keep a list of constraints.
use Rattle.std.specs.Prelude.{ℕ, List, nat_eq}
use Rattle.std.specs.List.{AllByRecursion}
use Rattle.template_core.specs.Repertoire.{Keeps}
use Rattle.template_core.specs.declared.constraint.Constraint.{Constraint}

-- a trace keeps a constraint
abbrev pub KeepsOne : Constraint → List ℕ → Type 0
KeepsOne c w = Keeps nat_eq c.kind c.first c.second w

-- a trace keeps a list where it keeps each constraint of it
abbrev pub KeepsAll : List Constraint → List ℕ → Type 0
KeepsAll list w = AllByRecursion (λ c. KeepsOne c w) list
