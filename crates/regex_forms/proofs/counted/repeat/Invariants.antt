use Rattle.std.proofs.Common.{◌≡◌, ◌++◌, map, replicate}
use Rattle.regex_forms.specs.Trees.{view}
use Rattle.regex_forms.proofs.counted.repeat.Given as goal

abbrev pub invariant-loop : goal.invariant-loop
invariant-loop l = map view l.parts.items ≡ map view l.fn.parts.items ++ replicate l.counter (view l.part)
