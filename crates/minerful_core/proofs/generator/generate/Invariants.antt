use Rattle.std.proofs.Common.{◌≡◌, ◌++◌, ◌-◌}
use Rattle.std.specs.List.{flat_map}
use Rattle.minerful_core.specs.Generator.{first_state, line_of_trace, traces_drawn}
use Rattle.minerful_core.proofs.generator.generate.Given as goal

-- the text so far, with the traces that are left, is the whole
abbrev pub invariant-loop : goal.invariant-loop
invariant-loop l =
    l.text.items ++ flat_map line_of_trace (traces_drawn l.length l.letters (l.traces - l.counter) l.draws.state)
    ≡ flat_map line_of_trace (traces_drawn l.length l.letters l.traces (first_state l.seed))
