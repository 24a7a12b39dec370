use Rattle.std.proofs.Common.{◌≡◌, ◌+◌, ◌-◌, ◌≤◌, ◌++◌, refl, sym, ap, ◌∙◌, arith, append_assoc}
use Rattle.std.specs.List.{flat_map}
use Rattle.minerful_core.specs.Generator.{generated_text, line_of_trace, state_behind, trace_drawn, traces_drawn}
use Rattle.minerful_core.proofs.Generating.{traces_drawn-next, traces_drawn-all}
use Rattle.minerful_core.proofs.generator.generate.Goals as goal

pub loop-init : goal.loop-init
loop-init c =
    let none : c.args.traces - 0 ≡ c.args.traces = omega arith in
    rw (none, c.new-text.ensures.items, c.of_seed-draws.ensures) refl

pub loop-preserved : goal.loop-preserved
loop-preserved c =
    let length = c.args.length in
    let letters = c.args.letters in
    let state = c.loop.draws.state in
    rw (c.in_ok-push_line.ensures.text, c.in_ok-push_line.ensures.state)
    (append_assoc c.loop.text.items (line_of_trace (trace_drawn length letters state))
    (flat_map line_of_trace (traces_drawn length letters (c.args.traces - (c.loop.counter + 1)) (state_behind length state)))
    ∙ ap (λ traces. c.loop.text.items ++ flat_map line_of_trace traces) (sym (traces_drawn-next length letters c.args.traces c.loop.counter state c.loop-test.true))
    ∙ c.loop.invariant)

pub returns-clause-ok : goal.returns-clause-ok
unfolding generated_text
returns-clause-ok c =
    let all : c.args.traces ≤ c.loop.counter = omega arith in
    traces_drawn-all c.args.length c.args.letters c.args.traces c.loop.counter c.loop.draws.state c.loop.text.items _ all c.loop.invariant
