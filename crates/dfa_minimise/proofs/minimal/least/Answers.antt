use Rattle.std.proofs.Common.{arith}
use Rattle.dfa_core.specs.Automaton.{Accepts}
use Rattle.dfa_minimise.proofs.Widths.{narrow-few_states}
use Rattle.dfa_minimise.specs.Wide.{IsWide}
use Rattle.dfa_minimise.proofs.minimal.least.Goals as goal

-- no language is wide for as many states as an automaton of it has
pub unreachable-requires : goal.unreachable-requires
unreachable-requires c =
    let a = c.args.dfa.now in
    let wide : IsWide a.symbols (Accepts a) c.states.result = rw c.in-None.is at c.in_ok-least.ensures.ok in
    narrow-few_states a c.states.result c.states.ensures.whole (omega (arith, c.states.ensures.value)) wide
