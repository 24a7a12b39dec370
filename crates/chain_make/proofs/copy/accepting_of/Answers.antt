use Rattle.std.proofs.Common.{arith}
use Rattle.dfa_core.specs.Automaton.{is_accepting, state_count}
use Rattle.chain_make.proofs.Copying.{values-all, values-more, values-none}
use Rattle.chain_make.proofs.copy.accepting_of.Goals as goal

pub loop-state-init : goal.loop-state-init
loop-state-init c = rw c.new-accepting.ensures.items (values-none (is_accepting c.args.dfa.now))

pub loop-state-preserved : goal.loop-state-preserved
loop-state-preserved c =
    rw c.in_ok-push.ensures.items (values-more (is_accepting c.args.dfa.now) c.loop-state.state c.loop-state.accepting.items c.accepting.result c.loop-state.invariant c.accepting.ensures)

pub returns-clause-ok : goal.returns-clause-ok
returns-clause-ok c =
    values-all (is_accepting c.args.dfa.now) c.loop-state.state (state_count c.args.dfa.now) c.loop-state.accepting.items (omega (arith, c.loop-state-test.false, c.loop-state.auto.state-end, c.states-state-end.ensures.value)) c.loop-state.invariant
