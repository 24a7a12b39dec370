use Rattle.std.proofs.Common.{◌≡◌, ◌<◌, ◌+◌, ◌*◌, ℕ, None, length, ap, arith}
use Rattle.std.proofs.lemmas.List.{get_or_read}
use Rattle.std.proofs.lemmas.Nat.{mul-add-lt}
use Rattle.std.proofs.Math.Nat.{mul_comm}
use Rattle.dfa_core.specs.Automaton.{state_count}
use Rattle.dfa_minimise.proofs.Walking.{filled-more, filled-next}
use Rattle.dfa_minimise.proofs.sources.Sources.of.Goals as goal

pub states-preserved : goal.states-preserved
states-preserved c =
    let a = c.args.dfa.now in
    let n = state_count a in
    let e = c.states-states.ensures.value in
    let h = c.states.invariant in
    let k = c.columns.column in
    let to = c.step_column.result in
    let last = c.states.last.items in
    let lk : k < a.width = omega (arith, c.columns-test.true, c.columns-column-end.ensures.value) in
    let ls : c.states.state < n = omega (arith, c.states-test.true, c.states-state-end.ensures.value) in
    let b = mul-add-lt k n to a.width lk c.step_column.ensures.bound in
    let m = mul_comm n a.width in
    let inside : k * n + to < length last = omega (arith, h.last_length, b, m) in
    let inside2 : k * c.states-states.result + to < length last = rw e inside in
    let read = get_or_read last (k * c.states-states.result + to) c.index.result.now inside2 c.index.ensures None in
    rw (read, e) (filled-more a k c.states.state (k * n + to) last c.states.before.items c.states-states.ensures.whole lk ls (ap (λ (z : ℕ). k * n + z) c.step_column.ensures.value) h)

pub columns-preserved : goal.columns-preserved
columns-preserved c =
    let all : c.states.state ≡ state_count c.args.dfa.now = omega (arith, c.states-test.false, c.states-state-end.ensures.value, c.states.auto.state-end) in
    filled-next c.args.dfa.now c.columns.column c.states.state c.states.last.items c.states.before.items all c.states.invariant
