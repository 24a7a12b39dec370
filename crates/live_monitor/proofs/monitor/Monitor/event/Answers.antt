use Rattle.std.proofs.Common.{◌≡◌, ◌*◌, ◌∙◌, ap, sym, length, slice_get, subst, arith}
use Rattle.std.proofs.lemmas.List.{get_or_read}
use Rattle.live_monitor.specs.Watching.{AreStepped}
use Rattle.dfa_core.specs.Automaton.{step}
use Rattle.live_monitor.proofs.Leads.{lead-event, state-bound, table_state-bound, written}
use Rattle.live_monitor.proofs.monitor.Monitor.event.Goals as goal

pub step-next-requires-clause-state : goal.step-next-requires-clause-state
step-next-requires-clause-state c =
    let m = c.args.self.now in
    let e = get_or_read m.states.items c.args.case c.index-state.result.now c.requires.begun c.index-state.ensures 0 in
    let bound = state-bound m.list m.watched.items m.states.items m.table_states.items _ c.requires.monitor.1 c.args.case c.requires.begun in
    omega (arith, e, bound)

pub step_each-requires-clause-states : goal.step_each-requires-clause-states
step_each-requires-clause-states c = λ place one at.
    let m = c.args.self.now in
    let width : c.len.result ≡ length m.watched.items = omega (arith, c.len.ensures) in
    rw (c.deref_mut.ensures.value, width) (table_state-bound m.list m.watched.items m.states.items m.table_states.items _ c.requires.monitor.1 c.args.case place one c.requires.begun
    (ap (λ xs. slice_get xs place) (sym c.deref.ensures.value) ∙ at))

pub returns-clause-stands : goal.returns-clause-stands
returns-clause-stands c = λ traces h.
    let m = c.args.self.now in
    let ws = c.deref.result.now in
    let new = c.step_each.new.table_states in
    let width : c.len.result ≡ length m.watched.items = omega (arith, c.len.ensures) in
    let e = get_or_read m.states.items c.args.case c.index-state.result.now c.requires.begun c.index-state.ensures 0 in
    let next = c.step-next.ensures.value ∙ ap (λ q. step m.list.dfa q c.args.symbol) e in
    let len : m.table_states.len ≡ length m.table_states.items = sym c.deref_mut.ensures.len ∙ ap length c.deref_mut.ensures.value in
    let long : length new ≡ length m.table_states.items = c.step_each.auto.table_states ∙ ap length c.deref_mut.ensures.value in
    let from = subst (λ k. AreStepped ws c.args.symbol (c.args.case * k) (length ws) c.deref_mut.result.now new) width c.step_each.ensures in
    let old = subst (λ ts. AreStepped ws c.args.symbol (c.args.case * length m.watched.items) (length ws) ts new) c.deref_mut.ensures.value from in
    let stepped = subst (λ xs. AreStepped xs c.args.symbol (c.args.case * length m.watched.items) (length xs) m.table_states.items new) c.deref.ensures.value old in
    rw (next, written new m.table_states.items m.table_states.len len long)
    (lead-event m.list m.watched.items m.states.items m.table_states.items traces h c.args.case c.args.symbol new c.requires.begun c.requires.known long stepped)

pub returns-clause-monitor : goal.returns-clause-monitor
returns-clause-monitor c = (_, returns-clause-stands c _ c.requires.monitor.1)
