use Rattle.std.proofs.Common.{◌<◌, length, subst, sym, arith}
use Rattle.std.proofs.lemmas.List.{get_or_read}
use Rattle.live_monitor.specs.Standing.{IsStanding}
use Rattle.live_monitor.specs.Stands.{constraints_of, symbols_of, trace_of}
use Rattle.live_monitor.specs.declared.standing.Standing.TheVariants.{Kept}
use Rattle.template_core.specs.Keeping.{KeepsAll}
use Rattle.live_monitor.proofs.Leads.{standing-case, state-bound}
use Rattle.live_monitor.proofs.monitor.Monitor.whole.Goals as goal

pub index-requires : goal.index-requires
index-requires c =
    let m = c.args.self.now in
    let h = c.requires.monitor.1 in
    let e = get_or_read m.states.items c.args.case c.index-state.result.now c.requires.begun c.index-state.ensures 0 in
    let bound = state-bound m.list m.watched.items m.states.items m.table_states.items _ h c.args.case c.requires.begun in
    omega (arith, e, bound, h.whole.as_many)

pub returns : goal.returns
returns c = λ traces h.
    let m = c.args.self.now in
    let e = get_or_read m.states.items c.args.case c.index-state.result.now c.requires.begun c.index-state.ensures 0 in
    let bound = state-bound m.list m.watched.items m.states.items m.table_states.items traces h c.args.case c.requires.begun in
    let there : c.index-state.result.now < length m.list.standings.items = omega (arith, e, bound, h.whole.as_many) in
    let is = get_or_read m.list.standings.items c.index-state.result.now c.index.result.now there c.index.ensures Kept in
    subst (IsStanding (symbols_of m) (KeepsAll (constraints_of m)) (trace_of traces c.args.case)) (sym is)
    (standing-case m.list m.watched.items m.states.items m.table_states.items traces h c.args.case c.index-state.result.now c.requires.begun e)
