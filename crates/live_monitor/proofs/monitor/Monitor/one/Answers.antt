use Rattle.std.proofs.Common.{◌≡◌, ◌<◌, length, refl, arith}
use Rattle.std.proofs.lemmas.List.{length-map}
use Rattle.std.proofs.lemmas.Option.{slice_get_read}
use Rattle.live_monitor.specs.declared.watched.Watched.{Watched}
use Rattle.live_monitor.proofs.Leads.{cell-read, standing-place, table_state-bound, watched-at}
use Rattle.live_monitor.proofs.monitor.Monitor.one.Goals as goal

pub bounds-index-state : goal.bounds-index-state
bounds-index-state c =
    let m = c.args.self.now in
    let traces = c.requires.monitor.0 in
    let h = c.requires.monitor.1 in
    let width : c.len.result ≡ length m.watched.items = omega (arith, c.len.ensures) in
    let lp : c.args.place < length m.watched.items = omega (arith, c.requires.there, length-map m.watched.items (λ (w : Watched). w.constraint)) in
    let at = slice_get_read m.watched.items (length m.watched.items) c.args.place c.index.result.now refl lp c.index.ensures in
    let e = cell-read m.list m.watched.items m.states.items m.table_states.items traces h c.args.case c.args.place c.len.result c.index-state.result.now c.requires.begun lp width c.index-state.ensures in
    let bound = table_state-bound m.list m.watched.items m.states.items m.table_states.items traces h c.args.case c.args.place c.index.result.now c.requires.begun at in
    let is = watched-at m.list m.watched.items m.states.items m.table_states.items traces h c.args.place c.index.result.now at in
    omega (arith, e, bound, is.table.few_states)

pub returns : goal.returns
returns c = λ traces k h atk.
    let m = c.args.self.now in
    let width : c.len.result ≡ length m.watched.items = omega (arith, c.len.ensures) in
    let lp : c.args.place < length m.watched.items = omega (arith, c.requires.there, length-map m.watched.items (λ (w : Watched). w.constraint)) in
    let at = slice_get_read m.watched.items (length m.watched.items) c.args.place c.index.result.now refl lp c.index.ensures in
    let e = cell-read m.list m.watched.items m.states.items m.table_states.items traces h c.args.case c.args.place c.len.result c.index-state.result.now c.requires.begun lp width c.index-state.ensures in
    standing-place m.list m.watched.items m.states.items m.table_states.items traces h c.args.case c.args.place c.index-state.result.now c.index.result.now k c.requires.begun at atk e
