use Rattle.std.proofs.Common.{◌++◌, ◌∷◌, [], List, ◌∙◌, ap, map}
use Rattle.live_monitor.specs.declared.watched.Watched.{Watched}
use Rattle.live_monitor.proofs.Leads.{lead-begin}
use Rattle.live_monitor.proofs.monitor.Monitor.begin.Goals as goal

pub returns-clause-begun : goal.returns-clause-begun
returns-clause-begun c = λ traces h.
    let m = c.args.self.now in
    let starts = λ (ws : List Watched). map (λ (one : Watched). one.table.start) ws in
    let states = c.put_start.ensures ∙ (ap (λ xs. xs ++ c.start.result ∷ []) c.reserve.ensures.items ∙ ap (λ q. m.states.items ++ q ∷ []) c.start.ensures.value) in
    let tables = c.put_starts.ensures ∙ (ap (λ xs. xs ++ starts c.deref.result.now) c.reserve-2.ensures.items ∙ ap (λ ws. m.table_states.items ++ starts ws) c.deref.ensures.value) in
    rw (states, tables) (lead-begin m.list m.watched.items m.states.items m.table_states.items traces h)

pub returns-clause-monitor : goal.returns-clause-monitor
returns-clause-monitor c = (_, returns-clause-begun c _ c.requires.monitor.1)
