use Rattle.std.proofs.Common.{[]}
use Rattle.live_monitor.proofs.Leads.{lead-new}
use Rattle.live_monitor.proofs.monitor.Monitor.new.Goals as goal

pub returns-clause-stands : goal.returns-clause-stands
returns-clause-stands c =
    rw (c.new.ensures.items, c.new-2.ensures.items)
    (lead-new c.args.symbols c.args.list.now c.in_ok-watched_list.watched_list c.in_ok-watched.watched.items c.in_ok-watched_list.ensures.ok c.in_ok-watched.ensures.are c.in_ok-watched.ensures.of)

pub returns-clause-monitor : goal.returns-clause-monitor
returns-clause-monitor c = ([], returns-clause-stands c)
