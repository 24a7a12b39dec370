use Rattle.std.proofs.Common.{All, subst, sym}
use Rattle.std.proofs.lemmas.List.Elements.{All-push}
use Rattle.live_monitor.specs.Watching.{IsWatched}
use Rattle.live_monitor.proofs.Leads.{constraints-push}
use Rattle.live_monitor.proofs.monitor.watch_each.Goals as goal

pub loop-constraint-preserved : goal.loop-constraint-preserved
loop-constraint-preserved c =
    let old = c.loop-constraint.watched.items in
    record {
      are = subst (All (IsWatched c.args.symbols)) (sym c.in_ok-push.ensures.items) (All-push (IsWatched c.args.symbols) old c.of.result c.loop-constraint.invariant.are c.of.ensures.watched);
      of = rw c.in_ok-push.ensures.items (constraints-push old c.args.list.now c.loop-constraint.constraint-index c.of.result _ c.loop-constraint.invariant.of c.loop-constraint-test.true c.of.ensures.constraint);
    }
