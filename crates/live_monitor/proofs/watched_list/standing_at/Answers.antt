use Rattle.std.proofs.Common.{[], sym, subst}
use Rattle.live_monitor.specs.Standing.{IsStanding}
use Rattle.live_monitor.specs.Watching.{AcceptsFrom}
use Rattle.live_monitor.proofs.Standings.{standing-settled}
use Rattle.live_monitor.proofs.watched_list.standing_at.Goals as goal

pub returns : goal.returns
returns c = subst (IsStanding c.args.dfa.now.symbols (AcceptsFrom c.args.dfa.now c.args.state) []) (sym c.settled_standing.ensures)
    (standing-settled c.args.dfa.now c.args.state c.accepting-keeps.result c.stays-settled.result c.requires.least c.requires.state (sym c.accepting-keeps.ensures) c.stays-settled.ensures)
