use Rattle.std.proofs.Common.{[], subst, slice_index_or}
use Rattle.list_dfa.specs.Lists.{IsListed}
use Rattle.live_monitor.specs.Standing.{IsStanding}
use Rattle.live_monitor.specs.Watching.{AcceptsFrom}
use Rattle.live_monitor.specs.declared.standing.Standing.TheVariants.{Kept}
use Rattle.live_monitor.proofs.watched_list.WatchedList.of.Goals as goal

pub returns-in_ok-standings-in-Narrow-clause-ok : goal.returns-in_ok-standings-in-Narrow-clause-ok
returns-in_ok-standings-in-Narrow-clause-ok c =
    let dfa = c.in-Narrow.dfa in
    let listed = subst (IsListed c.args.symbols c.args.states c.args.list.now) c.in-Narrow.is c.in_ok-built.ensures.ok in
    let standings = c.in_ok-standings-in-Narrow.standings.items in
    record {
      least = listed.0;
      as_many = c.in_ok-standings-in-Narrow.ensures.as_many;
      standings = λ q lq. subst (λ n. IsStanding n (AcceptsFrom dfa q) [] (slice_index_or standings q Kept)) listed.0.of.over (c.in_ok-standings-in-Narrow.ensures.are q lq);
    }
