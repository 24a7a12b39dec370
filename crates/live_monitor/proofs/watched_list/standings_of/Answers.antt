use Rattle.std.proofs.Common.{◌+◌, ◌∙◌, ap, length}
use Rattle.std.proofs.lemmas.List.{length_push}
use Rattle.live_monitor.proofs.Standings.{standings-push}
use Rattle.live_monitor.proofs.watched_list.standings_of.Goals as goal

pub loop-state-preserved : goal.loop-state-preserved
loop-state-preserved c =
    let old = c.loop-state.standings.items in
    let s = c.standing_at.result in
    record {
      as_many = ap length c.in_ok-push.ensures.items ∙ (length_push old s ∙ ap (λ k. k + 1) c.loop-state.invariant.as_many);
      are = λ q lq. rw c.in_ok-push.ensures.items
          (standings-push c.args.dfa.now old c.loop-state.state s c.loop-state.invariant.as_many c.loop-state.invariant.are c.standing_at.ensures q lq);
    }
