use Rattle.std.proofs.Common.{ap}
use Rattle.template_core.specs.declared.counts.Counts.{Counts}
use Rattle.interplay_kb.proofs.ByRank.{few_events_told, few_traces_told}
use Rattle.scoring.specs.Scores.{scored}
use Rattle.scoring.proofs.Numbers.{made_over, scorable}
use Rattle.scoring.proofs.search.Search.score.Goals as goal

pub counts_of-numbers-requires : goal.counts_of-numbers-requires
counts_of-numbers-requires c =
    let ready = c.requires.ready in
    record {
      a = c.args.constraint.first;
      b = c.args.constraint.second;
      log = ready.log;
      made = made_over _ c.args.constraint c.requires.over;
      few_events = few_events_told c.args.self.now.counters.now ready.log ready.tells;
      few_traces = few_traces_told c.args.self.now.counters.now ready.log ready.tells;
      are = c.requires.counts.are ready.log c.args.constraint.kind ready.tells c.requires.over.takes;
    }

pub reaching-requires-clause-numbers : goal.reaching-requires-clause-numbers
reaching-requires-clause-numbers c =
    let ready = c.requires.ready in
    let kind = c.args.constraint.kind in
    let are = c.requires.counts.are ready.log kind ready.tells c.requires.over.takes in
    let made = made_over _ c.args.constraint c.requires.over in
    rw (c.counts_of-numbers.ensures c.args.constraint.first c.args.constraint.second ready.log made are, ap (λ (k : Counts). k.traces) are)
    (scorable ready.log _ c.args.constraint ready.each c.requires.over (few_events_told c.args.self.now.counters.now ready.log ready.tells)
    (few_traces_told c.args.self.now.counters.now ready.log ready.tells))

pub returns : goal.returns
unfolding scored
returns c = λ log told.
    let kind = c.args.constraint.kind in
    let are = c.requires.counts.are log kind told c.requires.over.takes in
    let made = made_over _ c.args.constraint c.requires.over in
    rw (c.counts_of-numbers.ensures c.args.constraint.first c.args.constraint.second log made are, ap (λ (k : Counts). k.traces) are) at c.reaching.ensures
