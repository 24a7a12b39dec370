use Rattle.std.proofs.Common.{◌≡◌, ◌∙◌, subst, refl, arith}
use Rattle.std.specs.List.{flat_map, range_with_len}
use Rattle.interplay_kb.specs.Ranks.{rank_count}
use Rattle.interplay_kb.proofs.Ranges.{pieces_more}
use Rattle.scoring.specs.Search.{constraints_with_smaller, constraints_by_pair, Finds}
use Rattle.scoring.proofs.Searching.{finds-none, finds-more}
use Rattle.scoring.proofs.search.Search.all.Goals as goal

pub loop-rank-init : goal.loop-rank-init
loop-rank-init c = record {
  end = c.activities-rank-end.ensures;
  few = omega (arith, c.activities-rank-end.ensures, c.requires.ready.tells.stands.few);
  limit = refl;
  count = omega arith;
  finds = finds-none c.args.self.now.counters.now c.args.self.now.thresholds.now c.args.found.now _ refl;
}

pub loop-rank-preserved : goal.loop-rank-preserved
loop-rank-preserved c = record {
  end = c.loop-rank.invariant.end;
  few = c.loop-rank.invariant.few;
  limit = c.of_rank.ensures.limit ∙ c.loop-rank.invariant.limit;
  count = omega (arith, c.in_ok-of_rank.ensures.count);
  finds =
      finds-more c.args.self.now.counters.now c.args.self.now.thresholds.now _ _ _ _ _ _ (pieces_more (constraints_with_smaller c.args.self.now.kinds.now) c.loop-rank.rank)
      c.loop-rank.invariant.finds c.in_ok-of_rank.ensures.finds;
}

pub returns-clause-finds : goal.returns-clause-finds
unfolding constraints_by_pair
returns-clause-finds c =
    let whole : c.loop-rank.rank ≡ rank_count c.args.self.now.counters.now = omega (arith, c.loop-rank.invariant.end) in
    subst (λ k. Finds c.args.self.now.counters.now c.args.self.now.thresholds.now (flat_map (constraints_with_smaller c.args.self.now.kinds.now) (range_with_len 0 k)) c.args.found.now c.loop-rank.found)
    whole c.loop-rank.invariant.finds
