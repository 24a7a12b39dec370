use Rattle.std.proofs.Common.{◌≡◌, ◌≤◌, ◌*◌}
use Rattle.std.specs.List.{flat_map, range_with_len}
use Rattle.interplay_kb.specs.Ranks.{rank_count}
use Rattle.scoring.specs.Search.{constraints_with_smaller, Finds}
use Rattle.scoring.proofs.search.Search.all.Given as goal

abbrev pub invariant-loop-rank : goal.invariant-loop-rank
invariant-loop-rank l = record {
  end : l.rank-end ≡ rank_count l.fn.self.counters.now;
  few : l.rank-end ≤ 1000;
  limit : l.found.limit ≡ l.fn.found.limit;
  count : l.found.count ≤ l.rank * 100000;
  finds : Finds l.fn.self.counters.now l.fn.self.thresholds.now (flat_map (constraints_with_smaller l.fn.self.kinds.now) (range_with_len 0 l.rank)) l.fn.found l.found;
}
