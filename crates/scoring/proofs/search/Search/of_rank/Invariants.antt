use Rattle.std.proofs.Common.{◌≡◌, ◌≤◌, ◌+◌, ◌*◌, ◌++◌}
use Rattle.std.specs.List.{flat_map, range_with_len}
use Rattle.scoring.specs.Search.{constraints_at, constraints_of_two, Finds}
use Rattle.scoring.proofs.search.Search.of_rank.Given as goal

abbrev pub invariant-loop-smaller : goal.invariant-loop-smaller
invariant-loop-smaller l = record {
  limit : l.found.limit ≡ l.fn.found.limit;
  count : l.found.count ≤ l.fn.found.count + 50 + l.smaller * 100;
  finds : Finds l.fn.self.counters.now l.fn.self.thresholds.now
      (constraints_at l.fn.self.kinds.now l.fn.rank l.fn.rank ++ flat_map (λ smaller. constraints_of_two l.fn.self.kinds.now smaller l.fn.rank) (range_with_len 0 l.smaller)) l.fn.found l.found;
}
