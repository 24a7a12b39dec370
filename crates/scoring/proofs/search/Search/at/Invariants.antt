use Rattle.std.proofs.Common.{◌≡◌, ◌≤◌, ◌+◌, take}
use Rattle.std.specs.List.{flat_map}
use Rattle.scoring.specs.Search.{taken, Finds}
use Rattle.scoring.proofs.search.Search.at.Given as goal

abbrev pub invariant-loop-kind : goal.invariant-loop-kind
invariant-loop-kind l = record {
  limit : l.found.limit ≡ l.fn.found.limit;
  count : l.found.count ≤ l.fn.found.count + l.kind-index;
  finds : Finds l.fn.self.counters.now l.fn.self.thresholds.now (flat_map (taken l.fn.first l.fn.second) (take l.kind-index l.fn.self.kinds.now)) l.fn.found l.found;
}
