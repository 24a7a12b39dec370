use Rattle.std.proofs.Common.{◌∙◌, sym, subst, refl, arith}
use Rattle.scoring.specs.Search.{taken, Finds}
use Rattle.scoring.proofs.Searching.{finds-none, finds-more, kinds-more, kinds-all}
use Rattle.scoring.proofs.search.Search.at.Goals as goal

pub loop-kind-init : goal.loop-kind-init
loop-kind-init c = record {
  limit = refl;
  count = omega arith;
  finds = finds-none c.args.self.now.counters.now c.args.self.now.thresholds.now c.args.found.now _ refl;
}

pub loop-kind-preserved : goal.loop-kind-preserved
loop-kind-preserved c = record {
  limit = c.visit.ensures.limit ∙ c.loop-kind.invariant.limit;
  count = omega (arith, c.in_ok-visit.ensures.count);
  finds =
      finds-more c.args.self.now.counters.now c.args.self.now.thresholds.now _ _ _ _ _ _
      (kinds-more (taken c.args.first c.args.second) c.loop-kind.kind-index _ c.args.self.now.kinds.now c.loop-kind-test.true) c.loop-kind.invariant.finds
      c.in_ok-visit.ensures.finds;
}

pub returns-clause-finds : goal.returns-clause-finds
returns-clause-finds c =
    subst (λ cs. Finds c.args.self.now.counters.now c.args.self.now.thresholds.now cs c.args.found.now c.loop-kind.found)
    (sym (kinds-all c.args.self.now.kinds.now c.args.first c.args.second c.loop-kind.kind-index (omega arith))) c.loop-kind.invariant.finds
