use Rattle.std.proofs.Common.{refl}
use Rattle.std.proofs.lemmas.Result.{on_ok_weaker}
use Rattle.scoring.specs.Search.{constraints_of_two}
use Rattle.scoring.proofs.Searching.{finds-more}
use Rattle.scoring.proofs.search.Search.of_two.Goals as goal

pub returns-clause-finds : goal.returns-clause-finds
unfolding constraints_of_two
returns-clause-finds c =
    on_ok_weaker c.at-2.result
    (λ finds. finds-more c.args.self.now.counters.now c.args.self.now.thresholds.now _ _ _ _ _ _ refl c.in_ok-at.ensures.finds finds) c.at-2.ensures.finds
