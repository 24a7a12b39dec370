use Rattle.std.proofs.Common.{◌≡◌, ◌++◌, ◌∙◌, sym, ap, subst, append_assoc, arith}
use Rattle.std.specs.List.{flat_map, range_with_len}
use Rattle.std.proofs.lemmas.List.{append-nil}
use Rattle.interplay_kb.proofs.Ranges.{pieces_more}
use Rattle.scoring.specs.Search.{constraints_at, constraints_of_two, constraints_with_smaller, Finds}
use Rattle.scoring.proofs.Searching.{finds-more}
use Rattle.scoring.proofs.search.Search.of_rank.Goals as goal

pub loop-smaller-init : goal.loop-smaller-init
loop-smaller-init c = record {
  limit = c.at.ensures.limit;
  count = omega (arith, c.in_ok-at.ensures.count);
  finds =
      subst (λ cs. Finds c.args.self.now.counters.now c.args.self.now.thresholds.now cs c.args.found.now c.at.new.found)
      (sym (append-nil (constraints_at c.args.self.now.kinds.now c.args.rank c.args.rank))) c.in_ok-at.ensures.finds;
}

pub loop-smaller-preserved : goal.loop-smaller-preserved
loop-smaller-preserved c = record {
  limit = c.of_two.ensures.limit ∙ c.loop-smaller.invariant.limit;
  count = omega (arith, c.in_ok-of_two.ensures.count);
  finds =
      let pair = λ (smaller : _). constraints_of_two c.args.self.now.kinds.now smaller c.args.rank in
      let k = c.loop-smaller.smaller in
      finds-more c.args.self.now.counters.now c.args.self.now.thresholds.now _ _ _ _ _ _
      (ap (λ xs. constraints_at c.args.self.now.kinds.now c.args.rank c.args.rank ++ xs) (pieces_more pair k)
      ∙ sym (append_assoc (constraints_at c.args.self.now.kinds.now c.args.rank c.args.rank) (flat_map pair (range_with_len 0 k)) (pair k)))
      c.loop-smaller.invariant.finds c.in_ok-of_two.ensures.finds;
}

pub returns-clause-finds : goal.returns-clause-finds
unfolding constraints_with_smaller
returns-clause-finds c =
    let pair = λ (smaller : _). constraints_of_two c.args.self.now.kinds.now smaller c.args.rank in
    subst (λ k. Finds c.args.self.now.counters.now c.args.self.now.thresholds.now
    (constraints_at c.args.self.now.kinds.now c.args.rank c.args.rank ++ flat_map pair (range_with_len 0 k)) c.args.found.now c.loop-smaller.found)
    (let whole : c.loop-smaller.smaller ≡ c.args.rank = omega arith in whole) c.loop-smaller.invariant.finds
