use Rattle.std.proofs.Common.{◌≡◌, true, false, refl, sym, ◌∙◌}
use Rattle.scoring.specs.Candidates.{reaches_all}
use Rattle.scoring.specs.Scores.{scored_from}
use Rattle.scoring.proofs.Counting.{reaches-from}
use Rattle.scoring.proofs.scorer.reaching.Goals as goal

pub returns-then-not-reach : goal.returns-then-not-reach
returns-then-not-reach c =
    let same = reaches-from c.args.constraint c.args.numbers.now c.args.traces c.args.thresholds.now _ _ _ _ c.requires.numbers
    c.times-confidence.ensures.num c.times-confidence.ensures.den c.times-interest.ensures.num c.times-interest.ensures.den in
    let no : reaches_all c.args.thresholds.now (scored_from c.args.constraint c.args.numbers.now c.args.traces) ≡ false =
    sym same ∙ sym c.reach.ensures ∙ c.if-not-reach.true in
    rw no refl

pub returns : goal.returns
unfolding scored_from
returns c =
    let same = reaches-from c.args.constraint c.args.numbers.now c.args.traces c.args.thresholds.now _ _ _ _ c.requires.numbers
    c.times-confidence.ensures.num c.times-confidence.ensures.den c.times-interest.ensures.num c.times-interest.ensures.den in
    let yes : reaches_all c.args.thresholds.now (scored_from c.args.constraint c.args.numbers.now c.args.traces) ≡ true =
    sym same ∙ sym c.reach.ensures ∙ c.if-not-reach.false in
    rw (yes, c.new.ensures.value, c.new-2.ensures.value, c.new-3.ensures.value, c.times-interest.ensures.num, c.times-interest.ensures.den, c.times-confidence.ensures.num, c.times-confidence.ensures.den) refl
