use Rattle.std.proofs.Common.{sym, ◌∙◌, below_more, arith}
use Rattle.reduce_model.proofs.Prunes.{above-here, above-within, here-above}
use Rattle.reduce_model.proofs.pruning.first_above.Goals as goal
use Rattle.reduce_model.proofs.pruning.first_above.Goals.{else-is_consistent-via-then-is_consistent+else-stronger, else-is_consistent-via-else-is_consistent}

pub loop-place-preserved : goal.loop-place-preserved
loop-place-preserved c =
    let at = c.loop-place.place in
    below_more _ _ c.loop-place.invariant (λ is.
    let here = above-here c.args.list.now c.args.decisions.now c.args.constraint.now at c.requires.as_many is in
    elim c.else-is_consistent.branch [
      | else-is_consistent-via-then-is_consistent+else-stronger w ↦ let yes_ = w.stronger.ensures.1 here.1 in let lacks = w.if-stronger.false in absurd (cc (yes_, lacks))
      | else-is_consistent-via-else-is_consistent w ↦ let yes_ = c.is_consistent.ensures ∙ here.0 in let lacks = w.if-is_consistent.false in absurd (cc (yes_, lacks))
    ])

pub returns-then-stronger : goal.returns-then-stronger
returns-then-stronger c = record {
  above = here-above c.args.list.now c.args.decisions.now c.args.constraint.now c.loop-place.place c.requires.as_many c.loop-place-test.true (sym c.is_consistent.ensures ∙ c.if-is_consistent.true)
      (c.stronger.ensures.0 c.if-stronger.true);
  first = c.loop-place.invariant;
}

pub returns : goal.returns
returns c = λ place is. c.loop-place.invariant place (let within = above-within c.args.list.now _ c.args.constraint.now place is in omega (arith, within, c.loop-place-test.false)) is
