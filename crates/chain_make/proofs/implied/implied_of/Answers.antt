use Rattle.chain_make.proofs.Chaining.{implied-take}
use Rattle.chain_make.proofs.implied.implied_of.Goals as goal

pub loop-item-preserved : goal.loop-item-preserved
loop-item-preserved c =
    rw c.in_ok-push.ensures.items (implied-take c.args.dfa.now c.args.dropped.now c.loop-item.implied.items c.loop-item.item-index _ c.in_ok-pairs_of.field-0 c.loop-item-test.true c.loop-item.invariant c.in_ok-pairs_of.ensures.ok)
