use Rattle.chain_make.proofs.Chaining.{links-none, links-take}
use Rattle.chain_make.proofs.links.links_of.Goals as goal

pub loop-constraint-init : goal.loop-constraint-init
loop-constraint-init c = rw c.new-links.ensures.items (links-none c.args.symbols c.in_ok-last.last c.in_ok-last.ensures.ok)

pub loop-constraint-preserved : goal.loop-constraint-preserved
loop-constraint-preserved c =
    rw c.in_ok-push.ensures.items (links-take c.args.symbols c.args.model.now c.loop-constraint.links.items c.loop-constraint.last c.in_ok-dfa.field-0.dfa c.loop-constraint.constraint-index _ c.in_ok-dfa.field-0.link
    c.loop-constraint-test.true c.loop-constraint.invariant c.in_ok-dfa.ensures.ok)
