use Rattle.model_json.specs.ChainValue.{link_value}
use Rattle.model_json.proofs.Values.{values-push}
use Rattle.model_json.proofs.chain_values.link_values.Goals as goal

pub loop-link-preserved : goal.loop-link-preserved
loop-link-preserved c =
    values-push link_value _ _ c.args.links.now c.loop-link.link-index c.link-item.result c.in_ok-link_value.field-0 c.loop-link-test.true c.link-item.is c.in_ok-link_value.ensures c.in_ok-push.ensures.items
    c.loop-link.invariant
