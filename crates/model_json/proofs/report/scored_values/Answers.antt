use Rattle.model_json.specs.Report.{scored_value}
use Rattle.model_json.proofs.Values.{values-push}
use Rattle.model_json.proofs.report.scored_values.Goals as goal

pub loop-scored-preserved : goal.loop-scored-preserved
loop-scored-preserved c =
    values-push (scored_value c.args.names.now.names) _ _ c.args.list.now c.loop-scored.scored-index _ c.in_ok-scored_value.field-0
    c.loop-scored-test.true c.scored-item.is c.in_ok-scored_value.ensures c.in_ok-push.ensures.items c.loop-scored.invariant
