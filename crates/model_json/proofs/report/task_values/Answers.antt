use Rattle.serde_json.specs.Data.{string}
use Rattle.model_json.proofs.Values.{values-push_found}
use Rattle.model_json.proofs.report.task_values.Goals as goal

pub loop-id-preserved : goal.loop-id-preserved
loop-id-preserved c =
    values-push_found string _ _ c.args.names.now.names c.loop-id.id c.name.result.now c.in_ok-try_from_str.field-0 c.name.ensures c.in_ok-try_from_str.ensures
    c.in_ok-push.ensures.items c.loop-id.invariant
