use Rattle.std.proofs.lemmas.List.{take_more}
use Rattle.model_json.specs.ChainValue.{mark_value}
use Rattle.model_json.proofs.Values.{values-pushed}
use Rattle.model_json.proofs.chain_values.marks_value.Goals as goal

pub loop-accepts-preserved : goal.loop-accepts-preserved
loop-accepts-preserved c = values-pushed mark_value _ _ _ _ _ c.mark_value.result (take_more c.args.accepting.now c.loop-accepts.accepts-index _ c.loop-accepts-test.true) c.mark_value.ensures c.in_ok-push.ensures.items c.loop-accepts.invariant
