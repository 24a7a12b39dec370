use Rattle.std.proofs.lemmas.List.{take_more}
use Rattle.model_json.specs.ChainValue.{number_value}
use Rattle.model_json.proofs.Values.{values-pushed}
use Rattle.model_json.proofs.chain_values.numbers_value.Goals as goal

pub loop-number-preserved : goal.loop-number-preserved
loop-number-preserved c = values-pushed number_value _ _ _ _ _ c.number_value.result (take_more c.args.numbers.now c.loop-number.number-index _ c.loop-number-test.true) c.number_value.ensures c.in_ok-push.ensures.items c.loop-number.invariant
