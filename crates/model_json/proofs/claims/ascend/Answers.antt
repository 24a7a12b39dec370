use Rattle.std.proofs.Common.{◌-◌, ◌∙◌, sym, arith}
use Rattle.model_json.proofs.TaskNames.{ascend-end, ascend-fails, ascend-goes}
use Rattle.model_json.proofs.claims.ascend.Goals as goal

pub returns-then-ge : goal.returns-then-ge
returns-then-ge c =
    ascend-fails c.args.names.now.names c.loop-id.id c.name.result.now c.name-in-loop-id.result.now c.loop-id.invariant.0 c.name.ensures c.name-in-loop-id.ensures c.loop-id.invariant.1
    (sym c.ge.ensures ∙ c.if-ge.true)

pub loop-id-preserved : goal.loop-id-preserved
loop-id-preserved c = (
  omega arith,
  ascend-goes c.args.names.now.names c.loop-id.id c.name.result.now c.name-in-loop-id.result.now c.loop-id.invariant.0 c.name.ensures c.name-in-loop-id.ensures c.loop-id.invariant.1
      (sym c.ge.ensures ∙ c.if-ge.false),
)

pub returns : goal.returns
returns c =
    sym (c.loop-id.invariant.1 ∙ ascend-end c.args.names.now.names (c.loop-id.id - 1) (omega (arith, c.loop-id-test.false, c.len-id-end.ensures, c.loop-id.invariant.0)))
