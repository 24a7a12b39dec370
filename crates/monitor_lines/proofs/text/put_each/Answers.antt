use Rattle.std.proofs.Common.{◌∷◌, ◌++◌, [], sym, ◌∙◌, arith}
use Rattle.monitor_lines.proofs.Put.{ArePut-none, ArePut-push, Puts-all, Puts-none}
use Rattle.monitor_lines.proofs.text.put_each.Goals as goal

pub returns-then-constraints-eq0 : goal.returns-then-constraints-eq0
returns-then-constraints-eq0 c = Puts-none c.args.monitor.now c.args.case _ _ c.in_ok-push.ensures.items (sym c.if-constraints-eq0.true ∙ c.requires.constraints)

pub loop-place-init : goal.loop-place-init
loop-place-init c = ([], ArePut-none c.args.monitor.now c.args.case c.args.text.now.items)

pub loop-place-preserved : goal.loop-place-preserved
loop-place-preserved c = (
  c.loop-place.invariant.0 ++ c.one.result ∷ [],
  ArePut-push c.args.monitor.now c.args.case c.loop-place.place _ _ _ c.loop-place.invariant.0 c.one.result _ c.loop-place.invariant.1 c.letter.ensures c.in_ok-push-2.ensures.items c.one.ensures,
)

pub returns : goal.returns
returns c = Puts-all c.args.monitor.now c.args.case c.loop-place.place _ _ c.loop-place.invariant (omega arith) (omega arith)
