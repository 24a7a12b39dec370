use Rattle.std.proofs.Common.{◌<◌, ◌∙◌, length, get_or, refl, ap, arith}
use Rattle.interplay_kb.specs.Steps.{no_activity, after_trace}
use Rattle.interplay_kb.specs.declared.cell.Activity.{Activity}
use Rattle.interplay_kb.proofs.Events.{same_default}
use Rattle.interplay_kb.proofs.Passes.{among_step, among_fresh}
use Rattle.interplay_kb.proofs.settle.count_trace.Goals as goal

pub loop-id-preserved : goal.loop-id-preserved
loop-id-preserved c =
    let inside = c.loop-id-test.true in
    let y = get_or c.args.present.now c.loop-id.id-index 0 in
    let once = c.requires.listed.present.once c.loop-id.id-index inside in
    let room : y < length c.loop-id.activities = omega (arith, c.requires.known c.loop-id.id-index inside, c.loop-id.auto.activities) in
    let own = same_default c.loop-id.activities y _ no_activity room ∙ among_fresh _ _ _ _ _ _ once c.loop-id.invariant in
    among_step _ _ _ _ _ _ _ c.end_trace.new.self inside once room (c.end_trace.ensures ∙ ap (λ (k : Activity). after_trace k (get_or c.args.counts.now y 0)) own) refl c.loop-id.invariant
