use Rattle.std.proofs.Common.{Bool, true, false, cond, get_or, take, nat_eq, eq-eqb, sym, ap, ◌∙◌, arith}
use Rattle.std.proofs.lemmas.Bool.{ne_eqb}
use Rattle.template_set.proofs.Around.{earlier, earlier_more}
use Rattle.template_set.proofs.places.alternates_earlier.Goals as goal
use Rattle.template_set.proofs.places.alternates_earlier.Goals.{then-event-first, else-event-first+then-event-second, else-event-first+else-event-second}

pub loop-event-preserved : goal.loop-event-preserved
loop-event-preserved c =
    let a = c.args.first in
    let b = c.args.second in
    let event = get_or c.args.before.now c.loop-event.event-index 0 in
    let before = earlier a b (take c.loop-event.event-index c.args.before.now) in
    let more = earlier_more a b c.args.before.now c.loop-event.event-index (omega arith) in
    let by_first = λ (v : Bool). cond v true (cond (nat_eq event b) false before) in
    let by_second = λ (v : Bool). cond v false before in
    elim c.if-event-first.branch [
      | then-event-first w ↦ w.alternates-is ∙ sym (more ∙ ap by_first (eq-eqb event a w.if-event-first.true))
      | else-event-first+then-event-second w ↦
          w.alternates-is ∙ sym (more ∙ ap by_first (ne_eqb event a w.if-event-first.false) ∙ ap by_second (eq-eqb event b w.if-event-second.true))
      | else-event-first+else-event-second w ↦
          w.alternates-is
          ∙ c.loop-event.invariant
          ∙ sym (more ∙ ap by_first (ne_eqb event a w.if-event-first.false) ∙ ap by_second (ne_eqb event b w.if-event-second.false))
    ]
