use Rattle.std.proofs.Common.{[], false, refl, ap, sym, ◌∙◌, length}
use Rattle.std.proofs.lemmas.Result.{IfOk-weaker}
use Rattle.event_log.specs.Logs.{in_byte_order, named}
use Rattle.reduce_model.specs.Reduction.{IsReduction}
use Rattle.report_text.specs.Summary.{summary_of}
use Rattle.minerful_core.specs.Outcome.{summary_text, text_of_log}
use Rattle.minerful_core.proofs.Refusing.{handed_on}
use Rattle.minerful_core.proofs.Ranking.{order-length}
use Rattle.minerful_core.proofs.Reports.{events_are, made_in_order, made_constraints, reported_is, refused_reduction, text-is}
use Rattle.minerful_core.proofs.mining.summary_of.Goals as goal

pub reduce-requires-clause-made : goal.reduce-requires-clause-made
reduce-requires-clause-made c =
    made_constraints c.len-tasks.result c.args.list.now c.deref.result.now (c.deref.ensures.value ∙ c.in_ok-constraints.ensures)
    (made_in_order (length c.args.names.now.names) c.len-tasks.result c.args.list.now c.len-tasks.ensures c.requires.made)

pub returns-in_err-reduced-clause-refusal : goal.returns-in_err-reduced-clause-refusal
returns-in_err-reduced-clause-refusal c =
    handed_on c.from_residual-in_err-reduced.result c.in_err-reduced.field-0.0 _ c.from_residual-in_err-reduced.ensures.1
    (λ ids is. refused_reduction c.args.names.now.names ids c.len-tasks.result c.args.list.now c.deref.result.now is.within.numbering c.len-tasks.ensures
    (c.deref.ensures.value ∙ c.in_ok-constraints.ensures) false (summary_text c.args.seed) c.args.states _ c.in_err-reduced.ensures.err)

pub returns-clause-text : goal.returns-clause-text
returns-clause-text c =
    let names = c.args.names.now.names in
    let text_of = summary_text c.args.seed in
    let states = c.args.states in
    IfOk-weaker c.summary_text.result _ _
    (λ text h ids is. reported_is names ids c.len-tasks.result c.args.list.now c.deref.result.now is.within.numbering c.len-tasks.ensures (c.deref.ensures.value ∙ c.in_ok-constraints.ensures)
    (λ n l reduction. IsReduction n states l reduction) (λ reduction. text_of_log (text_of reduction) (named names ids)) c.in_ok-reduced.reduced text.items c.in_ok-reduced.ensures.ok
    (h ∙ ap (λ n. summary_of c.args.seed c.traces.result c.events.result n c.in_ok-reduced.reduced.decisions) (c.len-tasks.ensures ∙ sym (order-length names ids is.within.numbering))
    ∙ text-is (text_of c.in_ok-reduced.reduced) names ids (in_byte_order names) c.traces.result c.events.result is.within.numbering refl
    (c.traces.ensures ids [] is.stands) (events_are ids c.events.result (c.events.ensures ids [] is.stands)))) c.summary_text.ensures.ok
