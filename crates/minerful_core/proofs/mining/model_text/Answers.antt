use Rattle.minerful_core.proofs.Models.{can_write}
use Rattle.std.proofs.Common.{[], ap, sym, ◌∙◌, length}
use Rattle.std.proofs.lemmas.Result.{IfOk-weaker}
use Rattle.event_log.specs.Logs.{named}
use Rattle.minerful_core.specs.Outcome.{IsReductionBy, model_text, text_of_log}
use Rattle.minerful_core.proofs.Refusing.{handed_on}
use Rattle.minerful_core.proofs.Ranking.{order-length}
use Rattle.minerful_core.proofs.Reports.{events_are, made_in_order, made_constraints, reported_is, refused_reduction, text-is}
use Rattle.minerful_core.proofs.mining.model_text.Goals as goal

pub reduce_by-requires-clause-made : goal.reduce_by-requires-clause-made
reduce_by-requires-clause-made c =
    made_constraints c.len.result c.args.list.now c.deref.result.now (c.deref.ensures.value ∙ c.in_ok-constraints.ensures)
    (made_in_order (length c.args.names.now.names) c.len.result c.args.list.now c.len.ensures c.requires.made)

pub returns-in_err-reduced-clause-refusal : goal.returns-in_err-reduced-clause-refusal
returns-in_err-reduced-clause-refusal c =
    handed_on c.from_residual-in_err-reduced.result c.in_err-reduced.field-0.0 _ c.from_residual-in_err-reduced.ensures.1
    (λ ids is. refused_reduction c.args.names.now.names ids c.len.result c.args.list.now c.deref.result.now is.within.numbering c.len.ensures
    (c.deref.ensures.value ∙ c.in_ok-constraints.ensures) c.args.settings.now.keep (model_text c.args.settings.now.out c.args.settings.now.repertoire c.args.list.now) c.args.settings.now.states _ c.in_err-reduced.ensures.err)

pub write_model-requires-clause-made : goal.write_model-requires-clause-made
write_model-requires-clause-made c =
    made_in_order (length c.args.names.now.names) (length c.in_ok-ordered.ordered.names) c.args.list.now
    (ap (λ o. length o.names) c.in_ok-ordered.ensures.ok ∙ order-length c.args.names.now.names c.requires.kb_of.0 c.requires.kb_of.1.within.numbering) c.requires.made

pub write_model-requires-clause-reduced : goal.write_model-requires-clause-reduced
write_model-requires-clause-reduced c =
    can_write c.args.settings.now.keep c.len.result (length c.in_ok-ordered.ordered.names) c.args.settings.now.states c.args.list.now c.deref.result.now c.in_ok-reduced.reduced
    (ap (λ o. length o.names) c.in_ok-ordered.ensures.ok ∙ order-length c.args.names.now.names c.requires.kb_of.0 c.requires.kb_of.1.within.numbering ∙ sym c.len.ensures)
    (c.deref.ensures.value ∙ c.in_ok-constraints.ensures) c.in_ok-reduced.ensures.ok

pub returns-clause-text : goal.returns-clause-text
returns-clause-text c =
    let names = c.args.names.now.names in
    let list = c.args.list.now in
    let states = c.args.settings.now.states in
    let text_of = model_text c.args.settings.now.out c.args.settings.now.repertoire list in
    IfOk-weaker c.write_model.result _ _
    (λ text h ids is. reported_is names ids c.len.result list c.deref.result.now is.within.numbering c.len.ensures (c.deref.ensures.value ∙ c.in_ok-constraints.ensures)
    (λ n l reduction. IsReductionBy c.args.settings.now.keep n states l reduction) (λ reduction. text_of_log (text_of reduction) (named names ids)) c.in_ok-reduced.reduced text.items c.in_ok-reduced.ensures.ok
    (h ∙ text-is (text_of c.in_ok-reduced.reduced) names ids c.in_ok-ordered.ordered.names c.traces.result c.events.result is.within.numbering
    (ap (λ o. o.names) c.in_ok-ordered.ensures.ok) (c.traces.ensures ids [] is.stands) (events_are ids c.events.result (c.events.ensures ids [] is.stands)))) c.write_model.ensures.text
