use Rattle.std.proofs.Common.{ap, subst, sym, ◌∙◌}
use Rattle.decl_base.specs.declared.status.Status.TheVariants.{Done}
use Rattle.event_log.specs.Logs.{in_byte_order}
use Rattle.minerful_core.specs.Outcome.{answers}
use Rattle.minerful_core.proofs.Analysing.{outcome_of_one, refusal_of_one}
use Rattle.minerful_core.proofs.Refusing.{handed_on}
use Rattle.minerful_core.proofs.Renaming.{HasNames, few_over, few_own, has-own, made_over}
use Rattle.minerful_core.proofs.analysis.analyse_known.Goals as goal

pub symbols_of-requires : goal.symbols_of-requires
symbols_of-requires c = few_own c.args.model.now c.in_ok-names.names.names (ap (λ o. o.names) c.in_ok-names.ensures.ok ∙ ap in_byte_order c.names.ensures) c.requires.model

pub analyse-requires-clause-made : goal.analyse-requires-clause-made
analyse-requires-clause-made c =
    let model = c.args.model.now in
    made_over model c.requires.model c.in_ok-names.names.names c.deref.result.now (c.deref.ensures.value ∙ c.in_ok-list.ensures.list) c.symbols_of.result c.symbols_of.ensures
    (subst (λ names. HasNames names model) (sym (ap (λ o. o.names) c.in_ok-names.ensures.ok ∙ ap in_byte_order c.names.ensures)) (has-own model))

pub analyse-requires-clause-short : goal.analyse-requires-clause-short
analyse-requires-clause-short c = few_over c.args.model.now c.requires.model c.in_ok-names.names.names c.deref.result.now (c.deref.ensures.value ∙ c.in_ok-list.ensures.list)

pub returns-in_err-analysed-clause-refusal : goal.returns-in_err-analysed-clause-refusal
returns-in_err-analysed-clause-refusal c =
    handed_on c.from_residual-in_err-analysed.result c.in_err-analysed.field-0.0 _ c.from_residual-in_err-analysed.ensures.1
    (refusal_of_one c.args.states c.args.first c.args.model.now c.in_ok-names.names.names c.symbols_of.result c.deref.result.now
    (ap (λ o. o.names) c.in_ok-names.ensures.ok ∙ ap in_byte_order c.names.ensures) c.symbols_of.ensures (c.deref.ensures.value ∙ c.in_ok-list.ensures.list)
    c.in_err-analysed.field-0.0 c.in_err-analysed.ensures.err)

pub returns-clause-text : goal.returns-clause-text
returns-clause-text c =
    outcome_of_one c.args.states c.args.first c.args.model.now c.in_ok-names.names.names c.symbols_of.result c.deref.result.now
    (ap (λ o. o.names) c.in_ok-names.ensures.ok ∙ ap in_byte_order c.names.ensures) c.symbols_of.ensures (c.deref.ensures.value ∙ c.in_ok-list.ensures.list)
    (answers Done c.in_ok-text.text.items) (c.in_ok-analysed.analysed, c.in_ok-analysed.ensures.ok, ap (answers Done) c.in_ok-text.ensures.ok)
