use Rattle.std.proofs.Common.{ap, ap₂, subst, sym, ◌∙◌}
use Rattle.minerful_core.specs.Outcome.{answers, status_of_relation}
use Rattle.minerful_core.proofs.Comparing.{outcome_of_two, refusal_of_two}
use Rattle.minerful_core.proofs.Refusing.{handed_on}
use Rattle.minerful_core.proofs.Renaming.{HasNames, few_both, few_over, has-first, has-second, made_over}
use Rattle.minerful_core.proofs.comparison.compare_known.Goals as goal

pub symbols_of-requires : goal.symbols_of-requires
symbols_of-requires c = few_both c.args.first.now c.args.second.now c.in_ok-names.names.names c.in_ok-names.ensures.names c.requires.first c.requires.second

pub compare-requires-clause-first_made : goal.compare-requires-clause-first_made
compare-requires-clause-first_made c =
    let first = c.args.first.now in
    made_over first c.requires.first c.in_ok-names.names.names c.deref.result.now (c.deref.ensures.value ∙ c.in_ok-one.ensures.list) c.symbols_of.result c.symbols_of.ensures
    (subst (λ names. HasNames names first) (sym c.in_ok-names.ensures.names) (has-first first c.args.second.now))

pub compare-requires-clause-second_made : goal.compare-requires-clause-second_made
compare-requires-clause-second_made c =
    let second = c.args.second.now in
    made_over second c.requires.second c.in_ok-names.names.names c.deref-2.result.now (c.deref-2.ensures.value ∙ c.in_ok-other.ensures.list) c.symbols_of.result c.symbols_of.ensures
    (subst (λ names. HasNames names second) (sym c.in_ok-names.ensures.names) (has-second c.args.first.now second))

pub compare-requires-clause-first_short : goal.compare-requires-clause-first_short
compare-requires-clause-first_short c = few_over c.args.first.now c.requires.first c.in_ok-names.names.names c.deref.result.now (c.deref.ensures.value ∙ c.in_ok-one.ensures.list)

pub compare-requires-clause-second_short : goal.compare-requires-clause-second_short
compare-requires-clause-second_short c = few_over c.args.second.now c.requires.second c.in_ok-names.names.names c.deref-2.result.now (c.deref-2.ensures.value ∙ c.in_ok-other.ensures.list)

pub returns-in_err-compared-clause-refusal : goal.returns-in_err-compared-clause-refusal
returns-in_err-compared-clause-refusal c =
    handed_on c.from_residual-in_err-compared.result c.in_err-compared.field-0.0 _ c.from_residual-in_err-compared.ensures.1
    (refusal_of_two c.args.states c.args.first.now c.args.second.now c.in_ok-names.names.names c.symbols_of.result c.deref.result.now c.deref-2.result.now c.in_ok-names.ensures.names c.symbols_of.ensures
    (c.deref.ensures.value ∙ c.in_ok-one.ensures.list) (c.deref-2.ensures.value ∙ c.in_ok-other.ensures.list) c.in_err-compared.field-0.0 c.in_err-compared.ensures.err)

pub returns-clause-text : goal.returns-clause-text
returns-clause-text c =
    outcome_of_two c.args.states c.args.first.now c.args.second.now c.in_ok-names.names.names c.symbols_of.result c.deref.result.now c.deref-2.result.now c.in_ok-names.ensures.names c.symbols_of.ensures
    (c.deref.ensures.value ∙ c.in_ok-one.ensures.list) (c.deref-2.ensures.value ∙ c.in_ok-other.ensures.list) (answers c.status_of.result c.in_ok-text.text.items)
    (c.in_ok-compared.compared, c.in_ok-compared.ensures.ok, ap₂ answers (c.status_of.ensures.value ∙ ap status_of_relation c.relation.ensures) c.in_ok-text.ensures.ok)
