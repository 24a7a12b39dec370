use Rattle.minerful_core.proofs.Models.{can_write}
use Rattle.std.proofs.Common.{◌≤◌, [], ap, false, refl, subst, sym, ◌∙◌, length}
use Rattle.std.proofs.lemmas.List.{length-map}
use Rattle.chain_cert.specs.Checks.{IsRight}
use Rattle.chain_cert.specs.Forms.{IsChain}
use Rattle.chain_make.specs.Claims.{claim_of}
use Rattle.minerful_core.specs.Outcome.{certificate_text}
use Rattle.minerful_core.proofs.Certified.{is_certified}
use Rattle.minerful_core.proofs.Refusing.{handed_on}
use Rattle.minerful_core.proofs.Ranking.{order-length}
use Rattle.minerful_core.proofs.Reports.{both_ok, events_are, made_in_order, made_constraints, refused_certificate, text-is}
use Rattle.minerful_core.proofs.mining.certificate_text.Goals as goal

pub reduce-requires-clause-made : goal.reduce-requires-clause-made
reduce-requires-clause-made c =
    made_constraints c.len-tasks.result c.args.list.now c.deref.result.now (c.deref.ensures.value ∙ c.in_ok-constraints.ensures)
    (made_in_order (length c.args.names.now.names) c.len-tasks.result c.args.list.now c.len-tasks.ensures c.requires.ready.made)

pub returns-in_err-reduced-clause-refusal : goal.returns-in_err-reduced-clause-refusal
returns-in_err-reduced-clause-refusal c =
    handed_on c.from_residual-in_err-reduced.result c.in_err-reduced.field-0.0 _ c.from_residual-in_err-reduced.ensures.1
    (λ ids is. refused_certificate c.args.names.now.names ids c.len-tasks.result c.args.list.now c.deref.result.now is.within.numbering c.len-tasks.ensures
    (c.deref.ensures.value ∙ c.in_ok-constraints.ensures) c.args.settings.now c.requires.stops _ c.in_err-reduced.ensures.err)

pub make_chain-requires-clause-made : goal.make_chain-requires-clause-made
make_chain-requires-clause-made c =
    made_constraints c.len-tasks.result c.args.list.now c.deref-2.result.now (c.deref-2.ensures.value ∙ c.in_ok-constraints.ensures)
    (made_in_order (length c.args.names.now.names) c.len-tasks.result c.args.list.now c.len-tasks.ensures c.requires.ready.made)

pub make_chain-requires-clause-few : goal.make_chain-requires-clause-few
make_chain-requires-clause-few c =
    subst (λ l. length l ≤ 65536) (sym (c.deref-2.ensures.value ∙ c.in_ok-constraints.ensures)) (subst (λ k. k ≤ 65536) (sym (length-map c.args.list.now (λ s. s.constraint))) c.requires.ready.few)

pub make_chain-requires-clause-few_symbols : goal.make_chain-requires-clause-few_symbols
make_chain-requires-clause-few_symbols c = subst (λ n. n ≤ 1000) (sym c.len-tasks.ensures) c.requires.ready.kb_of.1.within.few_names

pub write_certificate-requires-clause-made : goal.write_certificate-requires-clause-made
write_certificate-requires-clause-made c =
    made_in_order (length c.args.names.now.names) (length c.in_ok-ordered.ordered.names) c.args.list.now
    (ap (λ o. length o.names) c.in_ok-ordered.ensures.ok ∙ order-length c.args.names.now.names c.requires.ready.kb_of.0 c.requires.ready.kb_of.1.within.numbering) c.requires.ready.made

pub write_certificate-requires-clause-reduced : goal.write_certificate-requires-clause-reduced
write_certificate-requires-clause-reduced c =
    can_write false c.len-tasks.result (length c.in_ok-ordered.ordered.names) c.args.settings.now.states c.args.list.now c.deref.result.now c.in_ok-reduced.reduced
    (ap (λ o. length o.names) c.in_ok-ordered.ensures.ok ∙ order-length c.args.names.now.names c.requires.ready.kb_of.0 c.requires.ready.kb_of.1.within.numbering ∙ sym c.len-tasks.ensures)
    (c.deref.ensures.value ∙ c.in_ok-constraints.ensures) c.in_ok-reduced.ensures.ok

pub returns-clause-text : goal.returns-clause-text
returns-clause-text c =
    let names = c.args.names.now.names in
    let list = c.args.list.now in
    let s = c.args.settings.now in
    let n = c.len-tasks.result in
    let reduction = c.in_ok-reduced.reduced in
    let chain = c.in_ok-chain.chain in
    let first = c.deref.ensures.value ∙ c.in_ok-constraints.ensures in
    let same = c.deref-2.ensures.value ∙ c.in_ok-constraints.ensures ∙ sym first in
    let form = subst (λ l. IsChain (claim_of n l reduction) chain) same c.in_ok-chain.ensures.form in
    let right = subst (λ l. IsRight (claim_of n l reduction) chain) same c.in_ok-chain.ensures.right in
    both_ok c.write_certificate.result _ _ _
    (λ text h verified ids is. (
      record { reduction = reduction; chain = chain; text = text.items },
      is_certified names ids n s list c.deref.result.now reduction chain text.items is.within.numbering c.len-tasks.ensures first c.requires.stops c.in_ok-reduced.ensures.ok form right
          (h ∙ text-is (certificate_text s.repertoire list reduction chain) names ids c.in_ok-ordered.ordered.names c.traces.result c.events.result is.within.numbering
          (ap (λ o. o.names) c.in_ok-ordered.ensures.ok) (c.traces.ensures ids [] is.stands) (events_are ids c.events.result (c.events.ensures ids [] is.stands))) verified,
      refl,
    ))
    c.write_certificate.ensures.text c.write_certificate.ensures.verified
