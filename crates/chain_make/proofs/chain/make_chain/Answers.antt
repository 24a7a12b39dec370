use Rattle.std.proofs.Common.{All, sym, ap, ◌∙◌, subst}
use Rattle.template_core.specs.Constraints.{IsWellMade, IsWellMadeFor}
use Rattle.reduce_model.specs.Deciding.{is_kept, those}
use Rattle.chain_cert.specs.declared.claim.Dropped.{Dropped}
use Rattle.chain_make.specs.Chains.{AreImplied, AreLinks, Settles}
use Rattle.chain_make.specs.Claims.{left_out}
use Rattle.chain_make.proofs.Chaining.{chain-form, chain-right}
use Rattle.chain_make.proofs.Claiming.{made-kinds, model-made}
use Rattle.chain_make.proofs.Deciding.{settles-all}
use Rattle.chain_make.proofs.chain.make_chain.Goals as goal

pub links_of-requires : goal.links_of-requires
links_of-requires c =
    let model-is = c.deref.ensures.value ∙ c.in_ok-model.ensures.ok ∙ ap (those is_kept c.args.list.now) c.decisions.ensures in
    record { made = subst (All (IsWellMadeFor c.args.symbols)) (sym model-is) (model-made c.args.symbols c.args.list.now c.args.reduced.now.decisions c.requires.made) }

pub implied_of-requires-clause-start : goal.implied_of-requires-clause-start
implied_of-requires-clause-start c = c.in_ok-links.ensures.ok.copied.start

pub implied_of-requires-clause-made : goal.implied_of-requires-clause-made
implied_of-requires-clause-made c =
    let dropped-is = c.deref-2.ensures.value ∙ c.in_ok-dropped.ensures.ok ∙ ap (left_out c.args.list.now) c.decisions-2.ensures in
    subst (All (λ (d : Dropped). IsWellMade d.constraint.kind d.constraint.first d.constraint.second)) (sym dropped-is) (made-kinds c.args.symbols c.args.list.now c.args.reduced.now.decisions c.requires.made)

pub implied_of-requires-clause-settles : goal.implied_of-requires-clause-settles
implied_of-requires-clause-settles c =
    let model-is = c.deref.ensures.value ∙ c.in_ok-model.ensures.ok ∙ ap (those is_kept c.args.list.now) c.decisions.ensures in
    let dropped-is = c.deref-2.ensures.value ∙ c.in_ok-dropped.ensures.ok ∙ ap (left_out c.args.list.now) c.decisions-2.ensures in
    let links = subst (λ l. AreLinks c.args.symbols l c.in_ok-links.field-0.links.items c.in_ok-links.field-0.last) model-is c.in_ok-links.ensures.ok in
    subst (All (Settles c.in_ok-links.field-0.last)) (sym dropped-is) (settles-all c.args.symbols c.args.list.now c.args.reduced.now.decisions c.in_ok-links.field-0.last c.requires.made c.requires.decisions links.over links.keeps)

pub unreachable-requires : goal.unreachable-requires
unreachable-requires c =
    let model-is = c.deref.ensures.value ∙ c.in_ok-model.ensures.ok ∙ ap (those is_kept c.args.list.now) c.decisions.ensures in
    let dropped-is = c.deref-2.ensures.value ∙ c.in_ok-dropped.ensures.ok ∙ ap (left_out c.args.list.now) c.decisions-2.ensures in
    let links = subst (λ l. AreLinks c.args.symbols l c.in_ok-links.field-0.links.items c.in_ok-links.field-0.last) model-is c.in_ok-links.ensures.ok in
    let implied = subst (λ l. AreImplied c.in_ok-links.field-0.last l c.in_ok-implied.implied.items) dropped-is c.in_ok-implied.ensures.ok in
    (rw (c.in-None.is, c.in_ok-claim.ensures.ok) at c.of.ensures.none) (chain-form c.args.symbols c.args.list.now c.args.reduced.now c.in_ok-links.field-0.links.items c.in_ok-links.field-0.last c.in_ok-implied.implied.items links implied)

pub returns-clause-form : goal.returns-clause-form
returns-clause-form c = rw (c.in-Some.is, c.in_ok-claim.ensures.ok) at c.of.ensures.form

pub returns-clause-right : goal.returns-clause-right
returns-clause-right c =
    let model-is = c.deref.ensures.value ∙ c.in_ok-model.ensures.ok ∙ ap (those is_kept c.args.list.now) c.decisions.ensures in
    let dropped-is = c.deref-2.ensures.value ∙ c.in_ok-dropped.ensures.ok ∙ ap (left_out c.args.list.now) c.decisions-2.ensures in
    let links = subst (λ l. AreLinks c.args.symbols l c.in_ok-links.field-0.links.items c.in_ok-links.field-0.last) model-is c.in_ok-links.ensures.ok in
    let implied = subst (λ l. AreImplied c.in_ok-links.field-0.last l c.in_ok-implied.implied.items) dropped-is c.in_ok-implied.ensures.ok in
    rw (rw c.in-Some.is at c.of.ensures.some)
    (chain-right c.args.symbols c.args.list.now c.args.reduced.now c.in_ok-links.field-0.links.items c.in_ok-links.field-0.last c.in_ok-implied.implied.items links implied c.requires.witnesses c.requires.example)
