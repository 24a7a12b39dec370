use Rattle.std.proofs.Common.{sym, ap, subst, ◌∙◌}
use Rattle.reduce_model.specs.Deciding.{is_kept, those}
use Rattle.chain_cert.specs.Forms.{IsClaim}
use Rattle.chain_make.specs.Claims.{left_out}
use Rattle.chain_make.proofs.Claiming.{claim-form, same-parts}
use Rattle.chain_make.proofs.claim.make_claim.Goals as goal

pub unreachable-requires : goal.unreachable-requires
unreachable-requires c =
    let same = same-parts c.args.symbols _ _ _ _ _ _ _ _ (c.in_ok-model.ensures.ok ∙ ap (those is_kept c.args.list.now) c.decisions.ensures) (c.in_ok-witnesses.ensures.ok ∙ c.witnesses.ensures)
    (c.in_ok-dropped.ensures.ok ∙ ap (left_out c.args.list.now) c.decisions-2.ensures) (c.in_ok-example.ensures.ok ∙ c.events.ensures ∙ c.example.ensures) in
    (rw c.in-None.is at c.of-2.ensures.none) (subst IsClaim (sym same)
    (claim-form c.args.symbols c.args.list.now c.args.reduced.now c.requires.few_symbols c.requires.few c.requires.made c.requires.witnesses c.requires.example))

pub returns-clause-ok : goal.returns-clause-ok
returns-clause-ok c =
    let same = same-parts c.args.symbols _ _ _ _ _ _ _ _ (c.in_ok-model.ensures.ok ∙ ap (those is_kept c.args.list.now) c.decisions.ensures) (c.in_ok-witnesses.ensures.ok ∙ c.witnesses.ensures)
    (c.in_ok-dropped.ensures.ok ∙ ap (left_out c.args.list.now) c.decisions-2.ensures) (c.in_ok-example.ensures.ok ∙ c.events.ensures ∙ c.example.ensures) in
    (rw c.in-Some.is at c.of-2.ensures.some) ∙ same
