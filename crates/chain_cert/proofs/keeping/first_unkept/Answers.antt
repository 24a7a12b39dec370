use Rattle.template_core.specs.declared.constraint.Constraint.{Constraint}
use Rattle.chain_cert.proofs.Each.{at-more}
use Rattle.template_core.specs.Keeping.{KeepsOne}
use Rattle.chain_cert.specs.Parts.{no_constraint}
use Rattle.chain_cert.proofs.keeping.first_unkept.Goals as goal

pub loop-place-preserved : goal.loop-place-preserved
loop-place-preserved c =
    let P : Constraint → Type 0 = λ constraint. KeepsOne constraint c.args.trace.now in
    at-more P c.args.model.now no_constraint c.loop-place.place _ c.loop-place-test.true c.loop-place.invariant (c.keeps.ensures.0 c.if-not-keeps.false)
