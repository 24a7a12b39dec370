use Rattle.std.proofs.lemmas.Result.{IfOk-weaker}
use Rattle.minerful_core.proofs.Verdicts.{verified_outcome}
use Rattle.minerful_core.proofs.verifying.verify_certificate.Goals as goal

pub returns-clause-text : goal.returns-clause-text
returns-clause-text g c =
    IfOk-weaker c.answer_verdict.result _ _
    (λ a is. verified_outcome c.args.settings.now.model (g.I.Inputs.state c.args.inputs.now) c.in_ok-claim.claim c.in_ok-claim.chain c.verify.result a.status a.text.items
    c.in_ok-claim.ensures.certificate c.verify.ensures.verdict is) c.answer_verdict.ensures.text
