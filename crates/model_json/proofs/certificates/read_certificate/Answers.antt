use Rattle.serde_json.specs.View.{view}
use Rattle.model_json.proofs.Causes.{handed_on}
use Rattle.model_json.proofs.ClaimForms.{claim-cause}
use Rattle.model_json.proofs.certificates.read_certificate.Goals as goal

pub returns-in_err-claim-clause-cause : goal.returns-in_err-claim-clause-cause
returns-in_err-claim-clause-cause c =
    handed_on c.from_residual-in_err-claim.result c.in_err-claim.field-0.0 _ c.from_residual-in_err-claim.ensures.1 (claim-cause c.args.bytes.now (view c.in_ok-value.value) c.in_err-claim.field-0.0 c.in_ok-value.ensures.value c.in_err-claim.ensures.refusal)
