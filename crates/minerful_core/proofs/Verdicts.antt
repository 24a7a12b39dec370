-- The verdict on a certificate that was read is the outcome.
use Rattle.std.proofs.Common.{◌≡◌, ℕ, List, [], ◌∷◌, IfSome}
use Rattle.decl_base.specs.declared.status.Status.{Status}
use Rattle.decl_outside.specs.Inputs.{InputState}
use Rattle.chain_cert.specs.Checks.{IsVerdict}
use Rattle.chain_cert.specs.Parts.{ChainParts, ClaimParts}
use Rattle.chain_cert.specs.declared.verdict.Verdict.{Verdict}
use Rattle.report_text.specs.VerdictText.{verdict_text}
use Rattle.minerful_core.specs.Commands.{OfContents}
use Rattle.minerful_core.specs.Outcome.{answers, status_of_verdict, verified, HoldsCertificate, IsVerifiedOutcome}
use Rattle.minerful_core.proofs.Answering.{told_only}
use Rattle.minerful_core.proofs.Refusing.{told}

pub verified_outcome : (name : List ℕ) (old : InputState) (claim : ClaimParts) (chain : ChainParts) (verdict : Verdict) (status : Status) (text : List ℕ)
    → IfSome old.contents (λ contents. HoldsCertificate (contents name) claim chain) → IsVerdict claim chain verdict
    → answers status text ≡ answers (status_of_verdict verdict) (verdict_text verdict)
    → OfContents (name ∷ []) old (λ contents. IsVerifiedOutcome (contents name) (answers status text))
verified_outcome name old claim chain verdict status text read is answer =
    told_only name [] old (λ contents. IsVerifiedOutcome (contents name) (answers status text))
    (told old.contents (λ contents. HoldsCertificate (contents name) claim chain) (λ contents. IsVerifiedOutcome (contents name) (answers status text))
    (λ contents holds. (verified claim chain verdict, record { certificate = holds; verdict = is }, answer)) read)
