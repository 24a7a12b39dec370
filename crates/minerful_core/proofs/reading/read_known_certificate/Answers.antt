use Rattle.std.proofs.Common.{Some, IfSome, subst}
use Rattle.std.proofs.lemmas.Result.{IfErr-weaker}
use Rattle.decl_outside.specs.Inputs.{FailedIn}
use Rattle.minerful_core.specs.Outcome.{RefusesCertificate}
use Rattle.minerful_core.proofs.Comparing.{failed_later}
use Rattle.minerful_core.proofs.Refusing.{MayRefuse-weaker, told_left}
use Rattle.minerful_core.proofs.reading.read_known_certificate.Goals as goal

pub returns-clause-refusal : goal.returns-clause-refusal
returns-clause-refusal g c =
    let name = c.args.name.now in
    let old = g.I.Inputs.state c.args.inputs.now in
    let mid = g.I.Inputs.state c.open_named.new.inputs in
    let new = g.I.Inputs.state c.read_left_certificate.new.inputs in
    let opened = c.in_ok-open_named.ensures.opened in
    IfErr-weaker c.read_left_certificate.result _ _
    (λ r h. MayRefuse-weaker (FailedIn mid.asked mid new) (FailedIn (Some name) old new) (λ r. IfSome mid.left (λ bytes. RefusesCertificate bytes r))
    (λ r. IfSome old.contents (λ contents. RefusesCertificate (contents name) r))
    (λ failed. failed_later (Some name) old mid new opened.later (subst (λ asked. FailedIn asked mid new) opened.asked failed))
    (λ r. told_left old.contents mid.left name (λ bytes. RefusesCertificate bytes r) opened.left) r h) c.read_left_certificate.ensures.refusal
