use Rattle.std.proofs.Common.{Ok, ap}
use Rattle.event_log.specs.Logs.{named}
use Rattle.minerful_core.proofs.Refusing.{handed_on}
use Rattle.minerful_core.proofs.Reports.{kb_of_strings}
use Rattle.minerful_core.proofs.Samples.{read_sample, sample_outcome, sample_refusal}
use Rattle.minerful_core.proofs.sampling.sample.Goals as goal

pub summary-requires-clause-kb : goal.summary-requires-clause-kb
summary-requires-clause-kb c =
    let fed = c.in_ok-names.ensures.log in
    (fed.0, kb_of_strings c.standard.result _ c.in_ok-names.names c.in_ok-names.kb fed.0 c.standard.ensures fed.1)

pub returns-in_err-text-2-clause-refusal : goal.returns-in_err-text-2-clause-refusal
returns-in_err-text-2-clause-refusal c =
    let fed = c.in_ok-names.ensures.log in
    let log = named c.in_ok-names.names.names fed.0 in
    let read = read_sample c.args.settings.now c.standard.result _ c.in_ok-text.text.items (Ok log) c.standard.ensures (ap (λ s. s.left) c.of.ensures) c.in_ok-text.ensures.ok fed.1.log in
    handed_on c.from_residual-in_err-text-2.result c.in_err-text-2.field-0.0 _ c.from_residual-in_err-text-2.ensures.1
    (sample_refusal c.args.settings.now log c.in_err-text-2.field-0.0 read
    (c.in_err-text-2.ensures.refusal fed.0 (kb_of_strings c.standard.result _ c.in_ok-names.names c.in_ok-names.kb fed.0 c.standard.ensures fed.1)))

pub returns-clause-text : goal.returns-clause-text
returns-clause-text c =
    let fed = c.in_ok-names.ensures.log in
    let log = named c.in_ok-names.names.names fed.0 in
    let read = read_sample c.args.settings.now c.standard.result _ c.in_ok-text.text.items (Ok log) c.standard.ensures (ap (λ s. s.left) c.of.ensures) c.in_ok-text.ensures.ok fed.1.log in
    sample_outcome c.args.settings.now log _ read (c.in_ok-text-2.ensures.text fed.0 (kb_of_strings c.standard.result _ c.in_ok-names.names c.in_ok-names.kb fed.0 c.standard.ensures fed.1))
