use Rattle.std.proofs.Common.{◌∙◌, arith, false}
use Rattle.std.proofs.lemmas.Result.{IfOk-weaker, IfErr-weaker}
use Rattle.minerful_core.proofs.Mined.{mined_outcome, mined_refusal}
use Rattle.minerful_core.specs.Outcome.{IsModelOutcome, summary_text}
use Rattle.minerful_core.proofs.Reports.{candidates_made}
use Rattle.minerful_core.proofs.mining.summary.Goals as goal

pub summary_of-requires-clause-made : goal.summary_of-requires-clause-made
summary_of-requires-clause-made c =
    candidates_made c.args.settings.now c.args.names.now.names c.requires.kb.0 _ c.requires.kb.1.within.numbering (c.deref.ensures.value ∙ c.in_ok-list.ensures.list c.requires.kb.0 c.requires.kb.1)

pub returns-clause-text : goal.returns-clause-text
returns-clause-text c =
    IfOk-weaker c.summary_of.result _ _
    (λ text h ids is. mined_outcome (IsModelOutcome false (summary_text c.args.settings.now.seed) c.args.settings.now.states) c.args.settings.now _ c.deref.result.now (c.deref.ensures.value ∙ c.in_ok-list.ensures.list ids is)
    (omega (arith, c.deref.ensures.len, c.in_ok-list.ensures.few)) _ (h ids is)) c.summary_of.ensures.text

pub returns-clause-refusal : goal.returns-clause-refusal
returns-clause-refusal c =
    IfErr-weaker c.summary_of.result _ _
    (λ r h ids is. mined_refusal (IsModelOutcome false (summary_text c.args.settings.now.seed) c.args.settings.now.states) c.args.settings.now _ c.deref.result.now (c.deref.ensures.value ∙ c.in_ok-list.ensures.list ids is)
    (omega (arith, c.deref.ensures.len, c.in_ok-list.ensures.few)) r (h ids is)) c.summary_of.ensures.refusal
