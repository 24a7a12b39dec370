use Rattle.std.proofs.Common.{ap, refl, ◌∙◌}
use Rattle.std.proofs.lemmas.Result.{IfOk-weaker}
use Rattle.serde_json.specs.Written.{has_float}
use Rattle.model_json.specs.Report.{report_text}
use Rattle.model_json.proofs.Floats.{has_float-consistent_report}
use Rattle.minerful_core.specs.Outcome.{consistent_text}
use Rattle.minerful_core.proofs.Reports.{as_report}
use Rattle.minerful_core.proofs.writing.write_consistent.Goals as goal

pub returns-in_ok-value-in-Json-clause-text : goal.returns-in_ok-value-in-Json-clause-text
returns-in_ok-value-in-Json-clause-text c =
    let no_float = ap has_float c.in_ok-value-in-Json.ensures.value ∙ has_float-consistent_report c.args.names.now.names c.args.settings.now.repertoire c.args.list.now c.args.sifted.now c.args.traces c.args.events in
    IfOk-weaker c.text_of.result _ _ (λ text h. h ∙ ap report_text c.in_ok-value-in-Json.ensures.value
    ∙ as_report (λ out. consistent_text out c.args.settings.now.repertoire c.args.list.now c.args.sifted.now c.args.names.now.names c.args.traces c.args.events) c.args.settings.now.out refl c.in-Json.is) (c.text_of.ensures.text no_float)
