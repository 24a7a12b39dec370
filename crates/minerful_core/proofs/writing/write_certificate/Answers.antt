use Rattle.std.proofs.Common.{ap, ◌∙◌}
use Rattle.serde_json.specs.Written.{has_float}
use Rattle.model_json.specs.ChainValue.{certificate_object}
use Rattle.model_json.specs.Report.{model_report, report_text}
use Rattle.model_json.proofs.Floats.{has_float-certificate, has_float-model_report}
use Rattle.minerful_core.proofs.writing.write_certificate.Goals as goal

pub returns-then-is_verified-clause-text : goal.returns-then-is_verified-clause-text
returns-then-is_verified-clause-text c =
    let reduced = c.args.reduced.now in
    let report = model_report c.args.names.now.names c.args.settings.now.repertoire c.args.list.now reduced.decisions reduced.witnesses reduced.example c.args.traces c.args.events in
    let value = c.in_ok-certificate.ensures.value ∙ ap (λ report. certificate_object report c.args.chain.now) c.in_ok-report.ensures.value in
    let no_float = ap has_float value
    ∙ has_float-certificate report c.args.chain.now (has_float-model_report c.args.names.now.names c.args.settings.now.repertoire c.args.list.now reduced.decisions reduced.witnesses reduced.example c.args.traces c.args.events) in
    c.in_ok-text.ensures.text no_float ∙ ap report_text value
