use Rattle.std.proofs.Common.{ap, ◌∙◌}
use Rattle.std.proofs.lemmas.Result.{IfOk-weaker}
use Rattle.serde_json.specs.Written.{compact_text, has_float}
use Rattle.report_text.proofs.OpenTraces.{has_float-open_trace_value}
use Rattle.report_text.proofs.open_traces.open_trace_text.Goals as goal

pub returns : goal.returns
returns c =
    let value = c.in_ok-value.ensures in
    IfOk-weaker c.to_string.result _ _
    (λ text is. is (ap has_float value ∙ has_float-open_trace_value c.args.names.now.names c.args.trace.now) ∙ ap compact_text value) c.to_string.ensures.text
