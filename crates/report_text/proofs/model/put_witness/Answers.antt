use Rattle.std.proofs.Common.{◌≡◌, ◌++◌, ◌∷◌, [], string_bytes, ap, ap₂, ◌∙◌}
use Rattle.serde_json.specs.View.{view}
use Rattle.serde_json.specs.Written.{compact_text, has_float}
use Rattle.model_json.specs.Report.{trace_value}
use Rattle.report_text.proofs.Joined.{three}
use Rattle.report_text.proofs.Written.{has_float-trace_value}
use Rattle.report_text.proofs.model.put_witness.Goals as goal

pub returns : goal.returns
returns c =
    let written = trace_value c.args.names.now.names c.args.witness.now in
    let value : view c.in_ok-trace_value.field-0 ≡ written = c.in_ok-trace_value.ensures in
    let text : string_bytes c.in_ok-text.text ≡ compact_text written
    = c.in_ok-text.ensures.text (ap has_float value ∙ has_float-trace_value c.args.names.now.names c.args.witness.now) ∙ ap compact_text value in
    c.in_ok-push-2.ensures.items
    ∙ ap (λ xs. xs ++ 10 ∷ []) (c.in_ok-extend_from_slice.ensures.items ∙ ap₂ (λ xs ys. xs ++ ys) c.in_ok-push.ensures.items (c.as_bytes.ensures.value ∙ text))
    ∙ three c.args.out.now.items (32 ∷ []) (compact_text written) (10 ∷ [])
