use Rattle.std.proofs.Common.{◌≡◌, false, refl, ap, ◌∙◌}
use Rattle.std.proofs.lemmas.Result.{IfOk-weaker}
use Rattle.serde_json.specs.Data.{number, unsigned}
use Rattle.serde_json.specs.Written.{compact_text, has_float}
use Rattle.model_json.proofs.Floats.{items_have_float-map}
use Rattle.report_text.specs.AnalysisText.{numbers_value}
use Rattle.report_text.proofs.analysed.numbers_text.Goals as goal

pub returns : goal.returns
returns c =
    let value = c.in_ok-value.ensures in
    let whole : has_float (numbers_value c.args.numbers.now) ≡ false = items_have_float-map (λ n. number (unsigned n)) (λ n. refl) c.args.numbers.now in
    IfOk-weaker c.to_string.result _ _ (λ text is. is (ap has_float value ∙ whole) ∙ ap compact_text value) c.to_string.ensures.text
