-- A trace over names and one more has no float in it, so its text is known.
use Rattle.std.proofs.Common.{◌≡◌, ℕ, List, Option, Some, None, false, slice_get, refl}
use Rattle.serde_json.specs.Written.{has_float}
use Rattle.model_json.proofs.Floats.{items_have_float-map}
use Rattle.report_text.specs.OpenTraces.{name_or_null, open_trace_value}

has_float-name_or_null : (name : Option (List ℕ)) → has_float (name_or_null name) ≡ false
has_float-name_or_null (Some name) = refl
has_float-name_or_null None = refl

pub has_float-open_trace_value : (names : List (List ℕ)) (trace : List ℕ) → has_float (open_trace_value names trace) ≡ false
has_float-open_trace_value names trace = items_have_float-map (λ symbol. name_or_null (slice_get names symbol)) (λ symbol. has_float-name_or_null (slice_get names symbol)) trace
