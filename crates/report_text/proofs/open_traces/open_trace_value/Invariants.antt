use Rattle.std.proofs.Common.{◌≡◌, map, take, slice_get}
use Rattle.serde_json.specs.View.{view}
use Rattle.report_text.specs.OpenTraces.{name_or_null}
use Rattle.report_text.proofs.open_traces.open_trace_value.Given as goal

abbrev pub invariant-loop-symbol : goal.invariant-loop-symbol
invariant-loop-symbol l = map view l.values.items ≡ map (λ symbol. name_or_null (slice_get l.names.names symbol)) (take l.symbol-index l.symbol-items)
