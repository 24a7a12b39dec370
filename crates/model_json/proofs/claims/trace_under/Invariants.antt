use Rattle.std.proofs.Common.{option_and_then}
use Rattle.std.specs.Prelude.{position}
use Rattle.std.specs.Str.{bytes_eq}
use Rattle.serde_json.specs.Find.{as_str}
use Rattle.serde_json.specs.View.{view}
use Rattle.model_json.proofs.OneByOne.{IsReadTo}
use Rattle.model_json.proofs.claims.trace_under.Given as goal

abbrev pub invariant-loop-value : goal.invariant-loop-value
invariant-loop-value l = IsReadTo view (λ text. option_and_then (λ name. position (bytes_eq name) l.names.names) (as_str text)) l.values l.value-index l.events.items
