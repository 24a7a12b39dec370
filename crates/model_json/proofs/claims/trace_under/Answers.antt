use Rattle.std.proofs.Common.{ℕ, Option, map, sym, ◌∙◌, option_and_then}
use Rattle.std.specs.Prelude.{position}
use Rattle.std.specs.Str.{bytes_eq}
use Rattle.serde_json.specs.Data.{Data}
use Rattle.serde_json.specs.Find.{as_str}
use Rattle.serde_json.specs.View.{view}
use Rattle.model_json.proofs.LinksRead.{under-some}
use Rattle.model_json.proofs.OneByOne.{read-stop}
use Rattle.model_json.proofs.claims.trace_under.Goals as goal

pub returns-in_default-place_in-clause-trace : goal.returns-in_default-place_in-clause-trace
returns-in_default-place_in-clause-trace c =
    let place : Data → Option ℕ = λ text. option_and_then (λ name. position (bytes_eq name) c.args.names.now.names) (as_str text) in
    let values = c.in-Some.values.now in
    sym (under-some place c.args.name.now (view c.args.value.now) (map view values) c.in-Some.ensures
    ∙ read-stop view place values c.loop-value.value-index c.value-item.result c.loop-value-test.true c.value-item.is c.loop-value.events.items (sym c.in_default-place_in.ensures) c.loop-value.invariant)
