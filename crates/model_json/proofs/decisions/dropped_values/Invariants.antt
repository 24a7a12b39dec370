use Rattle.std.proofs.Common.{◌≡◌, map, take, not}
use Rattle.serde_json.specs.View.{view}
use Rattle.reduce_model.specs.Deciding.{is_kept}
use Rattle.model_json.specs.Report.{decided, decided_value}
use Rattle.model_json.proofs.decisions.dropped_values.Given as goal

abbrev pub invariant-loop-place : goal.invariant-loop-place
invariant-loop-place l =
    map view l.values.items ≡ map (λ p. decided_value l.names.names l.list p.0 p.1) (decided (λ d. not (is_kept d)) (take l.place l.list) (take l.place l.decisions))
