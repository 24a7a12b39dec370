use Rattle.std.proofs.Common.{◌≡◌, ◌≤◌, ◌+◌, [], drop, length, map}
use Rattle.serde_json.specs.View.{view}
use Rattle.decl_base.specs.Limits.{standard}
use Rattle.model_json.specs.Model.{items_read}
use Rattle.model_json.proofs.reading.constraints_of.Given as goal

abbrev pub invariant-loop-place : goal.invariant-loop-place
invariant-loop-place l = (items_read l.repertoire 1 (record { names = l.fn.names.names; constraints = [] }) (map view l.items)
    ≡ items_read l.repertoire (l.place + 1) (record { names = l.names.names; constraints = l.constraints.items }) (map view (drop l.place l.items)))
    × (l.names.limit ≡ standard.activities) × (length l.names.names ≤ standard.activities)
