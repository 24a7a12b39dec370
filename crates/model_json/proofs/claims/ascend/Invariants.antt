use Rattle.std.proofs.Common.{◌≡◌, ◌≤◌, ◌-◌, drop}
use Rattle.model_json.specs.Certificate.{ascend}
use Rattle.model_json.proofs.claims.ascend.Given as goal

abbrev pub invariant-loop-id : goal.invariant-loop-id
invariant-loop-id l = (1 ≤ l.id) × (ascend l.names.names ≡ ascend (drop (l.id - 1) l.names.names))
