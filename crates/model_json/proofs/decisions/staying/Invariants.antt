use Rattle.std.proofs.Common.{◌≡◌, take}
use Rattle.model_json.specs.Report.{staying}
use Rattle.model_json.proofs.decisions.staying.Given as goal

abbrev pub invariant-loop-place : goal.invariant-loop-place
invariant-loop-place l = l.kept.items ≡ staying (take l.place l.list) (take l.place l.decisions)
