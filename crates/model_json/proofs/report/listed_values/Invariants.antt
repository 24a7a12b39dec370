use Rattle.std.proofs.Common.{◌≡◌, ◌++◌, map}
use Rattle.serde_json.specs.View.{view}
use Rattle.model_json.specs.Report.{listed_value, with_witnesses}
use Rattle.model_json.proofs.Chosen.{AreLeft, rest_of}
use Rattle.model_json.proofs.report.listed_values.Given as goal

abbrev pub invariant-loop-place : goal.invariant-loop-place
invariant-loop-place l = (map view l.values.items ++ map (λ p. listed_value l.names.names p.0 p.1) (rest_of l.list l.decisions l.witnesses l.place l.next)
    ≡ map (λ p. listed_value l.names.names p.0 p.1) (with_witnesses l.list l.decisions l.witnesses)) × AreLeft l.decisions l.witnesses l.place l.next
