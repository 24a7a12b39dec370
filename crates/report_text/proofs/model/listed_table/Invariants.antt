use Rattle.std.proofs.Common.{◌≡◌, ◌++◌}
use Rattle.std.specs.List.{flat_map}
use Rattle.model_json.proofs.Chosen.{AreLeft, rest_of}
use Rattle.report_text.specs.ModelTable.{listed_line, model_table_text}
use Rattle.report_text.proofs.model.listed_table.Given as goal

abbrev pub invariant-loop-place : goal.invariant-loop-place
invariant-loop-place l = (l.out.items ++ flat_map (λ p. listed_line l.names.names p.0 p.1) (rest_of l.list l.decisions l.witnesses l.place l.next)
    ≡ model_table_text l.names.names l.list l.decisions l.witnesses) × AreLeft l.decisions l.witnesses l.place l.next
