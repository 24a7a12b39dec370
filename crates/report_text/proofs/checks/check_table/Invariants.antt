use Rattle.std.proofs.Common.{◌≡◌, take}
use Rattle.report_text.specs.CheckTable.{check_table_text}
use Rattle.report_text.proofs.checks.check_table.Given as goal

abbrev pub invariant-loop-place : goal.invariant-loop-place
invariant-loop-place l = l.out.items ≡ check_table_text l.names.names (take l.place l.list) (take l.place l.rows)
