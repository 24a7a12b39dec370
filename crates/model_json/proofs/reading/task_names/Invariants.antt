use Rattle.std.proofs.Common.{◌≡◌, ◌≤◌, length}
use Rattle.decl_base.specs.Limits.{standard}
use Rattle.event_log.specs.Logs.{first_seen}
use Rattle.model_json.proofs.ItemsOn.{texts_before}
use Rattle.model_json.proofs.reading.task_names.Given as goal

abbrev pub invariant-loop-task : goal.invariant-loop-task
invariant-loop-task l = (l.names.names ≡ first_seen (texts_before l.tasks l.task-index)) × (l.names.limit ≡ standard.activities) × (length l.names.names ≤ standard.activities)
