use Rattle.std.proofs.Common.{◌≡◌, ap, ◌∙◌, length, map, arith}
use Rattle.std.specs.List.{filter_map}
use Rattle.serde_json.specs.Find.{as_str}
use Rattle.serde_json.specs.View.{view}
use Rattle.decl_base.specs.Limits.{standard}
use Rattle.event_log.specs.Logs.{first_seen}
use Rattle.model_json.specs.Model.{within}
use Rattle.model_json.proofs.Causes.{add_refused, handed_on}
use Rattle.model_json.proofs.ItemsOn.{names_other, names_text, tasks_over}
use Rattle.model_json.proofs.reading.task_names.Goals.{in-Some+in_ok-add, in_default}
use Rattle.model_json.proofs.reading.task_names.Goals as goal

pub loop-task-preserved : goal.loop-task-preserved
loop-task-preserved c =
    let tasks = c.args.tasks.now in
    let i = c.loop-task.task-index in
    let x = c.task-item.result in
    let names = c.loop-task.names.names in
    elim c.match-as_str.branch [
      | in-Some+in_ok-add w ↦
          let limit : c.match-as_str.names.limit ≡ standard.activities =
          ap (λ n. n.limit) (w.names-is ∙ w.in_ok-add.ensures.ok) ∙ c.loop-task.invariant.1 in (
            ap (λ n. n.names) (w.names-is ∙ w.in_ok-add.ensures.ok)
                ∙ names_text tasks i x w.in-Some.name.now names c.loop-task-test.true c.task-item.is w.in-Some.ensures c.loop-task.invariant.0,
            limit,
            omega (arith, limit, ap (λ n. length n.names) w.names-is, ap (λ n. n.limit) w.names-is, w.in_ok-add.ensures.within),
          )
      | in_default w ↦ (
        ap (λ n. n.names) w.names-is ∙ names_other tasks i x names c.loop-task-test.true c.task-item.is w.in_default.ensures c.loop-task.invariant.0,
        ap (λ n. n.limit) w.names-is ∙ c.loop-task.invariant.1,
        omega (arith, ap (λ n. length n.names) w.names-is, c.loop-task.invariant.2),
      )
    ]

pub returns-in_err-add-clause-refusal : goal.returns-in_err-add-clause-refusal
returns-in_err-add-clause-refusal c =
    let tasks = c.args.tasks.now in
    handed_on c.from_residual.result c.in_err-add.field-0.0 _ c.from_residual.ensures.1
    (add_refused c.loop-task.names c.in-Some.name.now c.in_err-add.field-0.0 (within (first_seen (filter_map as_str (map view tasks)))) c.loop-task.invariant.1
    (λ full new. tasks_over tasks c.loop-task.task-index c.task-item.result c.in-Some.name.now c.loop-task.names.names c.loop-task-test.true c.task-item.is c.in-Some.ensures
    c.loop-task.invariant.0 full new) c.in_err-add.ensures.cause)
