use Rattle.std.proofs.Common.{◌≡◌, Bool, sym, subst, ◌∙◌}
use Rattle.std.specs.List.{list_any}
use Rattle.std.specs.Prelude.{is_some, if◌then◌else◌}
use Rattle.decl_base.specs.declared.status.Status.TheVariants.{Differs, Done}
use Rattle.event_log.specs.Logs.{named}
use Rattle.minerful_core.specs.Outcome.{IsCheckOutcome, answers}
use Rattle.minerful_core.proofs.Comparing.{compared}
use Rattle.minerful_core.proofs.checking.compare.Goals as goal
use Rattle.minerful_core.proofs.checking.compare.Goals.{then-is_broken, else-is_broken}

pub returns-clause-text : goal.returns-clause-text
returns-clause-text c =
    let model = c.args.model.now in
    let log = named c.args.names.now.names c.args.log.now.traces in
    let outcome : (broken : Bool) → broken ≡ list_any (λ row. is_some row.broken) c.in_ok-report.report → IsCheckOutcome model log (answers (if broken then Differs else Done) c.in_ok-text.text.items)
    = λ broken is. compared model log c.names.result.now.names c.names-2.result.now.names c.constraints.result.now c.constraints-2.result.now c.in_ok-report.report broken
    c.in_ok-text.text.items c.names.ensures c.constraints.ensures c.names-2.ensures c.constraints-2.ensures c.in_ok-report.ensures.ok is c.in_ok-text.ensures.ok in
    elim c.if-is_broken.branch [
      | then-is_broken w ↦ subst (λ s. IsCheckOutcome model log (answers s c.in_ok-text.text.items)) (sym w.status-is) (outcome _ (sym w.if-is_broken.true ∙ c.is_broken.ensures))
      | else-is_broken w ↦ subst (λ s. IsCheckOutcome model log (answers s c.in_ok-text.text.items)) (sym w.status-is) (outcome _ (sym w.if-is_broken.false ∙ c.is_broken.ensures))
    ]
