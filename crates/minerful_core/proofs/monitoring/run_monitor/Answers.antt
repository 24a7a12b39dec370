use Rattle.std.proofs.Common.{refl, sym, ◌∙◌}
use Rattle.decl_base.specs.declared.status.Status.TheVariants.{Done}
use Rattle.minerful_core.proofs.Monitored.{Ends, all_ends, fault_read, fault_written, no_usage, refused_ends}
use Rattle.minerful_core.proofs.monitoring.run_monitor.Given as given
use Rattle.minerful_core.proofs.monitoring.run_monitor.Goals as goal

-- all lines are written
written : (g : given.Over) (c : goal.In-Ok g) → Ends c.args.settings.now (g.I.Inputs.state c.args.inputs.now).contents Done (g.I.Inputs.state c.monitor_log.new.inputs) (g.O.Sink.state c.args.out.now) (g.O.Sink.state c.monitor_log.new.out) (g.E.Sink.state c.args.err.now) (g.E.Sink.state c.args.err.now)
written g c = all_ends c.args.settings.now (g.I.Inputs.state c.monitor_log.new.inputs) (g.O.Sink.state c.args.out.now) (g.O.Sink.state c.monitor_log.new.out) (g.E.Sink.state c.args.err.now) (g.E.Sink.state c.args.err.now) (g.I.Inputs.state c.args.inputs.now).contents refl c.in-Ok.ensures.lines

-- the run is refused
refused : (g : given.Over) (c : goal.After-refuse g) → Ends c.args.settings.now (g.I.Inputs.state c.args.inputs.now).contents c.refuse.result (g.I.Inputs.state c.monitor_log.new.inputs) (g.O.Sink.state c.args.out.now) (g.O.Sink.state c.monitor_log.new.out) (g.E.Sink.state c.args.err.now) (g.E.Sink.state c.refuse.new.err)
refused g c =
    refused_ends c.args.settings.now (g.I.Inputs.state c.monitor_log.new.inputs) (g.O.Sink.state c.args.out.now) (g.O.Sink.state c.monitor_log.new.out) (g.E.Sink.state c.args.err.now) (g.E.Sink.state c.refuse.new.err)
    (g.I.Inputs.state c.args.inputs.now).contents c.in-Err.refusal c.refuse.result c.refuse.ensures.status c.refuse.ensures.line c.in-Err.ensures.left

pub returns-in-Ok-clause-status : goal.returns-in-Ok-clause-status
returns-in-Ok-clause-status g c = (written g c).has_status

pub returns-in-Err-clause-status : goal.returns-in-Err-clause-status
returns-in-Err-clause-status g c = (refused g c).has_status

pub returns-in-Ok-clause-output : goal.returns-in-Ok-clause-output
returns-in-Ok-clause-output g c = (written g c).output

pub returns-in-Err-clause-output : goal.returns-in-Err-clause-output
returns-in-Err-clause-output g c = (refused g c).output

pub returns-in-Ok-clause-error : goal.returns-in-Ok-clause-error
returns-in-Ok-clause-error g c = (written g c).error

pub returns-in-Err-clause-error : goal.returns-in-Err-clause-error
returns-in-Err-clause-error g c = (refused g c).error

pub returns-in-Err-clause-read_fault : goal.returns-in-Err-clause-read_fault
returns-in-Err-clause-read_fault g c = λ e.
    fault_read c.args.settings.now (g.I.Inputs.state c.args.inputs.now) (g.I.Inputs.state c.monitor_log.new.inputs) (g.O.Sink.state c.args.out.now) (g.O.Sink.state c.monitor_log.new.out)
    c.in-Err.refusal c.in-Err.ensures.cause (sym c.refuse.ensures.status ∙ e)

pub returns-in-Err-clause-write_fault : goal.returns-in-Err-clause-write_fault
returns-in-Err-clause-write_fault g c = λ e.
    fault_written c.args.settings.now (g.I.Inputs.state c.args.inputs.now) (g.I.Inputs.state c.monitor_log.new.inputs) (g.O.Sink.state c.args.out.now) (g.O.Sink.state c.monitor_log.new.out)
    c.in-Err.refusal c.in-Err.ensures.cause (sym c.refuse.ensures.status ∙ e)

pub returns-in-Err-clause-not_usage : goal.returns-in-Err-clause-not_usage
returns-in-Err-clause-not_usage g c = λ e.
    no_usage c.args.settings.now (g.I.Inputs.state c.args.inputs.now) (g.I.Inputs.state c.monitor_log.new.inputs) (g.O.Sink.state c.args.out.now) (g.O.Sink.state c.monitor_log.new.out)
    c.in-Err.refusal c.in-Err.ensures.cause (sym c.refuse.ensures.status ∙ e)
