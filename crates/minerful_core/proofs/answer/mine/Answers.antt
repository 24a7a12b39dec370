use Rattle.event_log.specs.Logs.{named}
use Rattle.minerful_words.specs.declared.settings.Command.TheVariants.{Mine}
use Rattle.minerful_core.specs.Outcome.{IsLogOutcome, log_in}
use Rattle.minerful_core.proofs.Answering.{refusal_of_read}
use Rattle.minerful_core.proofs.Refusing.{handed_on}
use Rattle.minerful_core.proofs.answer.mine.Goals as goal

pub returns-in_err-text-clause-refusal : goal.returns-in_err-text-clause-refusal
returns-in_err-text-clause-refusal g c =
    let read = c.in_ok-names.ensures.log in
    handed_on c.from_residual-in_err-text.result c.in_err-text.field-0.0 _ c.from_residual-in_err-text.ensures.1
    (refusal_of_read (IsLogOutcome Mine c.args.settings.now) (log_in c.args.settings.now) c.args.settings.now.log (g.I.Inputs.state c.args.inputs.now) (g.I.Inputs.state c.read_kb.new.inputs)
    (named c.in_ok-names.names.names read.0) c.in_err-text.field-0.0 read.2 (c.in_err-text.ensures.refusal read.0 read.1))
