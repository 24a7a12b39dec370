use Rattle.minerful_core.specs.Outcome.{IsCheckOutcome, log_in}
use Rattle.minerful_core.proofs.Comparing.{asks_both, none_behind}
use Rattle.minerful_core.proofs.Refusing.{handed_on}
use Rattle.minerful_core.proofs.checking.check_log.Goals as goal

pub returns-in_err-names-clause-refusal : goal.returns-in_err-names-clause-refusal
returns-in_err-names-clause-refusal g c =
    handed_on c.from_residual-in_err-names.result c.in_err-names.field-0.0 _ c.from_residual-in_err-names.ensures.1
    (none_behind IsCheckOutcome (log_in c.args.settings.now) c.args.settings.now (g.I.Inputs.state c.args.inputs.now) (g.I.Inputs.state c.read_known_model.new.inputs) (g.I.Inputs.state c.read_log.new.inputs)
    c.in_ok-model.model c.in_err-names.field-0.0 c.in_ok-model.ensures.model c.in_ok-model.ensures.contents c.in_ok-model.ensures.later c.in_err-names.ensures.refusal)

pub returns-in_err-names-clause-opens : goal.returns-in_err-names-clause-opens
returns-in_err-names-clause-opens g c =
    asks_both c.args.settings.now.model c.args.settings.now.log (g.I.Inputs.state c.args.inputs.now) (g.I.Inputs.state c.read_known_model.new.inputs) (g.I.Inputs.state c.read_log.new.inputs)
    c.in_ok-model.ensures.asked c.in_err-names.ensures.opens

pub returns-clause-opens : goal.returns-clause-opens
returns-clause-opens g c =
    asks_both c.args.settings.now.model c.args.settings.now.log (g.I.Inputs.state c.args.inputs.now) (g.I.Inputs.state c.read_known_model.new.inputs) (g.I.Inputs.state c.read_log.new.inputs)
    c.in_ok-model.ensures.asked c.in_ok-names.ensures.opens

pub compare-requires-clause-made : goal.compare-requires-clause-made
compare-requires-clause-made g c = c.in_ok-model.ensures.known.made
