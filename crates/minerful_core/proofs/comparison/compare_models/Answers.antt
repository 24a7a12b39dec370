use Rattle.std.proofs.lemmas.Result.{IfErr-weaker}
use Rattle.minerful_core.specs.Outcome.{IsComparisonOutcome, second_model_in}
use Rattle.minerful_core.proofs.Comparing.{asks_both, none_behind, refused_of_both}
use Rattle.minerful_core.proofs.Refusing.{handed_on}
use Rattle.minerful_core.proofs.comparison.compare_models.Goals as goal

pub returns-in_err-second-clause-refusal : goal.returns-in_err-second-clause-refusal
returns-in_err-second-clause-refusal g c =
    handed_on c.from_residual-in_err-second.result c.in_err-second.field-0.0 _ c.from_residual-in_err-second.ensures.1
    (none_behind (IsComparisonOutcome c.args.settings.now.states) (second_model_in c.args.settings.now) c.args.settings.now (g.I.Inputs.state c.args.inputs.now)
    (g.I.Inputs.state c.read_known_model.new.inputs) (g.I.Inputs.state c.read_known_model-2.new.inputs)
    c.in_ok-first.first c.in_err-second.field-0.0 c.in_ok-first.ensures.model c.in_ok-first.ensures.contents c.in_ok-first.ensures.later c.in_err-second.ensures.refusal)

pub returns-in_err-second-clause-opens : goal.returns-in_err-second-clause-opens
returns-in_err-second-clause-opens g c =
    asks_both c.args.settings.now.model c.args.settings.now.log (g.I.Inputs.state c.args.inputs.now) (g.I.Inputs.state c.read_known_model.new.inputs) (g.I.Inputs.state c.read_known_model-2.new.inputs)
    c.in_ok-first.ensures.asked c.in_err-second.ensures.opens

pub returns-clause-refusal : goal.returns-clause-refusal
returns-clause-refusal g c =
    IfErr-weaker c.compare_known.result _ _
    (λ r h. refused_of_both (IsComparisonOutcome c.args.settings.now.states) (second_model_in c.args.settings.now) c.args.settings.now (g.I.Inputs.state c.args.inputs.now)
    (g.I.Inputs.state c.read_known_model.new.inputs) (g.I.Inputs.state c.read_known_model-2.new.inputs) c.in_ok-first.first c.in_ok-second.second r
    c.in_ok-first.ensures.model c.in_ok-first.ensures.contents c.in_ok-second.ensures.model h) c.compare_known.ensures.refusal

pub returns-clause-opens : goal.returns-clause-opens
returns-clause-opens g c =
    asks_both c.args.settings.now.model c.args.settings.now.log (g.I.Inputs.state c.args.inputs.now) (g.I.Inputs.state c.read_known_model.new.inputs) (g.I.Inputs.state c.read_known_model-2.new.inputs)
    c.in_ok-first.ensures.asked c.in_ok-second.ensures.opens
