use Rattle.std.proofs.lemmas.Result.{IfErr-weaker}
use Rattle.minerful_core.specs.Outcome.{IsAnalysisOutcome, model_in}
use Rattle.minerful_core.proofs.Answering.{refusal_of_read}
use Rattle.minerful_core.proofs.analysis.analyse_model.Goals as goal

pub returns-clause-refusal : goal.returns-clause-refusal
returns-clause-refusal g c =
    let s = c.args.settings.now in
    IfErr-weaker c.analyse_known.result _ _
    (λ r h. refusal_of_read (IsAnalysisOutcome s.states s.first) (model_in s) s.model (g.I.Inputs.state c.args.inputs.now) (g.I.Inputs.state c.read_known_model.new.inputs)
    c.in_ok-model.model r c.in_ok-model.ensures.model h) c.analyse_known.ensures.refusal
