use Rattle.model_json.proofs.Floats.{has_float-certificate, has_float-consistent_report, has_float-model_report, has_float-scores_report}
use Rattle.model_json.proofs.laws.reports_have_no_float.Goals as goal

pub returns : goal.returns
returns c = record { scores = has_float-scores_report; consistent = has_float-consistent_report; model = has_float-model_report; certificate = has_float-certificate }
