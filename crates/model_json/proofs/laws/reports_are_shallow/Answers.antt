use Rattle.model_json.proofs.Depths.{depth-certificate, depth-consistent_report, depth-model_report, depth-scores_report}
use Rattle.model_json.proofs.laws.reports_are_shallow.Goals as goal

pub returns : goal.returns
returns c = record { scores = depth-scores_report; consistent = depth-consistent_report; model = depth-model_report; certificate = depth-certificate }
