use Rattle.model_json.proofs.ReadBack.{consistent_back, model_back, scores_back}
use Rattle.model_json.proofs.laws.reports_read_back.Goals as goal

pub returns : goal.returns
returns c = record { scores = scores_back; consistent = consistent_back; model = model_back }
