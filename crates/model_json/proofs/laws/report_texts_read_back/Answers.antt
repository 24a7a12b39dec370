use Rattle.model_json.proofs.Depths.{depth-consistent_report, depth-model_report, depth-scores_report}
use Rattle.model_json.proofs.ReadBack.{consistent_back, line_back, model_back, scores_back}
use Rattle.model_json.specs.Model.{listed}
use Rattle.model_json.specs.Report.{consistent_report, model_report, scores_report, staying}
use Rattle.model_json.proofs.laws.report_texts_read_back.Goals as goal

pub returns-clause-scores : goal.returns-clause-scores
returns-clause-scores c = λ names repertoire list traces events text known line.
    line_back (scores_report names repertoire list traces events) text (listed names list) line (depth-scores_report names repertoire list traces events) (scores_back names repertoire list traces events known)

pub returns-clause-consistent : goal.returns-clause-consistent
returns-clause-consistent c = λ names repertoire list sifting traces events text known line.
    line_back (consistent_report names repertoire list sifting traces events) text (listed names (staying list sifting.decisions)) line
    (depth-consistent_report names repertoire list sifting traces events) (consistent_back names repertoire list sifting traces events known)

pub returns-clause-model : goal.returns-clause-model
returns-clause-model c = λ names repertoire list decisions witnesses example traces events text known many line.
    line_back (model_report names repertoire list decisions witnesses example traces events) text (listed names (staying list decisions)) line
    (depth-model_report names repertoire list decisions witnesses example traces events) (model_back names repertoire list decisions witnesses example traces events known many)
