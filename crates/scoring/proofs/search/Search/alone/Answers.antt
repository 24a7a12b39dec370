use Rattle.scoring.proofs.Counting.{counts_alone}
use Rattle.scoring.proofs.search.Search.alone.Goals as goal

pub returns : goal.returns
returns c = record {
  are = λ log kind told t. rw (c.traces.ensures log told, c.unary-activity.ensures log told) (counts_alone kind c.args.rank log t);
}
