use Rattle.std.proofs.Common.{sym}
use Rattle.scoring.proofs.Counting.{counts_between}
use Rattle.scoring.proofs.search.Search.between.Goals as goal

pub returns-clause-onward : goal.returns-clause-onward
returns-clause-onward c = record {
  are = λ log kind told t.
      rw (c.traces.ensures log told, c.unary.ensures log told, c.unary-2.ensures log told, c.pair.ensures log told, c.pair-2.ensures log told)
      (counts_between kind c.args.first c.args.second log c.requires.differ t);
}

pub returns-clause-back : goal.returns-clause-back
returns-clause-back c = record {
  are = λ log kind told t.
      rw (c.traces.ensures log told, c.unary.ensures log told, c.unary-2.ensures log told, c.pair.ensures log told, c.pair-2.ensures log told)
      (counts_between kind c.args.second c.args.first log (λ e. c.requires.differ (sym e)) t);
}
