use Rattle.report_text.specs.KbTable.{pair_lines}
use Rattle.report_text.proofs.Joined.{piece_more}
use Rattle.report_text.proofs.counters.put_all_pairs.Goals as goal

pub loop-rank-preserved : goal.loop-rank-preserved
loop-rank-preserved c = λ names log texts told.
    piece_more (pair_lines names log) _ _ _ c.loop-rank.rank (c.loop-rank.invariant names log texts told) (c.in_ok-put_pairs.ensures names log texts told)
