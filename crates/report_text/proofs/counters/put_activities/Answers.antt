use Rattle.report_text.specs.KbTable.{activity_line}
use Rattle.report_text.proofs.Joined.{piece_more}
use Rattle.report_text.proofs.counters.put_activities.Goals as goal

pub loop-rank-preserved : goal.loop-rank-preserved
loop-rank-preserved c = λ names log texts told.
    piece_more (activity_line names log) _ _ _ c.loop-rank.rank (c.loop-rank.invariant names log texts told) (c.in_ok-put_activity.ensures names log texts told)
