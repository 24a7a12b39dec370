use Rattle.std.proofs.Common.{[], ◌∙◌}
use Rattle.interplay_kb.proofs.ByRank.{traces_told}
use Rattle.interplay_kb.proofs.ranked.RankedKb.traces.Goals as goal

pub returns : goal.returns
returns c = λ log t. c.traces.ensures t.ended [] t.stands ∙ traces_told c.args.self.now log t
