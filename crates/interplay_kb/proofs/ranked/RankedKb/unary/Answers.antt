use Rattle.std.proofs.Common.{ap, ◌∙◌}
use Rattle.template_core.specs.Counts.{unary_counts}
use Rattle.interplay_kb.proofs.ByRank.{id_read, unary_told}
use Rattle.interplay_kb.proofs.ranked.RankedKb.unary.Goals as goal

pub returns : goal.returns
returns c = λ log t.
    c.unary.ensures t.ended t.stands
    ∙ ap (λ id. unary_counts id t.ended) (id_read c.args.self.now log t c.args.rank _ c.requires.known c.index.ensures)
    ∙ unary_told c.args.self.now log t c.args.rank c.requires.known
