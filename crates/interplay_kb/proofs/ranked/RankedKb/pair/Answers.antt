use Rattle.std.proofs.Common.{ap₂, ◌∙◌}
use Rattle.template_core.specs.Counts.{pair_counts}
use Rattle.interplay_kb.proofs.ByRank.{id_read, pair_told}
use Rattle.interplay_kb.proofs.ranked.RankedKb.pair.Goals as goal

pub returns : goal.returns
returns c = λ log t.
    c.pair.ensures t.ended t.stands
    ∙ ap₂ (λ a b. pair_counts a b t.ended) (id_read c.args.self.now log t c.args.first _ c.requires.first c.index.ensures)
    (id_read c.args.self.now log t c.args.second _ c.requires.second c.index-2.ensures)
    ∙ pair_told c.args.self.now log t c.args.first c.args.second c.requires.first c.requires.second
