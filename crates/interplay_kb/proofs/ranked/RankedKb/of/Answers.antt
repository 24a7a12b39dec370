use Rattle.std.proofs.Common.{refl}
use Rattle.interplay_kb.specs.Ranks.{ranked}
use Rattle.interplay_kb.proofs.ranked.RankedKb.of.Goals as goal

pub returns-clause-telling : goal.returns-clause-telling
returns-clause-telling c = (
  ranked c.args.ranks.now c.requires.stands.0,
  record {
    ranks = c.args.ranks.now;
    ended = c.requires.stands.0;
    stands = c.requires.stands.1;
    ranking = c.requires.ranks;
    inverse = c.in_ok-ids.ensures.ok;
    is = refl;
  },
)
