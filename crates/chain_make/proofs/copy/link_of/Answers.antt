use Rattle.std.proofs.Common.{refl}
use Rattle.chain_make.proofs.Copying.{link-copies, link-form}
use Rattle.chain_make.proofs.copy.link_of.Goals as goal

pub unreachable-requires : goal.unreachable-requires
unreachable-requires c = (rw c.in-None.is at c.of.ensures.none) (link-form c.args.dfa.now c.in_ok-accepting.accepting.items c.in_ok-columns.columns.items c.in_ok-rows.rows.items c.args.triples.items c.requires.whole c.in_ok-accepting.ensures.ok
    c.in_ok-columns.ensures.ok c.in_ok-rows.ensures.ok c.requires.ascending c.requires.right)

pub returns-clause-copied : goal.returns-clause-copied
returns-clause-copied c = rw (rw c.in-Some.is at c.of.ensures.some) (link-copies c.args.dfa.now c.in_ok-accepting.accepting.items c.in_ok-columns.columns.items c.in_ok-rows.rows.items c.args.triples.items c.requires.whole c.in_ok-accepting.ensures.ok
    c.in_ok-columns.ensures.ok c.in_ok-rows.ensures.ok c.requires.start)

pub returns-clause-columns : goal.returns-clause-columns
returns-clause-columns c = rw (rw c.in-Some.is at c.of.ensures.some) c.in_ok-columns.ensures.ok.as_many

pub returns-clause-pairs : goal.returns-clause-pairs
returns-clause-pairs c = rw (rw c.in-Some.is at c.of.ensures.some) refl
