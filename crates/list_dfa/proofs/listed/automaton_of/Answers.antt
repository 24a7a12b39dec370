use Rattle.list_dfa.specs.Growing.{grown_from}
use Rattle.list_dfa.proofs.Listing.{listed-narrow, listed-wide}
use Rattle.list_dfa.proofs.listed.automaton_of.Goals as goal

pub returns-in-All-clause-ok : goal.returns-in-All-clause-ok
returns-in-All-clause-ok c =
    let start = c.in_ok-start.start in
    let grown = grown_from start c.in-All.grown in
    let least = c.in_ok-least-in-All in
    listed-narrow c.args.symbols c.args.states c.args.list.now start grown least.least c.requires.some_states c.requires.few_states c.in_ok-start.ensures.ok (rw c.in-All.is at c.in_ok-grown.ensures.ok)
    (rw c.or_start.ensures at least.ensures.language) least.ensures.least least.ensures.order

pub returns-clause-ok : goal.returns-clause-ok
returns-clause-ok c = listed-wide c.args.symbols c.args.states c.args.list.now c.in_ok-start.start c.in-Wide.size c.requires.some_states c.in_ok-start.ensures.ok (rw c.in-Wide.is at c.in_ok-grown.ensures.ok)
