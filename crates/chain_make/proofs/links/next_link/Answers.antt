use Rattle.std.proofs.Common.{◌∙◌, length, ap, arith}
use Rattle.template_core.proofs.Made.{made-template}
use Rattle.chain_make.specs.Beside.{pairs}
use Rattle.chain_make.specs.Entries.{entries, triple}
use Rattle.dfa_core.specs.Automaton.{steps_of}
use Rattle.chain_make.proofs.Copying.{start-first}
use Rattle.chain_make.proofs.Linking.{next-is, next-one, pairs-fit, some-width, table-is, triples-ascend, triples-end}
use Rattle.chain_make.proofs.links.next_link.Goals as goal

pub table_of-table-requires : goal.table_of-table-requires
table_of-table-requires c = made-template c.args.constraint.now.kind c.args.constraint.now.first c.args.constraint.now.second c.requires.made

pub meet-requires-clause-fits : goal.meet-requires-clause-fits
meet-requires-clause-fits c = pairs-fit _ c.table_of-table.result.states (omega (arith, c.if-states-gt-MOST_STATES.false, c.states.ensures.value)) c.table_of-table.ensures.table.few_states

pub states_beside-requires-clause-one : goal.states_beside-requires-clause-one
states_beside-requires-clause-one c =
    next-one c.args.dfa.now c.in_ok-both.both c.in_ok-next.next c.table_of-table.result c.args.constraint.now c.table_of-table.ensures.table c.in_ok-both.ensures.language c.in_ok-next.ensures.language c.in_ok-next.ensures.least

pub states_beside-requires-clause-same_symbols : goal.states_beside-requires-clause-same_symbols
states_beside-requires-clause-same_symbols c = c.in_ok-next.ensures.language.over ∙ c.in_ok-both.ensures.language.over

pub link_of-requires-clause-start : goal.link_of-requires-clause-start
link_of-requires-clause-start c = start-first c.in_ok-next.next c.in_ok-next.ensures.least.whole c.in_ok-next.ensures.order

pub link_of-requires-clause-ascending : goal.link_of-requires-clause-ascending
link_of-requires-clause-ascending c =
    triples-ascend c.table_of-table.result.states c.in_ok-beside.beside.items c.in_ok-triples.triples.items (some-width c.table_of-table.result c.table_of-table.ensures.table) (c.in_ok-triples.ensures.ok ∙ ap (λ l. entries (triple c.table_of-table.result.states) l (length l)) c.deref.ensures.value)

pub link_of-requires-clause-right : goal.link_of-requires-clause-right
link_of-requires-clause-right c =
    triples-end c.table_of-table.result.states (pairs c.args.dfa.now c.table_of-table.result c.args.constraint.now) (steps_of c.in_ok-next.next) c.in_ok-beside.beside.items c.in_ok-triples.triples.items c.in_ok-beside.ensures.ok (c.in_ok-triples.ensures.ok ∙ ap (λ l. entries (triple c.table_of-table.result.states) l (length l)) c.deref.ensures.value)

pub returns-clause-ok : goal.returns-clause-ok
returns-clause-ok c =
    let t = c.table_of-table.result in
    let is = table-is c.args.constraint.now t c.requires.made c.table_of-table.ensures.table c.table_of-table.ensures.accepts c.table_of-table.ensures.least in
    next-is c.args.dfa.now c.in_ok-both.both c.in_ok-next.next t c.args.constraint.now c.in_ok-beside.beside.items c.in_ok-link.link is c.requires.made c.in_ok-both.ensures.language c.in_ok-next.ensures.language c.in_ok-next.ensures.least
    c.in_ok-beside.ensures.ok c.in_ok-link.ensures.copied c.in_ok-link.ensures.columns (c.in_ok-link.ensures.pairs ∙ (c.in_ok-triples.ensures.ok ∙ ap (λ l. entries (triple c.table_of-table.result.states) l (length l)) c.deref.ensures.value))
