use Rattle.std.proofs.Common.{◌∙◌, length, ap}
use Rattle.template_core.proofs.Made.{made-template}
use Rattle.chain_make.specs.Beside.{pairs}
use Rattle.chain_make.specs.Entries.{entries, pair}
use Rattle.dfa_core.specs.Automaton.{steps_of}
use Rattle.chain_make.proofs.Linking.{pairs-are, pairs-ascend, some-width, table-is}
use Rattle.chain_make.proofs.Runs.{one-everything}
use Rattle.chain_make.proofs.implied.pairs_of.Goals as goal

pub table_of-table-requires : goal.table_of-table-requires
table_of-table-requires c = made-template c.args.dropped.now.constraint.kind c.args.dropped.now.constraint.first c.args.dropped.now.constraint.second c.requires.made

pub states_beside-requires-clause-one : goal.states_beside-requires-clause-one
states_beside-requires-clause-one c =
    one-everything (pairs c.args.dfa.now c.table_of-table.result c.args.dropped.now.constraint) c.in_ok-everything.everything c.symbols.result c.in_ok-everything.ensures.ok c.symbols.ensures

pub unreachable-requires : goal.unreachable-requires
unreachable-requires c =
    (rw c.in-None.is at c.of.ensures.none) (pairs-ascend c.table_of-table.result.states c.in_ok-beside.beside.items c.in_ok-pairs.field-0.items (some-width c.table_of-table.result c.table_of-table.ensures.table) (c.in_ok-pairs.ensures.ok ∙ ap (λ l. entries (pair c.table_of-table.result.states) l (length l)) c.deref.ensures.value))

pub returns-clause-ok : goal.returns-clause-ok
returns-clause-ok c =
    let t = c.table_of-table.result in
    let d = c.args.dropped.now in
    let is = table-is d.constraint t c.requires.made c.table_of-table.ensures.table c.table_of-table.ensures.accepts c.table_of-table.ensures.least in
    rw (rw c.in-Some.is at c.of.ensures.some)
    (pairs-are c.args.dfa.now t d (steps_of c.in_ok-everything.everything) c.in_ok-beside.beside.items c.in_ok-pairs.field-0.items is c.requires.made c.requires.settles c.in_ok-beside.ensures.ok (c.in_ok-pairs.ensures.ok ∙ ap (λ l. entries (pair c.table_of-table.result.states) l (length l)) c.deref.ensures.value))
