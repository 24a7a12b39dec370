use Rattle.std.proofs.Common.{◌≡◌, arith}
use Rattle.dfa_core.proofs.Grouped.{grouped-more, grouped-none, met-none}
use Rattle.dfa_core.proofs.columns.Grouping.of.Goals as goal

pub loop-symbol-init : goal.loop-symbol-init
loop-symbol-init g c =
    let columns = g.S.Columned.columns c.args.system.now in
    let n = c.in_ok-grouping.ensures in
    rw (n.of, n.least) (record { grouped = grouped-none columns; met = met-none columns c.in_ok-grouping.grouping.numbers.items (rw c.columns.ensures.value at n.numbers) })

pub add-requires-clause-column : goal.add-requires-clause-column
add-requires-clause-column g c =
    let b = c.columns.ensures.alike.bound c.loop-symbol.symbol (omega (arith, c.loop-symbol-test.true, c.symbols-symbol-end.ensures)) in
    omega (arith, b, c.column.ensures, c.loop-symbol.invariant.met.numbers_length, c.loop-symbol.grouping.numbers.ok.0)

pub loop-symbol-preserved : goal.loop-symbol-preserved
loop-symbol-preserved g c =
    let b = c.columns.ensures.alike.bound c.loop-symbol.symbol (omega (arith, c.loop-symbol-test.true, c.symbols-symbol-end.ensures)) in
    let i = c.loop-symbol.invariant in
    let more = grouped-more (g.S.Columned.columns c.args.system.now) c.loop-symbol.grouping c.add.new.self c.loop-symbol.symbol c.column.result c.column.ensures b i.grouped i.met c.in_ok-add.ensures.ok in
    record { grouped = more.0; met = more.1 }

pub returns-clause-ok : goal.returns-clause-ok
returns-clause-ok g c =
    let all : c.loop-symbol.symbol ≡ (g.S.System.steps c.args.system.now).symbols = omega (arith, c.loop-symbol-test.false, c.loop-symbol.auto.symbol-end, c.symbols-symbol-end.ensures) in
    rw all at c.loop-symbol.invariant.grouped
