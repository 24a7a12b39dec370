use Rattle.std.proofs.Common.{◌+◌, refl, arith, length-set}
use Rattle.dfa_minimise.proofs.Marking.{classes_few}
use Rattle.dfa_minimise.proofs.Cutting.{cut-front, cut-back, read-at}
use Rattle.dfa_minimise.proofs.refinable.Refinable.cut.Goals as goal

pub begin-requires-clause-few : goal.begin-requires-clause-few
begin-requires-clause-few c =
    let le = classes_few _ _ _ _ _ _ c.requires.refinable in
    omega (arith, le, c.requires.few, length-set c.args.self.now.first.items c.args.class (c.index-first.result.now + c.index.result.now))

pub begin-requires-else-middle-first-clause-few : goal.begin-requires-else-middle-first-clause-few
begin-requires-else-middle-first-clause-few c =
    let le = classes_few _ _ _ _ _ _ c.requires.refinable in
    omega (arith, le, c.requires.few)

pub returns-in_ok-begin : goal.returns-in_ok-begin
returns-in_ok-begin c =
    let p = c.args.self.now in
    let reads = read-at p c.args.class c.index-first.result.now c.index.result.now c.index-end.result.now c.requires.refinable c.requires.fit c.requires.class c.index-first.ensures c.index.ensures c.index-end.ensures in
    cut-front p _ c.begin.new.self c.args.class c.index-first.result.now c.index.result.now c.index-end.result.now c.requires.refinable c.requires.fit c.requires.class reads c.if-first-middle.false c.if-middle-end.false
    refl refl refl refl refl refl c.in_ok-begin.ensures

pub returns-in_ok-begin-2 : goal.returns-in_ok-begin-2
returns-in_ok-begin-2 c =
    let p = c.args.self.now in
    let reads = read-at p c.args.class c.index-first.result.now c.index.result.now c.index-end.result.now c.requires.refinable c.requires.fit c.requires.class c.index-first.ensures c.index.ensures c.index-end.ensures in
    cut-back p _ c.begin-else-middle-first.new.self c.args.class c.index-first.result.now c.index.result.now c.index-end.result.now c.requires.refinable c.requires.fit c.requires.class reads c.if-first-middle.false c.if-middle-end.false
    refl refl refl refl refl refl c.in_ok-begin-2.ensures
