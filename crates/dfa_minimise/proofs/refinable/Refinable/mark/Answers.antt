use Rattle.std.proofs.Common.{◌<◌, ◌+◌, length, refl, arith}
use Rattle.std.proofs.lemmas.List.{get_or_read}
use Rattle.dfa_minimise.proofs.Marking.{marked-state}
use Rattle.dfa_minimise.proofs.refinable.Refinable.mark.Goals as goal

pub returns-then-to-from : goal.returns-then-to-from
returns-then-to-from c =
    let p = c.args.self.now in
    let h = c.requires.refinable in
    let fit = c.requires.fit in
    let e = c.args.state in
    let le = c.requires.state in
    let cl = get_or_read p.class.items e c.index.result.now le c.index.ensures 0 in
    let low : c.index.result.now < length p.first.items = let b = h.class_bound e le in omega (arith, cl, b) in
    let f = get_or_read p.first.items c.index.result.now c.index-2.result.now low c.index-2.ensures 0 in
    let lm : c.index.result.now < length p.marked.items = omega (arith, low, fit.marks_length) in
    let m = get_or_read p.marked.items c.index.result.now c.index-3.result.now lm c.index-3.ensures 0 in
    let from = get_or_read p.place.items e c.index-from.result.now (omega (arith, h.place_length, le)) c.index-from.ensures 0 in
    let in_order : c.index-2.result.now + c.index-3.result.now < length p.order.items = let b = h.place_bound e le in omega (arith, c.if-to-from.true, b, from, h.order_length) in
    let other = get_or_read p.order.items (c.index-2.result.now + c.index-3.result.now) c.index-other.result.now in_order c.index-other.ensures 0 in
    let k = get_or_read p.marked.items c.index.result.now c.index_mut-then-to-from-4.result.now lm c.index_mut-then-to-from-4.ensures.value 0 in
    marked-state p _ (length p.class.items) e c.index.result.now c.index-2.result.now c.index-3.result.now c.index-from.result.now c.index-other.result.now c.index_mut-then-to-from-4.result.now
    h fit le cl f m from c.if-to-from.true other k refl refl refl refl refl refl
