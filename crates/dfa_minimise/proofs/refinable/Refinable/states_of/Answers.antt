use Rattle.std.proofs.Common.{◌≡◌, ◌<◌, ◌-◌, length, get_or, take, drop, refl, ◌∙◌, arith}
use Rattle.std.proofs.lemmas.List.{get_or_read}
use Rattle.std.proofs.lemmas.Result.{IfOk-weaker}
use Rattle.dfa_minimise.proofs.Wholes.{class-states}
use Rattle.dfa_minimise.proofs.refinable.Refinable.states_of.Goals as goal

pub returns : goal.returns
returns c =
    let p = c.args.self.now in
    let h = c.requires.tidy.refinable in
    let f = get_or_read p.first.items c.args.class c.index.result.now c.requires.class c.index.ensures 0 in
    let le : c.args.class < length p.end.items = omega (arith, c.requires.class, h.end_length) in
    let e = get_or_read p.end.items c.args.class c.index-2.result.now le c.index-2.ensures 0 in
    let same : take (c.index-2.result.now - c.index.result.now) (drop c.index.result.now c.deref.result.now) ≡ take (get_or p.end.items c.args.class 0 - get_or p.first.items c.args.class 0) (drop (get_or p.first.items c.args.class 0) p.order.items) =
    rw (f, e, c.deref.ensures.value) refl in
    IfOk-weaker c.from_slice.result _ _ (λ v is. class-states p c.args.class v.items c.requires.tidy c.requires.class (is ∙ same)) c.from_slice.ensures.items
