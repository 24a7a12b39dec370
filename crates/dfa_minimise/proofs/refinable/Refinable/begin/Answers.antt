use Rattle.std.proofs.Common.{◌≡◌, ◌<◌, ℕ, length, get_or, set, refl, ap, ◌∙◌, arith, subst}
use Rattle.std.proofs.lemmas.List.{get_or_read}
use Rattle.dfa_minimise.specs.Partitions.{Begins}
use Rattle.dfa_minimise.proofs.Beginning.{begins-more}
use Rattle.dfa_minimise.proofs.refinable.Refinable.begin.Goals as goal

pub loop-at-init : goal.loop-at-init
loop-at-init c = record {
  order = refl;
  place = refl;
  first = c.in_ok-push.ensures.items;
  end = c.in_ok-push-2.ensures.items;
  marked = c.in_ok-push-3.ensures.items;
  class_length = refl;
  inside = λ q l lo hi. absurd (omega arith);
  outside = λ q l out. refl;
}

pub index-requires : goal.index-requires
index-requires c =
    let o = ap length c.loop-at.invariant.order in
    omega (arith, c.loop-at-test.true, c.requires.places, c.requires.order, o, c.loop-at.self.order.ok.0)

pub index_mut-requires : goal.index_mut-requires
index_mut-requires c =
    let o = ap length c.loop-at.invariant.order in
    let low : c.loop-at.at < length c.loop-at.self.order.items = omega (arith, c.loop-at-test.true, c.requires.places, c.requires.order, o) in
    let read = get_or_read c.loop-at.self.order.items c.loop-at.at c.index.result.now low c.index.ensures 0 in
    let b = c.requires.order_bound c.loop-at.at (omega (arith, c.loop-at-test.true, c.requires.places)) in
    let same : c.index.result.now ≡ get_or c.args.self.now.order.items c.loop-at.at 0 = read ∙ ap (λ l. get_or l c.loop-at.at 0) c.loop-at.invariant.order in
    omega (arith, same, b, c.loop-at.invariant.class_length, c.loop-at.self.class.ok.0)

pub loop-at-preserved : goal.loop-at-preserved
loop-at-preserved c =
    let n = length c.args.self.now.class.items in
    let o = ap length c.loop-at.invariant.order in
    let low : c.loop-at.at < length c.loop-at.self.order.items = omega (arith, c.loop-at-test.true, c.requires.places, c.requires.order, o) in
    let read = get_or_read c.loop-at.self.order.items c.loop-at.at c.index.result.now low c.index.ensures 0 in
    let same : c.index.result.now ≡ get_or c.args.self.now.order.items c.loop-at.at 0 = read ∙ ap (λ l. get_or l c.loop-at.at 0) c.loop-at.invariant.order in
    begins-more c.args.self.now c.loop-at.self _ c.args.first c.args.end c.loop-at.at c.index.result.now n c.loop-at.invariant refl (omega (arith, c.loop-at-test.true, c.requires.places))
    c.requires.order_bound c.requires.order_place c.requires.place_order c.loop-at.auto.at same refl refl refl refl refl
    (ap (λ k. set c.loop-at.self.class.items c.index.result.now k) (c.len-class.ensures ∙ c.args.self.now.first.ok.0))

pub returns : goal.returns
returns c =
    let at : c.loop-at.at ≡ c.args.end = let b = c.loop-at.auto.at-end c.requires.range in omega (arith, b, c.loop-at-test.false) in
    let P : ℕ → Type 0 = λ k. Begins c.args.self.now c.loop-at.self c.args.first c.args.end k in
    subst P at c.loop-at.invariant
