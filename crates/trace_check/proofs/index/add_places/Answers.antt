use Rattle.std.proofs.Common.{◌≡◌, ◌+◌, ◌++◌, ◌∷◌, ◌<◌, [], ℕ, get_or, set, take, length, sym, ap, subst, ◌∙◌, arith, refl}
use Rattle.std.proofs.lemmas.List.{get_or-map, length-map}
use Rattle.std.specs.Global.{Vec}
use Rattle.trace_check.specs.Index.{lists, AddsPlaces}
use Rattle.trace_check.proofs.Indexing.{adds-skip, adds-step, lists-set}
use Rattle.trace_check.proofs.index.add_places.Goals as goal
use Rattle.trace_check.proofs.index.add_places.Goals.{then-activity-len+in_ok-push, else-activity-len}

pub loop-i-preserved : goal.loop-i-preserved
loop-i-preserved c =
    let i = c.loop-i.i in
    let trace = c.args.trace.now in
    let e = get_or trace i 0 in
    let items = c.loop-i.index.items in
    let size : length (lists items) ≡ length items = length-map items (λ (v : Vec ℕ). v.items) in
    elim c.if-activity-len.branch [
      | then-activity-len+in_ok-push w ↦
          let inside : e < length items = omega (arith, w.if-activity-len.true, c.len.ensures) in
          let before : w.index_mut.result.now.items ≡ get_or (lists items) e [] =
          ap (λ (v : Vec ℕ). v.items) w.index_mut.ensures.value ∙ sym (get_or-map (λ (v : Vec ℕ). v.items) items e w.index_mut.result.now [] inside) in
          let pushed : lists c.if-activity-len.index.items ≡ set (lists items) e (get_or (lists items) e [] ++ (c.args.start + i) ∷ []) =
          ap (λ (v : Vec (Vec ℕ)). lists v.items) w.index-is
          ∙ lists-set items e w.push.new.self
          ∙ ap (set (lists items) e) (w.in_ok-push.ensures.items ∙ ap (λ l. l ++ (c.args.start + i) ∷ []) before) in
          adds-step c.args.start trace (lists c.args.index.now.items) (lists items) (lists c.if-activity-len.index.items) i e c.loop-i-test.true refl (omega (arith, size, inside)) pushed c.loop-i.invariant
      | else-activity-len w ↦
          subst (λ (index : Vec (Vec ℕ)). AddsPlaces c.args.start (take (i + 1) trace) (lists c.args.index.now.items) (lists index.items)) (sym w.index-is)
          (adds-skip c.args.start trace (lists c.args.index.now.items) (lists items) i e c.loop-i-test.true refl (omega (arith, size, w.if-activity-len.false, c.len.ensures)) c.loop-i.invariant)
    ]
