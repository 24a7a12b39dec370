use Rattle.std.proofs.Common.{◌≡◌, ◌⊎◌, ◌<◌, ◌≤◌, length, rules, slice_index_or, None, Some, sym, subst, ◌∙◌, refl, arith, inl, inr, ⊎_elim}
use Rattle.std.proofs.lemmas.Bool.{false≢true}
use Rattle.template_core.specs.declared.constraint.Constraint.{Constraint}
use Rattle.template_set.proofs.Rows.{height, lower_listed, up, listed_at, one_more, none_leads}
use Rattle.template_set.proofs.hierarchy.+leads_down.Goals as goal
use Rattle.template_set.proofs.hierarchy.+leads_down.Goals.{then-are_same-via-then-are_same, then-are_same-via-else-are_same+then-leads_down, in-Some+else-are_same+else-leads_down, in_default}
use Rattle.template_set.specs.Hierarchy.{IsStronger}

pub leads_down-requires : goal.leads_down-requires
leads_down-requires t c =
    let less : height c.in-Some.next.kind < height c.args.above.now.kind
    = lower_listed c.args.above.now c.in-Some.next (listed_at c.args.above.now c.directly_below-next-items.result c.loop-next.next-index c.in-Some.next c.loop-next.invariant.rows c.in-Some.is) in
    let is : height c.args.above.now.kind ≡ t = c.decreases in
    (omega arith, tt)

pub returns-then-are_same : goal.returns-then-are_same
returns-then-are_same t c =
    let listed = listed_at c.args.above.now c.directly_below-next-items.result c.loop-next.next-index c.in-Some.next c.loop-next.invariant.rows c.in-Some.is in
    let found : (c.in-Some.next ≡ c.args.below.now) ⊎ IsStronger c.in-Some.next c.args.below.now
    = elim c.then-are_same.branch [
      | then-are_same-via-then-are_same w ↦ inl (c.are_same.ensures.0 w.if-are_same.true)
      | then-are_same-via-else-are_same+then-leads_down w ↦ inr (w.leads_down.ensures.0 w.if-leads_down.true)
    ] in
    (λ e. up c.args.above.now c.args.below.now c.in-Some.next listed found, λ h. refl)

pub loop-next-preserved : goal.loop-next-preserved
loop-next-preserved t c = record {
  rows = c.loop-next.invariant.rows;
  none = one_more c.args.below.now c.directly_below-next-items.result c.loop-next.next-index c.loop-next.invariant.none here;
}
  where
    not_next : (e d x : Constraint) → Some x ≡ Some e → ¬ (x ≡ d) → ¬ IsStronger x d → (e ≡ d) ⊎ IsStronger e d → ⊥
    not_next e d x is other unled w = let same : x ≡ e = cc in ⊎_elim (λ q. other (same ∙ q)) (λ h. unled (subst (λ y. IsStronger y d) (sym same) h)) w

    here : (e : Constraint) → slice_index_or c.directly_below-next-items.result c.loop-next.next-index None ≡ Some e → (e ≡ c.args.below.now) ⊎ IsStronger e c.args.below.now → ⊥
    here e at = elim c.match-next.branch [
      | in-Some+else-are_same+else-leads_down w ↦
          not_next e c.args.below.now w.in-Some.next (sym w.in-Some.is ∙ at)
          (λ same. false≢true (sym w.if-are_same.false ∙ w.are_same.ensures.1 same))
          (λ h. false≢true (sym w.if-leads_down.false ∙ w.leads_down.ensures.1 h))
      | in_default w ↦ λ q. w.in_default.not-Some e at
    ]

pub returns : goal.returns
returns t c =
    let long : length c.directly_below-next-items.result ≤ 4 = search rules in (
      λ e. absurd (false≢true e),
      λ h.
          absurd
          (none_leads c.args.above.now c.args.below.now c.directly_below-next-items.result c.loop-next.next-index c.loop-next.invariant.rows (omega arith) c.loop-next.invariant.none h),
    )
