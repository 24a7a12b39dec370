-- A new class of the states at some places.
use Rattle.std.proofs.Common.{◌≡◌, ◌<◌, ◌≤◌, ◌+◌, ℕ, inl, inr, length, get_or, set, sym, ap, ◌∙◌, arith, length-set, get_or-set_same, get_or-set_other}
use Rattle.std.proofs.lemmas.Bool.{cases_eq}
use Rattle.dfa_minimise.specs.Partitions.{Begins}
use Rattle.dfa_minimise.specs.declared.refinable.Refinable.{Refinable}

pub begins-more : (old now after : Refinable) (from to at state n : ℕ) → Begins old now from to at → length old.class.items ≡ n → at < n
    → ((i : ℕ) → i < n → get_or old.order.items i 0 < n)
    → ((q : ℕ) → q < n → get_or old.order.items (get_or old.place.items q 0) 0 ≡ q)
    → ((i : ℕ) → i < n → get_or old.place.items (get_or old.order.items i 0) 0 ≡ i)
    → from ≤ at → state ≡ get_or old.order.items at 0
    → after.order.items ≡ now.order.items → after.place.items ≡ now.place.items → after.first.items ≡ now.first.items → after.end.items ≡ now.end.items → after.marked.items ≡ now.marked.items
    → after.class.items ≡ set now.class.items state (length old.first.items) → Begins old after from to (at + 1)
begins-more old now after from to at state n h en lt order_bound order_place place_order low is eo ep ef ee em ec =
    let here : get_or old.place.items state 0 ≡ at = ap (λ (q : ℕ). get_or old.place.items q 0) is ∙ place_order at lt in
    let inside : state < length now.class.items = let b = order_bound at lt in omega (arith, h.class_length, is, en, b) in
    let at_here : (q : ℕ) → q < n → get_or old.place.items q 0 ≡ at → q ≡ state = λ q lq e. sym (order_place q lq) ∙ (ap (λ (i : ℕ). get_or old.order.items i 0) e ∙ sym is) in
    record {
      order = eo ∙ h.order;
      place = ep ∙ h.place;
      first = ef ∙ h.first;
      end = ee ∙ h.end;
      marked = em ∙ h.marked;
      class_length = ap length ec ∙ (length-set now.class.items state (length old.first.items) ∙ h.class_length);
      inside = λ q lq lo hi. rw ec (elim (cases_eq q state) [
        | inl same ↦ rw same (get_or-set_same now.class.items state (length old.first.items) 0 inside)
        | inr ne ↦
            let off : get_or old.place.items q 0 ≡ at → ⊥ = λ e. ne (at_here q (omega (arith, en, lq)) e) in
            get_or-set_other now.class.items state q (length old.first.items) 0 ne ∙ h.inside q lq lo (omega arith)
      ]);
      outside = λ q lq out. rw ec (
          let ne : q ≡ state → ⊥ = λ e. let p : get_or old.place.items q 0 ≡ at = ap (λ (s : ℕ). get_or old.place.items s 0) e ∙ here in out (omega arith) (omega arith) in
          get_or-set_other now.class.items state q (length old.first.items) 0 ne ∙ h.outside q lq (λ lo hi. out lo (omega arith)));
    }
