-- One class of all states, and a class's states in a list.
use Rattle.std.proofs.Common.{◌≡◌, inl, inr, ℕ, zero, suc, ◌+◌, ◌-◌, ◌<◌, ◌≤◌, List, [], ◌∷◌, Bool, true, false, ◌||◌, eqb, length, get_or, take, drop, refl, sym, ap, ◌∙◌, arith, length-take-le, length-drop, eq-eqb}
use Rattle.std.proofs.lemmas.Bool.{cases_eq}
use Rattle.std.proofs.lemmas.List.{get_or-take, get_or-drop, get_or-map, length-map}
use Rattle.dfa_core.specs.Automaton.{Automaton, state_count}
use Rattle.dfa_minimise.specs.Partitions.{IsPartition, IsTidy, is_in, members_of}
use Rattle.dfa_minimise.specs.Classes.{AreInClass, AreManyApart, IsSound}
use Rattle.dfa_minimise.specs.declared.refinable.Refinable.{Refinable}
use Rattle.dfa_minimise.proofs.Splitting.{is_in-place}
use Rattle.dfa_minimise.proofs.Marking.{eqb_not}

is_in-from_place : (xs : List ℕ) (q j : ℕ) → j < length xs → get_or xs j 0 ≡ q → is_in xs q ≡ true
is_in-from_place [] q j l e = absurd (omega arith)
is_in-from_place (y ∷ xs) q zero l e = rw (eq-eqb y q e) refl
is_in-from_place (y ∷ xs) q (suc j) l e = go (eqb y q) (is_in-from_place xs q j (omega arith) e)
  where
    go : (b : Bool) → is_in xs q ≡ true → (b || is_in xs q) ≡ true
    go true h = refl
    go false h = h

bool_not-true : (b : Bool) → (b ≡ true → ⊥) → b ≡ false
bool_not-true true h = absurd (h refl)
bool_not-true false h = refl

pub class-states : (p : Refinable) (c : ℕ) (states : List ℕ) → IsTidy p → c < length p.first.items → states ≡ take (get_or p.end.items c 0 - get_or p.first.items c 0) (drop (get_or p.first.items c 0) p.order.items)
    → AreInClass (length p.class.items) c p.class.items states
class-states p c states t lc es =
    let h = t.refinable in
    let f = get_or p.first.items c 0 in
    let e = get_or p.end.items c 0 in
    let n = length p.class.items in
    let s = h.some c lc in
    let b = h.end_bound c lc in
    let len : length states ≡ e - f = ap length es ∙ length-take-le (e - f) (drop f p.order.items) (omega (arith, length-drop f p.order.items, h.order_length)) in
    let each : (j : ℕ) → j < length states → get_or states j 0 ≡ get_or p.order.items (f + j) 0 = λ j l. ap (λ (xs : List ℕ). get_or xs j 0) es ∙ (get_or-take (e - f) (drop f p.order.items) j 0 (omega arith) ∙ get_or-drop f p.order.items j 0) in
    record {
      bound = λ j l. rw (each j l) (h.order_bound (f + j) (omega arith));
      are = λ q lq. elim (cases_eq (get_or p.class.items q 0) c) [
        | inl is ↦
            let lo : f ≤ get_or p.place.items q 0 = rw is at (h.class_first q lq) in
            let hi : get_or p.place.items q 0 < e = rw is at (h.class_end q lq) in
            let j = get_or p.place.items q 0 - f in
            let lj : j < length states = omega arith in
            let same : f + j ≡ get_or p.place.items q 0 = omega arith in
            is_in-from_place states q j lj (each j lj ∙ (ap (λ (i : ℕ). get_or p.order.items i 0) same ∙ h.order_place q lq)) ∙ sym (eq-eqb (get_or p.class.items q 0) c is)
        | inr ne ↦
            bool_not-true (is_in states q) (λ yes_.
            let k = is_in-place states q yes_ in
            ne (ap (λ (r : ℕ). get_or p.class.items r 0) (sym k.2 ∙ each k.0 k.1) ∙ h.class_order c (f + k.0) lc (omega arith) (let a = k.1 in omega arith)))
            ∙ sym (eqb_not (get_or p.class.items q 0) c ne)
      ];
    }

pub partition-tidy : (p : Refinable) → IsTidy p → IsPartition (length p.class.items) p.class.items (members_of p)
partition-tidy p t =
    let h = t.refinable in
    let len : length (members_of p) ≡ length p.first.items = length-map p.first.items (λ f. get_or p.order.items f 0) in
    let at : (c : ℕ) → c < length p.first.items → get_or (members_of p) c 0 ≡ get_or p.order.items (get_or p.first.items c 0) 0 = λ c lc. get_or-map (λ f. get_or p.order.items f 0) p.first.items c 0 0 lc in
    record {
      states = refl;
      class_bound = λ q lq. rw len (h.class_bound q lq);
      member_bound = λ c lc.
          let lc2 : c < length p.first.items = rw len at lc in
          let s = h.some c lc2 in
          let b = h.end_bound c lc2 in
          rw (at c lc2) (h.order_bound (get_or p.first.items c 0) (omega arith));
      member_class = λ c lc.
          let lc2 : c < length p.first.items = rw len at lc in
          rw (at c lc2) (h.class_order c (get_or p.first.items c 0) lc2 (omega arith) (h.some c lc2));
    }

-- the states that stand first in their classes are told apart
pub many-apart : (a : Automaton) (most : ℕ) (p : Refinable) → IsTidy p → length p.class.items ≡ state_count a → IsSound a p.class.items → most < length p.first.items → AreManyApart a most
many-apart a most p t states sound many =
    let part = partition-tidy p t in
    let len : length (members_of p) ≡ length p.first.items = length-map p.first.items (λ f. get_or p.order.items f 0) in
    let bound : (i : ℕ) → i ≤ most → get_or (members_of p) i 0 < state_count a = λ i le. rw states at (part.member_bound i (omega (arith, len, many, le))) in
    record {
      state = λ i. get_or (members_of p) i 0;
      bound = bound;
      apart = λ i j less le. sound.apart (get_or (members_of p) i 0) (get_or (members_of p) j 0) (bound i (omega arith)) (bound j le) (λ e.
          let same : i ≡ j = sym (part.member_class i (omega (arith, len, many, le))) ∙ (e ∙ part.member_class j (omega (arith, len, many, le))) in
          omega (arith, same, less));
    }
