-- The repertoire and the counters, in words of places of the whole trace.
use Rattle.std.proofs.Common.{◌≡◌, ◌≢◌, ◌↔◌, ◌⊎◌, ℕ, zero, suc, ◌+◌, ◌-◌, ◌<◌, ◌≤◌, List, [], ◌∷◌, ◌++◌, Bool, true, false, ◌&&◌, ◌||◌, not, cond, eqb, nat_lt, nat_le, Some, length, take, slice_get, nat_eq, refl, sym, ap, subst, ◌∙◌, arith, ⊎_elim, inl, inr, length-append}
use Rattle.std.proofs.lemmas.Bool.{false≢true, eqb-true, eq-eqb, ne_eqb, leb-true, le-leb, or_cases, or_left, or_right}
use Rattle.std.proofs.lemmas.Bool.Decides.{nat_tests}
use Rattle.std.proofs.lemmas.List.Folds.{list_any-append}
use Rattle.std.proofs.lemmas.Option.{slice_get_within, none-some}
use Rattle.std.proofs.Math.ListN.{drop_of_length-le}
use Rattle.std.proofs.Math.Seq.{drop-append_seam}
use Rattle.template_core.proofs.Counters.{occurrences-snoc}
use Rattle.template_core.proofs.Gains.{occurs-count}
use Rattle.template_core.proofs.Places.{take-seam, snoc_induction, count_places-same, count_events-nil}
use Rattle.template_core.proofs.Zipper.{get-front, get-back, occurs-some, not-iff, and-iff, first-is, last-is, alternates-iff, repeats-iff, alternates_back-iff, repeats_back-iff, snoc-old, snoc-new, snoc-cases}
use Rattle.template_core.specs.Constraints.{IsWellMade}
use Rattle.template_core.specs.Counters.{occurrences, without, no_later, no_earlier, next, previous, rep_later, rep_earlier}
use Rattle.template_core.specs.Events.{at_head, at_place, one_if, occurs, is_first}
use Rattle.template_core.specs.Places.{EventIs, PreviousIs, SomeIs, LaterIs, EarlierIs, NoneBetween, AlternatesLater, AlternatesEarlier, AtEach, RepeatsLater, RepeatsEarlier, ActivatedIn, ActivatedAt, FulfilledAt, WithoutAt, NoLaterAt, NoEarlierAt, NextAt, PreviousAt, RepeatedLaterAt, RepeatedEarlierAt, TwoAre, CountsPlaces}
use Rattle.template_core.specs.Repertoire.{each, each_of, at_first, none, alternates_later, alternates_earlier, is_activated_in, is_activated, is_fulfilled}
use Rattle.template_core.specs.Tests.{passing, has, has_later, has_earlier, has_next, has_previous, repeats_later, repeats_earlier}
use Rattle.template_core.specs.Groups.{group_of, activation_of}
use Rattle.template_core.specs.declared.group.Group.{Group}
use Rattle.template_core.specs.declared.group.Group.TheVariants.{Existence, Relation, Mutual, Negative}
use Rattle.template_core.specs.declared.kind.Kind.{Kind}
use Rattle.template_core.specs.declared.kind.Kind.TheVariants.{Init, End, Participation, AtMostOne, ChainSuccession, AlternateSuccession, Succession, CoExistence, ChainResponse, AlternateResponse, Response, ChainPrecedence, AlternatePrecedence, Precedence, RespondedExistence, NotCoExistence, NotSuccession, NotChainSuccession, Exactly, AtLeast, AtMost, NotRespondedExistence, NotResponse, NotPrecedence, NotChainResponse, NotChainPrecedence}

chain : {P Q : Type 0} {x : Bool} → x ≡ true ↔ P → P ↔ Q → x ≡ true ↔ Q
chain h g = (λ e. g.0 (h.0 e), λ q. h.1 (g.1 q))

-- an event, with those before it and after it
module _ (before : List ℕ) (e : ℕ) (after : List ℕ) where
  abbrev T : List ℕ
  T = before ++ e ∷ after

  abbrev n : ℕ
  n = length before

  at : (p : List ℕ → ℕ → List ℕ → Bool) → at_place p T n ≡ p before e after
  at p = rw (take-seam before (e ∷ after), drop-append_seam before (e ∷ after)) refl

  there : slice_get T n ≡ Some e
  there = ap (slice_get T) (omega arith) ∙ get-back before (e ∷ after) 0

  front : (j : ℕ) → j < n → slice_get T j ≡ slice_get before j
  front j h = get-front before (e ∷ after) j h

  back : (k : ℕ) → slice_get T (n + suc k) ≡ slice_get after k
  back k = get-back before (e ∷ after) (suc k)

  behind : (j : ℕ) → n < j → j ≡ n + suc (j - (n + 1))
  behind j h = omega arith

  -- an event behind, from the whole trace
  from_back : (c j : ℕ) → n < j → EventIs c T j → EventIs c after (j - (n + 1))
  from_back c j h is = sym (back (j - (n + 1))) ∙ ap (slice_get T) (sym (behind j h)) ∙ is

  is-here : (c : ℕ) → eqb e c ≡ true ↔ EventIs c T n
  is-here c = (λ h. there ∙ ap Some (eqb-true e c h), λ is. eq-eqb e c (same (sym there ∙ is)))
    where
      same : Some e ≡ Some c → e ≡ c
      same h = cc

  later : (b : ℕ) → has_later nat_eq b before e after ≡ true ↔ LaterIs b T n
  later b = chain (occurs-some b after) (
    λ r. (n + suc r.0, omega arith, back r.0 ∙ r.1),
    λ r. (r.0 - (n + 1), from_back b r.0 r.1 r.2),
  )

  earlier : (b : ℕ) → has_earlier nat_eq b before e after ≡ true ↔ EarlierIs b T n
  earlier b = chain (occurs-some b before) (
    λ r. (r.0, slice_get_within before r.0 b r.1, front r.0 (slice_get_within before r.0 b r.1) ∙ r.1),
    λ r. (r.0, sym (front r.0 r.1) ∙ r.2),
  )

  some : (b : ℕ) → has nat_eq b before e after ≡ true ↔ SomeIs b T
  some b = (λ h. (occurs-some b T).0 (list_any-append (λ event. nat_eq event b) before (e ∷ after) ∙ h), λ r. sym (list_any-append (λ event. nat_eq event b) before (e ∷ after)) ∙ (occurs-some b T).1 r)

  following : (b : ℕ) → has_next nat_eq b before e after ≡ true ↔ EventIs b T (n + 1)
  following b = chain (first-is b after) (λ is. back 0 ∙ is, λ is. sym (back 0) ∙ is)

  preceding : (a : ℕ) → has_previous nat_eq a before e after ≡ true ↔ PreviousIs a T n
  preceding a = chain (last-is a before) (
    λ r. (r.0, front (n - 1) (omega (arith, r.0)) ∙ r.1),
    λ r. (r.0, sym (front (n - 1) (omega (arith, r.0))) ∙ r.1),
  )

  -- no event between, from the part and from the whole
  no_back : (c j : ℕ) → ((k : ℕ) → k < j → ¬ EventIs c after k) → NoneBetween c T n (n + suc j)
  no_back c j f k low high is = f (k - (n + 1)) (omega arith) (from_back c k low is)

  no_front : (c j : ℕ) → ((k : ℕ) → j < k → ¬ EventIs c before k) → NoneBetween c T j n
  no_front c j f k low high is = f k low (sym (front k high) ∙ is)

  alternates : (a b : ℕ) → alternates_later nat_eq a b before e after ≡ true ↔ AlternatesLater a b T n
  alternates a b = chain (alternates-iff a b after) (
    λ r. (n + suc r.0, omega arith, back r.0 ∙ r.1, no_back a r.0 r.2),
    λ r. (r.0 - (n + 1), from_back b r.0 r.1 r.2, λ k lt is. r.3 (n + suc k) (omega arith) (omega (arith, r.1)) (back k ∙ is)),
  )

  alternates_back : (a b : ℕ) → alternates_earlier nat_eq a b before e after ≡ true ↔ AlternatesEarlier a b T n
  alternates_back a b = chain (alternates_back-iff b a before) (
    λ r. let lt = slice_get_within before r.0 a r.1 in (r.0, lt, front r.0 lt ∙ r.1, no_front b r.0 r.2),
    λ r. (r.0, sym (front r.0 r.1) ∙ r.2, λ k lt is. let w = slice_get_within before k b is in r.3 k lt w (front k w ∙ is)),
  )

  repeats : (a b : ℕ) → repeats_later nat_eq a b before e after ≡ true
      ↔ RepeatsLater a b T n
  repeats a b = chain (repeats-iff a b after) (
    λ r. (n + suc r.0, omega arith, back r.0 ∙ r.1, no_back b r.0 r.2, (n + suc r.3, omega arith, omega (arith, r.4), back r.3 ∙ r.5)),
    λ r. (r.0 - (n + 1), from_back b r.0 r.1 r.2, λ k lt is. r.3 (n + suc k) (omega arith) (omega (arith, r.1)) (back k ∙ is), r.4.0 - (n + 1), omega (arith, r.4.1, r.4.2), from_back a r.4.0 r.4.1 r.4.3),
  )

  repeats_back : (a b : ℕ) → repeats_earlier nat_eq a b before e after ≡ true
      ↔ RepeatsEarlier a b T n
  repeats_back a b = chain (repeats_back-iff a b before) (
    λ r.
        let lt = slice_get_within before r.0 b r.1 in
        let w = slice_get_within before r.3 a r.5 in
        (r.0, lt, front r.0 lt ∙ r.1, no_front b r.0 r.2, (r.3, r.4, w, front r.3 w ∙ r.5)),
    λ r. (r.0, sym (front r.0 r.1) ∙ r.2, λ k lt is. let w = slice_get_within before k b is in r.3 k lt w (front k w ∙ is), r.4.0, r.4.1, sym (front r.4.0 r.4.2) ∙ r.4.3),
  )

  -- one fact at a and another at b
  at_each : (a b : ℕ) → a ≢ b → (e ≡ a) ⊎ (e ≡ b) → (p q : List ℕ → ℕ → List ℕ → Bool) (P Q : ℕ → Type 0)
      → p before e after ≡ true ↔ P n → q before e after ≡ true ↔ Q n → at_first nat_eq a p q before e after ≡ true ↔ AtEach a b P Q T n
  at_each a b differ which p q P Q h g = ⊎_elim (λ is. at_a is) (λ is. at_b is) which
    where
      other : (c d : ℕ) → c ≢ d → e ≡ c → EventIs d T n → ⊥
      other c d apart is at = apart (sym is ∙ eqb-true e d ((is-here d).1 at))

      at_a : e ≡ a → cond (eqb e a) (p before e after) (q before e after) ≡ true ↔ AtEach a b P Q T n
      at_a is = rw (eq-eqb e a is) (λ t. (λ here. h.0 t, λ here. absurd (other a b differ is here)), λ r. h.1 (r.0 (there ∙ ap Some is)))

      at_b : e ≡ b → cond (eqb e a) (p before e after) (q before e after) ≡ true ↔ AtEach a b P Q T n
      at_b is = rw (ne_eqb e a (λ w. differ (sym w ∙ is))) (λ t. (λ here. absurd (other b a (λ w. differ (sym w)) is here), λ here. g.0 t), λ r. g.1 (r.1 (there ∙ ap Some is)))

-- every event of a trace is such a one
event_at : (trace : List ℕ) (i : ℕ) → i < length trace → (e : ℕ) × EventIs e trace i
event_at [] i h = absurd (omega arith)
event_at (x ∷ trace) zero h = (x, refl)
event_at (x ∷ trace) (suc i) h = event_at trace i (omega arith)

split_at : (trace : List ℕ) (i e : ℕ) → EventIs e trace i → (before : List ℕ) × (after : List ℕ) × (before ++ e ∷ after ≡ trace) × (length before ≡ i)
split_at [] i e is = absurd (none-some e is)
split_at (x ∷ trace) zero e is = ([], trace, ap (λ y. y ∷ trace) (same is), refl)
  where
    same : Some x ≡ Some e → e ≡ x
    same h = cc
split_at (x ∷ trace) (suc i) e is = let r = split_at trace i e is in (x ∷ r.0, r.1, ap (λ t. x ∷ t) r.2, omega (arith, r.3))

at_event : (Q : List ℕ → ℕ → Type 0) (trace : List ℕ) (i e : ℕ) → EventIs e trace i → ((before after : List ℕ) → Q (before ++ e ∷ after) (length before)) → Q trace i
at_event Q trace i e is each = let r = split_at trace i e is in subst (λ t. Q t i) r.2 (subst (Q (r.0 ++ e ∷ r.1)) r.3 (each r.0 r.1))

at_place-past : (p : List ℕ → ℕ → List ℕ → Bool) (trace : List ℕ) (i : ℕ) → length trace ≤ i → at_place p trace i ≡ false
at_place-past p trace i h = ap (at_head (p (take i trace))) (drop_of_length-le trace h)

-- a test of an event and a fact about its place
at_place-iff : (p : List ℕ → ℕ → List ℕ → Bool) (Q : List ℕ → ℕ → Type 0)
    → ((before : List ℕ) (e : ℕ) (after : List ℕ) → p before e after ≡ true ↔ Q (before ++ e ∷ after) (length before))
    → ((trace : List ℕ) (i : ℕ) → length trace ≤ i → ¬ Q trace i) → (trace : List ℕ) (i : ℕ) → at_place p trace i ≡ true ↔ Q trace i
at_place-iff p Q each past trace i = ⊎_elim inside outside (split i (length trace))
  where
    split : (i n : ℕ) → (i < n) ⊎ (n ≤ i)
    split i n = grind arith

    inside : i < length trace → at_place p trace i ≡ true ↔ Q trace i
    inside h =
        let e = event_at trace i h in
        at_event (λ t k. at_place p t k ≡ true ↔ Q t k) trace i e.0 e.1
        (λ before after. subst (λ v. v ≡ true ↔ Q (before ++ e.0 ∷ after) (length before)) (sym (at before e.0 after p)) (each before e.0 after))

    outside : length trace ≤ i → at_place p trace i ≡ true ↔ Q trace i
    outside h = (λ t. absurd (false≢true (sym (at_place-past p trace i h) ∙ t)), λ q. absurd (past trace i h q))

no_event : (c : ℕ) (trace : List ℕ) (i : ℕ) → length trace ≤ i → ¬ EventIs c trace i
no_event c trace i h is = absurd (omega (arith, slice_get_within trace i c is))

each-iff : (a : ℕ) (trace : List ℕ) (i : ℕ) → at_place (each nat_eq a) trace i ≡ true ↔ EventIs a trace i
each-iff a = at_place-iff (each nat_eq a) (EventIs a) (λ before e after. is-here before e after a) (no_event a)

or-iff : (x y : Bool) (P Q : Type 0) → x ≡ true ↔ P → y ≡ true ↔ Q → (x || y) ≡ true ↔ (P ⊎ Q)
or-iff x y P Q h g = (λ e. ⊎_elim (λ l. inl (h.0 l)) (λ r. inr (g.0 r)) (or_cases x y e), λ w. ⊎_elim (λ p. or_left x y (h.1 p)) (λ q. or_right x y (g.1 q)) w)

each_of-iff : (a b : ℕ) (trace : List ℕ) (i : ℕ) → at_place (each_of nat_eq a b) trace i ≡ true ↔ (EventIs a trace i ⊎ EventIs b trace i)
each_of-iff a b =
    at_place-iff (each_of nat_eq a b) (λ t i. EventIs a t i ⊎ EventIs b t i)
    (λ before e after. or-iff (nat_eq e a) (nat_eq e b) (EventIs a (before ++ e ∷ after) (length before)) (EventIs b (before ++ e ∷ after) (length before)) (is-here before e after a) (is-here before e after b))
    (λ t i h w. ⊎_elim (no_event a t i h) (no_event b t i h) w)

whole-iff : (n i : ℕ) → eqb i n ≡ true ↔ i ≡ n
whole-iff n i = (eqb-true i n, eq-eqb i n)

activated_in-iff : (group : Group) (a b : ℕ) (trace : List ℕ) (i : ℕ) → is_activated_in nat_eq group a b trace i ≡ true ↔ ActivatedIn group a b trace i
activated_in-iff Existence a b trace i = whole-iff (length trace) i
activated_in-iff (Relation activation) a b trace i = each-iff (activation_of activation a b) trace i
activated_in-iff Mutual a b trace i = each_of-iff a b trace i
activated_in-iff Negative a b trace i = each_of-iff a b trace i

pub activated-iff : (kind : Kind) (a b : ℕ) (trace : List ℕ) (i : ℕ) → is_activated nat_eq kind a b trace i ≡ true ↔ ActivatedAt kind a b trace i
activated-iff kind a b trace i = activated_in-iff (group_of kind) a b trace i

-- two different events are a
pub two-iff : (a : ℕ) (s : List ℕ) → nat_lt 1 (occurrences nat_eq a s) ≡ true ↔ TwoAre a s
two-iff a s = snoc_induction P base step s
  where
    P : List ℕ → Type 0
    P s = nat_lt 1 (occurrences nat_eq a s) ≡ true ↔ TwoAre a s

    base : P []
    base = rw (count_events-nil (λ (before : List ℕ) event (after : List ℕ). nat_eq event a)) (λ e. absurd (false≢true e), λ r. absurd (none-some a r.3))

    step : (t : List ℕ) (x : ℕ) → P t → P (t ++ x ∷ [])
    step t x h = rw (occurrences-snoc nat_eq a t x) (cases (eqb x a) refl)
      where
        cases : (v : Bool) → eqb x a ≡ v → nat_lt 1 (occurrences nat_eq a t + one_if v) ≡ true ↔ TwoAre a (t ++ x ∷ [])
        cases true g = (
          λ e.
              let has : occurs nat_eq a t ≡ true = positive (occurrences nat_eq a t) (occurs nat_eq a t) e (occurs-count nat_eq a t) in
              let r = (occurs-some a t).0 has in
              (r.0, length t, slice_get_within t r.0 a r.1, snoc-old a t x r.0 r.1, snoc-new t x ∙ ap Some (eqb-true x a g)),
          λ r.
              let within : r.0 < length t = omega (arith, r.2, slice_get_within (t ++ x ∷ []) r.1 a r.4, length-append t (x ∷ [])) in
              let old : SomeIs a t = (r.0, sym (get-front t (x ∷ []) r.0 within) ∙ r.3) in
              more (occurrences nat_eq a t) (occurs nat_eq a t) ((occurs-some a t).1 old) (occurs-count nat_eq a t),
        )
          where
            positive : (n : ℕ) (o : Bool) → nat_lt 1 (n + 1) ≡ true → eqb n 0 ≡ not o → o ≡ true
            positive n true e f = refl
            positive n false e f = absurd (false≢true (sym (le_test n (eqb-true n 0 f)) ∙ e))
              where
                le_test : (n : ℕ) → n ≡ 0 → nat_lt 1 (n + 1) ≡ false
                le_test n z = rw z refl

            more : (n : ℕ) (o : Bool) → o ≡ true → eqb n 0 ≡ not o → nat_lt 1 (n + 1) ≡ true
            more n true e f = grind (arith, nat_tests)
            more n false e f = absurd (false≢true e)
        cases false g = (
          λ e. let r = h.0 (sym (ap (nat_lt 1) (plus_none (occurrences nat_eq a t))) ∙ e) in (r.0, r.1, r.2, snoc-old a t x r.0 r.3, snoc-old a t x r.1 r.4),
          λ r. ap (nat_lt 1) (plus_none (occurrences nat_eq a t)) ∙ h.1 (r.0, r.1, r.2, old r.0 r.3, old r.1 r.4),
        )
          where
            plus_none : (n : ℕ) → n + 0 ≡ n
            plus_none n = omega arith

            old : (j : ℕ) → EventIs a (t ++ x ∷ []) j → EventIs a t j
            old j is = ⊎_elim (λ o. o) (λ new. absurd (false≢true (sym g ∙ eq-eqb x a new.1))) (snoc-cases a t x j is)

one-iff : (a : ℕ) (trace : List ℕ) → nat_lt (occurrences nat_eq a trace) 2 ≡ true ↔ ((j k : ℕ) → EventIs a trace j → EventIs a trace k → j ≡ k)
one-iff a trace = (
  λ e j k at_j at_k. apart j k at_j at_k (order j k) (not_two e),
  λ one. few (not-iff (nat_lt 1 (occurrences nat_eq a trace)) (TwoAre a trace) (two-iff a trace)).1 (λ r. absurd (omega (arith, r.2, one r.0 r.1 r.3 r.4))),
)
  where
    order : (j k : ℕ) → (j < k) ⊎ ((k < j) ⊎ (j ≡ k))
    order j k = grind arith

    other : (n : ℕ) → nat_lt n 2 ≡ not (nat_lt 1 n)
    other n = grind (arith, nat_tests)

    not_two : nat_lt (occurrences nat_eq a trace) 2 ≡ true → ¬ TwoAre a trace
    not_two e = (not-iff (nat_lt 1 (occurrences nat_eq a trace)) (TwoAre a trace) (two-iff a trace)).0 (sym (other (occurrences nat_eq a trace)) ∙ e)

    few : ((¬ TwoAre a trace) → not (nat_lt 1 (occurrences nat_eq a trace)) ≡ true) → (¬ TwoAre a trace) → nat_lt (occurrences nat_eq a trace) 2 ≡ true
    few f never = other (occurrences nat_eq a trace) ∙ f never

    apart : (j k : ℕ) → EventIs a trace j → EventIs a trace k → (j < k) ⊎ ((k < j) ⊎ (j ≡ k)) → (¬ TwoAre a trace) → j ≡ k
    apart j k at_j at_k w never =
        ⊎_elim (λ lt. absurd (never (j, k, lt, at_j, at_k))) (λ w. ⊎_elim (λ gt. absurd (never (k, j, gt, at_k, at_j))) (λ same. same) w) w

pub begins-iff : (a : ℕ) (trace : List ℕ) → is_first nat_eq a trace ≡ true ↔ (0 < length trace) × EventIs a trace 0
begins-iff a trace = chain (first-is a trace) (λ is. (slice_get_within trace 0 a is, is), λ r. r.1)

-- a relation template: its activation stands there
at_one : (c : ℕ) (p : List ℕ → ℕ → List ℕ → Bool) (Q : List ℕ → ℕ → Type 0)
    → ((before : List ℕ) (e : ℕ) (after : List ℕ) → p before e after ≡ true ↔ Q (before ++ e ∷ after) (length before))
    → (trace : List ℕ) (i : ℕ) → EventIs c trace i → at_place p trace i ≡ true ↔ Q trace i
at_one c p Q each trace i is =
    at_event (λ t k. at_place p t k ≡ true ↔ Q t k) trace i c is
    (λ before after. subst (λ v. v ≡ true ↔ Q (before ++ c ∷ after) (length before)) (sym (at before c after p)) (each before c after))

-- a mutual or negative template: a or b stands there
at_either : (a b : ℕ) → a ≢ b → (p q : List ℕ → ℕ → List ℕ → Bool) (P Q : List ℕ → ℕ → Type 0)
    → ((before : List ℕ) (e : ℕ) (after : List ℕ) → p before e after ≡ true ↔ P (before ++ e ∷ after) (length before))
    → ((before : List ℕ) (e : ℕ) (after : List ℕ) → q before e after ≡ true ↔ Q (before ++ e ∷ after) (length before))
    → (trace : List ℕ) (i : ℕ) → EventIs a trace i ⊎ EventIs b trace i → at_place (at_first nat_eq a p q) trace i ≡ true ↔ AtEach a b (P trace) (Q trace) trace i
at_either a b differ p q P Q h g trace i which = ⊎_elim (λ is. at_c a (inl refl) is) (λ is. at_c b (inr refl) is) which
  where
    at_c : (c : ℕ) → (c ≡ a) ⊎ (c ≡ b) → EventIs c trace i → at_place (at_first nat_eq a p q) trace i ≡ true ↔ AtEach a b (P trace) (Q trace) trace i
    at_c c who is =
        at_event (λ t k. at_place (at_first nat_eq a p q) t k ≡ true ↔ AtEach a b (P t) (Q t) t k) trace i c is
        (λ before after.
        subst (λ v. v ≡ true ↔ AtEach a b (P (before ++ c ∷ after)) (Q (before ++ c ∷ after)) (before ++ c ∷ after) (length before)) (sym (at before c after (at_first nat_eq a p q)))
        (at_each before c after a b differ who p q (P (before ++ c ∷ after)) (Q (before ++ c ∷ after)) (h before c after) (g before c after)))

no : (p : List ℕ → ℕ → List ℕ → Bool) (Q : List ℕ → ℕ → Type 0)
    → ((before : List ℕ) (e : ℕ) (after : List ℕ) → p before e after ≡ true ↔ Q (before ++ e ∷ after) (length before))
    → (before : List ℕ) (e : ℕ) (after : List ℕ) → none nat_eq p before e after ≡ true ↔ (¬ Q (before ++ e ∷ after) (length before))
no p Q h before e after = not-iff (p before e after) (Q (before ++ e ∷ after) (length before)) (h before e after)

pub occurrences-places : (a : ℕ) (trace : List ℕ) → CountsPlaces (EventIs a trace) trace (occurrences nat_eq a trace)
occurrences-places a trace = (at_place (each nat_eq a) trace, λ i lt. each-iff a trace i, refl)

-- they have one number
occurrences-places-only : (a : ℕ) (trace : List ℕ) (k : ℕ) → CountsPlaces (EventIs a trace) trace k → k ≡ occurrences nat_eq a trace
occurrences-places-only a trace k r = r.2 ∙ count_places-same r.0 (at_place (each nat_eq a) trace) (length trace) (λ i lt. alike _ _ (r.1 i lt) (each-iff a trace i))
  where
    alike : {Q : Type 0} (x y : Bool) → x ≡ true ↔ Q → y ≡ true ↔ Q → x ≡ y
    alike true y h g = sym (g.1 (h.0 refl))
    alike false true h g = h.1 (g.0 refl)
    alike false false h g = refl

pub exactly-iff : (a : ℕ) (trace : List ℕ) (n : ℕ) → eqb (occurrences nat_eq a trace) n ≡ true ↔ CountsPlaces (EventIs a trace) trace n
exactly-iff a trace n = (λ e. subst (CountsPlaces (EventIs a trace) trace) (eqb-true _ n e) (occurrences-places a trace), λ r. eq-eqb _ n (sym (occurrences-places-only a trace n r)))

-- a fact of their number
counted-iff : (a : ℕ) (trace : List ℕ) (x : Bool) (P : ℕ → Type 0) → x ≡ true ↔ P (occurrences nat_eq a trace)
    → x ≡ true ↔ ((k : ℕ) × CountsPlaces (EventIs a trace) trace k × P k)
counted-iff a trace x P h = (λ e. (occurrences nat_eq a trace, occurrences-places a trace, h.0 e), λ r. h.1 (subst P (occurrences-places-only a trace r.0 r.1) r.2))

pub fulfilled-iff : (kind : Kind) (a b : ℕ) (trace : List ℕ) (i : ℕ) → IsWellMade kind a b → ActivatedAt kind a b trace i
    → is_fulfilled nat_eq kind a b trace i ≡ true ↔ FulfilledAt kind a b trace i
fulfilled-iff Init a b trace i made active =
    begins-iff a trace
fulfilled-iff End a b trace i made active =
    last-is a trace
fulfilled-iff Participation a b trace i made active =
    occurs-some a trace
fulfilled-iff AtMostOne a b trace i made active =
    one-iff a trace
fulfilled-iff ChainSuccession a b trace i made active =
    at_either a b made (has_next nat_eq b) (has_previous nat_eq a) (λ t i. EventIs b t (i + 1)) (PreviousIs a) (λ before e after. following before e after b) (λ before e after. preceding before e after a) trace i active
fulfilled-iff AlternateSuccession a b trace i made active =
    at_either a b made (alternates_later nat_eq a b) (alternates_earlier nat_eq a b) (AlternatesLater a b) (AlternatesEarlier a b) (λ before e after. alternates before e after a b) (λ before e after. alternates_back before e after a b) trace i active
fulfilled-iff Succession a b trace i made active =
    at_either a b made (has_later nat_eq b) (has_earlier nat_eq a) (LaterIs b) (EarlierIs a) (λ before e after. later before e after b) (λ before e after. earlier before e after a) trace i active
fulfilled-iff CoExistence a b trace i made active =
    at_either a b made (has nat_eq b) (has nat_eq a) (λ t i. SomeIs b t) (λ t i. SomeIs a t) (λ before e after. some before e after b) (λ before e after. some before e after a) trace i active
fulfilled-iff ChainResponse a b trace i made active =
    at_one a (has_next nat_eq b) (λ t i. EventIs b t (i + 1)) (λ before e after. following before e after b) trace i active
fulfilled-iff AlternateResponse a b trace i made active =
    at_one a (alternates_later nat_eq a b) (AlternatesLater a b) (λ before e after. alternates before e after a b) trace i active
fulfilled-iff Response a b trace i made active =
    at_one a (has_later nat_eq b) (LaterIs b) (λ before e after. later before e after b) trace i active
fulfilled-iff ChainPrecedence a b trace i made active =
    at_one b (has_previous nat_eq a) (PreviousIs a) (λ before e after. preceding before e after a) trace i active
fulfilled-iff AlternatePrecedence a b trace i made active =
    at_one b (alternates_earlier nat_eq a b) (AlternatesEarlier a b) (λ before e after. alternates_back before e after a b) trace i active
fulfilled-iff Precedence a b trace i made active =
    at_one b (has_earlier nat_eq a) (EarlierIs a) (λ before e after. earlier before e after a) trace i active
fulfilled-iff RespondedExistence a b trace i made active =
    at_one a (has nat_eq b) (λ t i. SomeIs b t) (λ before e after. some before e after b) trace i active
fulfilled-iff NotCoExistence a b trace i made active =
    at_either a b made (none nat_eq (has nat_eq b)) (none nat_eq (has nat_eq a)) (λ t i. ¬ SomeIs b t) (λ t i. ¬ SomeIs a t) (no (has nat_eq b) (λ t i. SomeIs b t) (λ before e after. some before e after b)) (no (has nat_eq a) (λ t i. SomeIs a t) (λ before e after. some before e after a)) trace i active
fulfilled-iff NotSuccession a b trace i made active =
    at_either a b made (none nat_eq (has_later nat_eq b)) (none nat_eq (has_earlier nat_eq a)) (λ t i. ¬ LaterIs b t i) (λ t i. ¬ EarlierIs a t i) (no (has_later nat_eq b) (LaterIs b) (λ before e after. later before e after b)) (no (has_earlier nat_eq a) (EarlierIs a) (λ before e after. earlier before e after a)) trace i active
fulfilled-iff NotChainSuccession a b trace i made active =
    at_either a b made (none nat_eq (has_next nat_eq b)) (none nat_eq (has_previous nat_eq a)) (λ t i. ¬ EventIs b t (i + 1)) (λ t i. ¬ PreviousIs a t i) (no (has_next nat_eq b) (λ t i. EventIs b t (i + 1)) (λ before e after. following before e after b)) (no (has_previous nat_eq a) (PreviousIs a) (λ before e after. preceding before e after a)) trace i active
fulfilled-iff (Exactly n) a b trace i made active =
    exactly-iff a trace n
fulfilled-iff (AtLeast n) a b trace i made active =
    counted-iff a trace (nat_le n (occurrences nat_eq a trace)) (λ k. n ≤ k) (leb-true n _, le-leb n _)
fulfilled-iff (AtMost n) a b trace i made active =
    counted-iff a trace (nat_le (occurrences nat_eq a trace) n) (λ k. k ≤ n) (leb-true _ n, le-leb _ n)
fulfilled-iff NotRespondedExistence a b trace i made active =
    at_one a (none nat_eq (has nat_eq b)) (λ t i. ¬ SomeIs b t) (no (has nat_eq b) (λ t i. SomeIs b t) (λ before e after. some before e after b)) trace i active
fulfilled-iff NotResponse a b trace i made active =
    at_one a (none nat_eq (has_later nat_eq b)) (λ t i. ¬ LaterIs b t i) (no (has_later nat_eq b) (LaterIs b) (λ before e after. later before e after b)) trace i active
fulfilled-iff NotPrecedence a b trace i made active =
    at_one b (none nat_eq (has_earlier nat_eq a)) (λ t i. ¬ EarlierIs a t i) (no (has_earlier nat_eq a) (EarlierIs a) (λ before e after. earlier before e after a)) trace i active
fulfilled-iff NotChainResponse a b trace i made active =
    at_one a (none nat_eq (has_next nat_eq b)) (λ t i. ¬ EventIs b t (i + 1)) (no (has_next nat_eq b) (λ t i. EventIs b t (i + 1)) (λ before e after. following before e after b)) trace i active
fulfilled-iff NotChainPrecedence a b trace i made active =
    at_one b (none nat_eq (has_previous nat_eq a)) (λ t i. ¬ PreviousIs a t i) (no (has_previous nat_eq a) (PreviousIs a) (λ before e after. preceding before e after a)) trace i active

-- a counter of the a's that pass a test
counts : (a : ℕ) (test : List ℕ → ℕ → List ℕ → Bool) (Q : List ℕ → ℕ → Type 0)
    → ((before : List ℕ) (e : ℕ) (after : List ℕ) → test before e after ≡ true ↔ Q (before ++ e ∷ after) (length before))
    → (trace : List ℕ) → CountsPlaces (λ i. EventIs a trace i × Q trace i) trace (passing nat_eq a test trace)
counts a test Q each trace = (at_place (λ before event after. nat_eq event a && test before event after) trace, λ i lt. at i, refl)
  where
    at : (i : ℕ) → at_place (λ before event after. nat_eq event a && test before event after) trace i ≡ true ↔ EventIs a trace i × Q trace i
    at =
        at_place-iff (λ before event after. nat_eq event a && test before event after) (λ t i. EventIs a t i × Q t i)
        (λ before e after. and-iff (nat_eq e a) (test before e after) _ _ (is-here before e after a) (each before e after))
        (λ t i h r. no_event a t i h r.0) trace

pub without-places : (a b : ℕ) (trace : List ℕ) → CountsPlaces (WithoutAt a b trace) trace (without nat_eq a b trace)
without-places a b = counts a (none nat_eq (has nat_eq b)) (λ t i. ¬ SomeIs b t) (no (has nat_eq b) (λ t i. SomeIs b t) (λ before e after. some before e after b))

pub no_later-places : (a b : ℕ) (trace : List ℕ) → CountsPlaces (NoLaterAt a b trace) trace (no_later nat_eq a b trace)
no_later-places a b = counts a (none nat_eq (has_later nat_eq b)) (λ t i. ¬ LaterIs b t i) (no (has_later nat_eq b) (LaterIs b) (λ before e after. later before e after b))

pub no_earlier-places : (a b : ℕ) (trace : List ℕ) → CountsPlaces (NoEarlierAt a b trace) trace (no_earlier nat_eq a b trace)
no_earlier-places a b = counts a (none nat_eq (has_earlier nat_eq b)) (λ t i. ¬ EarlierIs b t i) (no (has_earlier nat_eq b) (EarlierIs b) (λ before e after. earlier before e after b))

pub next-places : (a b : ℕ) (trace : List ℕ) → CountsPlaces (NextAt a b trace) trace (next nat_eq a b trace)
next-places a b = counts a (has_next nat_eq b) (λ t i. EventIs b t (i + 1)) (λ before e after. following before e after b)

pub previous-places : (a b : ℕ) (trace : List ℕ) → CountsPlaces (PreviousAt a b trace) trace (previous nat_eq a b trace)
previous-places a b = counts a (has_previous nat_eq b) (PreviousIs b) (λ before e after. preceding before e after b)

pub rep_later-places : (a b : ℕ) (trace : List ℕ) → CountsPlaces (RepeatedLaterAt a b trace) trace (rep_later nat_eq a b trace)
rep_later-places a b = counts a (repeats_later nat_eq a b) (RepeatsLater a b) (λ before e after. repeats before e after a b)

pub rep_earlier-places : (a b : ℕ) (trace : List ℕ) → CountsPlaces (RepeatedEarlierAt a b trace) trace (rep_earlier nat_eq a b trace)
rep_earlier-places a b = counts a (repeats_earlier nat_eq a b) (RepeatsEarlier a b) (λ before e after. repeats_back before e after a b)
