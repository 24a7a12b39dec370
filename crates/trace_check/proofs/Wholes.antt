-- Constraints of one activity, by the places of its events.
use Rattle.std.proofs.Common.{◌≡◌, ◌↔◌, ℕ, suc, ◌+◌, ◌-◌, ◌<◌, ◌≤◌, List, Bool, true, false, ◌&&◌, eqb, get_or, slice_get, nat_eq, length, cond, Option, None, Some, refl, sym, ap, ap₂, ◌∙◌, arith, ⊎_elim}
use Rattle.std.proofs.lemmas.Bool.{cases_lt, eq-eqb, eqb-true}
use Rattle.template_core.proofs.ByPlaces.{begins-iff}
use Rattle.template_core.proofs.KeepsTest.{keeps-is}
use Rattle.template_core.proofs.Places.{count_places-same}
use Rattle.template_core.proofs.Wholes.{count_whole}
use Rattle.template_core.proofs.Zipper.{last-is, occurs-some}
use Rattle.template_core.specs.Constraints.{arity}
use Rattle.template_core.specs.Counters.{occurrences}
use Rattle.template_core.specs.Events.{one_if, count_places, is_first, is_last, occurs}
use Rattle.template_core.specs.Places.{EventIs, SomeIs}
use Rattle.template_core.specs.Repertoire.{is_activated, is_fulfilled, keeps}
use Rattle.template_core.specs.declared.kind.Kind.{Kind}
use Rattle.template_core.specs.declared.kind.Kind.TheVariants.{Init, End, Participation, AtMostOne, Exactly, AtLeast, AtMost}
use Rattle.trace_check.specs.Checking.{first_place}
use Rattle.trace_check.specs.Standing.{places_from}
use Rattle.trace_check.specs.Tallies.{tally_of}
use Rattle.trace_check.specs.declared.tally.Tally.{Tally}
use Rattle.trace_check.proofs.Asked.{same_test, through}
use Rattle.trace_check.proofs.Counting.{stands, count_standing, count_all, first_failing}
use Rattle.trace_check.proofs.Standing.{Stand, stand}

module _ (a n : ℕ) (t places : List ℕ) (are : places ≡ places_from a n t) where
  abbrev here : Stand a n t places
  here = stand a n t places are

  not_after : (j k : ℕ) → j ≤ k → k < length places → get_or places j 0 ≤ get_or places k 0
  not_after j k le inside = ⊎_elim (λ lt. omega (arith, here.ascends j k 0 lt inside)) (λ ge. omega (arith, ap (λ m. get_or places m 0) {x = j} {y = k} (omega arith))) (cases_lt j k)

  pub begins : (v : Bool) → v ≡ true ↔ ((0 < length places) × (get_or places 0 0 ≡ n)) → v ≡ is_first nat_eq a t
  begins v h = same_test v (is_first nat_eq a t) ((0 < length t) × EventIs a t 0) (through h (out, into)) (begins-iff a t)
    where
      out : (0 < length places) × (get_or places 0 0 ≡ n) → (0 < length t) × EventIs a t 0
      out r = (omega (arith, here.below 0 0 r.0, r.1), ap (slice_get t) {x = 0} {y = get_or places 0 0 - n} (omega (arith, r.1)) ∙ here.inside 0 r.0)

      into : (0 < length t) × EventIs a t 0 → (0 < length places) × (get_or places 0 0 ≡ n)
      into r =
          let w = here.all 0 r.1 in
          let some : 0 < length places = omega (arith, w.1) in
          (some, omega (arith, here.above 0 0 some, not_after 0 w.0 (omega arith) w.1, w.2))

  pub ends : (v : Bool) → v ≡ true ↔ ((0 < length places) × (get_or places (length places - 1) 0 + 1 ≡ n + length t)) → v ≡ is_last nat_eq a t
  ends v h = same_test v (is_last nat_eq a t) ((0 < length t) × EventIs a t (length t - 1)) (through h (out, into)) (last-is a t)
    where
      out : (0 < length places) × (get_or places (length places - 1) 0 + 1 ≡ n + length t) → (0 < length t) × EventIs a t (length t - 1)
      out r =
          let inside : length places - 1 < length places = omega (arith, r.0) in (
            omega (arith, here.above (length places - 1) 0 inside, r.1),
            ap (slice_get t) {x = length t - 1} {y = get_or places (length places - 1) 0 - n} (omega (arith, r.1, here.above (length places - 1) 0 inside)) ∙ here.inside (length places - 1) inside,
          )

      into : (0 < length t) × EventIs a t (length t - 1) → (0 < length places) × (get_or places (length places - 1) 0 + 1 ≡ n + length t)
      into r =
          let w = here.all (length t - 1) r.1 in
          let inside : length places - 1 < length places = omega (arith, w.1) in
          (omega (arith, w.1), omega (arith, r.0, w.2, not_after w.0 (length places - 1) (omega (arith, w.1)) inside, here.below (length places - 1) 0 inside))

  pub takes_part : (v : Bool) → v ≡ true ↔ (0 < length places) → v ≡ occurs nat_eq a t
  takes_part v h = same_test v (occurs nat_eq a t) (SomeIs a t) (through h (out, into)) (occurs-some a t)
    where
      out : 0 < length places → SomeIs a t
      out some = (get_or places 0 0 - n, here.inside 0 some)

      into : SomeIs a t → 0 < length places
      into r = let w = here.all r.0 r.1 in omega (arith, w.1)

  pub occurrences-places : occurrences nat_eq a t ≡ length places
  occurrences-places =
      count_places-same (stands a t) (λ i. stands a t i && true) (length t) (λ k lt. sym (and_true (stands a t k)))
      ∙ count_standing a n t (λ x. true) ∙ count_all (places_from a n t) ∙ ap length (sym are)
    where
      and_true : (x : Bool) → (x && true) ≡ x
      and_true true = refl
      and_true false = refl

-- ---- the place of the whole trace is the one that is activated

and_true : (x : Bool) → (x && true) ≡ x
and_true true = refl
and_true false = refl

abbrev tally : ℕ → ℕ → Option ℕ → Tally
tally x y o = record { activated = x; fulfilled = y; broken = o }

module _ (kind : Kind) (a b start : ℕ) (t : List ℕ) (test : Bool) (active : (i : ℕ) → is_activated nat_eq kind a b t i ≡ eqb i (length t)) (is : (i : ℕ) → is_fulfilled nat_eq kind a b t i ≡ test) where
  kept : test ≡ keeps nat_eq kind a b t
  kept = keeps-is nat_eq kind a b t test (
    λ e i le act. is i ∙ e,
    λ h. sym (is (length t)) ∙ h (length t) (omega arith) (active (length t) ∙ eq-eqb (length t) (length t) refl),
  )

  broken : (v : Bool) → test ≡ v → cond v None (Some (start + length t)) ≡ cond v None (Some (start + first_place nat_eq kind a b t))
  broken true e = refl
  broken false e =
      ap (λ p. Some (start + p))
      (sym
      (first_failing (is_activated nat_eq kind a b t) (is_fulfilled nat_eq kind a b t) 0 (suc (length t)) (length t) (omega arith) (omega arith) (active (length t) ∙ eq-eqb (length t) (length t) refl)
      (is (length t) ∙ e) (λ q lt act. absurd (omega (arith, lt, eqb-true q (length t) (sym (active q) ∙ act))))))

  whole : tally 1 (one_if test) (cond test None (Some (start + length t))) ≡ tally_of kind a b start t
  whole =
      let n : count_places (is_activated nat_eq kind a b t) (suc (length t)) ≡ 1 =
      count_places-same (is_activated nat_eq kind a b t) (λ i. eqb i (length t) && true) (suc (length t)) (λ k lt. active k ∙ sym (and_true (eqb k (length t)))) ∙ count_whole (length t) true in
      let m : count_places (λ i. is_activated nat_eq kind a b t i && is_fulfilled nat_eq kind a b t i) (suc (length t)) ≡ one_if test =
      count_places-same (λ i. is_activated nat_eq kind a b t i && is_fulfilled nat_eq kind a b t i) (λ i. eqb i (length t) && test) (suc (length t)) (λ k lt. ap₂ (λ x y. x && y) (active k) (is k)) ∙ count_whole (length t) test in
      let o : cond test None (Some (start + length t)) ≡ cond (keeps nat_eq kind a b t) None (Some (start + first_place nat_eq kind a b t)) =
      broken test refl ∙ ap (λ v. cond v None (Some (start + first_place nat_eq kind a b t))) kept in
      ap (λ x. tally x (one_if test) (cond test None (Some (start + length t)))) (sym n)
      ∙ ap (λ y. tally (count_places (is_activated nat_eq kind a b t) (suc (length t))) y (cond test None (Some (start + length t)))) (sym m)
      ∙ ap (λ z. tally (count_places (is_activated nat_eq kind a b t) (suc (length t))) (count_places (λ i. is_activated nat_eq kind a b t i && is_fulfilled nat_eq kind a b t i) (suc (length t))) z) o

pub whole-tally : (kind : Kind) (a b start : ℕ) (t : List ℕ) → arity kind ≡ 1
    → let test : Bool = is_fulfilled nat_eq kind a b t (length t) in tally 1 (one_if test) (cond test None (Some (start + length t))) ≡ tally_of kind a b start t
whole-tally Init a b start t one = whole Init a b start t (is_fulfilled nat_eq Init a b t (length t)) (λ i. refl) (λ i. refl)
whole-tally End a b start t one = whole End a b start t (is_fulfilled nat_eq End a b t (length t)) (λ i. refl) (λ i. refl)
whole-tally Participation a b start t one = whole Participation a b start t (is_fulfilled nat_eq Participation a b t (length t)) (λ i. refl) (λ i. refl)
whole-tally AtMostOne a b start t one = whole AtMostOne a b start t (is_fulfilled nat_eq AtMostOne a b t (length t)) (λ i. refl) (λ i. refl)
whole-tally (Exactly n) a b start t one = whole (Exactly n) a b start t (is_fulfilled nat_eq (Exactly n) a b t (length t)) (λ i. refl) (λ i. refl)
whole-tally (AtLeast n) a b start t one = whole (AtLeast n) a b start t (is_fulfilled nat_eq (AtLeast n) a b t (length t)) (λ i. refl) (λ i. refl)
whole-tally (AtMost n) a b start t one = whole (AtMost n) a b start t (is_fulfilled nat_eq (AtMost n) a b t (length t)) (λ i. refl) (λ i. refl)
whole-tally kind a b start t one = absurd (omega (arith, one))
