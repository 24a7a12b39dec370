-- The witnesses that suit the constraints so far.
use Rattle.std.proofs.Common.{◌≡◌, ℕ, ◌+◌, ◌<◌, ◌≤◌, List, length, arith, inl, inr, subst}
use Rattle.std.proofs.lemmas.Bool.{cases_lt}
use Rattle.template_core.specs.declared.constraint.Constraint.{Constraint}
use Rattle.chain_cert.specs.Checks.{FailsFirstAt, HoldsOfEach, IsWitnessOf, Suits}
use Rattle.template_core.specs.Keeping.{KeepsOne}
use Rattle.chain_cert.specs.Parts.{constraint_at, list_at}

-- the first ones suit each of the constraints so far, and the next one, if there is one, doesn't suit some of them
pub record AreRightSoFar (model : List Constraint) (witnesses : List (List ℕ)) (count right : ℕ) : Type 0 where
  pub within : right ≤ length model
  pub suit : (i j : ℕ) → i < right → j < count → Suits (constraint_at model j) j i (list_at witnesses i)
  pub unsuited : right < length model → (j : ℕ) × (j < count) × (Suits (constraint_at model j) j right (list_at witnesses right) → ⊥)

pub right-none : (model : List Constraint) (witnesses : List (List ℕ)) → AreRightSoFar model witnesses 0 (length model)
right-none model witnesses = record {
  within = omega arith;
  suit = λ i j below none. absurd (omega arith);
  unsuited = λ less. absurd (omega arith);
}

pub right-more : (model : List Constraint) (witnesses : List (List ℕ)) (count old new : ℕ) (c : Constraint) → c ≡ constraint_at model count → AreRightSoFar model witnesses count old
    → new ≤ old → ((i : ℕ) → i < new → Suits c count i (list_at witnesses i)) → (new < old → Suits c count new (list_at witnesses new) → ⊥)
    → AreRightSoFar model witnesses (count + 1) new
right-more model witnesses count old new c is far le before at = record {
  within = omega (arith, far.within);
  suit = λ i j below j_below. elim (cases_lt j count) [
    | inl earlier ↦ far.suit i j (omega arith) earlier
    | inr here ↦
        subst (λ k. Suits (constraint_at model k) k i (list_at witnesses i)) (count_is j j_below here) (subst (λ d. Suits d count i (list_at witnesses i)) is (before i below))
  ];
  unsuited = λ less. elim (cases_lt new old) [
    | inl fewer ↦ (count, omega arith, subst (λ d. Suits d count new (list_at witnesses new) → ⊥) is (at fewer))
    | inr all ↦ left_as_before (omega arith) (omega arith)
  ];
}
  where
    count_is : (j : ℕ) → j < count + 1 → count ≤ j → count ≡ j
    count_is j below here = omega arith

    left_as_before : old ≡ new → old < length model → (j : ℕ) × (j < count + 1) × (Suits (constraint_at model j) j new (list_at witnesses new) → ⊥)
    left_as_before same less =
        let some = far.unsuited less in
        (some.0, omega (arith, some.1), subst (λ n. Suits (constraint_at model some.0) some.0 n (list_at witnesses n) → ⊥) same some.2)

-- a witness that suits all
suits-is : (model : List Constraint) (witnesses : List (List ℕ)) (i : ℕ) → i < length model
    → ((j : ℕ) → j < length model → Suits (constraint_at model j) j i (list_at witnesses i)) → IsWitnessOf model witnesses i
suits-is model witnesses i there suit = record {
  keeps_others = λ j below other. (suit j below).kept other;
  breaks_own = (suit i there).broken (omega arith);
}

is-suits : (model : List Constraint) (witnesses : List (List ℕ)) (i j : ℕ) → j < length model → IsWitnessOf model witnesses i → Suits (constraint_at model j) j i (list_at witnesses i)
is-suits model witnesses i j below is = record {
  kept = λ other. is.keeps_others j below other;
  broken = λ same keeps. is.breaks_own (subst (λ k. KeepsOne (constraint_at model k) (list_at witnesses i)) same keeps);
}

pub right-all : (model : List Constraint) (witnesses : List (List ℕ)) (count right : ℕ) → length model ≤ count → length model ≤ right → AreRightSoFar model witnesses count right
    → HoldsOfEach (IsWitnessOf model witnesses) (length model)
right-all model witnesses count right past all far i there = suits-is model witnesses i there (λ j below. far.suit i j (omega arith) (omega arith))

pub right-fails : (model : List Constraint) (witnesses : List (List ℕ)) (count right at : ℕ) → count ≡ length model → right < length model → at ≡ right + 1
    → AreRightSoFar model witnesses count right → FailsFirstAt (IsWitnessOf model witnesses) (length model) at
right-fails model witnesses count right at whole less number far = record {
  place = right;
  number = number;
  there = less;
  earlier = λ i below. suits-is model witnesses i (omega arith) (λ j j_below. far.suit i j below (omega arith));
  fails = λ is. let some = far.unsuited less in some.2 (is-suits model witnesses right some.0 (omega (arith, some.1)) is);
}
