-- The rows of the hierarchy's list, and what holds of each row holds of the closure.
use Rattle.std.proofs.Common.{◌≡◌, ◌≢◌, ◌⊎◌, ℕ, zero, suc, ◌+◌, ◌<◌, ◌≤◌, ◌-◌, List, [], ◌∷◌, nat_eq, Bool, true, false, ◌&&◌, ◌==◌, not, if◌then◌else◌, nat_le, nat_lt, eqb, slice_index_or, Option, Some, None, filter_map, ◌∙◌, length, refl, sym, ap, subst, arith, inl, inr, ⊎_elim}
use Rattle.std.proofs.lemmas.Bool.{and_parts, eqb-true, ltb-true}
use Rattle.std.proofs.lemmas.Bool.Decides.{nat_tests}
use Rattle.std.specs.List.{AllByRecursion, Contains}
use Rattle.template_core.proofs.Gains.{occurs-count}
use Rattle.template_core.proofs.KeptByPlaces.{KeptByPlaces, to_places, from_places}
use Rattle.template_core.specs.Constraints.{IsWellMade}
use Rattle.template_core.specs.Counters.{occurrences}
use Rattle.template_core.specs.Places.{EventIs, PreviousIs, LaterIs, EarlierIs, AlternatesLater, AlternatesEarlier, AtEach}
use Rattle.template_core.specs.Repertoire.{Keeps}
use Rattle.template_core.specs.declared.constraint.Constraint.{Constraint}
use Rattle.template_core.specs.declared.kind.Kind.{Kind}
use Rattle.template_core.specs.declared.kind.Kind.TheVariants.{Init, End, Participation, AtMostOne, ChainSuccession, AlternateSuccession, Succession, CoExistence, ChainResponse, AlternateResponse, Response, ChainPrecedence, AlternatePrecedence, Precedence, RespondedExistence, NotCoExistence, NotSuccession, NotChainSuccession, Exactly, AtLeast, AtMost, NotRespondedExistence, NotResponse, NotPrecedence, NotChainResponse, NotChainPrecedence}
use Rattle.template_set.specs.Hierarchy.{of, listed_below, IsListed, IsOver, IsStronger, directly, through}

-- what holds of each element of a list
pub each_of_list : {X : Type 0} (P : X → Type 0) (xs : List X) → AllByRecursion P xs → (x : X) → Contains xs x → P x
each_of_list P [] all x (k, within, is) = absurd (omega (arith, within))
each_of_list P (y ∷ xs) all x (zero, within, is) = subst P is all.0
each_of_list P (y ∷ xs) all x (suc k, within, is) = each_of_list P xs all.1 x (k, omega (arith, within), is)

-- a row of a counted template, by its number
by_test : (P : List Constraint → Type 0) (xs ys : List Constraint) (test : Bool) → (test ≡ true → P xs) → P ys → P (if test then xs else ys)
by_test P xs ys true f q = f refl
by_test P xs ys false f q = q

below_least : (P : Constraint → Type 0) (n a b : ℕ) → (n ≡ 1 → P (of Participation a b)) → (1 < n → P (of (AtLeast (n - 1)) a b)) → AllByRecursion P (listed_below (AtLeast n) a b)
below_least P n a b one more =
    by_test (AllByRecursion P) _ _ (n == 1) (λ e. (one (eqb-true n 1 e), tt))
    (by_test (AllByRecursion P) _ _ (nat_lt 1 n) (λ e. (more (ltb-true 1 n e), tt)) tt)

below_most : (P : Constraint → Type 0) (n a b : ℕ) → (n ≡ 1 → P (of AtMostOne a b)) → (1 < n → n < 9 → P (of (AtMost (n + 1)) a b)) → AllByRecursion P (listed_below (AtMost n) a b)
below_most P n a b one more =
    by_test (AllByRecursion P) _ _ (n == 1) (λ e. (one (eqb-true n 1 e), tt))
    (by_test (AllByRecursion P) _ _ (nat_lt 1 n && nat_lt n 9) (λ e. let both = and_parts (nat_lt 1 n) (nat_lt n 9) e in (more (ltb-true 1 n both.0) (ltb-true n 9 both.1), tt)) tt)

-- a number that falls at each step down from a template
abbrev pub height : Kind → ℕ
height Init = 1
height End = 1
height Participation = 0
height AtMostOne = 17
height ChainSuccession = 5
height AlternateSuccession = 4
height Succession = 3
height CoExistence = 1
height ChainResponse = 3
height AlternateResponse = 2
height Response = 1
height ChainPrecedence = 3
height AlternatePrecedence = 2
height Precedence = 1
height RespondedExistence = 0
height NotCoExistence = 3
height NotSuccession = 2
height NotChainSuccession = 1
height (Exactly n) = 21 + n
height (AtLeast n) = n
height (AtMost n) = 20 - (n + n)
height NotRespondedExistence = 2
height NotResponse = 1
height NotPrecedence = 1
height NotChainResponse = 0
height NotChainPrecedence = 0

lower_rows : (kind : Kind) (a b : ℕ) → AllByRecursion (λ d. height d.kind < height kind) (listed_below kind a b)
lower_rows Init a b = (omega arith, tt)
lower_rows End a b = (omega arith, tt)
lower_rows Participation a b = tt
lower_rows AtMostOne a b = (omega arith, tt)
lower_rows ChainSuccession a b = (omega arith, (omega arith, (omega arith, tt)))
lower_rows AlternateSuccession a b = (omega arith, (omega arith, (omega arith, tt)))
lower_rows Succession a b = (omega arith, (omega arith, (omega arith, (omega arith, tt))))
lower_rows CoExistence a b = (omega arith, (omega arith, tt))
lower_rows ChainResponse a b = (omega arith, tt)
lower_rows AlternateResponse a b = (omega arith, tt)
lower_rows Response a b = (omega arith, tt)
lower_rows ChainPrecedence a b = (omega arith, tt)
lower_rows AlternatePrecedence a b = (omega arith, tt)
lower_rows Precedence a b = (omega arith, tt)
lower_rows RespondedExistence a b = tt
lower_rows NotCoExistence a b = (omega arith, (omega arith, (omega arith, (omega arith, tt))))
lower_rows NotSuccession a b = (omega arith, (omega arith, (omega arith, tt)))
lower_rows NotChainSuccession a b = (omega arith, (omega arith, tt))
lower_rows (Exactly n) a b = (omega arith, (omega arith, tt))
lower_rows (AtLeast n) a b = below_least (λ d. height d.kind < n) n a b (λ one. omega (arith, one)) (λ more. omega (arith, more))
lower_rows (AtMost n) a b = below_most (λ d. height d.kind < height (AtMost n)) n a b (λ one. omega (arith, one)) (λ more few. omega (arith, more, few))
lower_rows NotRespondedExistence a b = (omega arith, (omega arith, tt))
lower_rows NotResponse a b = (omega arith, tt)
lower_rows NotPrecedence a b = (omega arith, tt)
lower_rows NotChainResponse a b = tt
lower_rows NotChainPrecedence a b = tt

pub lower_listed : (c d : Constraint) → IsListed c d → height d.kind < height c.kind
lower_listed c d h = each_of_list (λ d. height d.kind < height c.kind) (listed_below c.kind c.first c.second) (lower_rows c.kind c.first c.second) d h

pub lower : (c d : Constraint) → IsStronger c d → height d.kind < height c.kind
lower c d (directly h) = lower_listed c d h
lower c d (through {d = e} h more) = let here : height e.kind < height c.kind = lower_listed c e h in let rest : height d.kind < height e.kind = lower e d more in omega arith

pub strict : (c : Constraint) → IsStronger c c → ⊥
strict c h = let less : height c.kind < height c.kind = lower c c h in absurd (omega arith)

over_rows : (kind : Kind) (a b : ℕ) → AllByRecursion (IsOver a b) (listed_below kind a b)
over_rows Init a b = (inl (refl, refl), tt)
over_rows End a b = (inl (refl, refl), tt)
over_rows Participation a b = tt
over_rows AtMostOne a b = (inl (refl, refl), tt)
over_rows ChainSuccession a b = (inl (refl, refl), (inl (refl, refl), (inl (refl, refl), tt)))
over_rows AlternateSuccession a b = (inl (refl, refl), (inl (refl, refl), (inl (refl, refl), tt)))
over_rows Succession a b = (inl (refl, refl), (inr (refl, refl), (inl (refl, refl), (inl (refl, refl), tt))))
over_rows CoExistence a b = (inl (refl, refl), (inr (refl, refl), tt))
over_rows ChainResponse a b = (inl (refl, refl), tt)
over_rows AlternateResponse a b = (inl (refl, refl), tt)
over_rows Response a b = (inl (refl, refl), tt)
over_rows ChainPrecedence a b = (inl (refl, refl), tt)
over_rows AlternatePrecedence a b = (inl (refl, refl), tt)
over_rows Precedence a b = (inr (refl, refl), tt)
over_rows RespondedExistence a b = tt
over_rows NotCoExistence a b = (inl (refl, refl), (inr (refl, refl), (inl (refl, refl), (inr (refl, refl), tt))))
over_rows NotSuccession a b = (inl (refl, refl), (inl (refl, refl), (inl (refl, refl), tt)))
over_rows NotChainSuccession a b = (inl (refl, refl), (inl (refl, refl), tt))
over_rows (Exactly n) a b = (inl (refl, refl), (inl (refl, refl), tt))
over_rows (AtLeast n) a b = below_least (IsOver a b) n a b (λ one. inl (refl, refl)) (λ more. inl (refl, refl))
over_rows (AtMost n) a b = below_most (IsOver a b) n a b (λ one. inl (refl, refl)) (λ more few. inl (refl, refl))
over_rows NotRespondedExistence a b = (inl (refl, refl), (inr (refl, refl), tt))
over_rows NotResponse a b = (inl (refl, refl), tt)
over_rows NotPrecedence a b = (inl (refl, refl), tt)
over_rows NotChainResponse a b = tt
over_rows NotChainPrecedence a b = tt

pub over : (c d : Constraint) → IsStronger c d → IsOver c.first c.second d
over c d (directly h) = each_of_list (IsOver c.first c.second) (listed_below c.kind c.first c.second) (over_rows c.kind c.first c.second) d h
over c d (through {d = e} h more) =
    step (each_of_list (IsOver c.first c.second) (listed_below c.kind c.first c.second) (over_rows c.kind c.first c.second) e h) (over e d more)
  where
    step : IsOver c.first c.second e → IsOver e.first e.second d → IsOver c.first c.second d
    step (inl r) (inl s) = inl (r.0 ∙ s.0, r.1 ∙ s.1)
    step (inl r) (inr s) = inr (r.0 ∙ s.0, r.1 ∙ s.1)
    step (inr r) (inl s) = inr (r.0 ∙ s.1, r.1 ∙ s.0)
    step (inr r) (inr s) = inl (r.0 ∙ s.1, r.1 ∙ s.0)

-- one step down the list, and then no more or more
pub up : (c d e : Constraint) → IsListed c e → (e ≡ d) ⊎ IsStronger e d → IsStronger c d
up c d e h w = ⊎_elim (λ same. directly (subst (IsListed c) same h)) (λ more. through h more) w

pub down : (c d : Constraint) → IsStronger c d → (e : Constraint) × IsListed c e × ((e ≡ d) ⊎ IsStronger e d)
down c d (directly h) = (d, h, inl refl)
down c d (through {d = e} h more) = (e, h, inr more)

-- what stands in a list of options, and where
found : (xs : List (Option Constraint)) (k : ℕ) (d : Constraint) → slice_index_or xs k None ≡ Some d → Contains (filter_map (λ x. x) xs) d
found [] k d is = cc
found (None ∷ xs) zero d is = cc
found (Some x ∷ xs) zero d is = let same : x ≡ d = cc in (0, omega arith, same)
found (None ∷ xs) (suc k) d is = found xs k d is
found (Some x ∷ xs) (suc k) d is = let r = found xs k d is in (suc r.0, omega (arith, r.1), r.2)

place : (xs : List (Option Constraint)) (d : Constraint) → Contains (filter_map (λ x. x) xs) d → (k : ℕ) × (k < length xs) × (slice_index_or xs k None ≡ Some d)
place [] d r = absurd (omega (arith, r.1))
place (None ∷ xs) d r = let s = place xs d r in (suc s.0, omega (arith, s.1), s.2)
place (Some x ∷ xs) d (zero, within, is) = (0, omega arith, ap Some is)
place (Some x ∷ xs) d (suc k, within, is) = let s = place xs d (k, omega (arith, within), is) in (suc s.0, omega (arith, s.1), s.2)

-- by the option at a place: it is listed; and where none leads to d, none is stronger
pub listed_at : (c : Constraint) (xs : List (Option Constraint)) (k : ℕ) (e : Constraint) → filter_map (λ x. x) xs ≡ listed_below c.kind c.first c.second
    → slice_index_or xs k None ≡ Some e → IsListed c e
listed_at c xs k e are is = subst (λ list. Contains list e) are (found xs k e is)

-- none of the options below k is d or leads to it
abbrev pub NoneLeads : Constraint → List (Option Constraint) → ℕ → Type 0
NoneLeads d xs k = (j : ℕ) (e : Constraint) → j < k → slice_index_or xs j None ≡ Some e → (e ≡ d) ⊎ IsStronger e d → ⊥

pub one_more : (d : Constraint) (xs : List (Option Constraint)) (k : ℕ) → NoneLeads d xs k
    → ((e : Constraint) → slice_index_or xs k None ≡ Some e → (e ≡ d) ⊎ IsStronger e d → ⊥) → NoneLeads d xs (k + 1)
one_more d xs k before here j e lt is = ⊎_elim (λ less. before j e less is) (λ same. here e (subst (λ k. slice_index_or xs k None ≡ Some e) same is)) (split j k lt)
  where
    split : (j k : ℕ) → j < k + 1 → (j < k) ⊎ (j ≡ k)
    split j k lt = grind arith

pub none_leads : (c d : Constraint) (xs : List (Option Constraint)) (k : ℕ) → filter_map (λ x. x) xs ≡ listed_below c.kind c.first c.second
    → length xs ≤ k → NoneLeads d xs k → IsStronger c d → ⊥
none_leads c d xs k are le none h =
    let r = down c d h in
    let p = place xs r.0 (subst (λ list. Contains list r.0) (sym are) r.1) in
    none p.0 r.0 (omega (arith, p.1)) p.2 r.2

-- a constraint is well made where the one above it is, and a trace that keeps that one keeps it
record Follows (kind : Kind) (a b : ℕ) (d : Constraint) : Type 0 where
  made : IsWellMade kind a b → IsWellMade d.kind d.first d.second
  kept : IsWellMade kind a b → (trace : List ℕ) → Keeps nat_eq kind a b trace → Keeps nat_eq d.kind d.first d.second trace

by_places : (kind : Kind) (a b : ℕ) (d : Constraint) → (IsWellMade kind a b → IsWellMade d.kind d.first d.second)
    → ((trace : List ℕ) → KeptByPlaces kind a b trace → KeptByPlaces d.kind d.first d.second trace) → Follows kind a b d
by_places kind a b d below kept = record {
  made = below;
  kept = λ made trace keeps. from_places d.kind d.first d.second (below made) trace (kept trace (to_places kind a b made trace keeps));
}

-- tests of the number k of a's of a trace
exactly_least : (n k : ℕ) → (k == n) ≡ true → nat_le n k ≡ true
exactly_least n k h = grind (arith, nat_tests)

exactly_most : (n k : ℕ) → (k == n) ≡ true → nat_le k n ≡ true
exactly_most n k h = grind (arith, nat_tests)

least_one : (n k : ℕ) (occurs : Bool) → n ≡ 1 → eqb k 0 ≡ not occurs → nat_le n k ≡ true → occurs ≡ true
least_one n k true one is h = refl
least_one n k false one is h = grind (arith, nat_tests)

least_less : (n k : ℕ) → nat_le n k ≡ true → nat_le (n - 1) k ≡ true
least_less n k h = grind (arith, nat_tests)

most_one : (n k : ℕ) → n ≡ 1 → nat_le k n ≡ true → nat_lt k 2 ≡ true
most_one n k one h = grind (arith, nat_tests)

most_two : (k : ℕ) → nat_lt k 2 ≡ true → nat_le k 2 ≡ true
most_two k h = grind (arith, nat_tests)

most_more : (n k : ℕ) → nat_le k n ≡ true → nat_le k (n + 1) ≡ true
most_more n k h = grind (arith, nat_tests)

-- what stands nowhere behind, or before, doesn't stand next to it
not_next : (b : ℕ) (trace : List ℕ) (i : ℕ) → ¬ LaterIs b trace i → ¬ EventIs b trace (i + 1)
not_next b trace i none is = none (i + 1, omega arith, is)

not_previous : (a : ℕ) (trace : List ℕ) (i : ℕ) → ¬ EarlierIs a trace i → ¬ PreviousIs a trace i
not_previous a trace i none r = none (i - 1, omega (arith, r.0), r.1)

next_alternates : (a b : ℕ) (trace : List ℕ) (i : ℕ) → EventIs b trace (i + 1) → AlternatesLater a b trace i
next_alternates a b trace i is = (i + 1, omega arith, is, λ k low high at. absurd (omega (arith, low, high)))

previous_alternates : (a b : ℕ) (trace : List ℕ) (i : ℕ) → PreviousIs a trace i → AlternatesEarlier a b trace i
previous_alternates a b trace i is = (i - 1, omega (arith, is.0), is.1, λ k low high at. absurd (omega (arith, low, high, is.0)))

-- both halves of a mutual or negative template follow each from its own
both : (a b : ℕ) (trace : List ℕ) (P Q R S : ℕ → Type 0) → ((i : ℕ) → P i → R i) → ((i : ℕ) → Q i → S i)
    → ((i : ℕ) → i ≤ length trace → (EventIs a trace i ⊎ EventIs b trace i) → AtEach a b P Q trace i)
    → (i : ℕ) → i ≤ length trace → (EventIs a trace i ⊎ EventIs b trace i) → AtEach a b R S trace i
both a b trace P Q R S f g h i le at = let r = h i le at in (λ is. f i (r.0 is), λ is. g i (r.1 is))

swapped : (a b : ℕ) (trace : List ℕ) (P Q R S : ℕ → Type 0) → ((i : ℕ) → P i → R i) → ((i : ℕ) → Q i → S i)
    → ((i : ℕ) → i ≤ length trace → (EventIs a trace i ⊎ EventIs b trace i) → AtEach a b P Q trace i)
    → (i : ℕ) → i ≤ length trace → (EventIs b trace i ⊎ EventIs a trace i) → AtEach b a S R trace i
swapped a b trace P Q R S f g h i le at = let r = h i le (⊎_elim inr inl at) in (λ is. g i (r.1 is), λ is. f i (r.0 is))

back : {a b : ℕ} → a ≢ b → b ≢ a
back differ e = differ (sym e)

follows_rows : (kind : Kind) (a b : ℕ) → AllByRecursion (Follows kind a b) (listed_below kind a b)
follows_rows Init a b = (by_places _ _ _ _ (λ m. m) (λ trace h i le at. (0, (h i le at).1)), tt)
follows_rows End a b = (by_places _ _ _ _ (λ m. m) (λ trace h i le at. (length trace - 1, (h i le at).1)), tt)
follows_rows Participation a b = tt
follows_rows AtMostOne a b = (record { made = λ m. (m, (omega arith, omega arith)); kept = λ made trace keeps i le at. most_two (occurrences nat_eq a trace) (keeps i le at) }, tt)
follows_rows ChainSuccession a b = (
  by_places _ _ _ _ (λ m. m) (λ trace h. both a b trace _ _ _ _ (next_alternates a b trace) (previous_alternates a b trace) h),
  (
    by_places _ _ _ _ (λ m. m) (λ trace h i le at. (h i le (inl at)).0 at),
    (by_places _ _ _ _ (λ m. m) (λ trace h i le at. (h i le (inr at)).1 at), tt),
  ),
)
follows_rows AlternateSuccession a b = (
  by_places _ _ _ _ (λ m. m) (λ trace h. both a b trace _ _ _ _ (λ i r. (r.0, r.1, r.2)) (λ i r. (r.0, r.1, r.2)) h),
  (
    by_places _ _ _ _ (λ m. m) (λ trace h i le at. (h i le (inl at)).0 at),
    (by_places _ _ _ _ (λ m. m) (λ trace h i le at. (h i le (inr at)).1 at), tt),
  ),
)
follows_rows Succession a b = (
  by_places _ _ _ _ (λ m. m) (λ trace h. both a b trace _ _ _ _ (λ i r. (r.0, r.2)) (λ i r. (r.0, r.2)) h),
  (
    by_places _ _ _ _ back (λ trace h. swapped a b trace _ _ _ _ (λ i r. (r.0, r.2)) (λ i r. (r.0, r.2)) h),
    (
      by_places _ _ _ _ (λ m. m) (λ trace h i le at. (h i le (inl at)).0 at),
      (by_places _ _ _ _ (λ m. m) (λ trace h i le at. (h i le (inr at)).1 at), tt),
    ),
  ),
)
follows_rows CoExistence a b = (
  by_places _ _ _ _ (λ m. m) (λ trace h i le at. (h i le (inl at)).0 at),
  (by_places _ _ _ _ back (λ trace h i le at. (h i le (inr at)).1 at), tt),
)
follows_rows ChainResponse a b = (by_places _ _ _ _ (λ m. m) (λ trace h i le at. next_alternates a b trace i (h i le at)), tt)
follows_rows AlternateResponse a b = (by_places _ _ _ _ (λ m. m) (λ trace h i le at. let r = h i le at in (r.0, r.1, r.2)), tt)
follows_rows Response a b = (by_places _ _ _ _ (λ m. m) (λ trace h i le at. let r = h i le at in (r.0, r.2)), tt)
follows_rows ChainPrecedence a b = (by_places _ _ _ _ (λ m. m) (λ trace h i le at. previous_alternates a b trace i (h i le at)), tt)
follows_rows AlternatePrecedence a b = (by_places _ _ _ _ (λ m. m) (λ trace h i le at. let r = h i le at in (r.0, r.1, r.2)), tt)
follows_rows Precedence a b = (by_places _ _ _ _ back (λ trace h i le at. let r = h i le at in (r.0, r.2)), tt)
follows_rows RespondedExistence a b = tt
follows_rows NotCoExistence a b = (
  by_places _ _ _ _ (λ m. m) (λ trace h. both a b trace _ _ _ _ (λ i no r. no (r.0, r.2)) (λ i no r. no (r.0, r.2)) h),
  (
    by_places _ _ _ _ back (λ trace h. swapped a b trace _ _ _ _ (λ i no r. no (r.0, r.2)) (λ i no r. no (r.0, r.2)) h),
    (
      by_places _ _ _ _ (λ m. m) (λ trace h i le at. (h i le (inl at)).0 at),
      (by_places _ _ _ _ back (λ trace h i le at. (h i le (inr at)).1 at), tt),
    ),
  ),
)
follows_rows NotSuccession a b = (
  by_places _ _ _ _ (λ m. m) (λ trace h. both a b trace _ _ _ _ (not_next b trace) (not_previous a trace) h),
  (
    by_places _ _ _ _ (λ m. m) (λ trace h i le at. (h i le (inl at)).0 at),
    (by_places _ _ _ _ (λ m. m) (λ trace h i le at. (h i le (inr at)).1 at), tt),
  ),
)
follows_rows NotChainSuccession a b = (
  by_places _ _ _ _ (λ m. m) (λ trace h i le at. (h i le (inl at)).0 at),
  (by_places _ _ _ _ (λ m. m) (λ trace h i le at. (h i le (inr at)).1 at), tt),
)
follows_rows (Exactly n) a b = (
  record { made = λ m. m; kept = λ made trace keeps i le at. exactly_least n (occurrences nat_eq a trace) (keeps i le at) },
  (record { made = λ m. m; kept = λ made trace keeps i le at. exactly_most n (occurrences nat_eq a trace) (keeps i le at) }, tt),
)
follows_rows (AtLeast n) a b =
    below_least (Follows (AtLeast n) a b) n a b
    (λ one. record { made = λ m. m.0; kept = λ made trace keeps i le at. least_one n (occurrences nat_eq a trace) _ one (occurs-count nat_eq a trace) (keeps i le at) })
    (λ more. record { made = λ m. (m.0, (omega (arith, more), omega (arith, m.1.1))); kept = λ made trace keeps i le at. least_less n (occurrences nat_eq a trace) (keeps i le at) })
follows_rows (AtMost n) a b =
    below_most (Follows (AtMost n) a b) n a b
    (λ one. record { made = λ m. m.0; kept = λ made trace keeps i le at. most_one n (occurrences nat_eq a trace) one (keeps i le at) })
    (λ more few. record { made = λ m. (m.0, (omega arith, omega (arith, few))); kept = λ made trace keeps i le at. most_more n (occurrences nat_eq a trace) (keeps i le at) })
follows_rows NotRespondedExistence a b = (
  by_places _ _ _ _ (λ m. m) (λ trace h i le at r. h i le at (r.0, r.2)),
  (by_places _ _ _ _ back (λ trace h i le at r. h i le at (r.0, r.2)), tt),
)
follows_rows NotResponse a b = (by_places _ _ _ _ (λ m. m) (λ trace h i le at. not_next b trace i (h i le at)), tt)
follows_rows NotPrecedence a b = (by_places _ _ _ _ (λ m. m) (λ trace h i le at. not_previous a trace i (h i le at)), tt)
follows_rows NotChainResponse a b = tt
follows_rows NotChainPrecedence a b = tt

follows : (c d : Constraint) → IsListed c d → Follows c.kind c.first c.second d
follows c d h = each_of_list (Follows c.kind c.first c.second) (listed_below c.kind c.first c.second) (follows_rows c.kind c.first c.second) d h

pub keeps_below : (c d : Constraint) → IsStronger c d → IsWellMade c.kind c.first c.second → (trace : List ℕ)
    → Keeps nat_eq c.kind c.first c.second trace → Keeps nat_eq d.kind d.first d.second trace
keeps_below c d (directly h) made trace keeps = (follows c d h).kept made trace keeps
keeps_below c d (through {d = e} h more) made trace keeps =
    let f = follows c e h in
    keeps_below e d more (f.made made) trace (f.kept made trace keeps)
