-- The constraints over n ranks: which they are, and each once.
use Rattle.std.proofs.Common.{◌≡◌, ℕ, zero, suc, ◌+◌, ◌<◌, ◌≤◌, List, [], ◌∷◌, ◌++◌, Bool, true, false, cond, map, filter, count_by, Less, Equal, Greater, Ordering, nat_cmp, refl, sym, ap, subst, ◌∙◌, arith}
use Rattle.std.specs.Bool.{⊤}
use Rattle.std.specs.Cmp.{IsTotalOrder}
use Rattle.std.specs.List.{AllByRecursion, range_with_len, flat_map}
use Rattle.std.specs.List.Sorted.{IsStrictlySortedBy}
use Rattle.std.specs.Ordering.{eq_by_cmp, on}
use Rattle.std.proofs.lemmas.List.Kept.{IsStrictlySortedBy-filter}
use Rattle.std.proofs.lemmas.Map.Keys.{sorted_head, sorted_tail}
use Rattle.std.proofs.lemmas.Bool.Decides.{nat_tests}
use Rattle.template_core.specs.Constraints.{number_of}
use Rattle.template_core.specs.declared.constraint.Constraint.{Constraint}
use Rattle.template_core.specs.declared.kind.Kind.{Kind}
use Rattle.template_set.specs.Names.{all_kinds}
use Rattle.template_core.specs.Groups.{takes}
use Rattle.template_core.specs.Repertoires.{is_candidate}
use Rattle.template_core.specs.declared.repertoire.Repertoire.{Repertoire}
use Rattle.scoring.specs.Candidates.{constraint_of, mined_kinds, constraints_from, constraints_of, constraints_over}
use Rattle.scoring.specs.Priority.{constraint_cmp}
use Rattle.scoring.proofs.Orders.{count-cons}

-- a fact of each element
pub all_and : {X : Type 0} (P Q : X → Type 0) → ((x : X) → P x → Q x) → (xs : List X) → AllByRecursion P xs → AllByRecursion Q xs
all_and P Q h [] all = tt
all_and P Q h (x ∷ xs) all = (h x all.0, all_and P Q h xs all.1)

pub all-append : {X : Type 0} (P : X → Type 0) (xs ys : List X) → AllByRecursion P xs → AllByRecursion P ys → AllByRecursion P (xs ++ ys)
all-append P [] ys h k = k
all-append P (x ∷ xs) ys h k = (h.0, all-append P xs ys h.1 k)

pub all-flat_map : {X Y : Type 0} (P : X → Type 0) (Q : Y → Type 0) (f : X → List Y) → ((x : X) → P x → AllByRecursion Q (f x)) → (xs : List X) → AllByRecursion P xs → AllByRecursion Q (flat_map f xs)
all-flat_map P Q f h [] all = tt
all-flat_map P Q f h (x ∷ xs) all = all-append Q (f x) (flat_map f xs) (h x all.0) (all-flat_map P Q f h xs all.1)

pub all-map : {X Y : Type 0} (P : X → Type 0) (Q : Y → Type 0) (f : X → Y) → ((x : X) → P x → Q (f x)) → (xs : List X) → AllByRecursion P xs → AllByRecursion Q (map f xs)
all-map P Q f h [] all = tt
all-map P Q f h (x ∷ xs) all = (h x all.0, all-map P Q f h xs all.1)

-- of what a filter leaves, also that it passes
pub all-filter : {X : Type 0} (P Q : X → Type 0) (p : X → Bool) → ((x : X) → P x → p x ≡ true → Q x) → (xs : List X) → AllByRecursion P xs → AllByRecursion Q (filter p xs)
all-filter P Q p h [] all = tt
all-filter {X} P Q p h (x ∷ xs) all = go (p x) refl (all-filter P Q p h xs all.1)
  where
    go : (v : Bool) → p x ≡ v → AllByRecursion Q (filter p xs) → AllByRecursion Q (cond v (x ∷ filter p xs) (filter p xs))
    go true e rest = (h x all.0 e, rest)
    go false e rest = rest

all-cross : {X Y : Type 0} (P : X → Type 0) (Q : Y → Type 0) (R : X → Y → Type 0) → ((x : X) (y : Y) → P x → Q y → R x y)
    → (xs : List X) (ys : List Y) → AllByRecursion P xs → AllByRecursion Q ys → AllByRecursion (λ x. AllByRecursion (R x) ys) xs
all-cross P Q R h [] ys all others = tt
all-cross P Q R h (x ∷ xs) ys all others = (all_and Q (R x) (λ y q. h x y all.0 q) ys others, all-cross P Q R h xs ys all.1 others)

pub all-any : {X : Type 0} (P : X → Type 0) → ((x : X) → P x) → (xs : List X) → AllByRecursion P xs
all-any P h [] = tt
all-any P h (x ∷ xs) = (h x, all-any P h xs)

-- strictly ascending lists
module _ {X : Type 0} (R : X → X → Ordering) where
  sorted-cons : (x : X) (xs : List X) → AllByRecursion (λ y. R x y ≡ Less) xs → IsStrictlySortedBy R xs → IsStrictlySortedBy R (x ∷ xs)
  unfolding IsStrictlySortedBy
  sorted-cons x xs all rest = (all, rest)

  sorted-nil : IsStrictlySortedBy R []
  unfolding IsStrictlySortedBy
  sorted-nil = tt

module _ {X : Type 0} (R : X → X → Ordering) where
  sorted-append : (xs ys : List X) → IsStrictlySortedBy R xs → IsStrictlySortedBy R ys → AllByRecursion (λ x. AllByRecursion (λ y. R x y ≡ Less) ys) xs → IsStrictlySortedBy R (xs ++ ys)
  sorted-append [] ys h k cross = k
  sorted-append (x ∷ xs) ys h k cross =
      sorted-cons R x (xs ++ ys) (all-append (λ y. R x y ≡ Less) xs ys (sorted_head R x xs h) cross.0) (sorted-append xs ys (sorted_tail R x xs h) k cross.1)

  sorted-map : {Y : Type 0} (S : Y → Y → Ordering) (f : Y → X) → ((x y : Y) → S x y ≡ Less → R (f x) (f y) ≡ Less) → (xs : List Y) → IsStrictlySortedBy S xs → IsStrictlySortedBy R (map f xs)
  sorted-map S f h [] k = sorted-nil R
  sorted-map S f h (x ∷ xs) k =
      sorted-cons R (f x) (map f xs) (all-map (λ y. S x y ≡ Less) (λ v. R (f x) v ≡ Less) f (λ y e. h x y e) xs (sorted_head S x xs k)) (sorted-map S f h xs (sorted_tail S x xs k))

  -- at most one element ties with z
  pub once_from_strictly : IsTotalOrder R → (z : X) (xs : List X) → IsStrictlySortedBy R xs → count_by (eq_by_cmp R z) xs ≤ 1
  once_from_strictly o z [] h = omega arith
  once_from_strictly o z (x ∷ xs) h = go (R z x) refl (once_from_strictly o z xs (sorted_tail R x xs h))
    where
      none : (ys : List X) → R z x ≡ Equal → AllByRecursion (λ y. R x y ≡ Less) ys → count_by (eq_by_cmp R z) ys ≡ 0
      none [] e all = refl
      none (y ∷ ys) e all = count-cons (eq_by_cmp R z) y ys ∙ rw (o.congr z x y e ∙ all.0, none ys e all.1) refl

      go : (r : Ordering) → R z x ≡ r → count_by (eq_by_cmp R z) xs ≤ 1 → count_by (eq_by_cmp R z) (x ∷ xs) ≤ 1
      go Less e rest = rw (count-cons (eq_by_cmp R z) x xs, e) (omega arith)
      go Equal e rest = rw (count-cons (eq_by_cmp R z) x xs, none xs e (sorted_head R x xs h), e) (omega arith)
      go Greater e rest = rw (count-cons (eq_by_cmp R z) x xs, e) (omega arith)

module _ {X Y : Type 0} (R : Y → Y → Ordering) (S : X → X → Ordering) (f : X → List Y) where
  sorted-flat_map : (P : X → Y → Type 0) → ((x : X) → AllByRecursion (P x) (f x)) → ((x : X) → IsStrictlySortedBy R (f x))
      → ((x y : X) (u v : Y) → S x y ≡ Less → P x u → P y v → R u v ≡ Less) → (xs : List X) → IsStrictlySortedBy S xs → IsStrictlySortedBy R (flat_map f xs)
  sorted-flat_map P of each apart [] h = sorted-nil R
  sorted-flat_map P of each apart (x ∷ xs) h =
      sorted-append R (f x) (flat_map f xs) (each x) (sorted-flat_map P of each apart xs (sorted_tail S x xs h))
      (all-cross (P x) (λ v. (u : Y) → P x u → R u v ≡ Less) (λ u v. R u v ≡ Less) (λ u v p q. q u p) (f x) (flat_map f xs) (of x)
      (all-flat_map (λ y. S x y ≡ Less) (λ v. (u : Y) → P x u → R u v ≡ Less) f
      (λ y e. all_and (P y) (λ v. (u : Y) → P x u → R u v ≡ Less) (λ v q u p. apart x y u v e p q) (f y) (of y)) xs (sorted_head S x xs h)))

less_is : (m n : ℕ) → m < n → nat_cmp m n ≡ Less
less_is m n h = grind (arith, nat_tests)

is_less : (m n : ℕ) → nat_cmp m n ≡ Less → m < n
is_less m n h = grind (arith, nat_tests)

equal_is : (m n : ℕ) → m ≡ n → nat_cmp m n ≡ Equal
equal_is m n h = grind (arith, nat_tests)

from_range : (a n low : ℕ) → low < a → AllByRecursion (λ y. nat_cmp low y ≡ Less) (range_with_len a n)
from_range a zero low h = tt
from_range a (suc n) low h = (less_is low a h, from_range (a + 1) n low (omega arith))

sorted-range : (a n : ℕ) → IsStrictlySortedBy nat_cmp (range_with_len a n)
sorted-range a zero = sorted-nil nat_cmp
sorted-range a (suc n) = sorted-cons nat_cmp a (range_with_len (a + 1) n) (from_range (a + 1) n a (omega arith)) (sorted-range (a + 1) n)

below-range : (a n : ℕ) → AllByRecursion (λ y. y < a + n) (range_with_len a n)
below-range a zero = tt
below-range a (suc n) = (omega arith, all_and (λ y. y < a + 1 + n) (λ y. y < a + suc n) (λ y h. omega arith) (range_with_len (a + 1) n) (below-range (a + 1) n))

pub each_below : (n : ℕ) → AllByRecursion (λ k. k < n) (range_with_len 0 n)
each_below n = all_and (λ k. k < 0 + n) (λ k. k < n) (λ k h. omega arith) (range_with_len 0 n) (below-range 0 n)

abbrev number_cmp : Kind → Kind → Ordering
number_cmp = on number_of nat_cmp

sorted-back : {X Y : Type 0} (f : X → Y) (R : Y → Y → Ordering) (xs : List X) → IsStrictlySortedBy R (map f xs) → IsStrictlySortedBy (on f R) xs
sorted-back f R [] h = sorted-nil (on f R)
sorted-back f R (x ∷ xs) h = sorted-cons (on f R) x xs (go xs (sorted_head R (f x) (map f xs) h)) (sorted-back f R xs (sorted_tail R (f x) (map f xs) h))
  where
    go : (ys : List _) → AllByRecursion (λ v. R (f x) v ≡ Less) (map f ys) → AllByRecursion (λ y. R (f x) (f y) ≡ Less) ys
    go [] all = tt
    go (y ∷ ys) all = (all.0, go ys all.1)

sorted-kinds : IsStrictlySortedBy number_cmp all_kinds
sorted-kinds = sorted-back number_of nat_cmp all_kinds (let e : map number_of all_kinds ≡ range_with_len 1 50 = refl in subst (IsStrictlySortedBy nat_cmp) (sym e) (sorted-range 1 50))

-- a constraint of a template with this first rank
record IsFrom (kind : Kind) (first : ℕ) (c : Constraint) : Type 0 where
  pub kind_is : c.kind ≡ kind
  pub first_is : c.first ≡ first

less_second : (c d : Constraint) → c.kind ≡ d.kind → c.first ≡ d.first → nat_cmp c.second d.second ≡ Less → constraint_cmp c d ≡ Less
less_second c d k f s = rw (equal_is (number_of c.kind) (number_of d.kind) (ap number_of k), equal_is c.first d.first f) s

less_first : (c d : Constraint) → c.kind ≡ d.kind → nat_cmp c.first d.first ≡ Less → constraint_cmp c d ≡ Less
less_first c d k f = rw (equal_is (number_of c.kind) (number_of d.kind) (ap number_of k), f) refl

less_kind : (c d : Constraint) → nat_cmp (number_of c.kind) (number_of d.kind) ≡ Less → constraint_cmp c d ≡ Less
less_kind c d k = rw k refl

from_is : (n : ℕ) (kind : Kind) (first : ℕ) → AllByRecursion (IsFrom kind first) (constraints_from n kind first)
unfolding constraints_from
from_is n kind first =
    all-map (λ _. ⊤) (IsFrom kind first) (constraint_of kind first) (λ second _. record { kind_is = refl; first_is = refl }) (filter (takes kind first) (range_with_len 0 n)) (all-any (λ _. ⊤) (λ _. tt) _)

sorted-from : (n : ℕ) (kind : Kind) (first : ℕ) → IsStrictlySortedBy constraint_cmp (constraints_from n kind first)
unfolding constraints_from
sorted-from n kind first =
    sorted-map constraint_cmp nat_cmp (constraint_of kind first) (λ x y e. less_second (constraint_of kind first x) (constraint_of kind first y) refl refl e)
    (filter (takes kind first) (range_with_len 0 n)) (IsStrictlySortedBy-filter nat_cmp (takes kind first) (range_with_len 0 n) (sorted-range 0 n))

of_is : (n : ℕ) (kind : Kind) → AllByRecursion (λ c. c.kind ≡ kind) (constraints_of n kind)
unfolding constraints_of
of_is n kind =
    all-flat_map (λ _. ⊤) (λ c. c.kind ≡ kind) (constraints_from n kind) (λ first _. all_and (IsFrom kind first) (λ c. c.kind ≡ kind) (λ c h. h.kind_is) (constraints_from n kind first) (from_is n kind first))
    (range_with_len 0 n) (all-any (λ _. ⊤) (λ _. tt) _)

sorted-of : (n : ℕ) (kind : Kind) → IsStrictlySortedBy constraint_cmp (constraints_of n kind)
unfolding constraints_of
sorted-of n kind =
    sorted-flat_map constraint_cmp nat_cmp (constraints_from n kind) (IsFrom kind) (from_is n kind) (sorted-from n kind)
    (λ x y u v e p q. less_first u v (p.kind_is ∙ sym q.kind_is) (rw (p.first_is, q.first_is) e)) (range_with_len 0 n) (sorted-range 0 n)

pub sorted-over : (repertoire : Repertoire) (n : ℕ) → IsStrictlySortedBy constraint_cmp (constraints_over (mined_kinds repertoire) n)
unfolding constraints_over
sorted-over repertoire n =
    sorted-flat_map constraint_cmp number_cmp (constraints_of n) (λ kind c. c.kind ≡ kind) (of_is n) (sorted-of n)
    (λ x y u v e p q. less_kind u v (rw (p, q) e)) (mined_kinds repertoire) (IsStrictlySortedBy-filter number_cmp (is_candidate repertoire) all_kinds sorted-kinds)
