-- The sorted names of a log ascend, so each stands there once, and they are the names of the log and no others.
use Rattle.std.proofs.Common.{suc, ◌+◌, ◌≤◌, ◌++◌, length, cond, append-nil, append_assoc, true≢false, arith, ◌≡◌, ℕ, List, [], ◌∷◌, fold, Ordering, refl, sym, ap, ◌∙◌, subst}
use Rattle.std.specs.declared.cmp.Ordering.TheVariants.{Less, Equal, Greater}
use Rattle.std.specs.BTreeSet.{insert_key}
use Rattle.std.specs.Cmp.{IsTotalOrder}
use Rattle.std.specs.Cmp.Lexicographic.{slice_cmp, nat_list_cmp_total}
use Rattle.std.specs.List.{list_any, AllByRecursion}
use Rattle.std.specs.Prelude.{Bool, true, false, ◌||◌}
use Rattle.std.specs.Str.{bytes_eq}
use Rattle.std.proofs.lemmas.Map.Text.{is_eq-slice_cmp}
use Rattle.std.specs.Ordering.{is_eq}
use Rattle.std.specs.Cmp.Lexicographic.{bytes_decides}
use Rattle.std.specs.List.Sorted.{IsStrictlySortedBy}
use Rattle.std.specs.Ordering.{nat_cmp, match_ordering, ordering_reverse}
use Rattle.event_log.specs.Logs.{sorted_names, in_byte_order, events_of, has_name, with_name, first_seen}

module _ {K : Type 0} (cmp : K → K → Ordering) (total : IsTotalOrder cmp) where
  below_all : (k x : K) (xs : List K) → cmp k x ≡ Less → AllByRecursion (λ y. cmp x y ≡ Less) xs → AllByRecursion (λ y. cmp k y ≡ Less) xs
  below_all k x [] h all = tt
  below_all k x (y ∷ ys) h all = (total.trans k x y h all.0, below_all k x ys h all.1)

  above_inserted : (x k : K) (xs : List K) → cmp x k ≡ Less → AllByRecursion (λ y. cmp x y ≡ Less) xs → AllByRecursion (λ y. cmp x y ≡ Less) (insert_key cmp xs k)
  above_inserted x k [] h all = (h, tt)
  above_inserted x k (y ∷ ys) h all =
      elim (cmp k y) as (λ o. AllByRecursion (λ z. cmp x z ≡ Less) (match_ordering o (k ∷ y ∷ ys) (y ∷ ys) (y ∷ insert_key cmp ys k))) [
        | Less ↦ (h, all)
        | Equal ↦ all
        | Greater ↦ (all.0, above_inserted x k ys h all.1)
      ]

  reversed : (k x : K) → cmp k x ≡ Greater → cmp x k ≡ Less
  reversed k x h = total.antisymm x k ∙ ap ordering_reverse h

  insert_key-ascends : (xs : List K) (k : K) → IsStrictlySortedBy cmp xs → IsStrictlySortedBy cmp (insert_key cmp xs k)
  unfolding IsStrictlySortedBy
  insert_key-ascends [] k s = (tt, tt)
  insert_key-ascends (x ∷ xs) k s =
      elim (cmp k x) as (λ o. cmp k x ≡ o → IsStrictlySortedBy cmp (match_ordering o (k ∷ x ∷ xs) (x ∷ xs) (x ∷ insert_key cmp xs k))) [
        | Less ↦ λ e. ((e, below_all k x xs e s.0), s)
        | Equal ↦ λ e. s
        | Greater ↦ λ e. (above_inserted x k xs (reversed k x e) s.0, insert_key-ascends xs k s.1)
      ] refl

  inserts-ascend : (base names : List K) → IsStrictlySortedBy cmp base → IsStrictlySortedBy cmp (fold (insert_key cmp) base names)
  inserts-ascend base [] s = s
  inserts-ascend base (name ∷ names) s = inserts-ascend (insert_key cmp base name) names (insert_key-ascends base name s)

pub in_byte_order-ascends : (names : List (List ℕ)) → IsStrictlySortedBy (slice_cmp nat_cmp) (in_byte_order names)
unfolding IsStrictlySortedBy
in_byte_order-ascends names = inserts-ascend (slice_cmp nat_cmp) nat_list_cmp_total [] names tt

pub sorted_names-ascends : (log : List (List (List ℕ))) → IsStrictlySortedBy (slice_cmp nat_cmp) (sorted_names log)
sorted_names-ascends log = in_byte_order-ascends (events_of log)

-- ---- the names of an sorted_names are those of the log

abbrev is_name : List ℕ → List ℕ → Bool
is_name name n = bytes_eq name n

or_swap : (a b c : Bool) → (a || (b || c)) ≡ (b || (a || c))
or_swap true true c = refl
or_swap true false c = refl
or_swap false b c = refl

or_same : (a c : Bool) → (a || c) ≡ (a || (a || c))
or_same true c = refl
or_same false c = refl

equal_names : (k x : List ℕ) → slice_cmp nat_cmp k x ≡ Equal → k ≡ x
equal_names k x e = (bytes_decides k x).0 (sym (is_eq-slice_cmp k x) ∙ ap is_eq e)

has-insert_key : (name : List ℕ) (xs : List (List ℕ)) (k : List ℕ) → list_any (is_name name) (insert_key (slice_cmp nat_cmp) xs k) ≡ (is_name name k || list_any (is_name name) xs)
has-insert_key name [] k = refl
has-insert_key name (x ∷ xs) k =
    elim (slice_cmp nat_cmp k x) as (λ o. slice_cmp nat_cmp k x ≡ o
    → list_any (is_name name) (match_ordering o (k ∷ x ∷ xs) (x ∷ xs) (x ∷ insert_key (slice_cmp nat_cmp) xs k)) ≡ (is_name name k || list_any (is_name name) (x ∷ xs))) [
      | Less ↦ λ e. refl
      | Equal ↦ λ e. or_same (is_name name x) (list_any (is_name name) xs) ∙ ap (λ b. b || list_any (is_name name) (x ∷ xs)) (ap (is_name name) (sym (equal_names k x e)))
      | Greater ↦ λ e. ap (λ b. is_name name x || b) (has-insert_key name xs k) ∙ or_swap (is_name name x) (is_name name k) (list_any (is_name name) xs)
    ] refl

has-inserts : (name : List ℕ) (base names : List (List ℕ)) → list_any (is_name name) (fold (insert_key (slice_cmp nat_cmp)) base names) ≡ (list_any (is_name name) names || list_any (is_name name) base)
has-inserts name base [] = refl
has-inserts name base (n ∷ names) =
    has-inserts name (insert_key (slice_cmp nat_cmp) base n) names
    ∙ ap (λ b. list_any (is_name name) names || b) (has-insert_key name base n)
    ∙ regroup (list_any (is_name name) names) (is_name name n) (list_any (is_name name) base)
  where
    regroup : (a b c : Bool) → (a || (b || c)) ≡ ((b || a) || c)
    regroup true true c = refl
    regroup true false c = refl
    regroup false true c = refl
    regroup false false c = refl

pub in_byte_order-has : (names : List (List ℕ)) (name : List ℕ) → has_name (in_byte_order names) name ≡ has_name names name
in_byte_order-has names name = has-inserts name [] names ∙ or_none (has_name names name)
  where
    or_none : (b : Bool) → (b || false) ≡ b
    or_none true = refl
    or_none false = refl

pub sorted_names-has : (log : List (List (List ℕ))) (name : List ℕ) → has_name (sorted_names log) name ≡ has_name (events_of log) name
sorted_names-has log name = in_byte_order-has (events_of log) name

-- ---- an order takes no name more

length-insert_key : (xs : List (List ℕ)) (k : List ℕ) → length (insert_key (slice_cmp nat_cmp) xs k) ≤ length xs + 1
length-insert_key [] k = omega arith
length-insert_key (x ∷ xs) k =
    elim (slice_cmp nat_cmp k x) as (λ o. length (match_ordering o (k ∷ x ∷ xs) (x ∷ xs) (x ∷ insert_key (slice_cmp nat_cmp) xs k)) ≤ suc (length xs) + 1) [
      | Less ↦ omega arith
      | Equal ↦ omega arith
      | Greater ↦ omega (arith, length-insert_key xs k)
    ]

length-inserts : (base names : List (List ℕ)) → length (fold (insert_key (slice_cmp nat_cmp)) base names) ≤ length base + length names
length-inserts base [] = omega arith
length-inserts base (name ∷ names) = omega (arith, length-inserts (insert_key (slice_cmp nat_cmp) base name) names, length-insert_key base name)

pub length-in_byte_order : (names : List (List ℕ)) → length (in_byte_order names) ≤ length names
length-in_byte_order names = omega (arith, length-inserts [] names)

-- ---- names in order, as they first appear

reversed_less : (x y : List ℕ) → slice_cmp nat_cmp x y ≡ Less → slice_cmp nat_cmp y x ≡ Greater
reversed_less x y h = nat_list_cmp_total.antisymm y x ∙ ap ordering_reverse h

differs : (x y : List ℕ) → slice_cmp nat_cmp x y ≡ Less → bytes_eq x y ≡ false
differs x y h = sym (is_eq-slice_cmp x y) ∙ ap is_eq h

differs_back : (x y : List ℕ) → slice_cmp nat_cmp x y ≡ Less → bytes_eq y x ≡ false
differs_back x y h = sym (is_eq-slice_cmp y x) ∙ ap is_eq (reversed_less x y h)

same_bytes : (x : List ℕ) → bytes_eq x x ≡ true
same_bytes x = (bytes_decides x x).1 refl

has_name-push : (names : List (List ℕ)) (x name : List ℕ) → has_name (names ++ x ∷ []) name ≡ (has_name names name || bytes_eq name x)
has_name-push [] x name = or_false (bytes_eq name x)
  where
    or_false : (b : Bool) → (b || false) ≡ b
    or_false true = refl
    or_false false = refl
has_name-push (y ∷ names) x name = ap (λ b. bytes_eq name y || b) (has_name-push names x name) ∙ or_assoc (bytes_eq name y) (has_name names name) (bytes_eq name x)
  where
    or_assoc : (a b c : Bool) → (a || (b || c)) ≡ ((a || b) || c)
    or_assoc true b c = refl
    or_assoc false b c = refl

-- none of the names is among these
abbrev AreNew : List (List ℕ) → List (List ℕ) → Type 0
AreNew base names = AllByRecursion (λ name. has_name base name ≡ false) names

AreNew-push : (base : List (List ℕ)) (x : List ℕ) (names : List (List ℕ)) → AreNew base names → AllByRecursion (λ y. slice_cmp nat_cmp x y ≡ Less) names → AreNew (base ++ x ∷ []) names
AreNew-push base x [] new above = tt
AreNew-push base x (y ∷ names) new above =
    (has_name-push base x y ∙ ap (λ b. b || bytes_eq y x) new.0 ∙ differs_back x y above.0, AreNew-push base x names new.1 above.1)

ascending-seen : (base names : List (List ℕ)) → AreNew base names → IsStrictlySortedBy (slice_cmp nat_cmp) names → fold with_name base names ≡ base ++ names
unfolding IsStrictlySortedBy
ascending-seen base [] new s = sym (append-nil base)
ascending-seen base (x ∷ names) new s =
    ap (λ l. fold with_name l names) (ap (λ b. cond b base (base ++ x ∷ [])) new.0)
    ∙ ascending-seen (base ++ x ∷ []) names (AreNew-push base x names new.1 s.0) s.1
    ∙ append_assoc base (x ∷ []) names

all_new : (names : List (List ℕ)) → AreNew [] names
all_new [] = tt
all_new (x ∷ names) = (refl, all_new names)

-- names in order first appear in that order
pub first_seen-in_byte_order : (names : List (List ℕ)) → first_seen (in_byte_order names) ≡ in_byte_order names
first_seen-in_byte_order names = ascending-seen [] (in_byte_order names) (all_new (in_byte_order names)) (in_byte_order-ascends names)

-- ---- first appearances have the names

has_name-same : (names : List (List ℕ)) (x name : List ℕ) → has_name names x ≡ true → has_name names name ≡ (bytes_eq name x || has_name names name)
has_name-same names x name there = go (bytes_eq name x) refl
  where
    go : (b : Bool) → bytes_eq name x ≡ b → has_name names name ≡ (b || has_name names name)
    go true e = ap (has_name names) ((bytes_decides name x).0 e) ∙ there
    go false e = refl

has_name-with_name : (names : List (List ℕ)) (x name : List ℕ) → has_name (with_name names x) name ≡ (bytes_eq name x || has_name names name)
has_name-with_name names x name =
    elim (has_name names x) as (λ v. has_name names x ≡ v → has_name (cond v names (names ++ x ∷ [])) name ≡ (bytes_eq name x || has_name names name)) [
      | true ↦ λ e. has_name-same names x name e
      | false ↦ λ e. has_name-push names x name ∙ or_comm (has_name names name) (bytes_eq name x)
    ] refl
  where
    or_comm : (a b : Bool) → (a || b) ≡ (b || a)
    or_comm true true = refl
    or_comm true false = refl
    or_comm false true = refl
    or_comm false false = refl

has_name-seen : (base names : List (List ℕ)) (name : List ℕ) → has_name (fold with_name base names) name ≡ (has_name names name || has_name base name)
has_name-seen base [] name = refl
has_name-seen base (x ∷ names) name =
    has_name-seen (with_name base x) names name
    ∙ ap (λ b. has_name names name || b) (has_name-with_name base x name)
    ∙ regroup (has_name names name) (bytes_eq name x) (has_name base name)
  where
    regroup : (a b c : Bool) → (a || (b || c)) ≡ ((b || a) || c)
    regroup true true c = refl
    regroup true false c = refl
    regroup false true c = refl
    regroup false false c = refl

pub first_seen-has : (names : List (List ℕ)) (name : List ℕ) → has_name (first_seen names) name ≡ has_name names name
first_seen-has names name = has_name-seen [] names name ∙ or_none (has_name names name)
  where
    or_none : (b : Bool) → (b || false) ≡ b
    or_none true = refl
    or_none false = refl

-- ---- lists in order that have the same names are one list

not_among : (x : List ℕ) (names : List (List ℕ)) → AllByRecursion (λ y. slice_cmp nat_cmp x y ≡ Less) names → has_name names x ≡ false
not_among x [] above = refl
not_among x (y ∷ names) above = ap (λ b. b || has_name names x) (differs x y above.0) ∙ not_among x names above.1

below_rest : (x y : List ℕ) (names : List (List ℕ)) → slice_cmp nat_cmp x y ≡ Less → AllByRecursion (λ z. slice_cmp nat_cmp y z ≡ Less) names → has_name (y ∷ names) x ≡ false
below_rest x y names less above = not_among x (y ∷ names) (less, below_all (slice_cmp nat_cmp) nat_list_cmp_total x y names less above)

first_there : (x : List ℕ) (names : List (List ℕ)) → has_name (x ∷ names) x ≡ true
first_there x names = ap (λ b. b || has_name names x) (same_bytes x)

apart : {A : Type 0} (x y : List ℕ) (xs ys : List (List ℕ)) → ((name : List ℕ) → has_name (x ∷ xs) name ≡ has_name (y ∷ ys) name) → slice_cmp nat_cmp x y ≡ Less
    → AllByRecursion (λ z. slice_cmp nat_cmp y z ≡ Less) ys → A
apart x y xs ys h less above = absurd (true≢false (sym (first_there x xs) ∙ h x ∙ below_rest x y ys less above))

rest_same : (x : List ℕ) (xs ys : List (List ℕ)) → ((name : List ℕ) → has_name (x ∷ xs) name ≡ has_name (x ∷ ys) name) → has_name xs x ≡ false → has_name ys x ≡ false
    → (name : List ℕ) → has_name xs name ≡ has_name ys name
rest_same x xs ys h no_xs no_ys name = go (bytes_eq name x) refl
  where
    go : (b : Bool) → bytes_eq name x ≡ b → has_name xs name ≡ has_name ys name
    go true e = let same = (bytes_decides name x).0 e in ap (has_name xs) same ∙ no_xs ∙ sym no_ys ∙ ap (has_name ys) (sym same)
    go false e = sym (ap (λ b. b || has_name xs name) e) ∙ h name ∙ ap (λ b. b || has_name ys name) e

pub ascending-same : (xs ys : List (List ℕ)) → IsStrictlySortedBy (slice_cmp nat_cmp) xs → IsStrictlySortedBy (slice_cmp nat_cmp) ys
    → ((name : List ℕ) → has_name xs name ≡ has_name ys name) → xs ≡ ys
unfolding IsStrictlySortedBy
ascending-same [] [] s t h = refl
ascending-same [] (y ∷ ys) s t h = absurd (true≢false (sym (first_there y ys) ∙ sym (h y)))
ascending-same (x ∷ xs) [] s t h = absurd (true≢false (sym (first_there x xs) ∙ h x))
ascending-same (x ∷ xs) (y ∷ ys) s t h =
    elim (slice_cmp nat_cmp x y) as (λ o. slice_cmp nat_cmp x y ≡ o → x ∷ xs ≡ y ∷ ys) [
      | Less ↦ λ e. apart x y xs ys h e t.0
      | Greater ↦ λ e. apart y x ys xs (λ name. sym (h name)) (nat_list_cmp_total.antisymm y x ∙ ap ordering_reverse e) s.0
      | Equal ↦ λ e.
          let same : y ≡ x = sym (equal_names x y e) in
          let above = subst (λ z. AllByRecursion (λ w. slice_cmp nat_cmp z w ≡ Less) ys) same t.0 in
          let both = λ (name : List ℕ). h name ∙ ap (λ z. has_name (z ∷ ys) name) same in
          ap (λ l. x ∷ l) (ascending-same xs ys s.1 t.1 (rest_same x xs ys both (not_among x xs s.0) (not_among x ys above))) ∙ ap (λ z. z ∷ ys) (sym same)
    ] refl
