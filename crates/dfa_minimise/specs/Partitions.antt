-- Internal: partitions of the states below a number.
use Rattle.std.specs.Prelude.{◌≡◌, ℕ, ◌<◌, ◌≤◌, ◌+◌, ◌^◌, ◌⊎◌, ◌++◌, ◌∷◌, [], List, map, length, Bool, ◌||◌, ◌==◌, nat_lt, slice_index_or as get_or}
use Rattle.std.specs.List.{list_any}
use Rattle.dfa_minimise.specs.declared.refinable.Refinable.{Refinable}

-- each state has a class, and each class a member
pub record IsPartition (n : ℕ) (class members : List ℕ) : Type 0 where
  pub states : length class ≡ n
  pub class_bound : (q : ℕ) → q < n → get_or class q 0 < length members
  pub member_bound : (c : ℕ) → c < length members → get_or members c 0 < n
  pub member_class : (c : ℕ) → c < length members → get_or class (get_or members c 0) 0 ≡ c

-- the state that stands first in each class
abbrev pub members_of : Refinable → List ℕ
members_of p = map (λ f. get_or p.order.items f 0) p.first.items

-- `order` has each state once, the states of each class together
pub record IsRefinable (n : ℕ) (order place class first end : List ℕ) : Type 0 where
  pub order_length : length order ≡ n
  pub place_length : length place ≡ n
  pub class_length : length class ≡ n
  pub end_length : length end ≡ length first
  pub place_bound : (q : ℕ) → q < n → get_or place q 0 < n
  pub order_bound : (i : ℕ) → i < n → get_or order i 0 < n
  pub order_place : (q : ℕ) → q < n → get_or order (get_or place q 0) 0 ≡ q
  pub place_order : (i : ℕ) → i < n → get_or place (get_or order i 0) 0 ≡ i
  pub class_bound : (q : ℕ) → q < n → get_or class q 0 < length first
  pub class_first : (q : ℕ) → q < n → get_or first (get_or class q 0) 0 ≤ get_or place q 0
  pub class_end : (q : ℕ) → q < n → get_or place q 0 < get_or end (get_or class q 0) 0
  pub some : (c : ℕ) → c < length first → get_or first c 0 < get_or end c 0
  pub end_bound : (c : ℕ) → c < length first → get_or end c 0 ≤ n
  pub class_order : (c i : ℕ) → c < length first → get_or first c 0 ≤ i → i < get_or end c 0 → get_or class (get_or order i 0) 0 ≡ c

-- the states of each class stand together
abbrev pub IsGrouped : Refinable → Type 0
IsGrouped p = IsRefinable (length p.class.items) p.order.items p.place.items p.class.items p.first.items p.end.items

-- the marked states of a class stand at its front
pub record MarksFit (first end marked : List ℕ) : Type 0 where
  pub marks_length : length marked ≡ length first
  pub marks_bound : (c : ℕ) → c < length first → get_or first c 0 + get_or marked c 0 ≤ get_or end c 0

-- whether a state stands among the marked ones of its class
abbrev pub is_marked : List ℕ → List ℕ → List ℕ → List ℕ → ℕ → Bool
is_marked place class first marked q = nat_lt (get_or place q 0) (get_or first (get_or class q 0) 0 + get_or marked (get_or class q 0) 0)

-- no class has a mark
pub record HasNoMarks (marked : List ℕ) : Type 0 where
  pub none : (c : ℕ) → get_or marked c 0 ≡ 0

-- one more state is marked
pub record Marks (n : ℕ) (old new : Refinable) (state : ℕ) : Type 0 where
  pub refinable : IsRefinable n new.order.items new.place.items old.class.items old.first.items old.end.items
  pub class : new.class.items ≡ old.class.items
  pub first : new.first.items ≡ old.first.items
  pub end : new.end.items ≡ old.end.items
  pub fit : MarksFit old.first.items old.end.items new.marked.items
  pub marks : (q : ℕ) → q < n
      → is_marked new.place.items old.class.items old.first.items new.marked.items q ≡ (is_marked old.place.items old.class.items old.first.items old.marked.items q || (state == q))

-- whether a state is one of a list
abbrev pub is_in : List ℕ → ℕ → Bool
is_in states q = list_any (λ x. x == q) states

-- States of one class part exactly where one is touched and the other isn't. States that leave their class go to new classes.
pub record IsCut (n count : ℕ) (touched old new : List ℕ) : Type 0 where
  pub refines : (q r : ℕ) → q < n → r < n → get_or new q 0 ≡ get_or new r 0 → get_or old q 0 ≡ get_or old r 0
  pub parts : (q r : ℕ) → q < n → r < n → get_or old q 0 ≡ get_or old r 0 → (get_or new q 0 ≡ get_or new r 0 → ⊥) → is_in touched q ≡ is_in touched r → ⊥
  pub together : (q r : ℕ) → q < n → r < n → get_or new q 0 ≡ get_or new r 0 → is_in touched q ≡ is_in touched r
  pub stays : (q : ℕ) → q < n → get_or new q 0 < count → get_or new q 0 ≡ get_or old q 0

-- a partition of fewer than 2^32 states that has no mark
pub record IsTidy (p : Refinable) : Type 0 where
  pub refinable : IsGrouped p
  pub fit : MarksFit p.first.items p.end.items p.marked.items
  pub no_marks : HasNoMarks p.marked.items
  pub few : length p.class.items < 2 ^ 32

-- A class more, with places from one to another. The states at these places before `at` are in it.
pub record Begins (old new : Refinable) (from to at : ℕ) : Type 0 where
  pub order : new.order.items ≡ old.order.items
  pub place : new.place.items ≡ old.place.items
  pub first : new.first.items ≡ old.first.items ++ from ∷ []
  pub end : new.end.items ≡ old.end.items ++ to ∷ []
  pub marked : new.marked.items ≡ old.marked.items ++ 0 ∷ []
  pub class_length : length new.class.items ≡ length old.class.items
  pub inside : (q : ℕ) → q < length old.class.items → from ≤ get_or old.place.items q 0 → get_or old.place.items q 0 < at → get_or new.class.items q 0 ≡ length old.first.items
  pub outside : (q : ℕ) → q < length old.class.items → (from ≤ get_or old.place.items q 0 → get_or old.place.items q 0 < at → ⊥) → get_or new.class.items q 0 ≡ get_or old.class.items q 0

-- the marked states of a class part from its others, and its marks are gone
pub record CutsClass (old new : Refinable) (c : ℕ) : Type 0 where
  pub order : new.order.items ≡ old.order.items
  pub place : new.place.items ≡ old.place.items
  pub class_length : length new.class.items ≡ length old.class.items
  pub refinable : IsRefinable (length old.class.items) old.order.items old.place.items new.class.items new.first.items new.end.items
  pub fit : MarksFit new.first.items new.end.items new.marked.items
  pub grows : length old.first.items ≤ length new.first.items
  pub others : (d : ℕ) → d < length old.first.items → (d ≡ c → ⊥) → (get_or new.first.items d 0 ≡ get_or old.first.items d 0) × (get_or new.marked.items d 0 ≡ get_or old.marked.items d 0)
  pub cleared : get_or new.marked.items c 0 ≡ 0
  pub new_cleared : (d : ℕ) → length old.first.items ≤ d → get_or new.marked.items d 0 ≡ 0
  pub stays : (q : ℕ) → q < length old.class.items → (get_or new.class.items q 0 ≡ get_or old.class.items q 0) ⊎ ((get_or old.class.items q 0 ≡ c) × (length old.first.items ≤ get_or new.class.items q 0))
  pub parts : (q r : ℕ) → q < length old.class.items → r < length old.class.items → get_or old.class.items q 0 ≡ c → get_or old.class.items r 0 ≡ c
      → is_marked old.place.items old.class.items old.first.items old.marked.items q ≡ is_marked old.place.items old.class.items old.first.items old.marked.items r → get_or new.class.items q 0 ≡ get_or new.class.items r 0
  pub together : (q r : ℕ) → q < length old.class.items → r < length old.class.items → get_or old.class.items q 0 ≡ c → get_or old.class.items r 0 ≡ c → get_or new.class.items q 0 ≡ get_or new.class.items r 0
      → is_marked old.place.items old.class.items old.first.items old.marked.items q ≡ is_marked old.place.items old.class.items old.first.items old.marked.items r
