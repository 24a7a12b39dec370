-- What holds while loops go on.
use Rattle.std.specs.Prelude.{◌≡◌, ℕ, ◌<◌, ◌≤◌, ◌*◌, ◌+◌, List, Option, None, Some, MatchOption, length, slice_index_or as get_or}
use Rattle.dfa_core.specs.Automaton.{Automaton, state_count, step_column}
use Rattle.dfa_minimise.specs.Classes.{LeadAlike, class_after}
use Rattle.dfa_minimise.specs.Partitions.{IsRefinable, IsTidy, MarksFit, is_in, is_marked}
use Rattle.dfa_minimise.specs.Preimages.{IsGreatest}
use Rattle.dfa_minimise.specs.declared.refinable.Refinable.{Refinable}

-- the numbers below n in order
pub record IsCounting (n : ℕ) (xs : List ℕ) : Type 0 where
  pub counted : length xs ≡ n
  pub each : (i : ℕ) → i < n → get_or xs i 0 ≡ i

-- what holds once some of the touched states are marked
pub record IsMarkedSoFar (old now : Refinable) (touched : List ℕ) : Type 0 where
  pub refinable : IsRefinable (length old.class.items) now.order.items now.place.items old.class.items old.first.items old.end.items
  pub class : now.class.items ≡ old.class.items
  pub first : now.first.items ≡ old.first.items
  pub end : now.end.items ≡ old.end.items
  pub fit : MarksFit old.first.items old.end.items now.marked.items
  pub marks : (q : ℕ) → q < length old.class.items → is_marked now.place.items old.class.items old.first.items now.marked.items q ≡ is_in touched q

-- what holds once the classes of some of the touched states are cut
pub record IsCutSoFar (old now : Refinable) (touched : List ℕ) (at : ℕ) : Type 0 where
  pub refinable : IsRefinable (length old.class.items) now.order.items now.place.items now.class.items now.first.items now.end.items
  pub fit : MarksFit now.first.items now.end.items now.marked.items
  pub class_length : length now.class.items ≡ length old.class.items
  pub grows : length old.first.items ≤ length now.first.items
  pub refines : (q r : ℕ) → q < length old.class.items → r < length old.class.items → get_or now.class.items q 0 ≡ get_or now.class.items r 0 → get_or old.class.items q 0 ≡ get_or old.class.items r 0
  pub parts : (q r : ℕ) → q < length old.class.items → r < length old.class.items → get_or old.class.items q 0 ≡ get_or old.class.items r 0 → (get_or now.class.items q 0 ≡ get_or now.class.items r 0 → ⊥)
      → is_in touched q ≡ is_in touched r → ⊥
  pub clean : (q r : ℕ) → q < length old.class.items → r < length old.class.items → get_or now.marked.items (get_or now.class.items q 0) 0 ≡ 0 → get_or now.class.items q 0 ≡ get_or now.class.items r 0 → is_in touched q ≡ is_in touched r
  pub dirty : (q : ℕ) → q < length old.class.items → 0 < get_or now.marked.items (get_or now.class.items q 0) 0 → is_marked now.place.items now.class.items now.first.items now.marked.items q ≡ is_in touched q
  pub done : (j : ℕ) → j < at → get_or now.marked.items (get_or now.class.items (get_or touched j 0) 0) 0 ≡ 0
  pub stays : (q : ℕ) → q < length old.class.items → get_or now.class.items q 0 < length old.first.items → get_or now.class.items q 0 ≡ get_or old.class.items q 0

-- where a column leads two states of one class into classes below a number, it leads them into one class
pub record IsStableBelow (a : Automaton) (class : List ℕ) (count : ℕ) : Type 0 where
  pub stable : (q r k : ℕ) → q < state_count a → r < state_count a → k < a.width → get_or class q 0 ≡ get_or class r 0
      → get_or class (step_column a q k) 0 < count → get_or class (step_column a r k) 0 < count → get_or class (step_column a q k) 0 ≡ get_or class (step_column a r k) 0

-- what holds while the cells are filled, up to a column and a state
pub record AreFilled (a : Automaton) (column state : ℕ) (last before : List (Option ℕ)) : Type 0 where
  pub last_length : length last ≡ a.width * state_count a
  pub before_length : length before ≡ a.width * state_count a
  pub last_done : (k t : ℕ) → k < a.width → t < state_count a → k < column → IsGreatest a k t (state_count a) (get_or last (k * state_count a + t) None)
  pub last_at : (k t : ℕ) → k < a.width → t < state_count a → k ≡ column → IsGreatest a k t state (get_or last (k * state_count a + t) None)
  pub last_open : (k t : ℕ) → k < a.width → t < state_count a → column < k → IsGreatest a k t 0 (get_or last (k * state_count a + t) None)
  pub before_of : (k q : ℕ) → k < a.width → q < state_count a → k * state_count a + q < column * state_count a + state
      → IsGreatest a k (step_column a q k) q (get_or before (k * state_count a + q) None)

-- what holds while the columns are put into groups: from the members of the classes below a number, columns of one group lead to one class
pub record AreGroupedBelow (a : Automaton) (class members : List ℕ) (groups : Refinable) (count : ℕ) : Type 0 where
  pub tidy : IsTidy groups
  pub columns : 0 < a.width → length groups.class.items ≡ a.width
  pub alike : (c j k : ℕ) → c < count → j < a.width → k < a.width → get_or groups.class.items j 0 ≡ get_or groups.class.items k 0
      → class_after a class (get_or members c 0) j ≡ class_after a class (get_or members c 0) k
  pub one : (j k : ℕ) → j < a.width → k < a.width → LeadAlike a class j k → get_or groups.class.items j 0 ≡ get_or groups.class.items k 0

-- one above a number, where there is one
abbrev pub after : Option ℕ → ℕ
after None = 0
after (Some g) = g + 1

-- a state at which a walk goes on
abbrev pub LeadsTo : Automaton → ℕ → ℕ → Option ℕ → Type 0
LeadsTo a k target o = MatchOption o (Unit {0}) (λ g. (g < state_count a) × (step_column a g k ≡ target))
