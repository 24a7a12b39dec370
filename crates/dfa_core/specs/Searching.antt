-- Internal: the order in which a search finds states.
use Rattle.std.specs.Prelude.{◌≡◌, ℕ, zero, suc, ◌*◌, ◌^◌, ◌/◌, ◌%◌, ◌+◌, ◌<◌, ◌≤◌, List, [], ◌∷◌, ◌++◌, Option, Some, None, length, MatchOption, slice_index_or as get_or, slice_set as set}
use Rattle.dfa_core.specs.Steps.{Steps}
use Rattle.dfa_core.specs.declared.search.Search.{Search}

-- A step whose target has a number. The target was found by this step, or by one at an earlier place.
pub record IsFollowed (s : Steps) (states found : List ℕ) (t x : ℕ) : Type 0 where
  pub number : ℕ
  pub bound : number < length states
  pub is : get_or states number 0 ≡ s.next (get_or states t 0) x
  pub by : 0 < number → get_or found number 0 ≤ t * s.symbols + x

-- The states that were found, in the order of their numbers, and by which steps, when so many steps are done. They go row after row: the place of
-- a step is the number of its state times the number of symbols, and its symbol.
pub record IsSearch (s : Steps) (states found : List ℕ) (done : ℕ) : Type 0 where
  pub some : 0 < length states
  pub first : get_or states 0 0 ≡ s.start
  pub below : (t : ℕ) → t < length states → get_or states t 0 < s.states
  pub distinct : (q r : ℕ) → q < length states → r < length states → get_or states q 0 ≡ get_or states r 0 → q ≡ r
  pub found_length : length found ≡ length states
  pub found_before : (t : ℕ) → 0 < t → t < length states → get_or found t 0 < done
  pub found_earlier : (t : ℕ) → 0 < t → t < length states → get_or found t 0 < t * s.symbols
  pub found_there : (t : ℕ) → 0 < t → t < length states
      → s.next (get_or states (get_or found t 0 / s.symbols) 0) (get_or found t 0 % s.symbols) ≡ get_or states t 0
  pub found_in_order : (q r : ℕ) → 0 < q → q < r → r < length states → get_or found q 0 < get_or found r 0
  pub followed : (t x : ℕ) → t < length states → x < s.symbols → t * s.symbols + x < done → IsFollowed s states found t x

-- so many states, and the number of each that was found
pub record AreNumbers (count : ℕ) (states : List ℕ) (numbers : List (Option ℕ)) : Type 0 where
  pub numbers_length : length numbers ≡ count
  pub numbered : (t : ℕ) → t < length states → get_or numbers (get_or states t 0) None ≡ Some t
  pub named : (q t : ℕ) → get_or numbers q None ≡ Some t → (t < length states) × (get_or states t 0 ≡ q)

-- a search that goes on when so many steps are done
pub record IsOn (s : Steps) (search : Search) (done : ℕ) : Type 0 where
  pub fits : s.states < 2 ^ 32
  pub order : IsSearch s search.states.items search.found.items done
  pub numbers : AreNumbers s.states search.states.items search.numbers.items

-- the state has a number
pub record HasNumber (old new : Search) (known number : ℕ) : Type 0 where
  pub is : number ≡ known
  pub states : new.states.items ≡ old.states.items
  pub found : new.found.items ≡ old.found.items
  pub numbers : new.numbers.items ≡ old.numbers.items

-- the state takes the next number, and was found by the step at the place
pub record TakesNumber (old new : Search) (state place number : ℕ) : Type 0 where
  pub is : number ≡ length old.states.items
  pub states : new.states.items ≡ old.states.items ++ state ∷ []
  pub found : new.found.items ≡ old.found.items ++ place ∷ []
  pub numbers : new.numbers.items ≡ set old.numbers.items state (Some (length old.states.items))

abbrev pub Numbers : Search → Search → ℕ → ℕ → ℕ → Type 0
Numbers old new state place number = MatchOption (get_or old.numbers.items state None) (TakesNumber old new state place number) (λ known. HasNumber old new known number)

-- What one more step does, from a number by a symbol: it leads to a number. A state that it finds has the last number.
pub record Follows (s : Steps) (old new : Search) (done at x number : ℕ) : Type 0 where
  pub on : IsOn s new (done + 1)
  pub bound : number < length new.states.items
  pub is : get_or new.states.items number 0 ≡ s.next (get_or old.states.items at 0) x
  pub grows : length old.states.items ≤ length new.states.items
  pub stay : (t : ℕ) → t < length old.states.items → get_or new.states.items t 0 ≡ get_or old.states.items t 0
  pub last : (t : ℕ) → length old.states.items ≤ t → t < length new.states.items → (t ≡ number) × (number ≡ length old.states.items)

-- the entries of a table so far, row after row
pub record AreEntries (s : Steps) (states next : List ℕ) : Type 0 where
  pub bound : (t x : ℕ) → x < s.symbols → t * s.symbols + x < length next → get_or next (t * s.symbols + x) 0 < length states
  pub are : (t x : ℕ) → x < s.symbols → t * s.symbols + x < length next → get_or states (get_or next (t * s.symbols + x) 0) 0 ≡ s.next (get_or states t 0) x

-- all that can be reached was found, and the table of its numbers has all rows
pub record IsExplored (s : Steps) (states next : List ℕ) : Type 0 where
  pub found : List ℕ
  pub search : IsSearch s states found (length states * s.symbols)
  pub few : length states ≤ s.states
  pub fits : s.states < 2 ^ 32
  pub table_length : length next ≡ length states * s.symbols
  pub entries : AreEntries s states next

-- the symbols by which a number was found, the last of them by the step at its place
abbrev pub path : ℕ → List ℕ → ℕ → ℕ → List ℕ
path s found zero t = []
path s found (suc n) zero = []
path s found (suc n) (suc t) = path s found n (get_or found (suc t) 0 / s) ++ (get_or found (suc t) 0 % s) ∷ []
