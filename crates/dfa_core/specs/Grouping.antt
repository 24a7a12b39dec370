-- Internal: columns that are numbered in the order of their least symbols, and a search that goes over them.
use Rattle.std.specs.Prelude.{◌≡◌, ℕ, ◌<◌, ◌≤◌, ◌∷◌, [], ◌++◌, List, Option, Some, None, MatchOption, length, slice_index_or as get_or, slice_set as set}
use Rattle.dfa_core.specs.Columns.{Columns}
use Rattle.dfa_core.specs.Steps.{Steps}
use Rattle.dfa_core.specs.declared.columns.Grouping.{Grouping}

-- Of the symbols below n the numbers of their columns, and of each number the least symbol. Two symbols have one number exactly where they have
-- one column.
pub record IsGrouped (c : Columns) (n : ℕ) (of least : List ℕ) : Type 0 where
  pub of_length : length of ≡ n
  pub few : length least ≤ n
  pub of_bound : (x : ℕ) → x < n → get_or of x 0 < length least
  pub least_bound : (k : ℕ) → k < length least → get_or least k 0 < n
  pub least_of : (k : ℕ) → k < length least → get_or of (get_or least k 0) 0 ≡ k
  pub at_most : (x : ℕ) → x < n → get_or least (get_or of x 0) 0 ≤ x
  pub ascending : (j k : ℕ) → j < k → k < length least → get_or least j 0 < get_or least k 0
  pub apart : (x : ℕ) → x < n → c.of (get_or least (get_or of x 0) 0) ≡ c.of x
  pub together : (x y : ℕ) → x < n → y < n → c.of x ≡ c.of y → get_or of x 0 ≡ get_or of y 0

-- the number of each column that was met
pub record AreMet (c : Columns) (n : ℕ) (of least : List ℕ) (numbers : List (Option ℕ)) : Type 0 where
  pub numbers_length : length numbers ≡ c.count
  pub numbered : (x : ℕ) → x < n → get_or numbers (c.of x) None ≡ Some (get_or of x 0)
  pub named : (i k : ℕ) → get_or numbers i None ≡ Some k → (k < length least) × (c.of (get_or least k 0) ≡ i)

-- a symbol of a column that has a number
pub record IsOfKnown (old new : Grouping) (number : ℕ) : Type 0 where
  pub of : new.of.items ≡ old.of.items ++ number ∷ []
  pub least : new.least.items ≡ old.least.items
  pub numbers : new.numbers.items ≡ old.numbers.items

-- a symbol that is the least of its column, which takes the next number
pub record IsLeastOf (old new : Grouping) (symbol column : ℕ) : Type 0 where
  pub of : new.of.items ≡ old.of.items ++ length old.least.items ∷ []
  pub least : new.least.items ≡ old.least.items ++ symbol ∷ []
  pub numbers : new.numbers.items ≡ set old.numbers.items column (Some (length old.least.items))

-- one symbol more
abbrev pub Adds : Grouping → Grouping → ℕ → ℕ → Type 0
Adds old new symbol column = MatchOption (get_or old.numbers.items column None) (IsLeastOf old new symbol column) (λ number. IsOfKnown old new number)

-- The same states, with numbers of columns as symbols. Each leads where its least symbol does.
abbrev pub by_columns : Steps → List ℕ → Steps
by_columns s least = record { symbols = length least; states = s.states; start = s.start; next = λ q k. s.next q (get_or least k 0); accepting = s.accepting }
