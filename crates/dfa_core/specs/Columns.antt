-- Symbols in columns: those of one column lead alike from every state.
use Rattle.std.specs.Prelude.{◌≡◌, ℕ, ◌<◌}
use Rattle.dfa_core.specs.Automaton.{Automaton, column}
use Rattle.dfa_core.specs.Steps.{Steps}

-- how many columns there are, and that of each symbol
pub record Columns : Type 0 where
  pub count : ℕ
  pub of : ℕ → ℕ

-- those of an automaton
abbrev pub columns_of : Automaton → Columns
columns_of a = record { count = a.width; of = column a }

-- each symbol has a column, and two symbols of one column lead alike
pub record AreColumns (s : Steps) (c : Columns) : Type 0 where
  pub bound : (x : ℕ) → x < s.symbols → c.of x < c.count
  pub alike : (q x y : ℕ) → x < s.symbols → y < s.symbols → c.of x ≡ c.of y → s.next q x ≡ s.next q y

-- each column has a symbol
pub record HasSymbols (a : Automaton) : Type 0 where
  pub symbol : ℕ → ℕ
  pub bound : (k : ℕ) → k < a.width → symbol k < a.symbols
  pub of : (k : ℕ) → k < a.width → column a (symbol k) ≡ k

-- Two symbols have one column in an automaton exactly where they have one among the columns, and each column of the automaton has a symbol.
pub record HasColumns (c : Columns) (a : Automaton) : Type 0 where
  pub within : (x : ℕ) → x < a.symbols → c.of x < c.count
  pub together : (x y : ℕ) → x < a.symbols → y < a.symbols → c.of x ≡ c.of y → column a x ≡ column a y
  pub apart : (x y : ℕ) → x < a.symbols → y < a.symbols → column a x ≡ column a y → c.of x ≡ c.of y
  pub some : HasSymbols a
