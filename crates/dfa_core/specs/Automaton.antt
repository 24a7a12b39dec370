-- Automata as tables. What they accept is said of their steps, so that nothing else depends on the form of the table.
use Rattle.std.specs.Prelude.{◌≡◌, ℕ, ◌*◌, ◌+◌, ◌<◌, ◌≤◌, ◌^◌, List, length, Bool, true, false, slice_index_or as get_or}
use Rattle.dfa_core.specs.Shortlex.{IsBefore, IsAtMost}
use Rattle.dfa_core.specs.Steps.{Steps, run as run_of, accepts as accepts_of}
use Rattle.dfa_core.specs.Traces.{IsTrace}

-- Each symbol has a column. A table of states has, row after row, one entry for each column.
pub record Automaton : Type 0 where
  pub symbols : ℕ
  pub columns : List ℕ
  pub width : ℕ
  pub start : ℕ
  pub next : List ℕ
  pub accepting : List Bool

-- The automaton of its parts. It has as many symbols as there are columns of symbols.
abbrev pub automaton : List ℕ → ℕ → ℕ → List ℕ → List Bool → Automaton
automaton columns width start next accepting = record { symbols = length columns; columns = columns; width = width; start = start; next = next; accepting = accepting }

-- as many states as there are marks of acceptance
abbrev pub state_count : Automaton → ℕ
state_count a = length a.accepting

-- the column of a symbol
abbrev pub column : Automaton → ℕ → ℕ
column a x = get_or a.columns x 0

-- the state after a symbol of a column
unfoldable pub step_column : Automaton → ℕ → ℕ → ℕ
step_column a q c = get_or a.next (q * a.width + c) 0

-- the state after a symbol
unfoldable pub step : Automaton → ℕ → ℕ → ℕ
step a q x = step_column a q (column a x)

-- whether a trace that ends at the state is accepted
abbrev pub is_accepting : Automaton → ℕ → Bool
is_accepting a q = get_or a.accepting q false

-- its steps
abbrev pub steps_of : Automaton → Steps
steps_of a = record { symbols = a.symbols; states = state_count a; start = a.start; next = step a; accepting = is_accepting a }

-- the state after a trace
abbrev pub run : Automaton → ℕ → List ℕ → ℕ
run a = run_of (steps_of a)

-- whether the run from the start ends at an accepting state
abbrev pub accepts : Automaton → List ℕ → Bool
accepts a = accepts_of (steps_of a)

-- the language of an automaton
abbrev pub Accepts : Automaton → List ℕ → Type 0
Accepts a w = accepts a w ≡ true

-- the column of each symbol is one of the table's, and the start and each entry of the table is a state
pub record IsWhole (a : Automaton) : Type 0 where
  pub start_bound : a.start < state_count a
  pub few_states : state_count a < 2 ^ 32
  pub few_symbols : a.symbols < 2 ^ 32
  pub few_columns : a.width < 2 ^ 32
  pub column_bound : (x : ℕ) → x < a.symbols → column a x < a.width
  pub table_length : length a.next ≡ state_count a * a.width
  pub entry_bound : (q c : ℕ) → q < state_count a → c < a.width → step_column a q c < state_count a

-- one state, and every trace is accepted
pub record IsEverything (symbols : ℕ) (a : Automaton) : Type 0 where
  pub over : a.symbols ≡ symbols
  pub one_state : state_count a ≡ 1
  pub accepts_all : (w : List ℕ) → IsTrace symbols w → accepts a w ≡ true

-- the same traces over the same symbols
pub record SameLanguage (a b : Automaton) : Type 0 where
  pub over : a.symbols ≡ b.symbols
  pub same : (w : List ℕ) → IsTrace a.symbols w → accepts a w ≡ accepts b w

-- Each state is reached. Of the traces that lead to it, one is the least, and the least traces of the states are in the order of the states' numbers.
pub record IsBreadthFirst (a : Automaton) : Type 0 where
  pub to : ℕ → List ℕ
  pub over : (q : ℕ) → q < state_count a → IsTrace a.symbols (to q)
  pub reached : (q : ℕ) → q < state_count a → run a a.start (to q) ≡ q
  pub least : (w : List ℕ) → IsTrace a.symbols w → IsAtMost (to (run a a.start w)) w
  pub in_order : (q r : ℕ) → q < r → r < state_count a → IsBefore (to q) (to r)

-- It accepts the same traces. It has at most as many states, and one for each of theirs that is reached. Each is reached, and they are in order.
pub record IsReachable (s : Steps) (a : Automaton) : Type 0 where
  pub over : a.symbols ≡ s.symbols
  pub same : (w : List ℕ) → IsTrace s.symbols w → accepts a w ≡ accepts_of s w
  pub one_for_state : (u w : List ℕ) → IsTrace s.symbols u → IsTrace s.symbols w → run_of s s.start u ≡ run_of s s.start w → run a a.start u ≡ run a a.start w
  pub few : state_count a ≤ s.states
  pub whole : IsWhole a
  pub in_order : IsBreadthFirst a
