-- What an automaton accepts together with a constraint's table or another automaton.
use Rattle.std.specs.Prelude.{◌≡◌, ℕ, ◌*◌, ◌<◌, ◌≤◌, List, ◌&&◌, ◌==◌, if◌then◌else◌}
use Rattle.dfa_core.specs.Traces.{IsTrace}
use Rattle.dfa_core.specs.Automaton.{Automaton, accepts, column, state_count}
use Rattle.dfa_core.specs.Columns.{HasSymbols}
use Rattle.template_core.specs.Tables.{keeps_by}
use Rattle.template_core.specs.declared.constraint.Constraint.{Constraint}
use Rattle.template_core.specs.declared.table.Table.{Table}

-- the traces that the automaton and the table accept, with at most as many states as there are pairs
pub record IsMeet (a : Automaton) (t : Table) (c : Constraint) (r : Automaton) : Type 0 where
  pub over : r.symbols ≡ a.symbols
  pub both : (w : List ℕ) → IsTrace a.symbols w → accepts r w ≡ (accepts a w && keeps_by t c w)
  pub few_states : state_count r ≤ state_count a * t.states

-- the traces that both automata accept, with at most as many states as there are pairs
pub record IsIntersection (a b r : Automaton) : Type 0 where
  pub over : r.symbols ≡ a.symbols
  pub both : (w : List ℕ) → IsTrace a.symbols w → accepts r w ≡ (accepts a w && accepts b w)
  pub few_states : state_count r ≤ state_count a * state_count b

-- how many activities a constraint has
abbrev pub activities : Constraint → ℕ
activities c = if c.first == c.second then 1 else 2

-- Two symbols have one column exactly where they have one in both automata, and each column has a symbol. So there are as many columns as there
-- are pairs of columns that some symbol has.
pub record HasPairsOfColumns (a b r : Automaton) : Type 0 where
  pub together : (x y : ℕ) → x < r.symbols → y < r.symbols → column a x ≡ column a y → column b x ≡ column b y → column r x ≡ column r y
  pub apart : (x y : ℕ) → x < r.symbols → y < r.symbols → column r x ≡ column r y → (column a x ≡ column a y) × (column b x ≡ column b y)
  pub some : HasSymbols r
