-- Internal: the traces that stand after a given one, as an automaton.
use Rattle.std.specs.Prelude.{ℕ, ◌+◌, ◌*◌, ◌/◌, ◌%◌, List, [], ◌∷◌, length, ◌==◌, nat_lt, slice_index_or as get_or, if◌then◌else◌}
use Rattle.dfa_core.specs.Columns.{Columns}
use Rattle.dfa_core.specs.Steps.{Steps}

-- where an event x stands to an event y: 0 below it, 1 at it, 2 above it
unfoldable pub side : ℕ → ℕ → ℕ
side y x = if nat_lt x y then 0 else (if x == y then 1 else 2)

-- How what is read stands to the given trace: as at their first difference, and 1 where there is none so far. This is so after one more event x,
-- where the given trace has y.
abbrev pub standing : ℕ → ℕ → ℕ → ℕ
standing before y x = if before == 1 then side y x else before

-- A place of the given trace and a standing are one state. The last state is that of the longer traces. The accepting states are this and the one
-- of the traces that end with the given one and stand above it.
abbrev pub after_steps : ℕ → List ℕ → Steps
after_steps n t = record {
  symbols = n;
  states = length t * 3 + 4;
  start = 1;
  next = λ q x. if nat_lt (q / 3) (length t) then (q / 3 + 1) * 3 + standing (q % 3) (get_or t (q / 3) 0) x else length t * 3 + 3;
  accepting = λ q. nat_lt (length t * 3 + 1) q;
}

-- the sum of a symbol's sides to the events of a trace
abbrev pub sides : List ℕ → ℕ → ℕ
sides [] x = 0
sides (y ∷ t) x = side y x + sides t x

-- Symbols of one sum of sides are in one column: the greater the symbol, the greater each side, so that equal sums have equal sides.
abbrev pub side_columns : List ℕ → Columns
side_columns t = record { count = length t * 2 + 1; of = sides t }
