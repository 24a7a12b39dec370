-- Logs that hold the same traces equally often.
use Rattle.std.specs.Prelude.{◌≡◌, ℕ, List, count_by}
use Rattle.std.specs.Cmp.Lexicographic.{pointwise}
use Rattle.std.specs.Str.{bytes_eq}

-- how often a log holds a trace
abbrev pub times : List (List ℕ) → List (List (List ℕ)) → ℕ
times trace log = count_by (pointwise bytes_eq trace) log

-- in whatever order
abbrev pub HoldTheSame : List (List (List ℕ)) → List (List (List ℕ)) → Type 0
HoldTheSame log other = (trace : List (List ℕ)) → times trace log ≡ times trace other
