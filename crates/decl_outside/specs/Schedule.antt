-- Which calls of an outside in memory fail.
use Rattle.std.specs.Prelude.{ℕ, ◌+◌, ◌-◌, ◌^◌, ◌==◌, List, Bool, min}
use Rattle.std.specs.List.{list_any}

pub record Schedule : Type 0 where
  -- how many calls came
  pub calls : ℕ
  -- the numbers of the calls that fail, counted from 1
  pub failing : List ℕ

-- with one call more; the count stops at the end of its type
abbrev pub called : Schedule → Schedule
called s = record s { calls = min (s.calls + 1) (2 ^ 64 - 1) }

-- whether the next call fails
abbrev pub fails_next : Schedule → Bool
fails_next s = list_any (λ n. n == (called s).calls) s.failing
