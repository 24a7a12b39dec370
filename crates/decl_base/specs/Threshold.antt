-- Thresholds, and the texts that write them.
use Rattle.std.specs.Prelude.{ℕ, ◌+◌, ◌-◌, ◌*◌, ◌^◌, List, [], ◌∷◌, Bool, ◌&&◌, ◌==◌, if◌then◌else◌, nat_le, Option, None, Some, fold, length}
use Rattle.std.specs.List.{list_all}

-- how many millionths are 1
abbrev pub one : ℕ
one = 1000000

-- a threshold: the least score that a candidate may have, of which contracts know no more than its number
pub record ThresholdValue : Type 0 where
  pub millionths : ℕ

abbrev pub is_digit : ℕ → Bool
is_digit byte = nat_le 48 byte && nat_le byte 57

-- the number that decimal digits write, the highest first
abbrev pub number_of_digits : List ℕ → ℕ
number_of_digits digits = fold (λ number digit. number * 10 + (digit - 48)) 0 digits

-- what 1 to 6 digits behind a point write, in millionths
abbrev pub fraction_of : List ℕ → Option ℕ
fraction_of digits =
    if nat_le 1 (length digits) && nat_le (length digits) 6 && list_all is_digit digits
    then Some (number_of_digits digits * 10 ^ (6 - length digits)) else None

-- a digit before the point, with the millionths behind it: at most 1
abbrev pub at_most_one : ℕ → Option ℕ → Option ℕ
at_most_one whole None = None
at_most_one whole (Some fraction) =
    if whole == 48 then Some fraction else (if whole == 49 && fraction == 0 then Some one else None)

-- what a text writes, in millionths: one digit 0 or 1, alone or followed by a point and 1 to 6 digits, at most 1
abbrev pub threshold_of : List ℕ → Option ℕ
threshold_of [] = None
threshold_of (whole ∷ []) = at_most_one whole (Some 0)
threshold_of (whole ∷ point ∷ digits) = if point == 46 then at_most_one whole (fraction_of digits) else None

-- the fraction num/den is at least so many millionths
abbrev pub is_met : ℕ → ℕ → ℕ → Bool
is_met millionths num den = nat_le (millionths * den) (num * one)
