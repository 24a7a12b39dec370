-- The whole numbers that an order column may hold.
use Rattle.std.specs.Prelude.{ℕ, List, [], ◌∷◌, Option, None, Some, ◌&&◌, ◌==◌, if◌then◌else◌, nat_le, length, option_map, ℤ, pos, neg_ℤ}
use Rattle.std.specs.List.{list_all}
use Rattle.decl_base.specs.Threshold.{is_digit, number_of_digits}

-- the number that 1 to 18 decimal digits write
abbrev pub size_of : List ℕ → Option ℕ
size_of digits =
    if nat_le 1 (length digits) && nat_le (length digits) 18 && list_all is_digit digits
    then Some (number_of_digits digits) else None

-- the number that a text writes: 1 to 18 decimal digits, or a minus sign before them
abbrev pub number_of : List ℕ → Option ℤ
number_of [] = None
number_of (first ∷ rest) =
    if first == 45 then option_map (λ n. neg_ℤ (pos n)) (size_of rest) else option_map pos (size_of (first ∷ rest))
