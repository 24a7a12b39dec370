-- Numbers of few digits.
use Rattle.std.proofs.Common.{◌≡◌, ℕ, zero, suc, ◌*◌, ◌-◌, ◌^◌, ◌<◌, ◌≤◌, List, Some, true, length, nat_le, refl, arith}
use Rattle.std.proofs.lemmas.Bool.Decides.{nat_tests}
use Rattle.std.specs.List.{list_all}
use Rattle.decl_base.specs.Threshold.{is_digit, number_of_digits, fraction_of}

-- a number of n digits, put in millionths, is below 1
pub scaled : (n number : ℕ) → n ≤ 6 → number < 10 ^ n → number * 10 ^ (6 - n) < 1000000
scaled zero number l h = omega arith
scaled (suc zero) number l h = omega arith
scaled (suc (suc zero)) number l h = omega arith
scaled (suc (suc (suc zero))) number l h = omega arith
scaled (suc (suc (suc (suc zero)))) number l h = omega arith
scaled (suc (suc (suc (suc (suc zero))))) number l h = omega arith
scaled (suc (suc (suc (suc (suc (suc zero)))))) number l h = omega arith
scaled (suc (suc (suc (suc (suc (suc (suc n))))))) number l h = absurd (omega arith)

at_most : (m n : ℕ) → m ≤ n → nat_le m n ≡ true
at_most m n h = grind (arith, nat_tests)

pub fraction_of-digits : (digits : List ℕ) (number power : ℕ) → 0 < length digits → length digits ≤ 6 → list_all is_digit digits ≡ true
    → number ≡ number_of_digits digits → power ≡ 10 ^ (6 - length digits) → Some (number * power) ≡ fraction_of digits
fraction_of-digits digits number power some few all n p =
    let one : nat_le 1 (length digits) ≡ true = at_most 1 (length digits) some in
    let six : nat_le (length digits) 6 ≡ true = at_most (length digits) 6 few in
    rw (one, six, all, n, p) refl
