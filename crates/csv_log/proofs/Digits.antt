-- Numbers of at most 18 digits.
use Rattle.std.proofs.Common.{◌≡◌, ℕ, ◌+◌, ◌-◌, ◌*◌, ◌^◌, ◌<◌, ◌≤◌, List, true, length, get_or, lit<, arith}
use Rattle.std.proofs.Math.Nat.{pow-le-pow_right}
use Rattle.std.proofs.lemmas.Bool.Decides.{nat_tests}
use Rattle.std.proofs.lemmas.List.Sums.{AllPass-from_list_all}
use Rattle.std.specs.List.{list_all}
use Rattle.decl_base.specs.Threshold.{is_digit}

-- one digit more fits 64 bits
pub one_more : (places number : ℕ) → places < 18 → number < 10 ^ places → number * 10 + 9 < 2 ^ 64
one_more places number few h =
    let most : 10 ^ places ≤ 10 ^ 17 = pow-le-pow_right {n = 10} (lit< tt) {i = places} {j = 17} (omega arith) in
    omega arith

pub within_18 : (places number : ℕ) → places ≤ 18 → number < 10 ^ places → number < 10 ^ 18
within_18 places number few h =
    let most : 10 ^ places ≤ 10 ^ 18 = pow-le-pow_right {n = 10} (lit< tt) {i = places} {j = 18} few in
    omega arith

is_size : (byte : ℕ) → is_digit byte ≡ true → byte - 48 ≤ 9
is_size byte h = grind (arith, nat_tests)

pub size_at : (digits : List ℕ) (place : ℕ) → place < length digits → list_all is_digit digits ≡ true → get_or digits place 0 - 48 ≤ 9
size_at digits place inside all = is_size (get_or digits place 0) (AllPass-from_list_all is_digit digits all place 0 inside)
