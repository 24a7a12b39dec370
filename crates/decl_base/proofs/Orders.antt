-- Fractions are in a total order by their values.
use Rattle.std.proofs.Common.{◌≡◌, ℕ, ◌*◌, ◌<◌, Less, Equal, Greater, Ordering, nat_cmp, refl, sym, ap, ap₂, ◌∙◌, arith}
use Rattle.std.specs.Cmp.{nat_cmp_total, tied_itself}
use Rattle.std.specs.Ordering.{ordering_reverse}
use Rattle.std.proofs.Math.Nat.{mul-lt-mul_of_pos_right, lt_of_mul-lt-mul_right}
use Rattle.std.proofs.lemmas.Bool.Decides.{nat_tests}
use Rattle.decl_base.specs.Fraction.{IsOrder}

is_less : (m n : ℕ) → nat_cmp m n ≡ Less → m < n
is_less m n h = grind (arith, nat_tests)

less_is : (m n : ℕ) → m < n → nat_cmp m n ≡ Less
less_is m n h = grind (arith, nat_tests)

is_equal : (m n : ℕ) → nat_cmp m n ≡ Equal → m ≡ n
is_equal m n h = grind (arith, nat_tests)

-- on three numerators and three denominators above 0
chain_lt : (a b c p q r : ℕ) → 0 < p → 0 < q → 0 < r → a * q < b * p → b * r < c * q → a * r < c * p
chain_lt a b c p q r hp hq hr h k =
    let one : a * q * r < b * p * r = mul-lt-mul_of_pos_right h hr in
    let two : b * r * p < c * q * p = mul-lt-mul_of_pos_right k hp in
    let three : a * r * q < c * p * q = omega (arith, one, two) in
    lt_of_mul-lt-mul_right q three

-- both sides times a number above 0
scale : (m n k : ℕ) → 0 < k → nat_cmp (m * k) (n * k) ≡ nat_cmp m n
scale m n k h = go (nat_cmp m n) refl
  where
    go : (o : Ordering) → nat_cmp m n ≡ o → nat_cmp (m * k) (n * k) ≡ o
    go Less e = less_is (m * k) (n * k) (mul-lt-mul_of_pos_right (is_less m n e) h)
    go Equal e = let same : m ≡ n = is_equal m n e in rw same (tied_itself nat_cmp_total (n * k))
    go Greater e =
        nat_cmp_total.antisymm (m * k) (n * k)
        ∙ ap ordering_reverse (less_is (n * k) (m * k) (mul-lt-mul_of_pos_right (is_less n m (nat_cmp_total.antisymm n m ∙ ap ordering_reverse e)) h))

chain_eq : (a b c p q r : ℕ) → 0 < p → 0 < q → a * q ≡ b * p → nat_cmp (a * r) (c * p) ≡ nat_cmp (b * r) (c * q)
chain_eq a b c p q r hp hq h =
    let left : a * r * q ≡ b * r * p = omega (arith, ap (λ x. x * r) h) in
    let right : c * p * q ≡ c * q * p = omega arith in
    sym (scale (a * r) (c * p) q hq) ∙ ap₂ nat_cmp left right ∙ scale (b * r) (c * q) p hp

pub ordered : IsOrder
ordered = record {
  reversed = λ f g. nat_cmp_total.antisymm (f.num * g.den) (g.num * f.den);
  chained = λ f g h p q r first second.
      less_is (f.num * h.den) (h.num * f.den) (chain_lt f.num g.num h.num f.den g.den h.den p q r (is_less (f.num * g.den) (g.num * f.den) first) (is_less (g.num * h.den) (h.num * g.den) second));
  tied = λ f g h p q same. chain_eq f.num g.num h.num f.den g.den h.den p q (is_equal (f.num * g.den) (g.num * f.den) same);
}
