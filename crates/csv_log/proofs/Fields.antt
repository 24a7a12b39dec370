-- The field at a place of a row.
use Rattle.std.proofs.Common.{◌≡◌, ℕ, ◌<◌, ◌≤◌, List, [], Bool, true, false, Option, Some, None, IfSome, IfNone, option_map, length, get_or, nat_le, refl, sym, ◌∙◌, arith, Bor}
use Rattle.std.proofs.lemmas.Bool.Decides.{nat_tests}
use Rattle.csv.specs.Records.{field_at}
use Rattle.csv.proofs.RecordFacts.{field-none, field-get, field-there}

abbrev now : Bor (List ℕ) → List ℕ
now field = field.now

beyond : (m n : ℕ) → nat_le m n ≡ true → m ≤ n
beyond m n h = grind (arith, nat_tests)

pub within : (m n : ℕ) → nat_le m n ≡ false → n < m
within m n h = grind (arith, nat_tests)

module _ (fields : List (List ℕ)) (place : ℕ) where
  pub there : (found : Option (Bor (List ℕ))) → option_map now found ≡ field_at fields place → IfSome found (λ field. field.now ≡ get_or fields place [])
  there None h = tt
  there (Some field) h = sym (field-get fields place field.now (sym h))

  pub inside : (found : Option (Bor (List ℕ))) → option_map now found ≡ field_at fields place → IfSome found (λ field. nat_le (length fields) place ≡ false)
  inside None h = tt
  inside (Some field) h = go (nat_le (length fields) place) refl
    where
      go : (b : Bool) → nat_le (length fields) place ≡ b → b ≡ false
      go true e = let none = h ∙ field-none fields place (beyond _ _ e) in cc
      go false e = refl

  pub missing : (found : Option (Bor (List ℕ))) → option_map now found ≡ field_at fields place → IfNone found (nat_le (length fields) place ≡ true)
  missing None h = go (nat_le (length fields) place) refl
    where
      go : (b : Bool) → nat_le (length fields) place ≡ b → b ≡ true
      go true e = refl
      go false e = absurd (field-there fields place (within _ _ e) (sym h))
  missing (Some field) h = tt
