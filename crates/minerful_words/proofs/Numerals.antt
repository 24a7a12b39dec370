-- What `parse` gives of a whole number.
use Rattle.std.proofs.Common.{◌≡◌, ℕ, ◌+◌, ◌-◌, ◌*◌, ◌^◌, ◌<◌, ◌≤◌, List, fold, true, false, rules, arith, length, Result, Ok, Bool, ◌&&◌, nat_le, refl}
use Rattle.std.specs.List.{list_all}
use Rattle.std.specs.Str.Parse.{ParsesUnsigned}
use Rattle.std.proofs.lemmas.Bool.Decides.{nat_tests}
use Rattle.std.proofs.lemmas.Str.Parse.{IsNumeralModel, numerals_by_fold, parse_gives, digits_value_short}
use Rattle.decl_base.specs.Threshold.{is_digit, number_of_digits}
use Rattle.minerful_words.specs.Grammars.{is_whole_number}

abbrev number_after : ℕ → List ℕ → ℕ
number_after n digits = fold (λ number digit. number * 10 + (digit - 48)) n digits

own : IsNumeralModel (λ ds. list_all is_digit ds ≡ true) number_of_digits
own = numerals_by_fold _ (search rules) number_after (search rules)

both : (a b : Bool) → (a && b) ≡ true → (a ≡ true) × (b ≡ true)
both true b h = (refl, h)
both false b h = absurd (search (rules, h))

from_test : (m n : ℕ) → nat_le m n ≡ true → m ≤ n
from_test m n h = grind (arith, nat_tests)

-- a whole number is read as its value
pub parse-whole : {E : Type 0} → (text : List ℕ) (r : Result ℕ E) → ParsesUnsigned 64 10 text r → is_whole_number text ≡ true → r ≡ Ok (number_of_digits text)
parse-whole text r h whole =
    let parts = both (nat_le 1 (length text) && nat_le (length text) 10) (list_all is_digit text) whole in
    let lengths = both (nat_le 1 (length text)) (nat_le (length text) 10) parts.0 in
    let some : 1 ≤ length text = from_test 1 (length text) lengths.0 in
    let few : length text ≤ 10 = from_test (length text) 10 lengths.1 in
    let small : number_of_digits text < 10 ^ 10 = digits_value_short own text 10 parts.1 few in
    parse_gives own 64 text r h parts.1 (omega arith) (omega arith)
