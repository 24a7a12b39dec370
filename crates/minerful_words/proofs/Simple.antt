-- Each command is simple, so its matches and its refusals are a function of the words.
use Rattle.std.proofs.Common.{◌≡◌, List, [], ◌∷◌, Bool, true, false, cond, ◌&&◌, Some, refl, sym, ap, ◌∙◌}
use Rattle.std.specs.List.{list_all}
use Rattle.std.specs.Prelude.{find}
use Rattle.std.specs.Str.{bytes_eq}
use Rattle.clap.specs.Words.{Text, is_simple_and_free}
use Rattle.clap.proofs.OnLiterals.{clap_on_literals}
use Rattle.minerful_words.specs.Apps.{app_for}
use Rattle.minerful_words.specs.Table.{CommandRow, commands, options, row_named}

abbrev is_simple_row : CommandRow → Bool
is_simple_row row = is_simple_and_free (app_for row)

all_are_simple : list_all is_simple_row commands ≡ true
unfolding clap_on_literals app_for commands options
all_are_simple = refl

first_part : (a b : Bool) → (a && b) ≡ true → a ≡ true
first_part true b h = refl
first_part false b h = h

second_part : (a b : Bool) → (a && b) ≡ true → b ≡ true
second_part true b h = h
second_part false b h = cc

-- what is found among rows that all pass passes
step : (p q : CommandRow → Bool) (r row : CommandRow) (rows : List CommandRow) (b : Bool) → p r ≡ true → (find q rows ≡ Some row → p row ≡ true) → cond b (Some r) (find q rows) ≡ Some row → p row ≡ true
step p q r row rows true here rest e = let same : r ≡ row = cc in ap p (sym same) ∙ here
step p q r row rows false here rest e = rest e

found_passes : (p q : CommandRow → Bool) (rows : List CommandRow) (row : CommandRow) → list_all p rows ≡ true → find q rows ≡ Some row → p row ≡ true
found_passes p q [] row all found = cc
found_passes p q (r ∷ rows) row all found =
    step p q r row rows (q r) (first_part (p r) (list_all p rows) all) (found_passes p q rows row (second_part (p r) (list_all p rows) all)) found

pub named_is_simple : (text : Text) (row : CommandRow) → row_named text ≡ Some row → is_simple_and_free (app_for row) ≡ true
unfolding row_named
named_is_simple text row found = found_passes is_simple_row (λ r. bytes_eq r.name text) commands row all_are_simple found
