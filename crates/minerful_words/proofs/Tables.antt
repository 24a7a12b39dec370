-- The rows of a table that are left, one after the other.
use Rattle.std.proofs.Common.{◌≡◌, ℕ, ◌+◌, ◌<◌, ◌≤◌, List, ◌∷◌, Option, Result, Ok, length, map, drop, get_or, refl, sym, ap, subst, ◌∙◌, add-one, drop-cons}
use Rattle.std.proofs.lemmas.List.{at_drop_all}
use Rattle.clap.specs.Words.{Row, Text}
use Rattle.decl_base.specs.declared.refusal.Refusal.{Refusal}
use Rattle.minerful_words.specs.Rows.{option_row}
use Rattle.minerful_words.specs.Settings.{◌>>=◌, Refuses, text_for, with_text, with_texts}
use Rattle.minerful_words.specs.declared.settings.Command.{Command}
use Rattle.minerful_words.specs.declared.settings.Settings.{Settings}
use Rattle.minerful_words.specs.declared.table.CommandOption.{CommandOption}
use Rattle.minerful_words.proofs.First.{refuses_first}

-- the next row, and those behind it
rows-next : {A B : Type 0} (row : A → B) (xs : List A) (k : ℕ) (d : A) → k < length xs → map row (drop k xs) ≡ row (get_or xs k d) ∷ map row (drop (k + 1) xs)
rows-next row xs k d inside = rw (add-one, drop-cons xs k d) refl

module _ (command : Command) (found : List Row) (options : List CommandOption) (k : ℕ) (d : CommandOption) (inside : k < length options) (s : Settings)
    (text : Option Text) (is : text ≡ text_for command found (option_row (get_or options k d))) where
  first : with_texts (map option_row (drop k options)) command found s
      ≡ with_text (option_row (get_or options k d)) text s >>= with_texts (map option_row (drop (k + 1) options)) command found
  unfolding with_texts
  first =
      ap (λ rows. with_texts rows command found s) (rows-next option_row options k d inside)
      ∙ ap (λ t. with_text (option_row (get_or options k d)) t s >>= with_texts (map option_row (drop (k + 1) options)) command found) (sym is)

  -- the text of the next option is given
  pub with_texts-next : (t : Settings) → with_text (option_row (get_or options k d)) text s ≡ Ok t
      → with_texts (map option_row (drop k options)) command found s ≡ with_texts (map option_row (drop (k + 1) options)) command found t
  with_texts-next t given = first ∙ ap (λ r. r >>= with_texts (map option_row (drop (k + 1) options)) command found) given

  -- a refusal of the next option's text is one of all that are left
  pub with_texts-refused : (e : Refusal) → Refuses e (with_text (option_row (get_or options k d)) text s) → Refuses e (with_texts (map option_row (drop k options)) command found s)
  with_texts-refused e refused =
      subst (Refuses e) (sym first) (refuses_first (with_text (option_row (get_or options k d)) text s) (with_texts (map option_row (drop (k + 1) options)) command found) e refused)

-- no option is left, so all texts are given
pub with_texts-all : (command : Command) (found : List Row) (options : List CommandOption) (k : ℕ) (s : Settings) (whole : Result Settings ℕ)
    → length options ≤ k → with_texts (map option_row (drop k options)) command found s ≡ whole → whole ≡ Ok s
unfolding with_texts
with_texts-all command found options k s whole done left =
    sym left ∙ at_drop_all (λ rows. with_texts (map option_row rows) command found s) options k done
