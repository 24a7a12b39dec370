-- The template whose expression is asked for, and the word that the expression is tried on.
use Rattle.std.specs.Prelude.{ℕ, List, Bool, true, ◌||◌, ◌&&◌, ◌==◌, Option, None, Some, length, nat_le}
use Rattle.std.specs.List.{find, list_all}
use Rattle.std.specs.Str.{bytes_eq}
use Rattle.template_core.specs.Constraints.{arity}
use Rattle.template_core.specs.declared.kind.Kind.{Kind}
use Rattle.template_set.specs.Names.{all_kinds, name_of}

-- the template of this name
abbrev pub kind_named : List ℕ → Option Kind
kind_named text = find (λ kind. bytes_eq text (name_of kind)) all_kinds

-- the letters of a word for so many activities: `a` and `x`, and `b` where there are two
abbrev pub is_letter : ℕ → ℕ → Bool
is_letter activities byte = (byte == 97) || (byte == 120) || ((byte == 98) && (activities == 2))

-- the number of characters that a word has at most; each letter is a character of one byte
abbrev pub longest_word : ℕ
longest_word = 64

unfoldable pub is_word : Kind → List ℕ → Bool
is_word kind text = nat_le (length text) longest_word && list_all (is_letter (arity kind)) text

-- no word is asked for, or one of the template's letters
abbrev pub is_word_if_any : Kind → Option (List ℕ) → Bool
is_word_if_any kind None = true
is_word_if_any kind (Some text) = is_word kind text
