-- What the text of an option means, where it is in the grammar of the option.
use Rattle.std.specs.Prelude.{◌≤◌, ℕ, List, [], ◌∷◌, Bool, true, false, ◌&&◌, Option, Some, None, codes, length, nat_le, if◌then◌else◌, option_and_then}
use Rattle.std.specs.List.{list_all}
use Rattle.std.specs.Str.{bytes_eq}
use Rattle.decl_base.specs.Limits.{greatest_state_limit, standard}
use Rattle.decl_base.specs.Threshold.{is_digit, number_of_digits}
use Rattle.log_columns.specs.declared.OrderAs.{OrderAs}
use Rattle.log_columns.specs.declared.OrderAs.TheVariants as order
use Rattle.template_core.specs.declared.repertoire.Repertoire.{Repertoire}
use Rattle.template_core.specs.declared.repertoire.Repertoire.TheVariants as repertoire
use Rattle.minerful_words.specs.declared.settings.Format.{Format}
use Rattle.minerful_words.specs.declared.settings.Format.TheVariants as format
use Rattle.minerful_words.specs.declared.settings.Stage.{Stage}
use Rattle.minerful_words.specs.declared.settings.Stage.TheVariants as stage
use Rattle.minerful_words.specs.declared.settings.Out.{Out}
use Rattle.minerful_words.specs.declared.settings.Out.TheVariants as out

-- the number of digits that a whole number has at most
abbrev pub most_digits : ℕ
most_digits = 10

-- one decimal digit to ten, and nothing else
abbrev pub is_whole_number : List ℕ → Bool
is_whole_number text = nat_le 1 (length text) && nat_le (length text) most_digits && list_all is_digit text

-- the whole number that a text writes in decimal digits
unfoldable pub whole_number_of : List ℕ → Option ℕ
whole_number_of text = if is_whole_number text then Some (number_of_digits text) else None

-- the number, where it is within its bounds
abbrev pub between : ℕ → ℕ → ℕ → Option ℕ
between least most n = if nat_le least n && nat_le n most then Some n else None

-- the whole number that a text writes, where it is within its bounds
unfoldable pub number_between : ℕ → ℕ → List ℕ → Option ℕ
number_between least most text = option_and_then (between least most) (whole_number_of text)

abbrev pub IsBetween : ℕ → ℕ → ℕ → Type 0
IsBetween least most n = (least ≤ n) × (n ≤ most)

abbrev pub IsLimit : ℕ → Type 0
IsLimit states = IsBetween 1 greatest_state_limit states

-- the greatest seed, number of traces, length of a trace and number of letters that a log is generated with
abbrev pub most_seed : ℕ
most_seed = 4294967295

abbrev pub most_traces : ℕ
most_traces = standard.traces

abbrev pub most_length : ℕ
most_length = 1000

abbrev pub most_letters : ℕ
most_letters = 26

-- the greatest number of traces that an analysis lists
abbrev pub most_listed : ℕ
most_listed = 20

-- the value that a text names, of a list of names and what each stands for
abbrev pub named_in : {A : Type 0} → List (List ℕ × A) → List ℕ → Option A
named_in [] text = None
named_in ((name, value) ∷ others) text = if bytes_eq text name then Some value else named_in others text

unfoldable pub format_of : List ℕ → Option Format
format_of text = named_in ((codes "string", format.Strings) ∷ (codes "csv", format.Csv) ∷ []) text

unfoldable pub order_as_of : List ℕ → Option OrderAs
order_as_of text = named_in ((codes "text", order.Text) ∷ (codes "number", order.Number) ∷ []) text

unfoldable pub stage_of : List ℕ → Option Stage
stage_of text = named_in ((codes "model", stage.Model) ∷ (codes "consistent", stage.Consistent) ∷ (codes "scores", stage.Scores) ∷ []) text

unfoldable pub out_of : List ℕ → Option Out
out_of text = named_in ((codes "json", out.Json) ∷ (codes "table", out.Table) ∷ (codes "cert", out.Cert) ∷ []) text

unfoldable pub repertoire_of : List ℕ → Option Repertoire
repertoire_of text = named_in ((codes "1", repertoire.First) ∷ (codes "2", repertoire.Second) ∷ []) text

-- whether a run keeps on where the limit on states is met
unfoldable pub keep_of : List ℕ → Option Bool
keep_of text = named_in ((codes "stop", false) ∷ (codes "keep", true) ∷ []) text
