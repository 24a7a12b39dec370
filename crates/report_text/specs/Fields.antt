-- The fields of a table's lines.
use Rattle.std.specs.Prelude.{ℕ, ◌-◌, List, [], ◌∷◌, ◌++◌, map, length, codes, decimal, replicate, slice_index_or}
use Rattle.std.specs.List.{flat_map, join_with_byte}
use Rattle.serde_json.specs.Data.{string}
use Rattle.serde_json.specs.Written.{compact_text}
use Rattle.template_core.specs.declared.constraint.Constraint.{Constraint}
use Rattle.template_set.specs.Names.{name_of}
use Rattle.model_json.specs.Report.{activities_of}

-- with spaces before it up to a width; a longer text as it is
abbrev pub right_in : ℕ → List ℕ → List ℕ
right_in width text = replicate (width - length text) 32 ++ text

-- a text right in a width, and a space
abbrev pub column : ℕ → List ℕ → List ℕ
column width text = right_in width text ++ 32 ∷ []

-- numbers, each in a column of the width
abbrev pub columns : ℕ → List ℕ → List ℕ
columns width numbers = flat_map (λ number. column width (decimal number)) numbers

-- a name as a JSON text, with its quotes
abbrev pub quoted : List ℕ → List ℕ
quoted name = compact_text (string name)

-- the name of a rank
abbrev pub quoted_at : List (List ℕ) → ℕ → List ℕ
quoted_at names rank = quoted (slice_index_or names rank [])

-- a constraint as its template's name and, in parentheses, its names joined by commas
abbrev pub constraint_text : List (List ℕ) → Constraint → List ℕ
constraint_text names c = name_of c.kind ++ codes "(" ++ join_with_byte 44 (map (quoted_at names) (activities_of c)) ++ codes ")"
