-- Traces over the names of a model and one name more, which no constraint has.
use Rattle.std.specs.Prelude.{ℕ, List, Option, Some, None, map, slice_get}
use Rattle.serde_json.specs.Data.{Data, array, null, string}
use Rattle.serde_json.specs.View.{items_of}
use Rattle.serde_json.specs.Written.{compact_text}

-- a name, and `null` for the symbol behind the last name
abbrev pub name_or_null : Option (List ℕ) → Data
name_or_null (Some name) = string name
name_or_null None = null

-- a trace as a JSON list of names
abbrev pub open_trace_value : List (List ℕ) → List ℕ → Data
open_trace_value names trace = array (items_of (map (λ symbol. name_or_null (slice_get names symbol)) trace))

-- and its text
abbrev pub open_trace_text : List (List ℕ) → List ℕ → List ℕ
open_trace_text names trace = compact_text (open_trace_value names trace)
