-- The text of an analysed model: lines of a word and what it tells.
use Rattle.std.specs.Prelude.{ℕ, List, [], ◌∷◌, ◌++◌, codes, map, Option, Some, None}
use Rattle.std.specs.List.{flat_map}
use Rattle.serde_json.specs.Data.{Data, array, number, unsigned}
use Rattle.serde_json.specs.View.{items_of}
use Rattle.serde_json.specs.Written.{compact_text}
use Rattle.model_compare.specs.Analysis.{Analysis}
use Rattle.report_text.specs.OpenTraces.{open_trace_text}

-- a word, a space, a text, and the end of the line
abbrev pub word_line : List ℕ → List ℕ → List ℕ
word_line word text = word ++ (32 ∷ [] ++ text ++ 10 ∷ [])

-- the least trace that keeps the model, or `none`
abbrev pub accepts_line : List (List ℕ) → Option (List ℕ) → List ℕ
accepts_line names (Some trace) = word_line (codes "accepts") (open_trace_text names trace)
accepts_line names None = word_line (codes "accepts") (codes "none")

-- numbers as a JSON list
abbrev pub numbers_value : List ℕ → Data
numbers_value numbers = array (items_of (map (λ n. number (unsigned n)) numbers))

-- a line for each trace
abbrev pub trace_lines : List (List ℕ) → List (List ℕ) → List ℕ
trace_lines names traces = flat_map (λ trace. word_line (codes "trace") (open_trace_text names trace)) traces

-- the least trace, the names that never stand, the numbers of the constraints that the others imply, and the first traces
abbrev pub analysis_text : List (List ℕ) → Analysis → List ℕ
analysis_text names a =
    accepts_line names a.accepts ++ (word_line (codes "dead") (open_trace_text names a.dead) ++ (word_line (codes "redundant") (compact_text (numbers_value a.redundant)) ++ trace_lines names a.traces))
