-- The text of two models compared: three lines.
use Rattle.std.specs.Prelude.{ℕ, List, [], ◌∷◌, ◌++◌, codes, Option, Some, None}
use Rattle.model_compare.specs.Comparison.{Comparison}
use Rattle.model_compare.specs.declared.compared.Relation.{Relation}
use Rattle.model_compare.specs.declared.compared.Relation.TheVariants.{Equal, Stronger, Weaker, Neither}
use Rattle.report_text.specs.OpenTraces.{open_trace_text}

-- what the first model is to the second
abbrev pub relation_name : Relation → List ℕ
relation_name Equal = codes "equal"
relation_name Stronger = codes "stronger"
relation_name Weaker = codes "weaker"
relation_name Neither = codes "neither"

-- a trace over the names and the symbol behind them, or `-` where there is none
abbrev pub trace_or_dash : List (List ℕ) → Option (List ℕ) → List ℕ
trace_or_dash names (Some trace) = open_trace_text names trace
trace_or_dash names None = codes "-"

-- a line of a word and such a trace
abbrev pub trace_line : List (List ℕ) → List ℕ → Option (List ℕ) → List ℕ
trace_line names word found = word ++ 32 ∷ [] ++ trace_or_dash names found ++ 10 ∷ []

-- what the first model is to the second, as a line
abbrev pub relation_line : Relation → List ℕ
relation_line relation = relation_name relation ++ 10 ∷ []

-- what the first model is to the second, and for each model the least trace that keeps it alone
abbrev pub comparison_text : List (List ℕ) → Comparison → List ℕ
comparison_text names c =
    relation_line c.relation ++ (trace_line names (codes "only first") c.only_first ++ trace_line names (codes "only second") c.only_second)
