-- The tables of a mined model: a heading, and a line for each listed constraint.
use Rattle.std.specs.Prelude.{ℕ, List, [], ◌∷◌, ◌++◌, codes, decimal, Option, None, Some}
use Rattle.std.specs.List.{flat_map}
use Rattle.serde_json.specs.Written.{compact_text}
use Rattle.decl_base.specs.Fraction.{Fraction}
use Rattle.scoring.specs.declared.scored.Scored.{Scored}
use Rattle.reduce_model.specs.declared.decision.Decision.{Decision}
use Rattle.model_json.specs.Report.{staying, trace_value, with_witnesses}
use Rattle.report_text.specs.Fields.{column, constraint_text}

abbrev pub model_heading : List ℕ
model_heading = codes "     support   confidence     interest constraint\n"

-- a score as its numerator and its denominator
abbrev pub score_text : Fraction → List ℕ
score_text f = decimal f.num ++ codes "/" ++ decimal f.den

-- the three scores of a constraint, and the constraint
abbrev pub scored_text : List (List ℕ) → Scored → List ℕ
scored_text names s =
    column 12 (score_text s.support) ++ column 12 (score_text s.confidence) ++ column 12 (score_text s.interest) ++ constraint_text names s.constraint

abbrev pub scored_line : List (List ℕ) → Scored → List ℕ
scored_line names s = scored_text names s ++ 10 ∷ []

-- the trace that breaks a constraint alone, as a JSON list of names, or `-` where it is untested
abbrev pub witness_text : List (List ℕ) → Option (List ℕ) → List ℕ
witness_text names (Some witness) = compact_text (trace_value names witness)
witness_text names None = codes "-"

-- a constraint with its witness
abbrev pub listed_line : List (List ℕ) → Scored → Option (List ℕ) → List ℕ
listed_line names s witness = scored_text names s ++ (32 ∷ [] ++ witness_text names witness ++ 10 ∷ [])

-- all candidates
abbrev pub scores_table_text : List (List ℕ) → List Scored → List ℕ
scores_table_text names list = model_heading ++ flat_map (scored_line names) list

-- those that stay
abbrev pub consistent_table_text : List (List ℕ) → List Scored → List Decision → List ℕ
consistent_table_text names list decisions = scores_table_text names (staying list decisions)

-- those that stay, each with its witness
abbrev pub model_table_text : List (List ℕ) → List Scored → List Decision → List (List ℕ) → List ℕ
model_table_text names list decisions witnesses = model_heading ++ flat_map (λ p. listed_line names p.0 p.1) (with_witnesses list decisions witnesses)
