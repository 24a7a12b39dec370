-- The table of a check: a heading, and a line for each constraint of the model.
use Rattle.std.specs.Prelude.{List, ℕ, [], ◌∷◌, ◌++◌, codes, Option, Some, None}
use Rattle.std.specs.List.{flat_map, zip}
use Rattle.template_core.specs.declared.constraint.Constraint.{Constraint}
use Rattle.trace_check.specs.declared.checked.Broken.{Broken}
use Rattle.trace_check.specs.declared.checked.Checked.{Checked}
use Rattle.report_text.specs.Fields.{column, columns, constraint_text}

abbrev pub check_heading : List ℕ
check_heading = codes " activated  fulfilled       kept      trace      place constraint\n"

-- the first broken trace and its first broken place, or `-` twice where no trace breaks the constraint
abbrev pub broken_columns : Option Broken → List ℕ
broken_columns None = column 10 (codes "-") ++ column 10 (codes "-")
broken_columns (Some broken) = columns 10 (broken.trace ∷ broken.place ∷ [])

abbrev pub check_line : List (List ℕ) → Constraint → Checked → List ℕ
check_line names c row =
    columns 10 (row.activated ∷ row.fulfilled ∷ row.kept ∷ []) ++ broken_columns row.broken ++ constraint_text names c ++ 10 ∷ []

-- each constraint with its row
abbrev pub check_table_text : List (List ℕ) → List Constraint → List Checked → List ℕ
check_table_text names list rows = check_heading ++ flat_map (λ p. check_line names p.0 p.1) (zip list rows)
