-- The summary of a mined sample: ten lines, each a word and a number.
use Rattle.std.specs.Prelude.{ℕ, List, [], ◌∷◌, ◌++◌, length, codes, decimal, count_by}
use Rattle.std.specs.Str.{bytes_eq}
use Rattle.reduce_model.specs.declared.decision.Decision.{Decision}
use Rattle.reduce_model.specs.declared.decision.Decision.TheVariants.{Kept, Conflict, Weaker, FirstPass, SecondPass, Beyond, Untested}

-- the word for what becomes of a candidate
abbrev pub outcome : Decision → List ℕ
outcome Kept = codes "listed"
outcome Conflict = codes "conflict"
outcome (Weaker by) = codes "weaker"
outcome FirstPass = codes "first-pass"
outcome SecondPass = codes "second-pass"
outcome Beyond = codes "beyond"
outcome Untested = codes "untested"

-- how many have that outcome
abbrev pub count_with : List ℕ → List Decision → ℕ
count_with word decisions = count_by (λ decision. bytes_eq (outcome decision) word) decisions

-- a line of the summary
abbrev pub number_line : List ℕ → ℕ → List ℕ
number_line word number = word ++ 32 ∷ [] ++ decimal number ++ 10 ∷ []

abbrev pub outcome_line : List Decision → List ℕ → List ℕ
outcome_line decisions word = number_line word (count_with word decisions)

abbrev pub summary_of : ℕ → ℕ → ℕ → ℕ → List Decision → List ℕ
summary_of seed traces events tasks decisions =
    number_line (codes "seed") seed
    ++ number_line (codes "traces") traces
    ++ number_line (codes "events") events
    ++ number_line (codes "tasks") tasks
    ++ number_line (codes "candidates") (length decisions)
    ++ outcome_line decisions (codes "listed")
    ++ outcome_line decisions (codes "conflict")
    ++ outcome_line decisions (codes "weaker")
    ++ outcome_line decisions (codes "first-pass")
    ++ outcome_line decisions (codes "second-pass")
