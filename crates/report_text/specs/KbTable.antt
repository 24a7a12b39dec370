-- The table of the knowledge base: the counters of a log.
use Rattle.std.specs.Prelude.{ℕ, List, [], ◌∷◌, ◌++◌, ◌==◌, length, codes, decimal, if◌then◌else◌}
use Rattle.std.specs.List.{flat_map, range_with_len}
use Rattle.template_core.specs.Counts.{unary_counts, pair_counts}
use Rattle.template_core.specs.declared.counts.PairCounts.{PairCounts}
use Rattle.template_core.specs.declared.counts.UnaryCounts.{UnaryCounts}
use Rattle.report_text.specs.Fields.{columns, quoted_at}

abbrev pub activity_heading : List ℕ
activity_heading = codes " occurrences       traces     repeated        first         last activity\n"

abbrev pub pair_heading : List ℕ
pair_heading = codes "     without     no_later   no_earlier         next     previous    rep_later  rep_earlier     together pair\n"

abbrev pub activity_numbers : UnaryCounts → List ℕ
activity_numbers c = c.occurrences ∷ c.traces ∷ c.repeated ∷ c.first ∷ c.last ∷ []

abbrev pub pair_numbers : PairCounts → List ℕ
pair_numbers c = c.without ∷ c.no_later ∷ c.no_earlier ∷ c.next ∷ c.previous ∷ c.rep_later ∷ c.rep_earlier ∷ c.together ∷ []

-- the line of an activity: its five counters and its name
abbrev pub activity_line : List (List ℕ) → List (List ℕ) → ℕ → List ℕ
activity_line names log a = columns 12 (activity_numbers (unary_counts a log)) ++ quoted_at names a ++ 10 ∷ []

-- the line of an ordered pair of activities: its eight counters and the two names
abbrev pub pair_line : List (List ℕ) → List (List ℕ) → ℕ → ℕ → List ℕ
pair_line names log a b = columns 12 (pair_numbers (pair_counts a b log)) ++ quoted_at names a ++ 32 ∷ [] ++ quoted_at names b ++ 10 ∷ []

-- the lines of the pairs of an activity with each other one
abbrev pub pair_lines : List (List ℕ) → List (List ℕ) → ℕ → List ℕ
pair_lines names log a = flat_map (λ b. if a == b then [] else pair_line names log a b) (range_with_len 0 (length names))

-- the table of a log of ranks, with the name of each rank
unfoldable pub kb_text : List (List ℕ) → List (List ℕ) → List ℕ
kb_text names log =
    codes "traces " ++ decimal (length log) ++ codes "\n"
    ++ activity_heading
    ++ flat_map (activity_line names log) (range_with_len 0 (length names))
    ++ pair_heading
    ++ flat_map (pair_lines names log) (range_with_len 0 (length names))
