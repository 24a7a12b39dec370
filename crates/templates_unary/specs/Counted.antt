-- The automata of the templates that count: the state after an event, which states accept, and their numbers of the counters.
use Rattle.std.proofs.Common.{arith}
use Rattle.std.specs.Prelude.{◌==◌, ℕ, zero, suc, ◌+◌, ◌-◌, not, Bool, min, slice_index_or}
use Rattle.template_core.specs.Automaton.{TemplateMeaning}
use Rattle.template_core.specs.declared.class.Class.{Class}
use Rattle.template_core.specs.declared.class.Class.TheVariants.{First, Second, Other}
use Rattle.template_core.specs.declared.counts.UnaryCounts.{UnaryCounts}

-- the number of a's so far, up to the top
abbrev pub next_after : ℕ → ℕ → Class → ℕ
next_after top state First = min (state + 1) top
next_after top state Second = state
next_after top state Other = state

abbrev pub accepts_at : ℕ → ℕ → Bool
accepts_at n state = state == n

abbrev pub accepts_below : ℕ → ℕ → Bool
accepts_below top state = not (state == top)

-- the traces with more than n a's, of the counters of a: of the traces with a, all but those with exactly 1 to n
abbrev pub more_than : UnaryCounts → ℕ → ℕ
more_than counts zero = counts.traces
more_than counts (suc n) = more_than counts n - slice_index_or counts.exact n 0

abbrev pub exactly : ℕ → TemplateMeaning
exactly n = record { fulfilled_by = λ counts. slice_index_or counts.first.exact (n - 1) 0; states = n + 2; some_states = omega arith; next = next_after (n + 1); accepts = accepts_at n }

abbrev pub at_least : ℕ → TemplateMeaning
at_least n = record { fulfilled_by = λ counts. more_than counts.first (n - 1); states = n + 1; some_states = omega arith; next = next_after n; accepts = accepts_at n }

abbrev pub at_most : ℕ → TemplateMeaning
at_most n = record { fulfilled_by = λ counts. counts.traces - more_than counts.first n; states = n + 2; some_states = omega arith; next = next_after (n + 1); accepts = accepts_below (n + 1) }
