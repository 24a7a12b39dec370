-- What a log of numbers is to a caller: a list of traces, with its two limits beside it.
use Rattle.std.specs.Prelude.{◌≡◌, ℕ, ◌≤◌, List, [], ◌∷◌, ◌++◌, length, drop, slice_range}
use Rattle.decl_base.specs.declared.refusal.Refusal.{Refusal}
use Rattle.decl_base.specs.declared.refusal.Refusal.TheVariants as refusal
use Rattle.event_log.specs.Logs.{events_of}

pub record Traces : Type 0 where
  pub traces : List (List ℕ)
  -- at most so many traces
  pub trace_limit : ℕ
  -- at most so many events
  pub event_limit : ℕ

-- the same with an empty trace at the end
abbrev pub with_trace : Traces → Traces
with_trace log = record log { traces = log.traces ++ [] ∷ [] }

-- the traces with an event at the end of the last one
abbrev pub with_last : List (List ℕ) → ℕ → List (List ℕ)
with_last [] id = []
with_last (trace ∷ []) id = (trace ++ id ∷ []) ∷ []
with_last (trace ∷ next ∷ traces) id = trace ∷ with_last (next ∷ traces) id

-- the same with an event at the end of the last trace
abbrev pub with_event : Traces → ℕ → Traces
with_event log id = record log { traces = with_last log.traces id }

-- why a trace was not begun
abbrev pub BeginCause : Traces → Refusal → Type 0
BeginCause old (refusal.Traces n) = (n ≡ old.trace_limit) × (length old.traces ≡ old.trace_limit)
BeginCause old refusal.Memory = Unit {0}
BeginCause old _ = ⊥

-- why an event was not put in
abbrev pub PushCause : Traces → Refusal → Type 0
PushCause old (refusal.Events n) = (n ≡ old.event_limit) × (length (events_of old.traces) ≡ old.event_limit)
PushCause old refusal.Memory = Unit {0}
PushCause old _ = ⊥

-- the events between each of these places and the next, and those from the last one on
abbrev pub cut_at : List ℕ → List ℕ → List (List ℕ)
cut_at [] events = []
cut_at (start ∷ []) events = drop start events ∷ []
cut_at (start ∷ next ∷ starts) events = slice_range events start next ∷ cut_at (next ∷ starts) events

-- these places ascend from one on, up to another
abbrev pub AscendsTo : ℕ → List ℕ → ℕ → Type 0
AscendsTo low [] high = low ≤ high
AscendsTo low (start ∷ starts) high = (low ≤ start) × AscendsTo start starts high

-- the first of these places is 0, or there is none and no event
abbrev pub StartsAtZero : List ℕ → List ℕ → Type 0
StartsAtZero [] events = events ≡ []
StartsAtZero (start ∷ starts) events = start ≡ 0
