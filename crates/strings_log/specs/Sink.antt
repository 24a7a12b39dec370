-- A sink of traces: what it needs for one trace more, and what it holds then.
use Rattle.std.specs.Prelude.{ℕ, ◌+◌, ◌<◌, ◌≤◌, List, [], ◌∷◌, ◌++◌, All, length}
use Rattle.decl_base.specs.declared.limits.Limits.{Limits}
use Rattle.event_log.specs.Logs.{events_of}

-- behind these traces the limits let a trace in, whose numbers are those of activities, of which there are no fewer than before
pub record HasRoom (limits : Limits) (before : ℕ) (traces : List (List ℕ)) (activities : ℕ) (trace : List ℕ) : Type 0 where
  pub no_fewer : before ≤ activities
  pub few_activities : activities ≤ limits.activities
  pub few_traces : length traces < limits.traces
  pub few_events : length (events_of traces) + length trace ≤ limits.events
  pub known : All (λ id. id < activities) trace

-- it holds some traces, behind which there is room for this one
abbrev pub HasRoomFor : (Limits → ℕ → List (List ℕ) → Type 0) → ℕ → List ℕ → Type 0
HasRoomFor holds activities trace = (limits : Limits) × (before : ℕ) × (traces : List (List ℕ)) × holds limits before traces × HasRoom limits before traces activities trace

-- it holds this trace behind those that it held
abbrev pub Takes : (Limits → ℕ → List (List ℕ) → Type 0) → (Limits → ℕ → List (List ℕ) → Type 0) → ℕ → List ℕ → Type 0
Takes held holds activities trace = (limits : Limits) (before : ℕ) (traces : List (List ℕ)) → held limits before traces → HasRoom limits before traces activities trace
    → holds limits activities (traces ++ trace ∷ [])
