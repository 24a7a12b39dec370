-- What a run over the lines of running cases prints, and why it ends early.
use Rattle.std.specs.Prelude.{◌≡◌, ℕ, ◌<◌, ◌≤◌, ◌++◌, List, ◌∷◌, Option, None, Some, IfSome, length}
use Rattle.std.specs.Io.KnownBytes.{append_known, prepend_known}
use Rattle.decl_base.specs.Limits.{standard}
use Rattle.decl_base.specs.declared.limits.Limits.{Limits}
use Rattle.decl_base.specs.declared.refusal.Refusal.{Refusal}
use Rattle.decl_base.specs.declared.refusal.Refusal.TheVariants as refusal
use Rattle.decl_outside.specs.Faults.{Rose}
use Rattle.decl_outside.specs.Inputs.{FailedIn, InputState}
use Rattle.decl_outside.specs.Lines.{Piece, pieces}
use Rattle.decl_outside.specs.Sink.{HoldsFront, SinkState}
use Rattle.event_log.specs.Logs.{events_of as joined}
use Rattle.live_monitor.specs.Standing.{RefusesMonitor}
use Rattle.strings_log.specs.Reading.{ended_lines}
use Rattle.template_core.specs.declared.constraint.Constraint.{Constraint}
use Rattle.monitor_lines.specs.Cases.{events_in}
use Rattle.monitor_lines.specs.Faults.{fault_behind, first_fault}
use Rattle.monitor_lines.specs.LineText.{AreTexts}

-- ---- the model

-- a model that is watched has at most so many constraints
abbrev pub most_constraints : ℕ
most_constraints = 1000

-- why a model isn't watched, over n symbols and with a limit on states
abbrev pub RefusesModel : ℕ → ℕ → List Constraint → Refusal → Type 0
RefusesModel n states list (refusal.Candidates count) = (count ≡ length list) × (most_constraints < length list)
RefusesModel n states list r = (length list ≤ most_constraints) × RefusesMonitor n states list r

-- ---- the lines

-- cases and lines are counted up to these: they are at most the limits of every run
pub record CanWatch (limits : Limits) : Type 0 where
  pub traces : limits.traces ≤ standard.traces
  pub events : limits.events ≤ standard.events

-- these lines stand first, and none of them is at fault
pub record IsSoundFront (limits : Limits) (lines front : List Piece) : Type 0 where
  pub others : List Piece
  pub split : lines ≡ front ++ others
  pub faultless : first_fault limits front ≡ None

-- these lines stand first, none of them is at fault, and the line behind them has this fault
pub record StopsBehind (limits : Limits) (lines front : List Piece) (r : Refusal) : Type 0 where
  pub line : Piece
  pub others : List Piece
  pub split : lines ≡ front ++ line ∷ others
  pub faultless : first_fault limits front ≡ None
  pub fault : fault_behind limits front line ≡ Some r

-- what of the names and the list is printed for some lines: the output holds their texts more
abbrev pub Prints : List (List ℕ) → List Constraint → List Piece → SinkState → SinkState → Type 0
Prints names list lines old new = (texts : List (List ℕ)) × AreTexts names list (events_in lines) texts × (new.held ≡ append_known old.held (joined texts))

-- no line of the bytes is at fault, and all are printed
abbrev pub PrintsAll : Limits → List (List ℕ) → List Constraint → List ℕ → SinkState → SinkState → Type 0
PrintsAll limits names list bytes old new = (first_fault limits (pieces bytes) ≡ None) × Prints names list (pieces bytes) old new

-- the lines before the first at fault are printed
abbrev pub PrintsBefore : Limits → List (List ℕ) → List Constraint → Refusal → List ℕ → SinkState → SinkState → Type 0
PrintsBefore limits names list r bytes old new = (front : List Piece) × StopsBehind limits (pieces bytes) front r × Prints names list front old new

-- some lines that stand first are printed
abbrev pub PrintsSome : Limits → List (List ℕ) → List Constraint → List ℕ → SinkState → SinkState → Type 0
PrintsSome limits names list bytes old new = (front : List Piece) × IsSoundFront limits (pieces bytes) front × Prints names list front old new

-- the output holds a prefix of the texts of such lines more
abbrev pub PrintsPart : Limits → List (List ℕ) → List Constraint → List ℕ → SinkState → SinkState → Type 0
PrintsPart limits names list bytes old new =
    (front : List Piece) × (texts : List (List ℕ)) × IsSoundFront limits (pieces bytes) front × AreTexts names list (events_in front) texts × HoldsFront old new (joined texts)

-- the lines are printed that a line feed ended among the bytes that were taken: none of them is at fault
abbrev pub PrintsTaken : Limits → List (List ℕ) → List Constraint → Option (List ℕ) → List ℕ → SinkState → SinkState → Type 0
PrintsTaken limits names list left bytes old new =
    (taken : List ℕ) × (Some bytes ≡ prepend_known taken left) × IsSoundFront limits (pieces bytes) (ended_lines taken) × Prints names list (ended_lines taken) old new

-- why a run ended early, and what it printed: where the bytes are told
abbrev pub WatchCause : Limits → List (List ℕ) → List Constraint → InputState → InputState → SinkState → SinkState → Refusal → Type 0
WatchCause limits names list old new old_out out refusal.ReadFault =
    FailedIn old.asked old new × IfSome old.left (λ bytes. PrintsTaken limits names list new.left bytes old_out out)
WatchCause limits names list old new old_out out refusal.WriteFault =
    Rose old_out.faults out.faults × IfSome old.left (λ bytes. PrintsPart limits names list bytes old_out out)
WatchCause limits names list old new old_out out (refusal.LineLong n) = IfSome old.left (λ bytes. PrintsBefore limits names list (refusal.LineLong n) bytes old_out out)
WatchCause limits names list old new old_out out (refusal.NotUtf8 n) = IfSome old.left (λ bytes. PrintsBefore limits names list (refusal.NotUtf8 n) bytes old_out out)
WatchCause limits names list old new old_out out (refusal.NoTab n) = IfSome old.left (λ bytes. PrintsBefore limits names list (refusal.NoTab n) bytes old_out out)
WatchCause limits names list old new old_out out (refusal.Events n) =
    (n ≡ limits.events) × IfSome old.left (λ bytes. PrintsBefore limits names list (refusal.Events n) bytes old_out out)
WatchCause limits names list old new old_out out (refusal.Traces n) =
    (n ≡ limits.traces) × IfSome old.left (λ bytes. PrintsBefore limits names list (refusal.Traces n) bytes old_out out)
WatchCause limits names list old new old_out out refusal.Memory = IfSome old.left (λ bytes. PrintsSome limits names list bytes old_out out)
WatchCause limits names list old new old_out out _ = ⊥
