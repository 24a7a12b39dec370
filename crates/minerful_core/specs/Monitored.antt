-- What a run over running cases leaves on the output.
use Rattle.std.specs.Prelude.{◌≡◌, ◌≢◌, ◌⊎◌, ℕ, List, [], ◌∷◌, true, false, Some, Result, Ok, Err}
use Rattle.decl_base.specs.Limits.{standard}
use Rattle.decl_base.specs.Refusal.{status_of}
use Rattle.decl_base.specs.declared.refusal.Refusal.{Refusal}
use Rattle.decl_base.specs.declared.refusal.Refusal.TheVariants as refusal
use Rattle.decl_base.specs.declared.status.Status.{Status}
use Rattle.decl_base.specs.declared.status.Status.TheVariants as status
use Rattle.decl_outside.specs.Faults.{Rose}
use Rattle.decl_outside.specs.Inputs.{InputState}
use Rattle.decl_outside.specs.Sink.{SinkState}
use Rattle.minerful_words.specs.Settings.{settings}
use Rattle.minerful_words.specs.declared.settings.Command.{Command}
use Rattle.minerful_words.specs.declared.settings.Command.TheVariants.{Monitor}
use Rattle.minerful_words.specs.declared.settings.Settings.{Settings}
use Rattle.model_json.specs.Model.{Known}
use Rattle.monitor_lines.specs.Watching.{PrintsAll, PrintsBefore, PrintsPart, PrintsSome, PrintsTaken, RefusesModel}
use Rattle.template_core.specs.declared.constraint.Constraint.{Constraint}
use Rattle.minerful_core.specs.Models.{constraints_over, names_of, symbols_of}
use Rattle.minerful_core.specs.Outcome.{IsCommandOutcome, IsSettingsOutcome, IsTold, IsWatchable, model_in}
use Rattle.minerful_core.specs.Run.{InputFailed, WritesOutput}

-- the inputs hold a model that may be watched, and this holds of its names, and of its constraints over their places
abbrev pub OfWatched : Settings → (List ℕ → List ℕ) → (List (List ℕ) → List Constraint → Type 0) → Type 0
OfWatched s contents P =
    (model : Known) × (model_in s contents ≡ Ok model) × IsWatchable s.states (names_of model) (constraints_over (names_of model) model)
    × P (names_of model) (constraints_over (names_of model) model)

-- nothing more, or what holds of the model
abbrev pub NothingOr : SinkState → SinkState → Type 0 → Type 0
NothingOr old new P = (new.held ≡ old.held) ⊎ P

-- the refusal comes before the log is opened: of the model's bytes, or of the model
abbrev pub RefusesBeforeLog : Settings → (List ℕ → List ℕ) → Refusal → Type 0
RefusesBeforeLog s contents r =
    (model_in s contents ≡ Err r)
    ⊎ ((model : Known) × (model_in s contents ≡ Ok model) × IsTold (RefusesModel (symbols_of (names_of model)) s.states (constraints_over (names_of model) model)) r)

-- a refusal by the log leaves the texts of the lines before the first at fault, and any other refusal leaves nothing
abbrev pub LeavesRefused : Settings → (List ℕ → List ℕ) → Refusal → SinkState → SinkState → Type 0
LeavesRefused s contents r old new =
    (RefusesBeforeLog s contents r × (new.held ≡ old.held)) ⊎ OfWatched s contents (λ names list. PrintsBefore standard names list r (contents s.log) old new)

-- What a failed read leaves. Where the model and the log have different names, the name last asked for tells which of them
-- failed, and whether the log was open.
pub record LeavesUnread (s : Settings) (contents : List ℕ → List ℕ) (inputs : InputState) (old new : SinkState) : Type 0 where
  pub some : NothingOr old new (OfWatched s contents (λ names list. PrintsSome standard names list (contents s.log) old new))
  pub at_model : s.model ≢ s.log → inputs.asked ≡ Some s.model → new.held ≡ old.held
  pub unopened : s.model ≢ s.log → inputs.asked ≡ Some s.log → inputs.is_open ≡ false → new.held ≡ old.held
  pub at_log : s.model ≢ s.log → inputs.asked ≡ Some s.log → inputs.is_open ≡ true
      → OfWatched s contents (λ names list. PrintsTaken standard names list inputs.left (contents s.log) old new)

-- what a run of `monitor` leaves that ends with this status, where the inputs are left like this
abbrev pub LeavesLines : Settings → (List ℕ → List ℕ) → Status → InputState → SinkState → SinkState → Type 0
LeavesLines s contents status.Done inputs old new = OfWatched s contents (λ names list. PrintsAll standard names list (contents s.log) old new)
LeavesLines s contents status.Differs inputs old new = ⊥
LeavesLines s contents status.WriteFault inputs old new = OfWatched s contents (λ names list. PrintsPart standard names list (contents s.log) old new)
LeavesLines s contents status.ReadFault inputs old new = LeavesUnread s contents inputs old new
LeavesLines s contents status.Memory inputs old new = NothingOr old new (OfWatched s contents (λ names list. PrintsSome standard names list (contents s.log) old new))
LeavesLines s contents ended inputs old new = (r : Refusal) × (ended ≡ status_of r) × LeavesRefused s contents r old new

-- a run of `monitor` leaves lines, and every other run a whole text, a prefix of it, or nothing
abbrev pub LeavesOf : Command → Settings → (List ℕ → List ℕ) → Status → InputState → SinkState → SinkState → Type 0
LeavesOf Monitor s contents ended inputs old new = LeavesLines s contents ended inputs old new
LeavesOf command s contents ended inputs old new = WritesOutput (IsCommandOutcome command s contents) ended old new

abbrev pub LeavesBy : Result Settings ℕ → (List ℕ → List ℕ) → Status → InputState → SinkState → SinkState → Type 0
LeavesBy (Ok s) contents ended inputs old new = LeavesOf s.command s contents ended inputs old new
LeavesBy (Err at) contents ended inputs old new = WritesOutput (IsSettingsOutcome (Err at) contents) ended old new

-- what the output gains by a run of these words
abbrev pub LeavesOutput : List (List ℕ) → (List ℕ → List ℕ) → Status → InputState → SinkState → SinkState → Type 0
LeavesOutput words contents ended inputs old new = LeavesBy (settings words) contents ended inputs old new

-- the words are those of `monitor`
abbrev pub PrintsLines : Result Settings ℕ → Type 0
PrintsLines (Ok s) = s.command ≡ Monitor
PrintsLines (Err at) = ⊥

-- ---- to the calls behind a run

-- why a run over running cases was refused: a fault under its cause, and nothing of the words
abbrev pub MonitorCause : Settings → InputState → InputState → SinkState → SinkState → Refusal → Type 0
MonitorCause s old new old_out out refusal.ReadFault = InputFailed (s.model ∷ s.log ∷ []) old new
MonitorCause s old new old_out out refusal.WriteFault = Rose old_out.faults out.faults
MonitorCause s old new old_out out (refusal.Usage at) = ⊥
MonitorCause s old new old_out out r = Unit {0}

-- what a refusal leaves
abbrev pub MonitorLeaves : Settings → (List ℕ → List ℕ) → InputState → SinkState → SinkState → Refusal → Type 0
MonitorLeaves s contents inputs old new refusal.ReadFault = LeavesUnread s contents inputs old new
MonitorLeaves s contents inputs old new refusal.WriteFault = LeavesLines s contents status.WriteFault inputs old new
MonitorLeaves s contents inputs old new refusal.Memory = LeavesLines s contents status.Memory inputs old new
MonitorLeaves s contents inputs old new r = LeavesRefused s contents r old new
