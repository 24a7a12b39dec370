-- Internal: what a line does to what is kept of the cases, and to the texts that wait.
use Rattle.std.specs.Prelude.{◌≡◌, ◌⊎◌, ℕ, ◌+◌, ◌-◌, ◌<◌, ◌≤◌, List, [], ◌∷◌, ◌++◌, Bool, true, false, None, Some, if◌then◌else◌, map, length, slice_set, slice_index_or, string_bytes}
use Rattle.std.specs.Io.KnownBytes.{append_known}
use Rattle.std.specs.Str.{is_utf8}
use Rattle.decl_base.specs.declared.limits.Limits.{Limits}
use Rattle.decl_base.specs.declared.refusal.Refusal.{Refusal}
use Rattle.decl_base.specs.declared.refusal.Refusal.TheVariants as refusal
use Rattle.decl_outside.specs.Inputs.{InputState}
use Rattle.decl_outside.specs.Lines.{FillCause, GivesLine, LinesState, LineValue}
use Rattle.decl_outside.specs.Sink.{SinkState}
use Rattle.event_log.specs.Alphabet.{Names}
use Rattle.event_log.specs.Logs.{has_name, place_of, with_name}
use Rattle.live_monitor.specs.Standing.{IsStanding}
use Rattle.live_monitor.specs.Stands.{IsMonitor, StandsFor, case_count, constraints_of, symbols_of, trace_of}
use Rattle.live_monitor.specs.declared.standing.Standing.{Standing}
use Rattle.template_core.specs.Keeping.{KeepsAll}
use Rattle.monitor_lines.specs.Cases.{event_of, has_tab}
use Rattle.monitor_lines.specs.LineText.{AreOnes, line_text, quoted}
use Rattle.monitor_lines.specs.declared.cases.Cases.{Cases}

-- as many cases have begun as were found, and each has its text
pub record IsReady (cases : Cases) : Type 0 where
  pub within : length cases.found.names ≤ cases.found.limit
  pub texts : map string_bytes cases.texts.items ≡ map quoted cases.found.names
  pub count : case_count cases.monitor ≡ length cases.found.names
  pub monitor : IsMonitor cases.monitor

-- the traces with an empty one at the end, where the case is new
abbrev pub begun : List (List ℕ) → List ℕ → List (List ℕ) → List (List ℕ)
begun found case traces = if has_name found case then traces else traces ++ [] ∷ []

-- the traces with a symbol at the end of that of a number
abbrev pub stepped : ℕ → ℕ → List (List ℕ) → List (List ℕ)
stepped id symbol traces = slice_set traces id (trace_of traces id ++ symbol ∷ [])

-- the case is there, and the others are as they were
pub record HasCase (old new : Cases) (case : List ℕ) : Type 0 where
  pub found : new.found ≡ record { names = with_name old.found.names case; limit = old.found.limit }
  pub ready : IsReady new
  pub symbols : symbols_of new.monitor ≡ symbols_of old.monitor
  pub constraints : constraints_of new.monitor ≡ constraints_of old.monitor
  pub stands : (traces : List (List ℕ)) → StandsFor old.monitor traces → StandsFor new.monitor (begun old.found.names case traces)

-- the line's event stands at the end of its case's trace, and the case has this number
pub record TakesLine (limits : Limits) (names : List (List ℕ)) (old new : Cases) (line : LineValue) (id : ℕ) : Type 0 where
  pub text : is_utf8 line.bytes ≡ true
  pub tab : has_tab line.bytes ≡ true
  pub few : line.number ≤ limits.events
  pub id_is : id ≡ place_of old.found.names (event_of line.bytes).case
  pub found : new.found ≡ record { names = with_name old.found.names (event_of line.bytes).case; limit = old.found.limit }
  pub ready : IsReady new
  pub symbols : symbols_of new.monitor ≡ symbols_of old.monitor
  pub constraints : constraints_of new.monitor ≡ constraints_of old.monitor
  pub stands : (traces : List (List ℕ)) → StandsFor old.monitor traces
      → StandsFor new.monitor (stepped id (place_of names (event_of line.bytes).name) (begun old.found.names (event_of line.bytes).case traces))

-- why a case has no number
abbrev pub CaseCause : Names → List ℕ → Refusal → Type 0
CaseCause found case (refusal.Traces n) = (n ≡ found.limit) × (found.limit ≤ length found.names) × (has_name found.names case ≡ false)
CaseCause found case refusal.Memory = Unit {0}
CaseCause found case _ = ⊥

-- why a line was not taken: the first fault that it has
abbrev pub LineCause : Limits → List (List ℕ) → LineValue → Refusal → Type 0
LineCause limits found line (refusal.NotUtf8 n) = (n ≡ line.number) × (is_utf8 line.bytes ≡ false)
LineCause limits found line (refusal.NoTab n) = (n ≡ line.number) × (is_utf8 line.bytes ≡ true) × (has_tab line.bytes ≡ false)
LineCause limits found line (refusal.Events n) =
    (n ≡ limits.events) × (is_utf8 line.bytes ≡ true) × (has_tab line.bytes ≡ true) × (limits.events < line.number)
LineCause limits found line (refusal.Traces n) =
    (n ≡ limits.traces) × (is_utf8 line.bytes ≡ true) × (has_tab line.bytes ≡ true) × (line.number ≤ limits.events)
    × (limits.traces ≤ length found) × (has_name found (event_of line.bytes).case ≡ false)
LineCause limits found line refusal.Memory = Unit {0}
LineCause limits found line _ = ⊥

-- the text of a line with this number, of this case, as the monitor has it
abbrev pub TellsStandings : Cases → ℕ → ℕ → List ℕ → Type 0
TellsStandings cases number case text =
    (whole : Standing) × (each : List Standing) × (text ≡ line_text number (quoted (slice_index_or cases.found.names case [])) whole each)
    × ((traces : List (List ℕ)) → StandsFor cases.monitor traces
    → IsStanding (symbols_of cases.monitor) (KeepsAll (constraints_of cases.monitor)) (trace_of traces case) whole
    × AreOnes (symbols_of cases.monitor) (constraints_of cases.monitor) (trace_of traces case) each)

-- ---- texts that wait

-- what waited was handed over, but for what is left
pub record HandsOver (old now : SinkState) (waiting left : List ℕ) : Type 0 where
  pub moved : List ℕ
  pub split : waiting ≡ moved ++ left
  pub later : old.faults ≤ now.faults
  pub takes : now.takes_any_length ≡ old.takes_any_length
  pub held : now.held ≡ append_known old.held moved
  pub room : now.room ≡ old.room - length moved

-- the next line was taken, and its text waits behind the others
pub record PutsLine (limits : Limits) (names : List (List ℕ)) (lines lines' : LinesState) (input input' : InputState) (cases cases' : Cases) (waiting waiting' : List ℕ) : Type 0 where
  pub line : LineValue
  pub id : ℕ
  pub text : List ℕ
  pub live : lines'.is_live ≡ true
  pub limit : lines'.limit ≡ lines.limit
  pub gives : GivesLine lines lines' input input' (Some line)
  pub takes : TakesLine limits names cases cases' line id
  pub tells : TellsStandings cases' line.number id text
  pub waits : waiting' ≡ waiting ++ text

-- there was a line, or none
abbrev pub PutsNext : Limits → List (List ℕ) → LinesState → LinesState → InputState → InputState → Cases → Cases → List ℕ → List ℕ → Bool → Type 0
PutsNext limits names lines lines' input input' cases cases' waiting waiting' true = PutsLine limits names lines lines' input input' cases cases' waiting waiting'
PutsNext limits names lines lines' input input' cases cases' waiting waiting' false = GivesLine lines lines' input input' None × (waiting' ≡ waiting)

-- why the next line wasn't taken: none came, or it has a fault
abbrev pub NextCause : Limits → List (List ℕ) → LinesState → LinesState → InputState → InputState → Refusal → Type 0
NextCause limits found lines lines' input input' r =
    ((lines.has_ended ≡ true → false ≡ true) × FillCause lines.limit (lines.given + 1) lines.held lines'.held input input' r)
    ⊎ (line : LineValue) × GivesLine lines lines' input input' (Some line) × LineCause limits found line r
