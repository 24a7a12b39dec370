-- The fault of the first line at fault, among lines of running cases.
use Rattle.std.specs.Prelude.{ℕ, ◌+◌, ◌++◌, List, [], ◌∷◌, Option, None, Some, option_and_then, if◌then◌else◌, not, nat_lt, length, take, slice_get}
use Rattle.std.specs.List.{range_with_len}
use Rattle.std.specs.Str.{is_utf8}
use Rattle.decl_base.specs.declared.limits.Limits.{Limits}
use Rattle.decl_base.specs.declared.refusal.Refusal.{Refusal}
use Rattle.decl_base.specs.declared.refusal.Refusal.TheVariants as refusal
use Rattle.decl_outside.specs.Lines.{Piece, line_of}
use Rattle.strings_log.specs.StringLog.{first_fault_at}
use Rattle.monitor_lines.specs.Cases.{cases_of, events_in, has_tab}

-- the fault of a line that stands behind these lines, in this order; each case is a trace, and each line an event
unfoldable pub fault_behind : Limits → List Piece → Piece → Option Refusal
fault_behind limits before line =
    if nat_lt limits.line_bytes (length line.bytes) then Some (refusal.LineLong (length before + 1))
    else (if not (is_utf8 (line_of line)) then Some (refusal.NotUtf8 (length before + 1))
    else (if not (has_tab (line_of line)) then Some (refusal.NoTab (length before + 1))
    else (if nat_lt limits.events (length before + 1) then Some (refusal.Events limits.events)
    else (if nat_lt limits.traces (length (cases_of (events_in (before ++ line ∷ [])))) then Some (refusal.Traces limits.traces)
    else None))))

-- the fault of the line at a place
abbrev pub fault_at : Limits → List Piece → ℕ → Option Refusal
fault_at limits lines place = option_and_then (fault_behind limits (take place lines)) (slice_get lines place)

-- the fault of the first line at fault
abbrev pub first_fault : Limits → List Piece → Option Refusal
first_fault limits lines = first_fault_at (fault_at limits lines) (range_with_len 0 (length lines))
