-- The lines of running cases: each names a case and, behind its first tab, an event of it.
use Rattle.std.specs.Prelude.{ℕ, suc, ◌==◌, List, Bool, nat_lt, filter, length, map}
use Rattle.std.specs.List.{after_first, before_first, position_or_len}
use Rattle.std.specs.Str.{bytes_eq}
use Rattle.decl_outside.specs.Lines.{Piece, line_of}
use Rattle.event_log.specs.Logs.{first_seen, place_of}

-- an event of a case, by the names of both
pub record Event : Type 0 where
  pub case : List ℕ
  pub name : List ℕ

abbrev pub is_tab : ℕ → Bool
is_tab byte = byte == 9

-- whether the line has a tab
abbrev pub has_tab : List ℕ → Bool
has_tab line = nat_lt (position_or_len is_tab line) (length line)

-- the case stands before the first tab, and the event's name behind it
abbrev pub event_of : List ℕ → Event
event_of line = record { case = before_first is_tab line; name = after_first is_tab line }

abbrev pub events_in : List Piece → List Event
events_in lines = map (λ line. event_of (line_of line)) lines

-- the cases of some events, as they first appear
abbrev pub cases_of : List Event → List (List ℕ)
cases_of events = first_seen (map (λ event. event.case) events)

-- a symbol for each of these names, and one behind them for every other name
abbrev pub symbol_count : List (List ℕ) → ℕ
symbol_count names = suc (length names)

-- the trace of a case among some events: the symbols of those that are its own
abbrev pub trace_in : List (List ℕ) → List Event → List ℕ → List ℕ
trace_in names events case = map (λ event. place_of names event.name) (filter (λ event. bytes_eq case event.case) events)
