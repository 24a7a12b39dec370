-- The log that a CSV text holds. A record is a list of fields, and a field a list of bytes.
-- The first record is the header, and each record behind it is an event of a case.
use Rattle.std.specs.Prelude.{◌≡◌, ℕ, ◌+◌, List, [], ◌∷◌, Bool, false, ◌&&◌, not, if◌then◌else◌, nat_le, nat_lt, Option, None, Some, Result, Ok, Err, length, map, filter, take, position, slice_index_or, option_map, option_to_list, unwrap_or, pos}
use Rattle.std.specs.Cmp.Lexicographic.{slice_cmp}
use Rattle.std.specs.declared.cmp.Ordering.{Ordering}
use Rattle.std.specs.List.{list_any, range_with_len}
use Rattle.std.specs.Option.{is_none, option_or}
use Rattle.std.specs.Ordering.{nat_cmp, int_cmp, is_lt, on}
use Rattle.std.specs.Str.{bytes_eq, is_utf8}
use Rattle.csv.specs.Reading.{default_config, records, strip_bom}
use Rattle.decl_base.specs.declared.limits.Limits.{Limits}
use Rattle.decl_base.specs.declared.refusal.Refusal.{Refusal}
use Rattle.decl_base.specs.declared.refusal.Refusal.TheVariants as refusal
use Rattle.event_log.specs.Logs.{place_of, has_name, first_seen}
use Rattle.log_columns.specs.declared.Columns.{Columns}
use Rattle.log_columns.specs.declared.OrderAs.{OrderAs}
use Rattle.log_columns.specs.declared.OrderAs.TheVariants as by
use Rattle.csv_log.specs.Number.{number_of}
use Rattle.csv_log.specs.Sorting.{stably_sorted}

-- the records of a text: one byte order mark is dropped here, and what reads the records drops the next one
abbrev pub records_of : List ℕ → List (List (List ℕ))
records_of bytes = records default_config (strip_bom (strip_bom bytes))

-- the names of the columns, where there is no record none
abbrev pub header_of : List (List (List ℕ)) → List (List ℕ)
header_of [] = []
header_of (header ∷ rows) = header

-- the records behind the header
abbrev pub rows_of : List (List (List ℕ)) → List (List (List ℕ))
rows_of [] = []
rows_of (header ∷ rows) = rows

-- the columns that are wanted, by number: case, activity and, where one is asked, order
abbrev pub wanted : Columns → List (List ℕ)
wanted columns = columns.case ∷ columns.activity ∷ option_to_list columns.order

-- the place among the wanted columns of the first that a header doesn't have
abbrev pub first_missing : List (List ℕ) → List (List ℕ) → Option ℕ
first_missing header wanted = position (λ name. not (has_name header name)) wanted

-- the field of a row in the first column with this name
abbrev pub field_of : List (List ℕ) → List (List ℕ) → List ℕ → List ℕ
field_of header row name = slice_index_or row (place_of header name) []

pub record Event : Type 0 where
  pub case : List ℕ
  pub activity : List ℕ
  -- by what it is ordered, and nothing where no order column is asked
  pub value : Option (List ℕ)

-- the event that a row is
abbrev pub event_of : Columns → List (List ℕ) → List (List ℕ) → Event
event_of columns header row = record {
  case = field_of header row columns.case;
  activity = field_of header row columns.activity;
  value = option_map (field_of header row) columns.order;
}

-- a value that is no number, where numbers are asked
abbrev pub has_no_number : OrderAs → Option (List ℕ) → Bool
has_no_number by.Number (Some value) = is_none (number_of value)
has_no_number order_as value = false

-- what is wrong with a row alone
abbrev pub row_fault : Columns → List (List ℕ) → List (List ℕ) → ℕ → Option Refusal
row_fault columns header row number =
    let event = event_of columns header row in
    if list_any (λ name. nat_le (length row) (place_of header name)) (wanted columns) then Some (refusal.ShortRow number)
    else (if not (is_utf8 event.case && is_utf8 event.activity) then Some (refusal.RowText number)
    else (if has_no_number columns.order_as event.value then Some (refusal.RowOrder number) else None))

-- the limit that these events go beyond
abbrev pub limit_fault : Limits → List Event → Option Refusal
limit_fault limits events =
    if nat_lt limits.events (length events) then Some (refusal.Events limits.events)
    else (if nat_lt limits.traces (length (first_seen (map (λ event. event.case) events))) then Some (refusal.Traces limits.traces)
    else (if nat_lt limits.activities (length (first_seen (map (λ event. event.activity) events))) then Some (refusal.Activities limits.activities) else None))

-- the fault of the row at a place, counted from 0; the number of its record counts from 1, with the header
abbrev pub fault_at : Columns → Limits → List (List ℕ) → List (List (List ℕ)) → ℕ → Option Refusal
fault_at columns limits header rows place =
    option_or (row_fault columns header (slice_index_or rows place []) (place + 2))
    (limit_fault limits (map (event_of columns header) (take (place + 1) rows)))

-- the first that is there
abbrev pub first_some : List (Option Refusal) → Option Refusal
first_some [] = None
first_some (found ∷ more) = option_or found (first_some more)

-- the fault of the first row at fault
abbrev pub first_fault : Columns → Limits → List (List ℕ) → List (List (List ℕ)) → Option Refusal
first_fault columns limits header rows = first_some (map (fault_at columns limits header rows) (range_with_len 0 (length rows)))

-- how values compare: by their bytes, or as whole numbers
abbrev pub value_cmp : OrderAs → List ℕ → List ℕ → Ordering
value_cmp by.Text = slice_cmp nat_cmp
value_cmp by.Number = on (λ value. unwrap_or (number_of value) (pos 0)) int_cmp

-- whether an event comes before another whatever the order of their records
abbrev pub is_before : OrderAs → Event → Event → Bool
is_before order_as first second = is_lt (value_cmp order_as (unwrap_or first.value []) (unwrap_or second.value []))

-- events in the order of their records, or, where an order column is asked, ascending by its values and among equal values in the order of their records
abbrev pub in_order : Option (List ℕ) → OrderAs → List Event → List Event
in_order None order_as events = events
in_order (Some column) order_as events = stably_sorted (is_before order_as) events

-- the activities of the events of a case
abbrev pub trace_of : List Event → List ℕ → List (List ℕ)
trace_of events case = map (λ event. event.activity) (filter (λ event. bytes_eq case event.case) events)

-- a trace for each case, the cases in the order of their first records
abbrev pub log_of_events : Columns → List Event → List (List (List ℕ))
log_of_events columns events = map (trace_of (in_order columns.order columns.order_as events)) (first_seen (map (λ event. event.case) events))

-- the log, or the number of the first wanted column that is not there, or the fault of the first row at fault
abbrev pub decided : Option ℕ → Option Refusal → List (List (List ℕ)) → Result (List (List (List ℕ))) Refusal
decided (Some column) fault log = Err (refusal.Header (column + 1))
decided None (Some fault) log = Err fault
decided None None log = Ok log

abbrev pub csv_log_of : Columns → Limits → List (List ℕ) → List (List (List ℕ)) → Result (List (List (List ℕ))) Refusal
csv_log_of columns limits header rows =
    decided (first_missing header (wanted columns)) (first_fault columns limits header rows)
    (log_of_events columns (map (event_of columns header) rows))

-- the log of a CSV text, as names, or why it has none
abbrev pub csv_log : Columns → Limits → List ℕ → Result (List (List (List ℕ))) Refusal
csv_log columns limits bytes = csv_log_of columns limits (header_of (records_of bytes)) (rows_of (records_of bytes))

-- the activities of a CSV text, in the order of their first records
abbrev pub activities_of : Columns → List ℕ → List (List ℕ)
activities_of columns bytes =
    first_seen (map (λ row. field_of (header_of (records_of bytes)) row columns.activity) (rows_of (records_of bytes)))

-- why a text has no log, or want of memory
abbrev pub CsvCause : Result (List (List (List ℕ))) Refusal → Refusal → Type 0
CsvCause outcome refusal.Memory = Unit {0}
CsvCause outcome cause = outcome ≡ Err cause
