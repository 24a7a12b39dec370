-- What is kept of an event, and what it stands for.
use Rattle.std.specs.Prelude.{◌≡◌, ℕ, ◌+◌, ◌≤◌, ◌<◌, ◌==◌, if◌then◌else◌, List, [], ◌∷◌, ◌++◌, Bool, false, Option, None, Some, All, filter, length, map, nat_le, option_map, option_to_list, unwrap_or, slice_index_or, slice_range, ℤ, pos}
use denote.Ref.{Bor}
use Rattle.std.specs.Cmp.Lexicographic.{slice_cmp}
use Rattle.std.specs.declared.cmp.Ordering.{Ordering}
use Rattle.std.specs.List.{list_any, range_with_len}
use Rattle.std.specs.List.Sorted.{IsPermutation}
use Rattle.std.specs.Ordering.{nat_cmp, int_cmp, is_lt, ordering_then}
use Rattle.decl_base.specs.declared.limits.Limits.{Limits}
use Rattle.decl_base.specs.declared.refusal.Refusal.{Refusal}
use Rattle.decl_base.specs.declared.refusal.Refusal.TheVariants as refusal
use Rattle.event_log.specs.Alphabet.{Names, AddCause}
use Rattle.event_log.specs.Log.{Traces}
use Rattle.event_log.specs.Logs.{events_of, place_of, has_name, named, with_name, first_seen, IsNumbering}
use Rattle.log_columns.specs.declared.Columns.{Columns}
use Rattle.log_columns.specs.declared.OrderAs.{OrderAs}
use Rattle.log_columns.specs.declared.OrderAs.TheVariants as by
use Rattle.csv_log.specs.declared.collect.Collected.{Collected}
use Rattle.csv_log.specs.declared.kept.Kept.{Kept}
use Rattle.csv_log.specs.declared.keys.Keys.{Keys}
use Rattle.csv_log.specs.declared.keys.Keys.TheVariants as keep
use Rattle.csv_log.specs.declared.keys.Span.{Span}
use Rattle.csv_log.specs.declared.places.Places.{Places}
use Rattle.csv_log.specs.declared.row.Fields.{Fields}
use Rattle.event_log.specs.Within.{IsWithin}
use Rattle.csv_log.specs.CsvLog.{Event, event_of, log_of_events, row_fault}
use Rattle.csv_log.specs.Number.{number_of}
use Rattle.csv_log.specs.Sorting.{stably_sorted}

-- the places of the wanted columns in a header
pub record ArePlaces (header : List (List ℕ)) (columns : Columns) (places : Places) : Type 0 where
  pub case : places.case ≡ place_of header columns.case
  pub activity : places.activity ≡ place_of header columns.activity
  pub order : places.order ≡ option_map (place_of header) columns.order

-- whether a row has no field at one of the places
abbrev pub lacks_field : Places → List (List ℕ) → Bool
lacks_field places row = list_any (nat_le (length row)) (places.case ∷ places.activity ∷ option_to_list places.order)

-- the field of a row at a place
abbrev pub field_in : List (List ℕ) → ℕ → List ℕ
field_in row place = slice_index_or row place []

-- a value that was found, as its bytes
abbrev pub value_of : Option (Bor (List ℕ)) → Option (List ℕ)
value_of value = option_map (λ v. v.now) value

-- by what a value is ordered among numbers
abbrev pub number_key : OrderAs → Option (List ℕ) → ℤ
number_key by.Number (Some value) = unwrap_or (number_of value) (pos 0)
number_key order_as value = pos 0

-- by what a value is ordered among texts
abbrev pub text_key : OrderAs → Option (List ℕ) → List ℕ
text_key by.Text (Some value) = value
text_key order_as value = []

-- an event, with what orders it
pub record Seen : Type 0 where
  pub case : List ℕ
  pub activity : List ℕ
  pub number : ℤ
  pub text : List ℕ

abbrev pub seen_of : OrderAs → Event → Seen
seen_of order_as event = record { case = event.case; activity = event.activity; number = number_key order_as event.value; text = text_key order_as event.value }

-- the fields say this event
abbrev pub SaysEvent : OrderAs → Event → Fields → Type 0
SaysEvent order_as event fields = seen_of order_as event ≡ record { case = fields.case.now; activity = fields.activity.now; number = fields.number; text = fields.text.now }

-- of whatever columns have these places, a row says this event and has no fault
abbrev pub SaysRow : Places → OrderAs → List (List ℕ) → ℕ → Fields → Type 0
SaysRow places order_as row number fields = (header : List (List ℕ)) (columns : Columns) → ArePlaces header columns places → columns.order_as ≡ order_as
    → SaysEvent columns.order_as (event_of columns header row) fields × (row_fault columns header row number ≡ None)

-- of whatever columns have these places, this is its fault
abbrev pub HasRowFault : Places → OrderAs → List (List ℕ) → ℕ → Refusal → Type 0
HasRowFault places order_as row number fault = (header : List (List ℕ)) (columns : Columns) → ArePlaces header columns places → columns.order_as ≡ order_as
    → row_fault columns header row number ≡ Some fault

-- by what the event of a place is ordered among numbers
abbrev pub number_at : Keys → ℕ → ℤ
number_at (keep.Numbers numbers) place = slice_index_or numbers.items place (pos 0)
number_at keys place = pos 0

-- by what the event of a place is ordered among texts
abbrev pub text_at : Keys → ℕ → List ℕ
text_at (keep.Texts bytes spans) place = let span = slice_index_or spans.items place (record { start = 0; end = 0 }) in slice_range bytes.items span.start span.end
text_at keys place = []

-- a text stands inside these bytes
pub record StandsIn (bytes : ℕ) (span : Span) : Type 0 where
  pub ordered : span.start ≤ span.end
  pub inside : span.end ≤ bytes

-- so many events have their keys
abbrev pub HaveKeys : ℕ → Keys → Type 0
HaveKeys events keep.Nothing = Unit {0}
HaveKeys events (keep.Numbers numbers) = length numbers.items ≡ events
HaveKeys events (keep.Texts bytes spans) = (length spans.items ≡ events) × All (StandsIn (length bytes.items)) spans.items

-- keys of the kind that the columns ask
abbrev pub SuitKeys : Columns → Keys → Type 0
SuitKeys columns keep.Nothing = columns.order ≡ None
SuitKeys columns (keep.Numbers numbers) = columns.order_as ≡ by.Number
SuitKeys columns (keep.Texts bytes spans) = columns.order_as ≡ by.Text

-- the key of an event went behind the others
abbrev pub AddsKey : Fields → Keys → Keys → Type 0
AddsKey fields keep.Nothing keep.Nothing = Unit {0}
AddsKey fields (keep.Numbers old) (keep.Numbers new) = new.items ≡ old.items ++ fields.number ∷ []
AddsKey fields (keep.Texts old before) (keep.Texts new after) =
    (new.items ≡ old.items ++ fields.text.now) × (after.items ≡ before.items ++ record { start = length old.items; end = length old.items + length fields.text.now } ∷ [])
AddsKey fields old new = ⊥

-- what is kept of an event, with the cases, the activities and the keys that were kept
abbrev pub read_back : List (List ℕ) → List (List ℕ) → Keys → Kept → Seen
read_back cases activities keys kept = record {
  case = slice_index_or cases kept.case [];
  activity = slice_index_or activities kept.activity [];
  number = number_at keys kept.place;
  text = text_at keys kept.place;
}

-- its numbers stand for something
pub record IsInside (cases activities events : ℕ) (kept : Kept) : Type 0 where
  pub case : kept.case < cases
  pub activity : kept.activity < activities
  pub place : kept.place < events

-- these events were collected
pub record Collects (columns : Columns) (limits : Limits) (events : List Event) (all : Collected) : Type 0 where
  pub cases : all.cases.names ≡ first_seen (map (λ event. event.case) events)
  pub activities : all.activities.names ≡ first_seen (map (λ event. event.activity) events)
  pub case_limit : all.cases.limit ≡ limits.traces
  pub activity_limit : all.activities.limit ≡ limits.activities
  pub read : map (read_back all.cases.names all.activities.names all.keys) all.events.items ≡ map (seen_of columns.order_as) events
  pub inside : All (IsInside (length all.cases.names) (length all.activities.names) (length all.events.items)) all.events.items
  pub suit : SuitKeys columns all.keys
  pub keys : HaveKeys (length all.events.items) all.keys
  pub few_events : length events ≤ limits.events
  pub few_cases : length all.cases.names ≤ limits.traces
  pub few_activities : length all.activities.names ≤ limits.activities

-- how what is kept of two events compares by what orders them
abbrev pub kept_cmp : Keys → Kept → Kept → Ordering
kept_cmp keys a b = ordering_then (slice_cmp nat_cmp (text_at keys a.place) (text_at keys b.place)) (int_cmp (number_at keys a.place) (number_at keys b.place))

-- whether what is kept of an event comes before another whatever the order of their records
abbrev pub is_less : Keys → Kept → Kept → Bool
is_less keys a b = is_lt (kept_cmp keys a b)

-- in ascending order where they are ordered, and else as they came
abbrev pub sorted_where : Bool → Keys → List Kept → List Kept
sorted_where ordered keys events = if ordered then stably_sorted (is_less keys) events else events

-- the same of what it stands for
abbrev pub seen_less : Seen → Seen → Bool
seen_less a b = is_lt (ordering_then (slice_cmp nat_cmp a.text b.text) (int_cmp a.number b.number))

-- the fields went into what is collected
pub record AddsEvent (fields : Fields) (limits : Limits) (old new : Collected) : Type 0 where
  pub cases : new.cases ≡ record { names = with_name old.cases.names fields.case.now; limit = old.cases.limit }
  pub activities : new.activities ≡ record { names = with_name old.activities.names fields.activity.now; limit = old.activities.limit }
  pub keys : AddsKey fields old.keys new.keys
  pub events : new.events.items ≡ old.events.items ++ record {
    case = place_of old.cases.names fields.case.now;
    activity = place_of old.activities.names fields.activity.now;
    place = length old.events.items;
  } ∷ []
  pub few_events : length old.events.items < limits.events
  pub few_cases : length (with_name old.cases.names fields.case.now) ≤ old.cases.limit
  pub few_activities : length (with_name old.activities.names fields.activity.now) ≤ old.activities.limit

-- why a case was not added
abbrev pub CaseCause : Names → List ℕ → Refusal → Type 0
CaseCause old name (refusal.Traces n) = (n ≡ old.limit) × (length old.names ≡ old.limit) × (has_name old.names name ≡ false)
CaseCause old name refusal.Memory = Unit {0}
CaseCause old name _ = ⊥

-- why they did not go in
abbrev pub CollectCause : Fields → Limits → Collected → Refusal → Type 0
CollectCause fields limits old (refusal.Events n) = (n ≡ limits.events) × (limits.events ≤ length old.events.items)
CollectCause fields limits old (refusal.Traces n) = (length old.events.items < limits.events) × CaseCause old.cases fields.case.now (refusal.Traces n)
CollectCause fields limits old (refusal.Activities n) =
    (length old.events.items < limits.events) × (length (with_name old.cases.names fields.case.now) ≤ old.cases.limit)
    × AddCause old.activities fields.activity.now (refusal.Activities n)
CollectCause fields limits old refusal.Memory = Unit {0}
CollectCause fields limits old _ = ⊥

-- whether it is of an earlier case
abbrev pub is_earlier_case : Kept → Kept → Bool
is_earlier_case a b = is_lt (nat_cmp a.case b.case)

-- whether it is of the case of this number
abbrev pub is_of_case : ℕ → Kept → Bool
is_of_case case kept = kept.case == case

-- the activities of the events of each case, of which there are so many
abbrev pub traces_by_case : ℕ → List Kept → List (List ℕ)
traces_by_case cases events = map (λ case. map (λ kept. kept.activity) (filter (is_of_case case) events)) (range_with_len 0 cases)

-- these traces have the events in some order
abbrev pub HaveTheEvents : List (List ℕ) → List Kept → Type 0
HaveTheEvents traces events = (all : List Kept) × IsPermutation events all × (events_of traces ≡ map (λ kept. kept.activity) all)

-- the alphabet and the log of these events
pub record IsLogOf (columns : Columns) (limits : Limits) (events : List Event) (alphabet : Names) (log : Traces) : Type 0 where
  pub traces : named alphabet.names log.traces ≡ log_of_events columns events
  pub names : alphabet.names ≡ first_seen (map (λ event. event.activity) events)
  pub numbering : IsNumbering alphabet.names log.traces
  pub within : IsWithin limits alphabet log

-- whatever events were collected, these are their alphabet and log
abbrev pub IsLogOfCollected : Columns → Limits → Collected → Names → Traces → Type 0
IsLogOfCollected columns limits collected alphabet log = (events : List Event) → Collects columns limits events collected → IsLogOf columns limits events alphabet log
