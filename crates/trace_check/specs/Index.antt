-- The places of all activities' events in a log.
use Rattle.std.specs.Prelude.{◌≡◌, ℕ, ◌<◌, List, [], ◌++◌, map, length, slice_index_or}
use Rattle.std.specs.Global.{Vec}
use Rattle.trace_check.specs.Standing.{places_from}

-- the lists as lists
abbrev pub lists : List (Vec ℕ) → List (List ℕ)
lists index = map (λ places. places.items) index

-- for each activity below a number, where its events stand among these
pub record IsIndex (count : ℕ) (events : List ℕ) (index : List (List ℕ)) : Type 0 where
  pub size : length index ≡ count
  pub places : (c : ℕ) → c < count → slice_index_or index c [] ≡ places_from c 0 events

-- behind the places of each activity stand those of a trace's events, of which the first stands at start
pub record AddsPlaces (start : ℕ) (trace : List ℕ) (old new : List (List ℕ)) : Type 0 where
  pub size : length new ≡ length old
  pub places : (c : ℕ) → c < length old → slice_index_or new c [] ≡ slice_index_or old c [] ++ places_from c start trace
