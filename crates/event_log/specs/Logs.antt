-- Logs. A name is a list of bytes, a trace a list of names, and a log a list of traces.
use Rattle.std.specs.Prelude.{◌≡◌, ℕ, ◌<◌, List, [], ◌∷◌, ◌++◌, Bool, if◌then◌else◌, map, fold, length, slice_index_or, All}
use Rattle.std.specs.BTreeSet.{insert_key}
use Rattle.std.specs.Cmp.Lexicographic.{slice_cmp}
use Rattle.std.specs.List.{flat_map, list_any, position_or_len}
use Rattle.std.specs.Ordering.{nat_cmp}
use Rattle.std.specs.Str.{bytes_eq}

-- the events of a log, one trace after another
abbrev pub events_of : {A : Type 0} → List (List A) → List A
events_of log = flat_map (λ trace. trace) log

-- whether the name is one of them
abbrev pub has_name : List (List ℕ) → List ℕ → Bool
has_name names name = list_any (bytes_eq name) names

-- the place of the first of them that is the name, or the number of names: its rank where they are sorted
abbrev pub place_of : List (List ℕ) → List ℕ → ℕ
place_of names name = position_or_len (bytes_eq name) names

-- each name stands once: at its place, and nowhere before it
abbrev pub StandOnce : List (List ℕ) → Type 0
StandOnce names = (place : ℕ) → place < length names → place_of names (slice_index_or names place []) ≡ place

-- these names, each once, in the order of their bytes
abbrev pub in_byte_order : List (List ℕ) → List (List ℕ)
in_byte_order names = fold (insert_key (slice_cmp nat_cmp)) [] names

-- the different names of a log, in the order of their bytes
abbrev pub sorted_names : List (List (List ℕ)) → List (List ℕ)
sorted_names log = in_byte_order (events_of log)

-- the log with each name replaced by its rank
abbrev pub by_ranks : List (List (List ℕ)) → List (List ℕ)
by_ranks log = map (map (place_of (sorted_names log))) log

-- a new name goes last
abbrev pub with_name : List (List ℕ) → List ℕ → List (List ℕ)
with_name names name = if has_name names name then names else names ++ name ∷ []

-- these names, each once, in the order in which they first appear
abbrev pub first_seen : List (List ℕ) → List (List ℕ)
first_seen names = fold with_name [] names

-- the log with each number replaced by the name at that place
abbrev pub named : List (List ℕ) → List (List ℕ) → List (List (List ℕ))
named names ids = map (map (λ id. slice_index_or names id [])) ids

-- numbers that stand for the names of a log: each event is the place of a name, each name stands once, and is that of some event
pub record IsNumbering (names : List (List ℕ)) (ids : List (List ℕ)) : Type 0 where
  pub inside : All (λ id. id < length names) (events_of ids)
  pub once : StandOnce names
  pub used : (name : List ℕ) → has_name (events_of (named names ids)) name ≡ has_name names name

-- the same where the names stand as they first appear in the log
pub record IsNumbered (names : List (List ℕ)) (ids : List (List ℕ)) : Type 0 where
  pub inside : All (λ id. id < length names) (events_of ids)
  pub appearing : names ≡ first_seen (events_of (named names ids))
