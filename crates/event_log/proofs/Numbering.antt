-- The log of names that numbers stand for.
use Rattle.std.proofs.Common.{◌≡◌, ℕ, ◌<◌, List, [], ◌∷◌, ◌++◌, length, map, All, refl, sym, ap, ◌∙◌, ap₂, subst, arith}
use Rattle.std.specs.Prelude.{slice_index, slice_index_or}
use Rattle.std.proofs.lemmas.List.{get_or-map, get_or_append_left, length-append}
use Rattle.std.proofs.lemmas.List.Elements.{All-head, All-tail}
use Rattle.event_log.specs.Logs.{sorted_names, events_of, in_byte_order, named, place_of, by_ranks, IsNumbering}
use Rattle.event_log.proofs.Alphabets.{ascending-same, in_byte_order-ascends, in_byte_order-has}

-- the sorted names of the log of names are the names in order
pub sorted_names-named : (names : List (List ℕ)) (ids : List (List ℕ)) → IsNumbering names ids → sorted_names (named names ids) ≡ in_byte_order names
sorted_names-named names ids h =
    ascending-same (sorted_names (named names ids)) (in_byte_order names) (in_byte_order-ascends (events_of (named names ids))) (in_byte_order-ascends names)
    (λ name. in_byte_order-has (events_of (named names ids)) name ∙ h.used name ∙ sym (in_byte_order-has names name))

pub All-front : (P : ℕ → Type 0) (xs ys : List ℕ) → All P (xs ++ ys) → All P xs
All-front P xs ys h = λ k d inside. subst P (get_or_append_left xs ys d k inside) (h k d (omega (arith, inside, length-append xs ys)))

pub All-back : (P : ℕ → Type 0) (xs ys : List ℕ) → All P (xs ++ ys) → All P ys
All-back P [] ys h = h
All-back P (x ∷ xs) ys h = All-back P xs ys (All-tail P x (xs ++ ys) h)

-- two functions that agree on the events
pub map-agree : {A : Type 0} (f g : ℕ → A) (n : ℕ) → ((id : ℕ) → id < n → f id ≡ g id) → (ids : List ℕ) → All (λ id. id < n) ids → map f ids ≡ map g ids
map-agree f g n same [] h = refl
map-agree f g n same (id ∷ ids) h = ap₂ (λ x l. x ∷ l) (same id (All-head (λ id. id < n) id ids h)) (map-agree f g n same ids (All-tail (λ id. id < n) id ids h))

pub maps-agree : {A : Type 0} (f g : ℕ → A) (n : ℕ) → ((id : ℕ) → id < n → f id ≡ g id) → (log : List (List ℕ)) → All (λ id. id < n) (events_of log) → map (map f) log ≡ map (map g) log
maps-agree f g n same [] h = refl
maps-agree f g n same (trace ∷ log) h =
    ap₂ (λ x l. x ∷ l) (map-agree f g n same trace (All-front (λ id. id < n) trace (events_of log) h)) (maps-agree f g n same log (All-back (λ id. id < n) trace (events_of log) h))

map-map-names : (names : List (List ℕ)) (f : List ℕ → ℕ) (ids : List (List ℕ)) → map (map f) (named names ids) ≡ map (map (λ id. f (slice_index_or names id []))) ids
map-map-names names f [] = refl
map-map-names names f (trace ∷ ids) = ap₂ (λ x l. x ∷ l) (inner trace) (map-map-names names f ids)
  where
    inner : (trace : List ℕ) → map f (map (λ id. slice_index_or names id []) trace) ≡ map (λ id. f (slice_index_or names id [])) trace
    inner [] = refl
    inner (id ∷ trace) = ap (λ l. f (slice_index_or names id []) ∷ l) (inner trace)

-- the log with each number replaced by the rank at its place is the log of names with each name replaced by its rank
pub by_ranks-named : (names : List (List ℕ)) (ids : List (List ℕ)) → IsNumbering names ids
    → by_ranks (named names ids) ≡ map (map (slice_index (map (place_of (in_byte_order names)) names))) ids
by_ranks-named names ids h =
    ap (λ l. map (map (place_of l)) (named names ids)) (sorted_names-named names ids h)
    ∙ map-map-names names (place_of (in_byte_order names)) ids
    ∙ maps-agree (λ id. place_of (in_byte_order names) (slice_index_or names id [])) (slice_index (map (place_of (in_byte_order names)) names)) (length names)
    (λ id inside. sym (get_or-map (place_of (in_byte_order names)) names id [] 0 inside)) ids h.inside
