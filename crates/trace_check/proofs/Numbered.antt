-- Rows over the numbers of names are rows over the names.
use Rattle.std.proofs.Common.{◌≡◌, ℕ, ◌<◌, List, [], ◌∷◌, Bool, true, false, nat_eq, get_or, length, map, All, refl, sym, ap, ap₂, ◌∙◌, arith}
use Rattle.std.specs.Prelude.{slice_index}
use Rattle.std.specs.Cmp.Lexicographic.{bytes_decides}
use Rattle.std.specs.Str.{bytes_eq}
use Rattle.std.proofs.lemmas.Bool.{true≢false, eq-eqb, ne_eqb}
use Rattle.std.proofs.lemmas.List.{get_or-map}
use Rattle.std.proofs.lemmas.List.Elements.{All-head, All-tail}
use Rattle.std.proofs.lemmas.List.Sums.{passes_at_first}
use Rattle.event_log.proofs.Numbering.{maps-agree}
use Rattle.event_log.specs.Logs.{events_of, named, place_of, StandOnce}
use Rattle.template_core.specs.Constraints.{IsWellMadeFor}
use Rattle.template_core.specs.declared.constraint.Constraint.{Constraint}
use Rattle.trace_check.specs.Checking.{checked, name_at, numbered_row}
use Rattle.trace_check.proofs.Renamed.{row-map}

-- a name has the number of another one exactly where they are the same
pub number-is : (names : List (List ℕ)) → StandOnce names → (a : ℕ) → a < length names → (name : List ℕ) → nat_eq (place_of names name) a ≡ bytes_eq name (name_at names a)
number-is names once a inside name = go (bytes_eq name (name_at names a)) refl
  where
    go : (v : Bool) → bytes_eq name (name_at names a) ≡ v → nat_eq (place_of names name) a ≡ bytes_eq name (name_at names a)
    go true e = eq-eqb (place_of names name) a (ap (place_of names) ((bytes_decides name (name_at names a)).0 e) ∙ once a inside) ∙ sym e
    go false e =
        ne_eqb (place_of names name) a
        (λ at.
        absurd
        (true≢false
        (sym (passes_at_first (bytes_eq name) names [] (omega (arith, at, inside)))
        ∙ ap (λ k. bytes_eq name (get_or names k [])) at ∙ e)))
        ∙ sym e

maps-named : (f : List ℕ → ℕ) (names : List (List ℕ)) (ids : List (List ℕ)) → map (map (λ id. f (get_or names id []))) ids ≡ map (map f) (named names ids)
maps-named f names [] = refl
maps-named f names (t ∷ ids) = ap₂ (λ u l. u ∷ l) (inner t) (maps-named f names ids)
  where
    inner : (t : List ℕ) → map (λ id. f (get_or names id [])) t ≡ map f (map (λ id. get_or names id []) t)
    inner [] = refl
    inner (id ∷ t) = ap (λ l. f (get_or names id []) ∷ l) (inner t)

pub renumbered : (names log_names : List (List ℕ)) (numbers : List ℕ) (ids : List (List ℕ)) → numbers ≡ map (place_of names) log_names → All (λ id. id < length log_names) (events_of ids)
    → map (map (slice_index numbers)) ids ≡ map (map (place_of names)) (named log_names ids)
renumbered names log_names numbers ids are inside =
    ap (λ l. map (map (slice_index l)) ids) are
    ∙ maps-agree (slice_index (map (place_of names) log_names)) (λ id. place_of names (get_or log_names id [])) (length log_names) (λ id lt. get_or-map (place_of names) log_names id [] 0 lt) ids inside
    ∙ maps-named (place_of names) log_names ids

pub checked-numbered : (names : List (List ℕ)) (log : List (List (List ℕ))) → StandOnce names → (list : List Constraint) → All (IsWellMadeFor (length names)) list
    → map (numbered_row (map (map (place_of names)) log)) list ≡ checked names list log
checked-numbered names log once [] made = refl
checked-numbered names log once (c ∷ list) made =
    let well : IsWellMadeFor (length names) c = All-head (IsWellMadeFor (length names)) c list made in
    ap₂ (λ r l. r ∷ l)
    (row-map bytes_eq nat_eq (place_of names) (name_at names c.first) (name_at names c.second) c.first c.second (number-is names once c.first well.first) (number-is names once c.second well.second) c.kind log)
    (checked-numbered names log once list (All-tail (IsWellMadeFor (length names)) c list made))
