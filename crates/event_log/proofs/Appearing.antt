-- Names that appear one after another: each that is new goes last.
use Rattle.std.proofs.Common.{◌≡◌, ℕ, zero, suc, String, string_bytes, ◌+◌, ◌<◌, ◌≤◌, List, [], ◌∷◌, ◌++◌, Bool, true, false, cond, eqb, not, ◌||◌, fold, length, refl, sym, ap, ◌∙◌, arith, append-nil, append_assoc, true≢false, ⊎_elim}
use Rattle.std.specs.Prelude.{slice_index_or}
use Rattle.std.specs.declared.alloc.Global.{Global}
use Rattle.std.specs.List.{AllByRecursion, IsDistinct}
use Rattle.std.proofs.lemmas.Bool.{cases_lt, eqb-true, ne_eqb}
use Rattle.std.proofs.lemmas.List.{get_or_append_left, length_push}
use Rattle.std.proofs.lemmas.List.Folds.{list_any_at, position_or_len_push}
use Rattle.std.proofs.lemmas.List.Sums.{fold_push, passes_at_first}
use Rattle.std.specs.Cmp.Lexicographic.{bytes_decides}
use Rattle.std.specs.Str.{bytes_eq}
use Rattle.event_log.specs.Logs.{events_of, first_seen, has_name, place_of, with_name, StandOnce}
use Rattle.event_log.proofs.Naming.{texts}

pub events_of-append : {A : Type 0} (front more : List (List A)) → events_of (front ++ more) ≡ events_of front ++ events_of more
events_of-append [] more = refl
events_of-append (trace ∷ front) more = ap (λ l. trace ++ l) (events_of-append front more) ∙ sym (append_assoc trace (events_of front) (events_of more))

pub events_of-push : {A : Type 0} (traces : List (List A)) (trace : List A) → events_of (traces ++ trace ∷ []) ≡ events_of traces ++ trace
events_of-push traces trace = events_of-append traces (trace ∷ []) ∙ ap (λ l. events_of traces ++ l) (append-nil trace)

-- ---- one name more

pub with_name-least : (names : List (List ℕ)) (name : List ℕ) → length names ≤ length (with_name names name)
with_name-least names name =
    elim (has_name names name) as (λ v. length names ≤ length (cond v names (names ++ name ∷ []))) [
      | true ↦ omega arith
      | false ↦ omega (arith, length_push names name)
    ]

-- a new name makes them one more
pub with_name-new : (names : List (List ℕ)) (name : List ℕ) → has_name names name ≡ false → length (with_name names name) ≡ length names + 1
with_name-new names name new = ap (λ b. length (cond b names (names ++ name ∷ []))) new ∙ length_push names name

pub with_name-keeps : (names : List (List ℕ)) (name : List ℕ) (id : ℕ) → id < length names → slice_index_or (with_name names name) id [] ≡ slice_index_or names id []
with_name-keeps names name id inside =
    elim (has_name names name) as (λ v. slice_index_or (cond v names (names ++ name ∷ [])) id [] ≡ slice_index_or names id []) [
      | true ↦ refl
      | false ↦ get_or_append_left names (name ∷ []) [] id inside
    ]

-- ---- its place

cond-push : (b : Bool) (y name : List ℕ) (names : List (List ℕ)) → cond b (y ∷ names) ((y ∷ names) ++ name ∷ []) ≡ y ∷ cond b names (names ++ name ∷ [])
cond-push true y name names = refl
cond-push false y name names = refl

-- the name stands at its place
pub place-with_name : (names : List (List ℕ)) (name : List ℕ) → (place_of names name < length (with_name names name)) × (slice_index_or (with_name names name) (place_of names name) [] ≡ name)
place-with_name [] name = (omega arith, refl)
place-with_name (y ∷ names) name =
    elim (bytes_eq name y) as (λ v. bytes_eq name y ≡ v
    → (cond (not v) (1 + place_of names name) 0 < length (cond (v || has_name names name) (y ∷ names) ((y ∷ names) ++ name ∷ [])))
    × (slice_index_or (cond (v || has_name names name) (y ∷ names) ((y ∷ names) ++ name ∷ [])) (cond (not v) (1 + place_of names name) 0) [] ≡ name)) [
      | true ↦ λ e. (omega arith, sym ((bytes_decides name y).0 e))
      | false ↦ λ e.
          let rest = place-with_name names name in
          let pushed = cond-push (has_name names name) y name names in (
            omega (arith, ap length pushed, rest.0),
            ap (λ l. slice_index_or l (1 + place_of names name) []) pushed
                ∙ ap (λ n. slice_index_or (y ∷ with_name names name) n []) {x = 1 + place_of names name} {y = suc (place_of names name)} (omega arith) ∙ rest.1,
          )
    ] refl

has_name-at_place : (names : List (List ℕ)) (name : List ℕ) → place_of names name < length names → has_name names name ≡ true
has_name-at_place names name inside = list_any_at (bytes_eq name) names (place_of names name) [] inside (passes_at_first (bytes_eq name) names [] inside)

-- a name that is there isn't put in again
pub with_name-known : (names : List (List ℕ)) (name : List ℕ) → place_of names name < length names → with_name names name ≡ names
with_name-known names name inside = ap (λ b. cond b names (names ++ name ∷ [])) (has_name-at_place names name inside)

-- it keeps its place
pub place_of-keeps : (names : List (List ℕ)) (name other : List ℕ) → place_of names name < length names → place_of (with_name names other) name ≡ place_of names name
place_of-keeps names name other inside =
    elim (has_name names other) as (λ v. place_of (cond v names (names ++ other ∷ [])) name ≡ place_of names name) [
      | true ↦ refl
      | false ↦
          position_or_len_push (bytes_eq name) names other
          ∙ ap (λ b. cond b (length names + cond (bytes_eq name other) 0 1) (place_of names name)) (ne_eqb (place_of names name) (length names) (λ e. absurd (omega (arith, e))))
    ]

same_place : (found at_end : Bool) (place count : ℕ) → found ≡ true → eqb place count ≡ at_end → cond at_end (count + cond found 0 1) place ≡ place
same_place true true place count f e = omega (arith, eqb-true place count e)
same_place false true place count f e = absurd (true≢false (sym f))
same_place found false place count f e = refl

-- a name that is put in stands where it was missed
pub place_of-put : (names : List (List ℕ)) (name : List ℕ) → place_of (with_name names name) name ≡ place_of names name
place_of-put names name =
    elim (has_name names name) as (λ v. place_of (cond v names (names ++ name ∷ [])) name ≡ place_of names name) [
      | true ↦ refl
      | false ↦
          position_or_len_push (bytes_eq name) names name
          ∙ same_place (bytes_eq name name) (eqb (place_of names name) (length names)) (place_of names name) (length names) ((bytes_decides name name).1 refl) refl
    ]

-- ---- names more

pub seen-least : (names events : List (List ℕ)) → length names ≤ length (fold with_name names events)
seen-least names [] = omega arith
seen-least names (event ∷ events) = omega (arith, with_name-least names event, seen-least (with_name names event) events)

pub seen-keeps : (names events : List (List ℕ)) (id : ℕ) → id < length names → slice_index_or (fold with_name names events) id [] ≡ slice_index_or names id []
seen-keeps names [] id inside = refl
seen-keeps names (event ∷ events) id inside =
    seen-keeps (with_name names event) events id (omega (arith, with_name-least names event)) ∙ with_name-keeps names event id inside

pub first_seen-push : (names : List (List ℕ)) (name : List ℕ) → first_seen (names ++ name ∷ []) ≡ with_name (first_seen names) name
first_seen-push names name = fold_push with_name [] names name

-- ---- names that stand once

once-with_name : (names : List (List ℕ)) (name : List ℕ) → StandOnce names → StandOnce (with_name names name)
once-with_name names name once = λ place inside. ⊎_elim (before place) (behind place inside) (cases_lt place (length names))
  where
    before : (place : ℕ) → place < length names → place_of (with_name names name) (slice_index_or (with_name names name) place []) ≡ place
    before place below =
        ap (place_of (with_name names name)) (with_name-keeps names name place below)
        ∙ place_of-keeps names (slice_index_or names place []) name (omega (arith, once place below, below)) ∙ once place below

    is_new : (place : ℕ) → place < length (with_name names name) → length names ≤ place → (b : Bool) → has_name names name ≡ b → b ≡ false
    is_new place inside above true e = absurd (omega (arith, inside, ap (λ b. length (cond b names (names ++ name ∷ []))) e, above))
    is_new place inside above false e = refl

    missed : has_name names name ≡ false → length names ≤ place_of names name
    missed new = ⊎_elim (λ k. absurd (true≢false (sym (has_name-at_place names name k) ∙ new))) (λ k. k) (cases_lt (place_of names name) (length names))

    behind : (place : ℕ) → place < length (with_name names name) → length names ≤ place → place_of (with_name names name) (slice_index_or (with_name names name) place []) ≡ place
    behind place inside above =
        let new : has_name names name ≡ false = is_new place inside above (has_name names name) refl in
        let put = place-with_name names name in
        let at : place_of names name ≡ place = omega (arith, missed new, put.0, with_name-new names name new, inside, above) in
        ap (λ n. place_of (with_name names name) (slice_index_or (with_name names name) n [])) (sym at)
        ∙ ap (place_of (with_name names name)) put.1 ∙ place_of-put names name ∙ at

once-seen : (names more : List (List ℕ)) → StandOnce names → StandOnce (fold with_name names more)
once-seen names [] once = once
once-seen names (name ∷ more) once = once-seen (with_name names name) more (once-with_name names name once)

pub first_seen-once : (names : List (List ℕ)) → StandOnce (first_seen names)
first_seen-once names = once-seen [] names (λ place inside. absurd (omega arith))

-- two places of such names with one name are one
pub one_place : (names : List (List ℕ)) (i j : ℕ) → StandOnce names → i < length names → j < length names → slice_index_or names i [] ≡ slice_index_or names j [] → i ≡ j
one_place names i j once in_i in_j same = sym (once i in_i) ∙ ap (place_of names) same ∙ once j in_j

-- ---- different strings

two_ways : (x y : List ℕ) → bytes_eq x y ≡ false → bytes_eq y x ≡ false
two_ways x y apart = go (bytes_eq y x) refl
  where
    go : (b : Bool) → bytes_eq y x ≡ b → bytes_eq y x ≡ false
    go true e = absurd (true≢false (sym ((bytes_decides x y).1 (sym ((bytes_decides y x).0 e))) ∙ apart))
    go false e = e

apart_at : (key : String Global) (keys : List (String Global)) (id : ℕ) → AllByRecursion (λ k. bytes_eq (string_bytes key) (string_bytes k) ≡ false) keys → id < length (texts keys)
    → bytes_eq (slice_index_or (texts keys) id []) (string_bytes key) ≡ false
apart_at key [] id apart inside = absurd (omega arith)
apart_at key (k ∷ keys) zero apart inside = two_ways (string_bytes key) (string_bytes k) apart.0
apart_at key (k ∷ keys) (suc id) apart inside = apart_at key keys id apart.1 (omega arith)

distinct-at : (keys : List (String Global)) → IsDistinct (λ a b. bytes_eq (string_bytes a) (string_bytes b)) keys → (id : ℕ) → id < length (texts keys)
    → place_of (texts keys) (slice_index_or (texts keys) id []) ≡ id
unfolding IsDistinct
distinct-at [] distinct id inside = absurd (omega arith)
distinct-at (key ∷ keys) distinct zero inside =
    ap (λ b. cond (not b) (1 + place_of (texts keys) (string_bytes key)) 0) ((bytes_decides (string_bytes key) (string_bytes key)).1 refl)
distinct-at (key ∷ keys) distinct (suc id) inside =
    ap (λ b. cond (not b) (1 + place_of (texts keys) (slice_index_or (texts keys) id [])) 0) (apart_at key keys id distinct.0 (omega arith))
    ∙ omega (arith, distinct-at keys distinct.1 id (omega arith))

-- the bytes of strings that differ stand once
pub distinct-once : (keys : List (String Global)) → IsDistinct (λ a b. bytes_eq (string_bytes a) (string_bytes b)) keys → StandOnce (texts keys)
distinct-once keys distinct = distinct-at keys distinct
