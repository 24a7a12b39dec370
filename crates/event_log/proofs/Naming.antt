-- Look-ups among strings are look-ups among their bytes.
use Rattle.std.proofs.Common.{zero, suc, take, slice_get, ◌≡◌, ℕ, ◌≤◌, List, [], ◌∷◌, ◌++◌, ◌+◌, None, Some, Bool, true, false, cond, not, ltb, map, length, refl, sym, ap, ◌∙◌, String, string_bytes, arith}
use Rattle.std.specs.declared.alloc.Global.{Global}
use Rattle.std.specs.Prelude.{◌||◌}
use Rattle.std.specs.List.{list_any, position_or_len, position}
use Rattle.std.specs.Str.{bytes_eq}
use Rattle.std.proofs.lemmas.List.{map-append, length-map}
use Rattle.std.proofs.lemmas.List.Sums.{prefix_len-le-length, fold_push}
use Rattle.std.proofs.lemmas.Bool.Decides.{nat_tests}
use Rattle.std.specs.declared.cmp.Ordering.TheVariants.{Less, Equal, Greater}
use Rattle.std.specs.BTreeSet.{insert_key}
use Rattle.std.specs.Cmp.Lexicographic.{slice_cmp}
use Rattle.std.specs.Ordering.{nat_cmp, match_ordering}
use Rattle.std.specs.String.{string_cmp}
use Rattle.event_log.specs.Alphabet.{Names}
use Rattle.event_log.specs.Logs.{place_of, has_name, with_name, in_byte_order}

abbrev pub texts : List (String Global) → List (List ℕ)
texts = map string_bytes

pub place_of-texts : (name : List ℕ) (keys : List (String Global)) → position_or_len (λ key. bytes_eq name (string_bytes key)) keys ≡ place_of (texts keys) name
place_of-texts name [] = refl
place_of-texts name (key ∷ keys) = ap (λ n. cond (not (bytes_eq name (string_bytes key))) (1 + n) 0) (place_of-texts name keys)

pub has_name-texts : (name : List ℕ) (keys : List (String Global)) → list_any (λ key. bytes_eq name (string_bytes key)) keys ≡ has_name (texts keys) name
has_name-texts name [] = refl
has_name-texts name (key ∷ keys) = ap (λ b. bytes_eq name (string_bytes key) || b) (has_name-texts name keys)

pub position-is : {X : Type 0} (p : X → Bool) (xs : List X) (i : ℕ) → Some i ≡ position p xs → i ≡ position_or_len p xs
position-is p xs i h =
    elim (ltb (position_or_len p xs) (length xs)) as (λ v. Some i ≡ cond v (Some (position_or_len p xs)) None → i ≡ position_or_len p xs) [
      | true ↦ λ e. (cc)
      | false ↦ λ e. (cc)
    ] h

-- the names are as they were where the name is among them
pub with_name-present : (names : List (List ℕ)) (name : List ℕ) → true ≡ has_name names name → with_name names name ≡ names
with_name-present names name h = ap (λ b. cond b names (names ++ name ∷ [])) (sym h)

pub kept : (now : Names) (name : List ℕ) → true ≡ has_name now.names name → now ≡ record { names = with_name now.names name; limit = now.limit }
kept now name h = ap (λ (l : List (List ℕ)). record { names = l; limit = now.limit }) (sym (with_name-present now.names name h))

-- names and their limit
abbrev pub named : List (List ℕ) → ℕ → Names
named names limit = record { names = names; limit = limit }

-- a string more, by the names
pub added : (name : List ℕ) (keys next : List (String Global)) (key : String Global) (limit : ℕ) (now : Names) → named (texts keys) limit ≡ now → string_bytes key ≡ name
    → next ≡ cond (list_any (λ k. bytes_eq (string_bytes key) (string_bytes k)) keys) keys (keys ++ key ∷ [])
    → named (texts next) limit ≡ named (with_name now.names name) now.limit
added name keys next key limit now is same pushed =
    ap (λ l. named (texts l) limit) pushed
    ∙ ap (λ l. named l limit) (texts-cond (list_any (λ k. bytes_eq (string_bytes key) (string_bytes k)) keys) keys key)
    ∙ ap (λ b. named (cond b (texts keys) (texts keys ++ string_bytes key ∷ [])) limit) (has_name-texts (string_bytes key) keys)
    ∙ ap (λ n. named (with_name (texts keys) n) limit) same
    ∙ ap (λ s. named (with_name s.names name) s.limit) is
  where
    texts-cond : (b : Bool) (keys : List (String Global)) (key : String Global) → texts (cond b keys (keys ++ key ∷ [])) ≡ cond b (texts keys) (texts keys ++ string_bytes key ∷ [])
    texts-cond true keys key = refl
    texts-cond false keys key = map-append string_bytes keys (key ∷ [])

-- the list is as long as the limit
pub full : (keys : List (String Global)) (limit : ℕ) (now : Names) → named (texts keys) limit ≡ now → length keys ≤ limit → limit ≤ length keys → length now.names ≡ now.limit
full keys limit now is within many =
    ap (λ s. length s.names) (sym is) ∙ (length-map keys string_bytes ∙ same (length keys) limit within many) ∙ ap (λ s. s.limit) is
  where
    same : (m n : ℕ) → m ≤ n → n ≤ m → m ≡ n
    same m n h k = omega arith

pub position-texts : (name : List ℕ) (keys : List (String Global)) → position (λ key. bytes_eq name (string_bytes key)) keys ≡ position (bytes_eq name) (texts keys)
position-texts name keys =
    ap (λ n. cond (ltb n (length keys)) (Some n) None) (place_of-texts name keys)
    ∙ ap (λ n. cond (ltb (place_of (texts keys) name) n) (Some (place_of (texts keys) name)) None) (sym (length-map keys string_bytes))

pub position-none : {X : Type 0} (p : X → Bool) (xs : List X) → None ≡ position p xs → length xs ≡ position_or_len p xs
position-none p xs h =
    let within : position_or_len p xs ≤ length xs = prefix_len-le-length (λ x. not (p x)) xs in
    elim (ltb (position_or_len p xs) (length xs)) as (λ v. ltb (position_or_len p xs) (length xs) ≡ v → None ≡ cond v (Some (position_or_len p xs)) None → length xs ≡ position_or_len p xs) [
      | true ↦ λ e k. absurd (cc)
      | false ↦ λ e k. grind (arith, nat_tests)
    ] refl h

-- one string more, by the names
pub texts-added : (keys next : List (String Global)) (key : String Global) → next ≡ cond (list_any (λ k. bytes_eq (string_bytes key) (string_bytes k)) keys) keys (keys ++ key ∷ [])
    → texts next ≡ with_name (texts keys) (string_bytes key)
texts-added keys next key pushed = ap (λ s. s.names) (added (string_bytes key) keys next key 0 (named (texts keys) 0) refl refl pushed)

-- a string more in the order of bytes, by the names
pub texts-insert_key : (keys : List (String Global)) (key : String Global) → texts (insert_key string_cmp keys key) ≡ insert_key (slice_cmp nat_cmp) (texts keys) (string_bytes key)
texts-insert_key [] key = refl
texts-insert_key (x ∷ keys) key =
    elim (slice_cmp nat_cmp (string_bytes key) (string_bytes x)) as (λ o. texts (match_ordering o (key ∷ x ∷ keys) (x ∷ keys) (x ∷ insert_key string_cmp keys key))
    ≡ match_ordering o (string_bytes key ∷ string_bytes x ∷ texts keys) (string_bytes x ∷ texts keys) (string_bytes x ∷ insert_key (slice_cmp nat_cmp) (texts keys) (string_bytes key))) [
      | Less ↦ refl
      | Equal ↦ refl
      | Greater ↦ ap (λ l. string_bytes x ∷ l) (texts-insert_key keys key)
    ]

-- the front up to a place and the element there
pub take-get : {X : Type 0} (xs : List X) (i : ℕ) (x : X) → slice_get xs i ≡ Some x → take (i + 1) xs ≡ take i xs ++ x ∷ []
take-get [] i x h = absurd (cc)
take-get (y ∷ ys) zero x h = let same : y ≡ x = cc in ap (λ z. z ∷ []) same
take-get (y ∷ ys) (suc i) x h = ap (λ n. take n (y ∷ ys)) {x = suc i + 1} {y = suc (i + 1)} (omega arith) ∙ ap (λ l. y ∷ l) (take-get ys i x h)

-- one name more is put in its place
pub in_byte_order-more : (names : List (List ℕ)) (i : ℕ) (name : List ℕ) → slice_get names i ≡ Some name
    → in_byte_order (take (i + 1) names) ≡ insert_key (slice_cmp nat_cmp) (in_byte_order (take i names)) name
in_byte_order-more names i name h = ap in_byte_order (take-get names i name h) ∙ fold_push (insert_key (slice_cmp nat_cmp)) [] (take i names) name
