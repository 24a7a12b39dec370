-- The values of a list, one more at a time.
use Rattle.std.proofs.Common.{◌≡◌, ℕ, ◌+◌, ◌<◌, List, [], ◌∷◌, ◌++◌, Some, map, take, get_or, length, sym, ap, ◌∙◌, append_assoc}
use Rattle.std.proofs.lemmas.List.{map-append, take_more}
use Rattle.std.proofs.lemmas.Option.{slice_get_within, get_or_from_slice_get}
use Rattle.std.specs.Prelude.{slice_get}
use Rattle.serde_json.specs.Data.{Data}
use Rattle.serde_json.specs.View.{view}
use Rattle.serde_json.specs.declared.value.Value.{Value}

-- one element more, and one image
pub map-pushed : {X Z : Type 0} (f : X → Z) (out next : List Z) (before after : List X) (x : X) → after ≡ before ++ x ∷ [] → out ≡ map f before → next ≡ out ++ f x ∷ []
    → next ≡ map f after
map-pushed f out next before after x grown so_far pushed =
    pushed ∙ ap (λ l. l ++ f x ∷ []) so_far ∙ sym (map-append f before (x ∷ [])) ∙ ap (map f) (sym grown)

-- the same of values, which are seen as their data
pub values-pushed : {X : Type 0} (f : X → Data) (values next : List Value) (before after : List X) (x : X) (value : Value)
    → after ≡ before ++ x ∷ [] → view value ≡ f x → next ≡ values ++ value ∷ [] → map view values ≡ map f before → map view next ≡ map f after
values-pushed f values next before after x value grown value_is pushed so_far =
    map-pushed f (map view values) (map view next) before after x grown so_far
    (ap (map view) pushed ∙ map-append view values (value ∷ []) ∙ ap (λ d. map view values ++ d ∷ []) value_is)

pub values-push : {X : Type 0} (f : X → Data) (values next : List Value) (xs : List X) (i : ℕ) (x : X) (value : Value)
    → i < length xs → x ≡ get_or xs i x → view value ≡ f x → next ≡ values ++ value ∷ []
    → map view values ≡ map f (take i xs) → map view next ≡ map f (take (i + 1) xs)
values-push f values next xs i x value h is value_is pushed so_far =
    values-pushed f values next (take i xs) (take (i + 1) xs) x value (take_more xs i x h ∙ ap (λ e. take i xs ++ e ∷ []) (sym is)) value_is pushed so_far

-- the same of an element that was looked up
pub values-push_found : {X : Type 0} (f : X → Data) (values next : List Value) (xs : List X) (i : ℕ) (x : X) (value : Value)
    → slice_get xs i ≡ Some x → view value ≡ f x → next ≡ values ++ value ∷ []
    → map view values ≡ map f (take i xs) → map view next ≡ map f (take (i + 1) xs)
values-push_found f values next xs i x value found value_is pushed so_far =
    values-push f values next xs i x value (slice_get_within xs i x found) (sym (get_or_from_slice_get xs i x x found)) value_is pushed so_far

-- ---- what is done and what is to come

-- one value more, and one less to come
pub values-moved : {X : Type 0} (f : X → Data) (values next : List Value) (x : X) (value : Value) (rest after : List X) (all : List Data)
    → rest ≡ x ∷ after → view value ≡ f x → next ≡ values ++ value ∷ [] → map view values ++ map f rest ≡ all → map view next ++ map f after ≡ all
values-moved f values next x value rest after all rest_is value_is pushed so_far =
    ap (λ l. map view l ++ map f after) pushed ∙ ap (λ l. l ++ map f after) (map-append view values (value ∷ []))
    ∙ append_assoc (map view values) (view value ∷ []) (map f after)
    ∙ ap (λ d. map view values ++ d ∷ map f after) value_is ∙ ap (λ l. map view values ++ map f l) (sym rest_is) ∙ so_far
