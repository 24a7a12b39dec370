use Rattle.std.proofs.Common.{◌≡◌, ◌≢◌, List, [], ◌∷◌, ℕ, None, Some, map, length, sym, ap, ◌∙◌, Option, option_and_then, refl}
use Rattle.std.proofs.lemmas.List.{length-map}
use Rattle.serde_json.specs.Data.{Data}
use Rattle.serde_json.specs.Find.{as_str}
use Rattle.serde_json.specs.View.{view}
use Rattle.model_json.specs.Model.{each, only}
use Rattle.model_json.proofs.Elements.{each-length, listed, texts_in-is}
use Rattle.model_json.proofs.items.only.Goals as goal

not_one : (xs : List Data) (o : Option (List (List ℕ))) → each as_str xs ≡ o → length xs ≢ 1 → None ≡ option_and_then only o
not_one xs None is h = refl
not_one xs (Some []) is h = refl
not_one xs (Some (y ∷ [])) is h = absurd (h (sym (each-length as_str xs (y ∷ []) is)))
not_one xs (Some (y ∷ z ∷ ys)) is h = refl

pub returns-else-list-eq1 : goal.returns-else-list-eq1
returns-else-list-eq1 c =
    let elements = c.as_slice-list.result.now in
    not_one (map view elements) (each as_str (map view elements)) refl (λ one. c.if-list-eq1.false (sym (length-map elements view) ∙ one))
    ∙ ap (option_and_then only) (sym (texts_in-is _ elements (listed c.as_slice-list.ensures.value c.in_ok-as_array.ensures)))
