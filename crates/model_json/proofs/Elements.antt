-- What is read of each element of a list.
use Rattle.std.proofs.Common.{◌≡◌, ℕ, suc, List, [], ◌∷◌, ◌&&◌, Bool, true, false, map, length, codes, refl, sym, ap, ap₂, ◌∙◌, Option, None, Some, option_map, option_and_then, is_some}
use Rattle.std.specs.List.{list_all, filter_map, cons_option}
use Rattle.std.proofs.lemmas.List.Folds.{list_all-map}
use Rattle.serde_json.specs.Data.{Data, Items}
use Rattle.serde_json.specs.Find.{as_array, as_str, get}
use Rattle.serde_json.specs.View.{items_of, items_view, view}
use Rattle.serde_json.specs.declared.value.Value.{Value}
use Rattle.template_core.specs.declared.repertoire.Repertoire.{Repertoire}
use Rattle.model_json.specs.Model.{Item, Shape, each, item_of, list_in, repertoire_of, shape_of, tasks_in, texts_in, values_of}

pub values_of-items_of : (ds : List Data) → values_of (items_of ds) ≡ ds
values_of-items_of [] = refl
values_of-items_of (d ∷ ds) = ap (λ l. d ∷ l) (values_of-items_of ds)

-- the list that a value is, by the elements that it was read as
pub list_in-is : (value : Data) (elements : List Value) → Some (items_view elements) ≡ as_array value → list_in value ≡ Some (map view elements)
list_in-is value elements h = ap (option_map values_of) (sym h) ∙ ap Some (values_of-items_of (map view elements))

pub list_in-none : (value : Data) → None ≡ as_array value → list_in value ≡ None
list_in-none value h = ap (option_map values_of) (sym h)

module _ {A B : Type 0} (f : A → Option B) where
  -- something is read of all exactly where something is read of each
  pub each-all : (xs : List A) → is_some (each f xs) ≡ list_all (λ x. is_some (f x)) xs
  each-all [] = refl
  each-all (x ∷ xs) =
      elim (f x) as (λ o. is_some (option_and_then (λ y. option_map (λ ys. y ∷ ys) (each f xs)) o) ≡ (is_some o && list_all (λ x. is_some (f x)) xs)) [
        | None ↦ refl
        | Some y ↦ mapped y (each f xs) ∙ each-all xs
      ]
    where
      mapped : (y : B) (o : Option (List B)) → is_some (option_map (λ ys. y ∷ ys) o) ≡ is_some o
      mapped y None = refl
      mapped y (Some ys) = refl

  filter_map-more : (y : B) (xs : List A) (ys : List B) (o : Option (List B)) → each f xs ≡ o → ((zs : List B) → each f xs ≡ Some zs → filter_map f xs ≡ zs)
      → option_map (λ ys. y ∷ ys) o ≡ Some ys → y ∷ filter_map f xs ≡ ys
  filter_map-more y xs ys None is rest e = absurd (cc)
  filter_map-more y xs ys (Some zs) is rest e = let same : y ∷ zs ≡ ys = cc in ap (λ l. y ∷ l) (rest zs is) ∙ same

  -- what is read is what there is to be read
  pub each-filter_map : (xs : List A) (ys : List B) → each f xs ≡ Some ys → filter_map f xs ≡ ys
  each-filter_map [] ys h = cc
  each-filter_map (x ∷ xs) ys h =
      elim (f x) as (λ o. option_and_then (λ y. option_map (λ ys. y ∷ ys) (each f xs)) o ≡ Some ys → cons_option o (filter_map f xs) ≡ ys) [
        | None ↦ λ e. absurd (cc)
        | Some y ↦ λ e. filter_map-more y xs ys (each f xs) refl (each-filter_map xs) e
      ] h

  length-more : (y : B) (xs : List A) (ys : List B) (o : Option (List B)) → each f xs ≡ o → ((zs : List B) → each f xs ≡ Some zs → length zs ≡ length xs)
      → option_map (λ ys. y ∷ ys) o ≡ Some ys → length ys ≡ suc (length xs)
  length-more y xs ys None is rest e = absurd (cc)
  length-more y xs ys (Some zs) is rest e = let same : y ∷ zs ≡ ys = cc in ap length (sym same) ∙ ap suc (rest zs is)

  pub each-length : (xs : List A) (ys : List B) → each f xs ≡ Some ys → length ys ≡ length xs
  each-length [] ys h = let same : [] ≡ ys = cc in ap length (sym same)
  each-length (x ∷ xs) ys h =
      elim (f x) as (λ o. option_and_then (λ y. option_map (λ ys. y ∷ ys) (each f xs)) o ≡ Some ys → length ys ≡ length (x ∷ xs)) [
        | None ↦ λ e. absurd (cc)
        | Some y ↦ λ e. length-more y xs ys (each f xs) refl (each-length xs) e
      ] h

-- reading what was read
pub each-each : {A B C : Type 0} (f : A → Option B) (g : B → Option C) (xs : List A)
    → option_and_then (each g) (each f xs) ≡ each (λ x. option_and_then g (f x)) xs
each-each f g [] = refl
each-each {A} {B} {C} f g (x ∷ xs) =
    elim (f x) as (λ o. option_and_then (each g) (option_and_then (λ y. option_map (λ ys. y ∷ ys) (each f xs)) o)
    ≡ option_and_then (λ z. option_map (λ zs. z ∷ zs) (each (λ x. option_and_then g (f x)) xs)) (option_and_then g o)) [
      | None ↦ refl
      | Some y ↦ first y (each f xs) ∙ ap (λ r. option_and_then (λ z. option_map (λ zs. z ∷ zs) r) (g y)) (each-each f g xs)
    ]
  where
    nothing : (o : Option C) → None ≡ option_and_then (λ z. option_map (λ (zs : List C). z ∷ zs) None) o
    nothing None = refl
    nothing (Some z) = refl

    first : (y : B) (o : Option (List B)) → option_and_then (each g) (option_map (λ ys. y ∷ ys) o)
        ≡ option_and_then (λ z. option_map (λ zs. z ∷ zs) (option_and_then (each g) o)) (g y)
    first y None = nothing (g y)
    first y (Some ys) = refl

-- what a test finds to be there
pub there : {A : Type 0} (o : Option A) → is_some o ≡ true → (x : A) × (o ≡ Some x)
there None h = absurd (cc)
there (Some x) h = (x, refl)

pub missing : {A : Type 0} (o : Option A) → is_some o ≡ false → o ≡ None
missing None h = refl
missing (Some x) h = absurd (cc)

-- a test of each element of a list of values
pub each-tested : {B : Type 0} (f : Data → Option B) (elements : List Value) (b : Bool) → b ≡ list_all (λ element. is_some (f (view element))) elements → is_some (each f (map view elements)) ≡ b
each-tested f elements b h = each-all f (map view elements) ∙ list_all-map (λ d. is_some (f d)) view elements ∙ sym h

-- the texts of a value that is a list
pub texts_in-is : (value : Data) (elements : List Value) → Some (items_view elements) ≡ as_array value → texts_in value ≡ each as_str (map view elements)
texts_in-is value elements h = ap (option_and_then (each as_str)) (list_in-is value elements h)

-- an item by its members
pub item_of-is : (value named given : Data) (template : List ℕ) (elements : List Value) → Some named ≡ get (codes "template") value → Some template ≡ as_str named
    → Some given ≡ get (codes "parameters") value → Some (items_view elements) ≡ as_array given
    → item_of value ≡ option_map (λ parameters. record { template = template; parameters = parameters }) (each texts_in (map view elements))
item_of-is value named given template elements has_template is_text has_parameters is_list =
    ap₂ (λ (t : Option (List ℕ)) (p : Option (List (List (List ℕ)))). option_and_then (λ template. option_map (λ parameters. Item_of template parameters) p) t)
    (ap (option_and_then as_str) (sym has_template) ∙ sym is_text)
    (ap (option_and_then (λ list. option_and_then (each texts_in) (list_in list))) (sym has_parameters) ∙ ap (option_and_then (each texts_in)) (list_in-is given elements is_list))
  where
    Item_of : List ℕ → List (List (List ℕ)) → Item
    Item_of template parameters = record { template = template; parameters = parameters }

-- the elements of a list as a slice of them
pub listed : {elements items : List Value} {array : Option Items} → elements ≡ items → Some (items_view items) ≡ array → Some (items_view elements) ≡ array
listed is h = ap (λ l. Some (items_view l)) is ∙ h

abbrev pub shape : List Data → List (List ℕ) → Repertoire → Shape
shape constraints tasks repertoire = record { constraints = constraints; tasks = tasks; repertoire = repertoire }

-- the shape of a value by its parts
pub shape_of-is : (value : Data) (constraints : List Data) (tasks : List (List ℕ)) (repertoire : Repertoire) → option_and_then list_in (get (codes "constraints") value) ≡ Some constraints
    → tasks_in value ≡ Some tasks → repertoire_of value ≡ Some repertoire → shape_of value ≡ Some (shape constraints tasks repertoire)
shape_of-is value constraints tasks repertoire are_constraints are_tasks is_repertoire =
    ap (option_and_then (λ constraints. option_and_then (λ tasks. option_map (shape constraints tasks) (repertoire_of value)) (tasks_in value))) are_constraints
    ∙ ap (option_and_then (λ tasks. option_map (shape constraints tasks) (repertoire_of value))) are_tasks
    ∙ ap (option_map (shape constraints tasks)) is_repertoire
