-- The model that a JSON value is, by rules on its members: the first rule that fails is the refusal.
use Rattle.std.specs.Prelude.{◌≡◌, ◌≤◌, ℕ, ◌+◌, ◌==◌, ◌&&◌, List, [], ◌∷◌, ◌++◌, Bool, true, false, if◌then◌else◌, nat_le, fold, codes, length, map, All, Option, None, Some, option_map, option_and_then, unwrap_or, Result, Ok, Err}
use Rattle.std.specs.List.{find}
use Rattle.std.specs.Option.{ok_or}
use Rattle.std.specs.Str.{bytes_eq, is_utf8}
use Rattle.serde_json.specs.Data.{Data, Items, no_items, item}
use Rattle.serde_json.specs.Find.{get, as_str, as_array, as_number, as_u64, is_float}
use Rattle.serde_json.specs.Read.{read}
use Rattle.decl_base.specs.Limits.{standard}
use Rattle.decl_base.specs.declared.refusal.Refusal.{Refusal}
use Rattle.decl_base.specs.declared.refusal.Refusal.TheVariants.{NotJson, ModelShape, Candidates, Activities, UnknownTemplate, Parameters, SameParameter, Memory}
use Rattle.event_log.specs.Logs.{with_name, first_seen, place_of, StandOnce}
use Rattle.template_core.specs.Constraints.{arity, IsWellMadeFor}
use Rattle.template_core.specs.Repertoires.{is_of}
use Rattle.template_core.specs.declared.constraint.Constraint.{Constraint}
use Rattle.template_core.specs.declared.kind.Kind.{Kind}
use Rattle.template_core.specs.declared.repertoire.Repertoire.{Repertoire}
use Rattle.template_core.specs.declared.repertoire.Repertoire.TheVariants.{First, Second}
use Rattle.template_set.specs.Names.{all_kinds, name_of}
use Rattle.scoring.specs.declared.scored.Scored.{Scored}

-- the names of a model, each once, and its constraints over their places
pub record Known : Type 0 where
  pub names : List (List ℕ)
  pub constraints : List Constraint

-- names and constraints that a model may have
pub record IsModel (model : Known) : Type 0 where
  pub once : StandOnce model.names
  pub few_names : length model.names ≤ standard.activities
  pub few_constraints : length model.constraints ≤ standard.candidates
  pub made : All (IsWellMadeFor (length model.names)) model.constraints

-- the first refusal decides
infixl 10 ◌>>=◌
abbrev pub ◌>>=◌ : {A B : Type 0} → Result A Refusal → (A → Result B Refusal) → Result B Refusal
(Ok x) >>= f = f x
(Err r) >>= f = Err r

-- ---- lists in a value

abbrev pub values_of : Items → List Data
values_of no_items = []
values_of (item d ds) = d ∷ values_of ds

abbrev pub list_in : Data → Option (List Data)
list_in value = option_map values_of (as_array value)

-- what is read of each element, where something is read of all
abbrev pub each : {A B : Type 0} → (A → Option B) → List A → Option (List B)
each f [] = Some []
each f (x ∷ xs) = option_and_then (λ y. option_map (λ ys. y ∷ ys) (each f xs)) (f x)

abbrev pub texts_in : Data → Option (List (List ℕ))
texts_in value = option_and_then (each as_str) (list_in value)

-- ---- the value as a whole

-- version 1 has the first repertoire, and version 2 the second
abbrev pub repertoire_numbered : ℕ → Option Repertoire
repertoire_numbered whole = if whole == 1 then Some First else (if whole == 2 then Some Second else None)

-- the repertoire of a version; one that is no whole number is read past
abbrev pub repertoire_in : Data → Option Repertoire
repertoire_in version =
    unwrap_or (option_map (λ n. if is_float n then Some First else option_and_then repertoire_numbered (as_u64 n)) (as_number version)) (Some First)

-- the repertoire of a model: the first where it has no version
abbrev pub repertoire_of : Data → Option Repertoire
repertoire_of value = unwrap_or (option_map repertoire_in (get (codes "version") value)) (Some First)

-- the tasks, where they are texts; none where the member is left out
abbrev pub tasks_in : Data → Option (List (List ℕ))
tasks_in value = unwrap_or (option_map texts_in (get (codes "tasks") value)) (Some [])

-- the constraints, the tasks and the repertoire, where the value has the shape of a model
pub record Shape : Type 0 where
  pub constraints : List Data
  pub tasks : List (List ℕ)
  pub repertoire : Repertoire

abbrev pub shape_of : Data → Option Shape
shape_of value =
    option_and_then (λ constraints. option_and_then (λ tasks. option_map (λ repertoire.
    record { constraints = constraints; tasks = tasks; repertoire = repertoire })
    (repertoire_of value))
    (tasks_in value))
    (option_and_then list_in (get (codes "constraints") value))

-- names within the limit on activities
abbrev pub within : List (List ℕ) → Result (List (List ℕ)) Refusal
within names = if nat_le (length names) standard.activities then Ok names else Err (Activities standard.activities)

-- ---- an item of the constraints

-- the text of its template, and of each of its parameters the texts
pub record Item : Type 0 where
  pub template : List ℕ
  pub parameters : List (List (List ℕ))

abbrev pub item_of : Data → Option Item
item_of value =
    option_and_then (λ template. option_map (λ parameters. record { template = template; parameters = parameters })
    (option_and_then (λ list. option_and_then (each texts_in) (list_in list)) (get (codes "parameters") value)))
    (option_and_then as_str (get (codes "template") value))

-- the template of the repertoire that has the name
abbrev pub kind_named : Repertoire → List ℕ → Option Kind
kind_named repertoire text = find (λ kind. is_of repertoire kind && bytes_eq text (name_of kind)) all_kinds

abbrev pub only : List (List ℕ) → Option (List ℕ)
only [] = None
only (text ∷ []) = Some text
only (text ∷ next ∷ texts) = None

-- the names that are put in: of each parameter its only text, as many as the template has activities
abbrev pub activities_in : Kind → List (List (List ℕ)) → Option (List (List ℕ))
activities_in kind parameters =
    option_and_then (λ names. if length names == arity kind then Some names else None) (each only parameters)

abbrev pub is_twice : List (List ℕ) → Bool
is_twice [] = false
is_twice (first ∷ []) = false
is_twice (first ∷ second ∷ names) = bytes_eq first second

-- one name, or two, as the template has activities
abbrev pub activities : Kind → List ℕ → List ℕ → List (List ℕ)
activities kind first second = if arity kind == 1 then first ∷ [] else first ∷ second ∷ []

-- the constraint of a template and the names that are put in, over the places of the names of a model
abbrev pub put_in : Kind → List (List ℕ) → List (List ℕ) → Constraint
put_in kind names [] = record { kind = kind; first = 0; second = 0 }
put_in kind names (first ∷ []) = record { kind = kind; first = place_of names first; second = place_of names first }
put_in kind names (first ∷ second ∷ more) = record { kind = kind; first = place_of names first; second = place_of names second }

-- the item with this number, from 1, behind some names: its constraint, and the names with its own
abbrev pub item_read : Repertoire → ℕ → List (List ℕ) → Data → Result (Constraint × List (List ℕ)) Refusal
item_read repertoire number names value = do
  texts ← ok_or (item_of value) (ModelShape number)
  kind ← ok_or (kind_named repertoire texts.template) (UnknownTemplate number)
  activities ← ok_or (activities_in kind texts.parameters) (Parameters number)
  different ← (if is_twice activities then Err (SameParameter number) else Ok activities)
  more ← within (fold with_name names different)
  Ok (put_in kind more different, more)

-- the items from that number on, behind a model so far: one after another, the names and the constraints go last
abbrev pub items_read : Repertoire → ℕ → Known → List Data → Result Known Refusal
items_read repertoire number so_far [] = Ok so_far
items_read repertoire number so_far (value ∷ values) = do
  next ← item_read repertoire number so_far.names value
  items_read repertoire (number + 1) (record { names = next.1; constraints = so_far.constraints ++ next.0 ∷ [] }) values

-- ---- the model of a value and of bytes

abbrev pub model_of : Data → Result Known Refusal
model_of value = do
  shape ← ok_or (shape_of value) (ModelShape 0)
  constraints ← (if nat_le (length shape.constraints) standard.candidates then Ok shape.constraints else Err (Candidates (length shape.constraints)))
  names ← within (first_seen shape.tasks)
  items_read shape.repertoire 1 (record { names = names; constraints = [] }) constraints

-- the value that the bytes are, where they are JSON
abbrev pub json_of : List ℕ → Result Data Refusal
json_of bytes = ok_or (if is_utf8 bytes then read bytes else None) NotJson

abbrev pub model_of_bytes : List ℕ → Result Known Refusal
model_of_bytes bytes = json_of bytes >>= model_of

-- ---- what a report lists

-- the names and the constraints, without their scores
abbrev pub listed : List (List ℕ) → List Scored → Known
listed names list = record { names = names; constraints = map (λ scored. scored.constraint) list }

-- what a report of the repertoire may list
abbrev pub AreOf : Repertoire → List Scored → Type 0
AreOf repertoire list = All (λ scored. is_of repertoire scored.constraint.kind ≡ true) list

abbrev pub IsListed : Repertoire → List (List ℕ) → List Scored → Type 0
IsListed repertoire names list = IsModel (listed names list) × AreOf repertoire list

-- ---- why there is none

-- why there is no answer, or want of memory
abbrev pub ModelCause : {A : Type 0} → Result A Refusal → Refusal → Type 0
ModelCause outcome Memory = Unit {0}
ModelCause outcome cause = outcome ≡ Err cause

-- the refusals that a model may meet
abbrev pub IsOfModel : Refusal → Type 0
IsOfModel NotJson = Unit {0}
IsOfModel (ModelShape at) = Unit {0}
IsOfModel (UnknownTemplate at) = Unit {0}
IsOfModel (Parameters at) = Unit {0}
IsOfModel (SameParameter at) = Unit {0}
IsOfModel (Activities limit) = Unit {0}
IsOfModel (Candidates count) = Unit {0}
IsOfModel Memory = Unit {0}
IsOfModel other = ⊥
