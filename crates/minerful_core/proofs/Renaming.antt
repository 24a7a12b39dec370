-- A model over other names: its constraints are as well made as they were, where those names have its own.
use Rattle.std.proofs.Common.{◌≡◌, ◌≢◌, ℕ, ◌<◌, ◌+◌, ◌*◌, ◌≤◌, List, [], ◌∷◌, ◌++◌, Bool, true, false, cond, refl, ◌||◌, All, fold, take, Result, Ok, Err, IfOk, Some, slice_get, slice_index_or, length, sym, ap, subst, ◌∙◌, arith}
use Rattle.std.specs.Cmp.Lexicographic.{bytes_decides}
use Rattle.std.specs.Str.{bytes_eq}
use Rattle.std.proofs.lemmas.List.{length-append, length-map, length-take, length_push}
use Rattle.std.proofs.lemmas.List.Elements.{All-map, All-weaker}
use Rattle.std.proofs.lemmas.List.Folds.{list_any-append}
use Rattle.std.proofs.lemmas.Option.{get_or_from_slice_get}
use Rattle.std.proofs.lemmas.List.Sums.{fold-append, passes_at_first}
use Rattle.decl_base.specs.Limits.{standard}
use Rattle.decl_base.specs.declared.refusal.Refusal.{Refusal}
use Rattle.decl_base.specs.declared.refusal.Refusal.TheVariants as refusal
use Rattle.event_log.specs.Alphabet.{AddCause, Names}
use Rattle.event_log.specs.Logs.{StandOnce, first_seen, has_name, in_byte_order, place_of, with_name}
use Rattle.event_log.proofs.Alphabets.{ascending-same, first_seen-has, in_byte_order-ascends, in_byte_order-has, length-in_byte_order}
use Rattle.event_log.proofs.Appearing.{one_place}
use Rattle.model_json.specs.Model.{IsModel, Known}
use Rattle.template_core.specs.Constraints.{IsWellMadeFor, IsWellMadeIn}
use Rattle.template_core.specs.Groups.{group_of}
use Rattle.template_core.specs.declared.constraint.Constraint.{Constraint}
use Rattle.template_core.specs.declared.group.Group.{Group}
use Rattle.template_core.specs.declared.group.Group.TheVariants.{Existence, Relation, Mutual, Negative}
use Rattle.template_core.proofs.Made.{made-from, made-in, made-template}
use Rattle.minerful_core.specs.Models.{constraints_over, names_of, names_of_both, put_over, symbols_of}
use Rattle.minerful_core.proofs.Ranking.{has_name-at, place_below}

-- these names have those of the model
abbrev pub HasNames : List (List ℕ) → Known → Type 0
HasNames names model = (name : List ℕ) → has_name model.names name ≡ true → has_name names name ≡ true

module _ (names : List (List ℕ)) (model : Known) (has : HasNames names model) (once : StandOnce model.names) where
  -- the place among the names of the activity with this number
  abbrev place : ℕ → ℕ
  place id = place_of names (slice_index_or model.names id [])

  place-below : (id : ℕ) → id < length model.names → place id < length names
  place-below id inside = place_below names (slice_index_or model.names id []) (has (slice_index_or model.names id []) (has_name-at model.names id inside))

  name-there : (id : ℕ) → id < length model.names → slice_index_or model.names id [] ≡ slice_index_or names (place id) []
  name-there id inside =
      (bytes_decides (slice_index_or model.names id []) (slice_index_or names (place id) [])).0
      (passes_at_first (bytes_eq (slice_index_or model.names id [])) names [] (place-below id inside))

  places-differ : (a b : ℕ) → a < length model.names → b < length model.names → a ≢ b → place a ≢ place b
  places-differ a b in_a in_b apart same =
      apart (one_place model.names a b once in_a in_b (name-there a in_a ∙ ap (λ k. slice_index_or names k []) same ∙ sym (name-there b in_b)))

  made-there : (group : Group) (a b : ℕ) → a < length model.names → b < length model.names → IsWellMadeIn group a b → IsWellMadeIn group (place a) (place b)
  made-there Existence a b in_a in_b same = ap place same
  made-there (Relation activation) a b in_a in_b apart = places-differ a b in_a in_b apart
  made-there Mutual a b in_a in_b apart = places-differ a b in_a in_b apart
  made-there Negative a b in_a in_b apart = places-differ a b in_a in_b apart

  one-made : (c : Constraint) → IsWellMadeFor (length model.names) c → IsWellMadeFor (symbols_of names) (put_over names model c)
  one-made c made = record {
    first = omega (arith, place-below c.first made.first);
    second = omega (arith, place-below c.second made.second);
    made = made-from c.kind (place c.first) (place c.second) (made-template c.kind c.first c.second made.made)
        (made-there (group_of c.kind) c.first c.second made.first made.second (made-in c.kind c.first c.second made.made));
  }

  pub constraints-made : All (IsWellMadeFor (length model.names)) model.constraints → All (IsWellMadeFor (symbols_of names)) (constraints_over names model)
  constraints-made made =
      All-map (IsWellMadeFor (symbols_of names)) (put_over names model) model.constraints
      (All-weaker (IsWellMadeFor (length model.names)) (λ c. IsWellMadeFor (symbols_of names) (put_over names model c)) one-made model.constraints made)

-- a name that was found stands at this place
pub place-is : (names own listed : List (List ℕ)) (id : ℕ) (name : List ℕ) (place : ℕ) → place ≡ place_of names name → slice_get listed id ≡ Some name → listed ≡ own
    → place ≡ place_of names (slice_index_or own id [])
place-is names own listed id name place is at same =
    is ∙ ap (place_of names) (sym (get_or_from_slice_get listed id name [] at) ∙ ap (λ l. slice_index_or l id []) same)

-- a model that was read is one that a model may be
pub is_model : {E : Type 0} (read : Result Known E) → IfOk read (λ m. StandOnce m.names) → IfOk read (λ m. All (IsWellMadeFor (length m.names)) m.constraints)
    → IfOk read (λ m. (length m.names ≤ standard.activities) × (length m.constraints ≤ standard.candidates)) → IfOk read IsModel
is_model (Ok m) once made few = record { once = once; few_names = few.0; few_constraints = few.1; made = made }
is_model (Err e) once made few = tt

-- ---- the names of one model and of two

pub has-own : (model : Known) → HasNames (names_of model) model
has-own model name h = in_byte_order-has model.names name ∙ h

module _ (first second : Known) where
  either : (name : List ℕ) → has_name (names_of_both first second) name ≡ (has_name first.names name || has_name second.names name)
  either name = in_byte_order-has (first.names ++ second.names) name ∙ list_any-append (bytes_eq name) first.names second.names

  or_true : (b : Bool) → (b || true) ≡ true
  or_true true = refl
  or_true false = refl

  pub has-first : HasNames (names_of_both first second) first
  has-first name h = either name ∙ ap (λ b. b || has_name second.names name) h

  pub has-second : HasNames (names_of_both first second) second
  has-second name h = either name ∙ ap (λ b. has_name first.names name || b) h ∙ or_true (has_name first.names name)

-- names in the order in which they first appear have the same order
in_byte_order-seen : (names : List (List ℕ)) → in_byte_order (first_seen names) ≡ in_byte_order names
in_byte_order-seen names =
    ascending-same (in_byte_order (first_seen names)) (in_byte_order names) (in_byte_order-ascends (first_seen names)) (in_byte_order-ascends names)
    (λ name. in_byte_order-has (first_seen names) name ∙ first_seen-has names name ∙ sym (in_byte_order-has names name))

-- the names of the second model are added to those of the first
pub both-added : (first second : Known) → in_byte_order (fold with_name (fold with_name [] first.names) second.names) ≡ names_of_both first second
both-added first second = ap in_byte_order (sym (fold-append with_name [] first.names second.names)) ∙ in_byte_order-seen (first.names ++ second.names)

-- ---- what a comparison and an analysis ask for

pub few_both : (first second : Known) (names : List (List ℕ)) → names ≡ names_of_both first second → IsModel first → IsModel second → length names ≤ 2 * standard.activities
few_both first second names is one other =
    omega (arith, ap length is, length-in_byte_order (first.names ++ second.names), length-append first.names second.names, one.few_names, other.few_names)

pub few_names_of : (model : Known) (names : List (List ℕ)) → names ≡ names_of model → IsModel model → length names ≤ standard.activities
few_names_of model names is own = omega (arith, ap length is, length-in_byte_order model.names, own.few_names)

pub few_own : (model : Known) (names : List (List ℕ)) → names ≡ names_of model → IsModel model → length names ≤ 2 * standard.activities
few_own model names is own = omega (arith, ap length is, length-in_byte_order model.names, own.few_names)

module _ (model : Known) (is_model : IsModel model) (names : List (List ℕ)) (list : List Constraint) (is : list ≡ constraints_over names model) where
  pub made_over : (n : ℕ) → n ≡ symbols_of names → HasNames names model → All (IsWellMadeFor n) list
  made_over n symbols has =
      subst (λ l. All (IsWellMadeFor n) l) (sym is) (subst (λ k. All (IsWellMadeFor k) (constraints_over names model)) (sym symbols) (constraints-made names model has is_model.once is_model.made))

  pub few_over : length list ≤ 65536
  few_over =
      let few : length model.constraints ≤ 65536 = is_model.few_constraints in
      omega (arith, ap length is, length-map model.constraints (put_over names model), few)

-- ---- names that are added

one-more : (names : List (List ℕ)) (name : List ℕ) → length (with_name names name) ≤ length names + 1
one-more names name =
    elim (has_name names name) as (λ v. length (cond v names (names ++ name ∷ [])) ≤ length names + 1) [
      | true ↦ omega arith
      | false ↦ omega (arith, length_push names name)
    ]

pub added-few : (names more : List (List ℕ)) → length (fold with_name names more) ≤ length names + length more
added-few names [] = omega arith
added-few names (name ∷ more) = omega (arith, added-few (with_name names name) more, one-more names name)

abbrev pub named_with : List (List ℕ) → ℕ → Names
named_with names limit = record { names = names; limit = limit }

-- behind the names that were added before the last ones, there is room for one more
pub room_for_one : (old now : Names) (more : List (List ℕ)) (id : ℕ) → length old.names + length more ≤ old.limit → id < length more → now ≡ named_with (fold with_name old.names (take id more)) old.limit
    → length now.names < now.limit
room_for_one old now more id room inside is =
    omega (arith, room, inside, ap (λ (n : Names). length n.names) is, ap (λ (n : Names). n.limit) is, added-few old.names (take id more), length-take id more)

-- where there is room, only memory is refused
pub only_memory : (names : Names) (name : List ℕ) (r : Refusal) → length names.names < names.limit → AddCause names name r → r ≡ refusal.Memory
only_memory names name (refusal.Activities n) room h = absurd (omega (arith, room, h.1))
only_memory names name refusal.Memory room h = refl
only_memory names name r room h = absurd h
