-- What is read as a model is one, and what isn't is refused as one.
use Rattle.std.proofs.Common.{◌≡◌, ◌≢◌, ℕ, ◌+◌, ◌≤◌, ◌<◌, List, [], ◌∷◌, ◌++◌, Bool, true, false, cond, eqb, fold, length, refl, sym, ap, ◌∙◌, subst, Option, None, Some, Result, Ok, Err, option_and_then, arith, true≢false, ⊎_elim}
use Rattle.std.specs.Prelude.{nat_le, All, slice_index_or}
use Rattle.std.specs.Option.{ok_or}
use Rattle.std.specs.Str.{bytes_eq}
use Rattle.std.specs.Cmp.Lexicographic.{bytes_decides}
use Rattle.std.proofs.lemmas.Bool.{eqb-true}
use Rattle.std.proofs.lemmas.Bool.Decides.{nat_tests}
use Rattle.std.proofs.lemmas.List.{length_push}
use Rattle.std.proofs.lemmas.List.Sums.{fold-append}
use Rattle.std.proofs.lemmas.List.Elements.{All-nil, All-push, All-weaker}
use Rattle.serde_json.specs.Data.{Data}
use Rattle.decl_base.specs.Limits.{standard}
use Rattle.decl_base.specs.declared.refusal.Refusal.{Refusal}
use Rattle.decl_base.specs.declared.refusal.Refusal.TheVariants.{NotJson, ModelShape, Candidates, UnknownTemplate, Parameters, SameParameter, Activities}
use Rattle.event_log.specs.Logs.{first_seen, with_name, place_of, StandOnce}
use Rattle.event_log.proofs.Appearing.{first_seen-once, place-with_name, place_of-keeps, place_of-put, seen-least, with_name-keeps, with_name-least}
use Rattle.template_core.proofs.Made.{made-from}
use Rattle.template_core.specs.Constraints.{arity, IsTemplate, IsWellMadeIn, IsWellMadeFor}
use Rattle.template_core.specs.Groups.{group_of, activities_of}
use Rattle.template_core.specs.declared.group.Group.{Group}
use Rattle.template_core.specs.declared.group.Group.TheVariants.{Existence, Relation, Mutual, Negative}
use Rattle.template_core.specs.declared.constraint.Constraint.{Constraint}
use Rattle.template_core.specs.declared.kind.Kind.{Kind}
use Rattle.template_core.specs.declared.repertoire.Repertoire.{Repertoire}
use Rattle.model_json.proofs.ItemsRead.{named-template, one_or_two}
use Rattle.model_json.specs.Model.{Known, IsModel, IsOfModel, ◌>>=◌, activities_in, each, is_twice, item_of, item_read, items_read, json_of, kind_named, model_of, model_of_bytes, only, put_in, shape_of, within}

-- ---- the first refusal decides

answered : {A B : Type 0} (o : Result A Refusal) (f : A → Result B Refusal) (y : B) → (o >>= f) ≡ Ok y → (x : A) × (o ≡ Ok x) × (f x ≡ Ok y)
answered (Ok x) f y h = (x, refl, h)
answered (Err r) f y h = absurd (cc)

refused : {A B : Type 0} (P : Type 0) (o : Result A Refusal) (f : A → Result B Refusal) (r : Refusal) → (o ≡ Err r → P) → ((x : A) → f x ≡ Err r → P) → (o >>= f) ≡ Err r → P
refused P (Ok x) f r first later h = later x h
refused P (Err e) f r first later h = let same : e ≡ r = cc in first (ap Err same)

ok_is : {A : Type 0} (x y : A) (o : Result A Refusal) → o ≡ Ok x → o ≡ Ok y → x ≡ y
ok_is x y o h k = cc

some_of : {A : Type 0} (o : Option A) (e : Refusal) (x : A) → ok_or o e ≡ Ok x → o ≡ Some x
some_of None e x h = absurd (cc)
some_of (Some y) e x h = let same : y ≡ x = cc in ap Some same

or_refusal : (P : Refusal → Type 0) {A : Type 0} (o : Option A) (e r : Refusal) → P e → ok_or o e ≡ Err r → P r
or_refusal P None e r h is = let same : e ≡ r = cc in subst P same h
or_refusal P (Some y) e r h is = absurd (cc)

tested : {A : Type 0} (b : Bool) (x y : A) (e : Refusal) → cond b (Ok x) (Err e) ≡ Ok y → (b ≡ true) × (x ≡ y)
tested true x y e h = (refl, cc)
tested false x y e h = absurd (cc)

test_refusal : (P : Refusal → Type 0) {A : Type 0} (b : Bool) (x : A) (e r : Refusal) → P e → cond b (Ok x) (Err e) ≡ Err r → P r
test_refusal P true x e r h is = absurd (cc)
test_refusal P false x e r h is = let same : e ≡ r = cc in subst P same h

passed : {A : Type 0} (b : Bool) (x y : A) (e : Refusal) → cond b (Err e) (Ok x) ≡ Ok y → (b ≡ false) × (x ≡ y)
passed true x y e h = absurd (cc)
passed false x y e h = (refl, cc)

pass_refusal : (P : Refusal → Type 0) {A : Type 0} (b : Bool) (x : A) (e r : Refusal) → P e → cond b (Err e) (Ok x) ≡ Err r → P r
pass_refusal P true x e r h is = let same : e ≡ r = cc in subst P same h
pass_refusal P false x e r h is = absurd (cc)

-- ---- refusals

within-of : (names : List (List ℕ)) (r : Refusal) → within names ≡ Err r → IsOfModel r
within-of names r h = test_refusal IsOfModel (nat_le (length names) standard.activities) names (Activities standard.activities) r tt h

item-of : (repertoire : Repertoire) (number : ℕ) (names : List (List ℕ)) (value : Data) (r : Refusal) → item_read repertoire number names value ≡ Err r → IsOfModel r
item-of repertoire number names value r h =
    refused (IsOfModel r) (ok_or (item_of value) (ModelShape number)) _ r (or_refusal IsOfModel (item_of value) (ModelShape number) r tt)
    (λ texts. refused (IsOfModel r) (ok_or (kind_named repertoire texts.template) (UnknownTemplate number)) _ r (or_refusal IsOfModel (kind_named repertoire texts.template) (UnknownTemplate number) r tt)
    (λ kind. refused (IsOfModel r) (ok_or (activities_in kind texts.parameters) (Parameters number)) _ r (or_refusal IsOfModel (activities_in kind texts.parameters) (Parameters number) r tt)
    (λ put. refused (IsOfModel r) (cond (is_twice put) (Err (SameParameter number)) (Ok put)) _ r (pass_refusal IsOfModel (is_twice put) put (SameParameter number) r tt)
    (λ different. refused (IsOfModel r) (within (fold with_name names different)) _ r (within-of (fold with_name names different) r) (λ more e. absurd (cc)))))) h

items-of : (repertoire : Repertoire) (number : ℕ) (so_far : Known) (values : List Data) (r : Refusal) → items_read repertoire number so_far values ≡ Err r → IsOfModel r
items-of repertoire number so_far [] r h = absurd (cc)
items-of repertoire number so_far (value ∷ values) r h =
    refused (IsOfModel r) (item_read repertoire number so_far.names value) _ r (item-of repertoire number so_far.names value r)
    (λ next. items-of repertoire (number + 1) (record { names = next.1; constraints = so_far.constraints ++ next.0 ∷ [] }) values r) h

model-of : (value : Data) (r : Refusal) → model_of value ≡ Err r → IsOfModel r
model-of value r h =
    refused (IsOfModel r) (ok_or (shape_of value) (ModelShape 0)) _ r (or_refusal IsOfModel (shape_of value) (ModelShape 0) r tt)
    (λ shape. refused (IsOfModel r) (cond (nat_le (length shape.constraints) standard.candidates) (Ok shape.constraints) (Err (Candidates (length shape.constraints)))) _ r
    (test_refusal IsOfModel (nat_le (length shape.constraints) standard.candidates) shape.constraints (Candidates (length shape.constraints)) r tt)
    (λ constraints. refused (IsOfModel r) (within (first_seen shape.tasks)) _ r (within-of (first_seen shape.tasks) r)
    (λ names. items-of shape.repertoire 1 (record { names = names; constraints = [] }) constraints r))) h

pub of_model : (bytes : List ℕ) (r : Refusal) → model_of_bytes bytes ≡ Err r → IsOfModel r
of_model bytes r h = refused (IsOfModel r) (json_of bytes) model_of r (or_refusal IsOfModel _ NotJson r tt) (λ value. model-of value r) h

-- ---- constraints are well made

one_activity : (group : Group) (a b : ℕ) → activities_of group ≡ 1 → a ≡ b → IsWellMadeIn group a b
one_activity Existence a b one h = h
one_activity (Relation activation) a b one h = absurd (omega (arith, one))
one_activity Mutual a b one h = absurd (omega (arith, one))
one_activity Negative a b one h = absurd (omega (arith, one))

two_activities : (group : Group) (a b : ℕ) → activities_of group ≡ 2 → a ≢ b → IsWellMadeIn group a b
two_activities Existence a b two h = absurd (omega (arith, two))
two_activities (Relation activation) a b two h = h
two_activities Mutual a b two h = h
two_activities Negative a b two h = h

-- names that are put in have their places among the names
module _ (names : List (List ℕ)) (first second : List ℕ) where
  first_place : place_of (with_name (with_name names first) second) first ≡ place_of (with_name names first) first
  first_place = place_of-keeps (with_name names first) first second (omega (arith, place_of-put names first, (place-with_name names first).0))

  first_inside : place_of (with_name (with_name names first) second) first < length (with_name (with_name names first) second)
  first_inside = omega (arith, first_place, place_of-put names first, (place-with_name names first).0, with_name-least (with_name names first) second)

  second_inside : place_of (with_name (with_name names first) second) second < length (with_name (with_name names first) second)
  second_inside = omega (arith, place_of-put (with_name names first) second, (place-with_name (with_name names first) second).0)

  first_at : slice_index_or (with_name (with_name names first) second) (place_of (with_name (with_name names first) second) first) [] ≡ first
  first_at =
      let at : place_of (with_name (with_name names first) second) first ≡ place_of names first = first_place ∙ place_of-put names first in
      ap (λ n. slice_index_or (with_name (with_name names first) second) n []) at
      ∙ with_name-keeps (with_name names first) second (place_of names first) (place-with_name names first).0 ∙ (place-with_name names first).1

  second_at : slice_index_or (with_name (with_name names first) second) (place_of (with_name (with_name names first) second) second) [] ≡ second
  second_at = ap (λ n. slice_index_or (with_name (with_name names first) second) n []) (place_of-put (with_name names first) second) ∙ (place-with_name (with_name names first) second).1

  places_differ : bytes_eq first second ≡ false
      → place_of (with_name (with_name names first) second) first ≢ place_of (with_name (with_name names first) second) second
  places_differ apart same =
      true≢false (sym ((bytes_decides first second).1 (sym first_at ∙ ap (λ n. slice_index_or (with_name (with_name names first) second) n []) same ∙ second_at)) ∙ apart)

-- as many names as the template has activities, that are not twice the same
put-made : (kind : Kind) (names put : List (List ℕ)) → IsTemplate kind → length put ≡ arity kind → is_twice put ≡ false → IsWellMadeFor (length (fold with_name names put)) (put_in kind (fold with_name names put) put)
put-made kind names [] known count apart = ⊎_elim (λ one. absurd (omega (arith, count, one))) (λ two. absurd (omega (arith, count, two))) (one_or_two kind)
put-made kind names (first ∷ []) known count apart =
    let inside : place_of (with_name names first) first < length (with_name names first) = omega (arith, place_of-put names first, (place-with_name names first).0) in
    record { first = inside; second = inside; made = made-from kind (place_of (with_name names first) first) (place_of (with_name names first) first) known (one_activity (group_of kind) _ _ (sym count) refl) }
put-made kind names (first ∷ second ∷ []) known count apart = record {
  first = first_inside names first second;
  second = second_inside names first second;
  made = made-from kind (place_of (with_name (with_name names first) second) first) (place_of (with_name (with_name names first) second) second) known
      (two_activities (group_of kind) _ _ (sym count) (places_differ names first second apart));
}
put-made kind names (first ∷ second ∷ third ∷ put) known count apart = ⊎_elim (λ one. absurd (omega (arith, count, one))) (λ two. absurd (omega (arith, count, two))) (one_or_two kind)

-- ---- models

-- names that were seen one after another, and constraints over them
record IsSoFar (model : Known) : Type 0 where
  seen : (texts : List (List ℕ)) × (model.names ≡ first_seen texts)
  few : length model.names ≤ standard.activities
  made : All (IsWellMadeFor (length model.names)) model.constraints

within-is : (names more : List (List ℕ)) → within names ≡ Ok more → (names ≡ more) × (length more ≤ standard.activities)
within-is names more h =
    let test = tested (nat_le (length names) standard.activities) names more (Activities standard.activities) h in
    let below : length names ≤ standard.activities = grind (arith, nat_tests) in
    (test.1, subst (λ l. length l ≤ standard.activities) test.1 below)

counted : (kind : Kind) (o : Option (List (List ℕ))) (put : List (List ℕ))
    → option_and_then (λ names. cond (eqb (length names) (arity kind)) (Some names) None) o ≡ Some put → length put ≡ arity kind
counted kind None put h = absurd (cc)
counted kind (Some names) put h = go (eqb (length names) (arity kind)) refl h
  where
    go : (b : Bool) → eqb (length names) (arity kind) ≡ b → cond b (Some names) None ≡ Some put → length put ≡ arity kind
    go true e is = let same : names ≡ put = cc in ap length (sym same) ∙ eqb-true (length names) (arity kind) e
    go false e is = absurd (cc)

-- what an item adds
pub item-made : (repertoire : Repertoire) (number : ℕ) (names : List (List ℕ)) (value : Data) (next : Constraint × List (List ℕ)) → item_read repertoire number names value ≡ Ok next
    → (put : List (List ℕ)) × (next.1 ≡ fold with_name names put) × (length next.1 ≤ standard.activities) × IsWellMadeFor (length next.1) next.0
item-made repertoire number names value next h =
    let texts = answered (ok_or (item_of value) (ModelShape number)) _ next h in
    let kind = answered (ok_or (kind_named repertoire texts.0.template) (UnknownTemplate number)) _ next texts.2 in
    let put = answered (ok_or (activities_in kind.0 texts.0.parameters) (Parameters number)) _ next kind.2 in
    let different = answered (cond (is_twice put.0) (Err (SameParameter number)) (Ok put.0)) _ next put.2 in
    let more = answered (within (fold with_name names different.0)) _ next different.2 in
    let apart = passed (is_twice put.0) put.0 different.0 (SameParameter number) different.1 in
    let fits = within-is (fold with_name names different.0) more.0 more.1 in
    let same = ok_is (put_in kind.0 more.0 different.0, more.0) next _ refl more.2 in
    let count = counted kind.0 (each only texts.0.parameters) put.0 (some_of (activities_in kind.0 texts.0.parameters) (Parameters number) put.0 put.1) in
    let put_is : put.0 ≡ different.0 = apart.1 in
    let template = named-template repertoire texts.0.template kind.0 (some_of (kind_named repertoire texts.0.template) (UnknownTemplate number) kind.0 kind.1) in
    let made = put-made kind.0 names different.0 template (ap length (sym put_is) ∙ count) (ap is_twice (sym put_is) ∙ apart.0) in
    subst (λ (next : Constraint × List (List ℕ)). (put : List (List ℕ)) × (next.1 ≡ fold with_name names put) × (length next.1 ≤ standard.activities) × IsWellMadeFor (length next.1) next.0) same
    (different.0, sym fits.0, fits.1, subst (λ l. IsWellMadeFor (length l) (put_in kind.0 l different.0)) fits.0 made)

-- well made for fewer names is well made for more
wider : (n m : ℕ) (c : Constraint) → n ≤ m → IsWellMadeFor n c → IsWellMadeFor m c
wider n m c h made = record { first = omega (arith, made.first); second = omega (arith, made.second); made = made.made }

items-made : (repertoire : Repertoire) (number : ℕ) (so_far : Known) (values : List Data) (model : Known) → IsSoFar so_far → items_read repertoire number so_far values ≡ Ok model
    → IsSoFar model × (length model.constraints ≡ length so_far.constraints + length values)
items-made repertoire number so_far [] model h read = subst (λ m. IsSoFar m × (length m.constraints ≡ length so_far.constraints + 0)) (ok_is so_far model _ refl read) (h, omega arith)
items-made repertoire number so_far (value ∷ values) model h read =
    let next = answered (item_read repertoire number so_far.names value) _ model read in
    let item = item-made repertoire number so_far.names value next.0 next.1 in
    let grown : length so_far.names ≤ length next.0.1 = omega (arith, ap length item.1, seen-least so_far.names item.0) in
    let seen : next.0.1 ≡ first_seen (h.seen.0 ++ item.0) =
    item.1 ∙ ap (λ l. fold with_name l item.0) h.seen.1 ∙ sym (fold-append with_name [] h.seen.0 item.0) in
    let rest = items-made repertoire (number + 1) (record { names = next.0.1; constraints = so_far.constraints ++ next.0.0 ∷ [] }) values model (record {
      seen = (h.seen.0 ++ item.0, seen);
      few = item.2;
      made = All-push (IsWellMadeFor (length next.0.1)) so_far.constraints next.0.0
          (All-weaker (IsWellMadeFor (length so_far.names)) (IsWellMadeFor (length next.0.1)) (λ c. wider (length so_far.names) (length next.0.1) c grown) so_far.constraints h.made) item.3;
    }) next.2 in
    (rest.0, omega (arith, rest.1, length_push so_far.constraints next.0.0))

model-made : (value : Data) (model : Known) → model_of value ≡ Ok model → IsModel model
model-made value model read =
    let shape = answered (ok_or (shape_of value) (ModelShape 0)) _ model read in
    let constraints = answered (cond (nat_le (length shape.0.constraints) standard.candidates) (Ok shape.0.constraints) (Err (Candidates (length shape.0.constraints)))) _ model shape.2 in
    let names = answered (within (first_seen shape.0.tasks)) _ model constraints.2 in
    let test = tested (nat_le (length shape.0.constraints) standard.candidates) shape.0.constraints constraints.0 (Candidates (length shape.0.constraints)) constraints.1 in
    let below : length shape.0.constraints ≤ standard.candidates = grind (arith, nat_tests) in
    let fits = within-is (first_seen shape.0.tasks) names.0 names.1 in
    let items = items-made shape.0.repertoire 1 (record { names = names.0; constraints = [] }) constraints.0 model
    (record { seen = (shape.0.tasks, sym fits.0); few = fits.1; made = All-nil (IsWellMadeFor (length names.0)) }) names.2 in
    record {
      once = subst StandOnce (sym items.0.seen.1) (first_seen-once items.0.seen.0);
      few_names = items.0.few;
      few_constraints = omega (arith, items.1, ap length test.1, below);
      made = items.0.made;
    }

pub is_model : (bytes : List ℕ) (model : Known) → model_of_bytes bytes ≡ Ok model → IsModel model
is_model bytes model read = let value = answered (json_of bytes) model_of model read in model-made value.0 model value.2
