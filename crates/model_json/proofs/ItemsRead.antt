-- An item is read rule by rule.
use Rattle.std.proofs.Common.{◌≡◌, ◌≢◌, ℕ, ◌≤◌, ◌<◌, ◌&&◌, subst, List, [], ◌∷◌, Bool, true, false, cond, eqb, fold, length, refl, sym, ap, ap₂, ◌∙◌, None, Some, Ok, Err, arith, ◌⊎◌, inl, inr}
use Rattle.std.specs.Prelude.{nat_le, All, map}
use Rattle.std.proofs.lemmas.List.Elements.{All-nil, All-cons, All-head, All-tail, All-weaker}
use Rattle.std.specs.List.{find}
use Rattle.std.specs.Option.{ok_or}
use Rattle.std.specs.Str.{bytes_eq}
use Rattle.std.specs.Cmp.Lexicographic.{bytes_decides}
use Rattle.std.proofs.lemmas.Bool.Decides.{nat_tests}
use Rattle.serde_json.specs.Data.{Data}
use Rattle.decl_base.specs.Limits.{standard}
use Rattle.decl_base.specs.declared.refusal.Refusal.{Refusal}
use Rattle.decl_base.specs.declared.refusal.Refusal.TheVariants.{ModelShape, UnknownTemplate, Parameters, SameParameter, Activities}
use Rattle.event_log.specs.Logs.{with_name, has_name, place_of}
use Rattle.event_log.proofs.Appearing.{place-with_name, place_of-keeps, place_of-put, seen-least, with_name-known, with_name-new}
use Rattle.template_core.specs.Constraints.{arity, IsTemplate}
use Rattle.template_core.specs.Groups.{group_of, activities_of}
use Rattle.template_core.specs.Repertoires.{is_of}
use Rattle.template_core.specs.declared.constraint.Constraint.{Constraint}
use Rattle.template_core.specs.declared.group.Group.{Group}
use Rattle.template_core.specs.declared.group.Group.TheVariants.{Existence, Relation, Mutual, Negative}
use Rattle.template_core.specs.declared.kind.Kind.{Kind}
use Rattle.template_core.specs.declared.repertoire.Repertoire.{Repertoire}
use Rattle.template_core.specs.declared.repertoire.Repertoire.TheVariants.{First, Second}
use Rattle.template_set.proofs.EachKind.{all_templates, each_kind}
use Rattle.template_set.specs.Names.{all_kinds, name_of}
use Rattle.model_json.specs.Model.{Item, item_of, item_read, kind_named, activities_in, activities, is_twice, put_in, within}
use Rattle.model_json.proofs.Causes.{goes_on, stops}
use Rattle.model_json.proofs.EachRepertoire.{each_repertoire}

-- ---- names of templates

find-none : {A : Type 0} (p : A → Bool) (xs : List A) → All (λ x. p x ≡ false) xs → find p xs ≡ None
find-none p [] none = refl
find-none p (x ∷ xs) none =
    ap (λ b. cond b (Some x) (find p xs)) (All-head (λ x. p x ≡ false) x xs none) ∙ find-none p xs (All-tail (λ x. p x ≡ false) x xs none)

found : {A : Type 0} (P : A → Type 0) (p : A → Bool) (xs : List A) (x : A) → All P xs → find p xs ≡ Some x → P x
found P p [] x all is = absurd (cc)
found P p (y ∷ xs) x all is = go (p y) (found P p xs x (All-tail P y xs all)) is
  where
    go : (b : Bool) → (find p xs ≡ Some x → P x) → cond b (Some y) (find p xs) ≡ Some x → P x
    go true rest is = let same : y ≡ x = cc in subst P same (All-head P y xs all)
    go false rest is = rest is

pub named-none : (repertoire : Repertoire) (text : List ℕ) → ((kind : Kind) → IsTemplate kind → text ≢ name_of kind) → kind_named repertoire text ≡ None
named-none repertoire text other =
    find-none (λ kind. is_of repertoire kind && bytes_eq text (name_of kind)) all_kinds (All-weaker IsTemplate (λ kind. (is_of repertoire kind && bytes_eq text (name_of kind)) ≡ false) apart all_kinds all_templates)
  where
    apart : (kind : Kind) → IsTemplate kind → (is_of repertoire kind && bytes_eq text (name_of kind)) ≡ false
    apart kind known = go (is_of repertoire kind) (bytes_eq text (name_of kind)) refl
      where
        go : (v b : Bool) → bytes_eq text (name_of kind) ≡ b → (v && b) ≡ false
        go true true e = absurd (other kind known ((bytes_decides text (name_of kind)).0 e))
        go true false e = refl
        go false b e = refl

-- each template's own name, by computing
abbrev OwnName : Repertoire → Kind → Type 0
OwnName repertoire kind = kind_named repertoire (name_of kind) ≡ cond (is_of repertoire kind) (Some kind) None

maps_same : {X Y : Type 0} (f g : X → Y) (xs : List X) → map f xs ≡ map g xs → All (λ x. f x ≡ g x) xs
maps_same f g [] same = All-nil (λ x. f x ≡ g x)
maps_same f g (x ∷ xs) same = let first : f x ≡ g x = cc in All-cons (λ x. f x ≡ g x) x xs first (maps_same f g xs (cc))

own : (repertoire : Repertoire) (kind : Kind) → IsTemplate kind → OwnName repertoire kind
own repertoire = each_kind (OwnName repertoire) (each_repertoire (λ r. All (OwnName r) all_kinds) (all First refl) (all Second refl) repertoire)
  where
    all : (r : Repertoire) → map (λ kind. kind_named r (name_of kind)) all_kinds ≡ map (λ kind. cond (is_of r kind) (Some kind) None) all_kinds → All (OwnName r) all_kinds
    all r = maps_same (λ kind. kind_named r (name_of kind)) (λ kind. cond (is_of r kind) (Some kind) None) all_kinds

pub named-own : (repertoire : Repertoire) (text : List ℕ) (kind : Kind) → IsTemplate kind → text ≡ name_of kind → kind_named repertoire text ≡ cond (is_of repertoire kind) (Some kind) None
named-own repertoire text kind known h = ap (kind_named repertoire) h ∙ own repertoire kind known

pub named-template : (repertoire : Repertoire) (text : List ℕ) (kind : Kind) → kind_named repertoire text ≡ Some kind → IsTemplate kind
named-template repertoire text kind is = found IsTemplate (λ kind. is_of repertoire kind && bytes_eq text (name_of kind)) all_kinds kind all_templates is

-- ---- activities

pub one_or_two : (kind : Kind) → (arity kind ≡ 1) ⊎ (arity kind ≡ 2)
one_or_two kind = by_group (group_of kind)
  where
    by_group : (group : Group) → (activities_of group ≡ 1) ⊎ (activities_of group ≡ 2)
    by_group Existence = inl refl
    by_group (Relation activation) = inr refl
    by_group Mutual = inr refl
    by_group Negative = inr refl

-- ---- names within the limit

pub within-few : (names : List (List ℕ)) → length names ≤ standard.activities → within names ≡ Ok names
within-few names h =
    let few : nat_le (length names) standard.activities ≡ true = grind (arith, nat_tests) in
    ap (λ b. cond b (Ok names) (Err (Activities standard.activities))) few

pub within-many : (names : List (List ℕ)) → standard.activities < length names → within names ≡ Err (Activities standard.activities)
within-many names h =
    let many : nat_le (length names) standard.activities ≡ false = grind (arith, nat_tests) in
    ap (λ b. cond b (Ok names) (Err (Activities standard.activities))) many

-- a new name behind as many as the limit is one too many, whatever comes behind it
pub one_too_many : (names more : List (List ℕ)) (name : List ℕ) → length names ≡ standard.activities → has_name names name ≡ false
    → within (fold with_name (with_name names name) more) ≡ Err (Activities standard.activities)
one_too_many names more name full new =
    within-many (fold with_name (with_name names name) more) (omega (arith, full, with_name-new names name new, seen-least (with_name names name) more))

-- ---- the rules, one after another

module _ (repertoire : Repertoire) (number : ℕ) (names : List (List ℕ)) (value : Data) where
  pub read-no_shape : item_of value ≡ None → item_read repertoire number names value ≡ Err (ModelShape number)
  read-no_shape h = stops _ _ (ModelShape number) (ap (λ o. ok_or o (ModelShape number)) h)

  module _ (texts : Item) (shape : item_of value ≡ Some texts) where
    shaped : ok_or (item_of value) (ModelShape number) ≡ Ok texts
    shaped = ap (λ o. ok_or o (ModelShape number)) shape

    pub read-unknown : kind_named repertoire texts.template ≡ None → item_read repertoire number names value ≡ Err (UnknownTemplate number)
    read-unknown h = goes_on _ _ texts shaped ∙ stops _ _ (UnknownTemplate number) (ap (λ o. ok_or o (UnknownTemplate number)) h)

    module _ (kind : Kind) (known : kind_named repertoire texts.template ≡ Some kind) where
      of_kind : ok_or (kind_named repertoire texts.template) (UnknownTemplate number) ≡ Ok kind
      of_kind = ap (λ o. ok_or o (UnknownTemplate number)) known

      pub read-parameters : activities_in kind texts.parameters ≡ None → item_read repertoire number names value ≡ Err (Parameters number)
      read-parameters h = goes_on _ _ texts shaped ∙ goes_on _ _ kind of_kind ∙ stops _ _ (Parameters number) (ap (λ o. ok_or o (Parameters number)) h)

      module _ (put : List (List ℕ)) (given : activities_in kind texts.parameters ≡ Some put) where
        activated : ok_or (activities_in kind texts.parameters) (Parameters number) ≡ Ok put
        activated = ap (λ o. ok_or o (Parameters number)) given

        pub read-twice : is_twice put ≡ true → item_read repertoire number names value ≡ Err (SameParameter number)
        read-twice h =
            goes_on _ _ texts shaped ∙ goes_on _ _ kind of_kind ∙ goes_on _ _ put activated
            ∙ stops _ _ (SameParameter number) (ap (λ b. cond b (Err (SameParameter number)) (Ok put)) h)

        module _ (differ : is_twice put ≡ false) where
          different : cond (is_twice put) (Err (SameParameter number)) (Ok put) ≡ Ok put
          different = ap (λ b. cond b (Err (SameParameter number)) (Ok put)) differ

          pub read-many : (r : Refusal) → within (fold with_name names put) ≡ Err r → item_read repertoire number names value ≡ Err r
          read-many r h =
              goes_on _ _ texts shaped ∙ goes_on _ _ kind of_kind ∙ goes_on _ _ put activated ∙ goes_on _ _ put different ∙ stops _ _ r h

          pub read-constraint : (more : List (List ℕ)) → within (fold with_name names put) ≡ Ok more → item_read repertoire number names value ≡ Ok (put_in kind more put, more)
          read-constraint more h =
              goes_on _ _ texts shaped ∙ goes_on _ _ kind of_kind ∙ goes_on _ _ put activated ∙ goes_on _ _ put different ∙ goes_on _ _ more h

-- ---- the names that are put in

module _ (kind : Kind) (first second : List ℕ) where
  by_arity : (P : List (List ℕ) → Type 0) → (arity kind ≡ 1 → P (first ∷ [])) → (arity kind ≡ 2 → P (first ∷ second ∷ [])) → P (activities kind first second)
  by_arity P one two = go (one_or_two kind)
    where
      chosen : Bool → List (List ℕ)
      chosen b = cond b (first ∷ []) (first ∷ second ∷ [])

      go : (arity kind ≡ 1) ⊎ (arity kind ≡ 2) → P (activities kind first second)
      go (inl h) = subst (λ n. P (chosen (eqb n 1))) (sym h) (one h)
      go (inr h) = subst (λ n. P (chosen (eqb n 1))) (sym h) (two h)

  pub is_twice-activities : is_twice (activities kind first second) ≡ (eqb (arity kind) 2 && bytes_eq first second)
  is_twice-activities = by_arity (λ put. is_twice put ≡ (eqb (arity kind) 2 && bytes_eq first second))
      (λ h. ap (λ n. eqb n 2 && bytes_eq first second) (sym h)) (λ h. ap (λ n. eqb n 2 && bytes_eq first second) (sym h))

  pub first-activities : (rest : List (List ℕ)) × (activities kind first second ≡ first ∷ rest)
  first-activities = by_arity (λ put. (rest : List (List ℕ)) × (put ≡ first ∷ rest)) (λ h. ([], refl)) (λ h. (second ∷ [], refl))

  module _ (names : List (List ℕ)) (one : arity kind ≡ 1 → second ≡ first) where
    more : List (List ℕ)
    more = with_name (with_name names first) second

    put_first : place_of (with_name names first) first < length (with_name names first)
    put_first = omega (arith, place_of-put names first, (place-with_name names first).0)

    pub fold-activities : fold with_name names (activities kind first second) ≡ with_name (with_name names first) second
    fold-activities = by_arity (λ put. fold with_name names put ≡ with_name (with_name names first) second)
        (λ h. sym (ap (with_name (with_name names first)) (one h) ∙ with_name-known (with_name names first) first put_first)) (λ h. refl)

    keeps : place_of (with_name (with_name names first) second) first ≡ place_of names first
    keeps = place_of-keeps (with_name names first) first second put_first ∙ place_of-put names first

    pub put_in-activities : put_in kind (with_name (with_name names first) second) (activities kind first second)
        ≡ record { kind = kind; first = place_of names first; second = place_of (with_name names first) second }
    put_in-activities = by_arity (λ put. put_in kind (with_name (with_name names first) second) put ≡ record { kind = kind; first = place_of names first; second = place_of (with_name names first) second })
        (λ h. ap₂ made keeps (keeps ∙ sym (ap (place_of (with_name names first)) (one h) ∙ place_of-put names first)))
        (λ h. ap₂ made keeps (place_of-put (with_name names first) second))
      where
        made : ℕ → ℕ → Constraint
        made a b = record { kind = kind; first = a; second = b }
