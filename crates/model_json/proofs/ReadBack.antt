-- Reports are read back as models.
use Rattle.std.proofs.Common.{◌≡◌, ◌≢◌, ℕ, suc, ◌+◌, ◌≤◌, ◌<◌, List, [], ◌∷◌, ◌++◌, ◌&&◌, Bool, true, false, cond, eqb, fold, length, count_by, map, codes, refl, sym, ap, ap₂, ◌∙◌, subst, Option, None, Some, Ok, option_and_then, option_map, arith, append_assoc, append-nil, length-append, not, ◌||◌, true≢false, ⊎_elim}
use Rattle.std.specs.Prelude.{All, slice_index_or, unwrap_or}
use Rattle.std.specs.Str.{bytes_eq}
use Rattle.std.specs.Cmp.Lexicographic.{bytes_decides}
use Rattle.std.proofs.lemmas.Bool.{eq-eqb}
use Rattle.std.proofs.lemmas.List.{length-map}
use Rattle.std.proofs.lemmas.List.Elements.{All-head, All-map, All-tail}
use Rattle.std.proofs.lemmas.Option.{unwrap_or-slice_get}
use Rattle.serde_json.specs.Data.{Data, string, array, depth}
use Rattle.serde_json.specs.Find.{as_str, get}
use Rattle.serde_json.specs.Read.{max_depth}
use Rattle.serde_json.specs.View.{items_of}
use Rattle.decl_base.specs.Limits.{standard}
use Rattle.event_log.specs.Logs.{first_seen, has_name, with_name, place_of, StandOnce}
use Rattle.event_log.proofs.Appearing.{with_name-known}
use Rattle.template_core.proofs.Made.{made-in, made-template}
use Rattle.template_core.specs.Constraints.{arity, IsWellMadeIn, IsWellMadeFor}
use Rattle.template_core.specs.Groups.{group_of, activities_of as activities_of_group}
use Rattle.template_core.specs.declared.group.Group.{Group}
use Rattle.template_core.specs.declared.group.Group.TheVariants.{Existence}
use Rattle.template_core.specs.declared.repertoire.Repertoire.{Repertoire}
use Rattle.template_core.specs.declared.repertoire.Repertoire.TheVariants.{First, Second}
use Rattle.template_core.specs.Repertoires.{is_of}
use Rattle.template_core.specs.declared.constraint.Constraint.{Constraint}
use Rattle.template_set.specs.Names.{name_of}
use Rattle.scoring.specs.declared.scored.Scored.{Scored}
use Rattle.reduce_model.specs.Sifting.{Sifting}
use Rattle.reduce_model.specs.declared.decision.Decision.{Decision}
use Rattle.model_json.specs.Model.{Item, Known, IsListed, activities, activities_in, each, is_twice, item_of, item_read, items_read, list_in, listed, model_of, model_of_bytes, only, put_in, repertoire_of, shape_of, texts_in, values_of, within}
use Rattle.model_json.specs.Report.{IsLineOf, activities_of, consistent_report, model_report, is_tested, name_at, parameter_value, listed_value, scored_value, scores_report, staying, with_witnesses}
use Rattle.model_json.proofs.Causes.{goes_on}
use Rattle.model_json.proofs.Chosen.{All-unmap, stay-same}
use Rattle.model_json.proofs.EachRepertoire.{each_repertoire}
use Rattle.model_json.proofs.Elements.{shape, shape_of-is, values_of-items_of}
use Rattle.model_json.proofs.ItemsRead.{fold-activities, is_twice-activities, named-own, one_or_two, put_in-activities, read-constraint, within-few}
use Rattle.model_json.proofs.KnownModels.{model-items}

-- ---- names that stand once are their own first appearances

front_place : (front more : List (List ℕ)) (name : List ℕ) → has_name front name ≡ true → place_of (front ++ more) name < length front
front_place [] more name h = absurd (true≢false (sym h))
front_place (x ∷ front) more name h = go (bytes_eq name x) (front_place front more name) h
  where
    go : (b : Bool) → (has_name front name ≡ true → place_of (front ++ more) name < length front) → (b || has_name front name) ≡ true
        → cond (not b) (1 + place_of (front ++ more) name) 0 < suc (length front)
    go true later k = omega arith
    go false later k = omega (arith, later k)

get_behind : (front more : List (List ℕ)) (x : List ℕ) → slice_index_or (front ++ x ∷ more) (length front) [] ≡ x
get_behind [] more x = refl
get_behind (y ∷ front) more x = get_behind front more x

seen_behind : (front more : List (List ℕ)) → StandOnce (front ++ more) → fold with_name front more ≡ front ++ more
seen_behind front [] once = sym (append-nil front)
seen_behind front (x ∷ more) once =
    let joined : front ++ x ∷ more ≡ (front ++ x ∷ []) ++ more = sym (append_assoc front (x ∷ []) more) in
    ap (λ l. fold with_name l more) (ap (λ b. cond b front (front ++ x ∷ [])) (new (has_name front x) refl))
    ∙ seen_behind (front ++ x ∷ []) more (subst StandOnce joined once) ∙ sym joined
  where
    new : (b : Bool) → has_name front x ≡ b → b ≡ false
    new true e = absurd (omega (arith, front_place front (x ∷ more) x e, once (length front) (omega (arith, length-append front (x ∷ more))), ap (place_of (front ++ x ∷ more)) (get_behind front more x)))
    new false e = refl

first_seen-own : (names : List (List ℕ)) → StandOnce names → first_seen names ≡ names
first_seen-own names once = seen_behind [] names once

-- ---- one item

module _ (names : List (List ℕ)) where
  each-parameters : (ranks : List ℕ) → each texts_in (values_of (items_of (map (parameter_value names) ranks))) ≡ Some (map (λ rank. name_at names rank ∷ []) ranks)
  each-parameters [] = refl
  each-parameters (rank ∷ ranks) = ap (option_map (λ ys. (name_at names rank ∷ []) ∷ ys)) (each-parameters ranks)

  each-only : (ranks : List ℕ) → each only (map (λ rank. name_at names rank ∷ []) ranks) ≡ Some (map (name_at names) ranks)
  each-only [] = refl
  each-only (rank ∷ ranks) = ap (option_map (λ ys. name_at names rank ∷ ys)) (each-only ranks)

  put_is : (c : Constraint) → map (name_at names) (activities_of c) ≡ activities c.kind (name_at names c.first) (name_at names c.second)
  put_is c = go (eqb (arity c.kind) 1)
    where
      go : (b : Bool) → map (name_at names) (cond b (c.first ∷ []) (c.first ∷ c.second ∷ [])) ≡ cond b (name_at names c.first ∷ []) (name_at names c.first ∷ name_at names c.second ∷ [])
      go true = refl
      go false = refl

  as_many : (c : Constraint) → length (map (name_at names) (activities_of c)) ≡ arity c.kind
  as_many c = ⊎_elim (λ one. ap (λ n. length (map (name_at names) (chosen (eqb n 1)))) one ∙ sym one) (λ two. ap (λ n. length (map (name_at names) (chosen (eqb n 1)))) two ∙ sym two) (one_or_two c.kind)
    where
      chosen : Bool → List ℕ
      chosen b = cond b (c.first ∷ []) (c.first ∷ c.second ∷ [])

  given : (c : Constraint) → activities_in c.kind (map (λ rank. name_at names rank ∷ []) (activities_of c)) ≡ Some (activities c.kind (name_at names c.first) (name_at names c.second))
  given c =
      ap (option_and_then (λ names. cond (eqb (length names) (arity c.kind)) (Some names) None)) (each-only (activities_of c))
      ∙ ap (λ n. cond (eqb n (arity c.kind)) (Some (map (name_at names) (activities_of c))) None) (as_many c)
      ∙ ap (λ b. cond b (Some (map (name_at names) (activities_of c))) None) (same_number (arity c.kind))
      ∙ ap Some (put_is c)
    where
      same_number : (n : ℕ) → eqb n n ≡ true
      same_number n = eq-eqb n n refl

  at_rank : (rank : ℕ) → name_at names rank ≡ slice_index_or names rank []
  at_rank rank = unwrap_or-slice_get names rank []

  module _ (once : StandOnce names) (few : length names ≤ standard.activities) (c : Constraint) (made : IsWellMadeFor (length names) c) where
    place : (rank : ℕ) → rank < length names → place_of names (name_at names rank) ≡ rank
    place rank inside = ap (place_of names) (at_rank rank) ∙ once rank inside

    one : arity c.kind ≡ 1 → c.second ≡ c.first
    one h = sym (made_one (group_of c.kind) h (made-in c.kind c.first c.second made.made))
      where
        made_one : (group : Group) → activities_of_group group ≡ 1 → IsWellMadeIn group c.first c.second → c.first ≡ c.second
        made_one Existence h m = m
        made_one group h m = absurd (omega (arith, h))

    two : arity c.kind ≡ 2 → c.first ≢ c.second
    two h = made_two (group_of c.kind) h (made-in c.kind c.first c.second made.made)
      where
        made_two : (group : Group) → activities_of_group group ≡ 2 → IsWellMadeIn group c.first c.second → c.first ≢ c.second
        made_two Existence h m = absurd (omega (arith, h))
        made_two group h m = m

    apart : arity c.kind ≡ 2 → bytes_eq (name_at names c.first) (name_at names c.second) ≡ false
    apart h = go (bytes_eq (name_at names c.first) (name_at names c.second)) refl
      where
        go : (b : Bool) → bytes_eq (name_at names c.first) (name_at names c.second) ≡ b → b ≡ false
        go true e = absurd (two h (sym (place c.first made.first) ∙ ap (place_of names) ((bytes_decides _ _).0 e) ∙ place c.second made.second))
        go false e = refl

    not_twice : is_twice (activities c.kind (name_at names c.first) (name_at names c.second)) ≡ false
    not_twice =
        is_twice-activities c.kind (name_at names c.first) (name_at names c.second)
        ∙ ⊎_elim (λ h. ap (λ n. eqb n 2 && bytes_eq (name_at names c.first) (name_at names c.second)) h)
        (λ h. ap₂ (λ n b. eqb n 2 && b) h (apart h)) (one_or_two c.kind)

    same_name : arity c.kind ≡ 1 → name_at names c.second ≡ name_at names c.first
    same_name h = ap (name_at names) (one h)

    first_known : with_name names (name_at names c.first) ≡ names
    first_known = with_name-known names (name_at names c.first) (omega (arith, place c.first made.first, made.first))

    second_known : with_name (with_name names (name_at names c.first)) (name_at names c.second) ≡ names
    second_known =
        ap (λ l. with_name l (name_at names c.second)) first_known ∙ with_name-known names (name_at names c.second) (omega (arith, place c.second made.second, made.second))

    put_back : put_in c.kind (with_name (with_name names (name_at names c.first)) (name_at names c.second)) (activities c.kind (name_at names c.first) (name_at names c.second)) ≡ c
    put_back =
        put_in-activities c.kind (name_at names c.first) (name_at names c.second) names same_name
        ∙ ap₂ (λ a b. constraint a b) (place c.first made.first) (ap (λ l. place_of l (name_at names c.second)) first_known ∙ place c.second made.second)
      where
        constraint : ℕ → ℕ → Constraint
        constraint a b = record { kind = c.kind; first = a; second = b }

    -- an item that names the constraint is read as it
    pub item_back : (repertoire : Repertoire) → is_of repertoire c.kind ≡ true → (number : ℕ) (value : Data) → item_of value ≡ Some (record { template = name_of c.kind; parameters = map (λ rank. name_at names rank ∷ []) (activities_of c) })
        → item_read repertoire number names value ≡ Ok (c, names)
    item_back repertoire of_it number value is =
        read-constraint repertoire number names value _ is c.kind
        (named-own repertoire (name_of c.kind) c.kind (made-template c.kind c.first c.second made.made) refl ∙ ap (λ b. cond b (Some c.kind) None) of_it) (activities c.kind (name_at names c.first) (name_at names c.second)) (given c) not_twice
        (with_name (with_name names (name_at names c.first)) (name_at names c.second))
        (ap within (fold-activities c.kind (name_at names c.first) (name_at names c.second) names same_name)
        ∙ within-few (with_name (with_name names (name_at names c.first)) (name_at names c.second)) (omega (arith, ap length second_known, few)))
        ∙ ap₂ (λ (k : Constraint) (l : List (List ℕ)). Ok (k, l)) put_back second_known

-- a constraint with its scores is an item that names it, whatever members stand behind
abbrev item : List ℕ → List (List (List ℕ)) → Item
item template parameters = record { template = template; parameters = parameters }

named_item : (names : List (List ℕ)) (s : Scored) → option_map (item (name_of s.constraint.kind)) (each texts_in (values_of (items_of (map (parameter_value names) (activities_of s.constraint)))))
    ≡ Some (item (name_of s.constraint.kind) (map (λ rank. name_at names rank ∷ []) (activities_of s.constraint)))
named_item names s = ap (option_map (item (name_of s.constraint.kind))) (each-parameters names (activities_of s.constraint))

listed_item : (names : List (List ℕ)) (s : Scored) (witness : Option (List ℕ)) → item_of (listed_value names s witness)
    ≡ Some (record { template = name_of s.constraint.kind; parameters = map (λ rank. name_at names rank ∷ []) (activities_of s.constraint) })
listed_item names s (Some witness) = named_item names s
listed_item names s None = named_item names s

-- ---- the items of a report

abbrev unscored : Scored → Constraint
unscored s = s.constraint

-- values that each name the constraint of their place are read as these constraints
items_back : {X : Type 0} (value : X → Data) (scored : X → Scored) (repertoire : Repertoire) (names : List (List ℕ)) → StandOnce names → length names ≤ standard.activities
    → ((x : X) → item_of (value x) ≡ Some (record { template = name_of (scored x).constraint.kind; parameters = map (λ rank. name_at names rank ∷ []) (activities_of (scored x).constraint) }))
    → (number : ℕ) (before : List Constraint) (xs : List X) → All (λ x. IsWellMadeFor (length names) (scored x).constraint) xs → All (λ x. is_of repertoire (scored x).constraint.kind ≡ true) xs
    → items_read repertoire number (record { names = names; constraints = before }) (map value xs) ≡ Ok (record { names = names; constraints = before ++ map (λ x. (scored x).constraint) xs })
items_back value scored repertoire names once few is number before [] made of_it = ap (λ l. Ok (record { names = names; constraints = l })) (sym (append-nil before))
items_back value scored repertoire names once few is number before (x ∷ xs) made of_it =
    goes_on _ _ ((scored x).constraint, names) (item_back names once few (scored x).constraint (All-head (λ x. IsWellMadeFor (length names) (scored x).constraint) x xs made) repertoire
    (All-head (λ x. is_of repertoire (scored x).constraint.kind ≡ true) x xs of_it) number (value x) (is x))
    ∙ items_back value scored repertoire names once few is (number + 1) (before ++ (scored x).constraint ∷ []) xs (All-tail (λ x. IsWellMadeFor (length names) (scored x).constraint) x xs made)
    (All-tail (λ x. is_of repertoire (scored x).constraint.kind ≡ true) x xs of_it)
    ∙ ap (λ l. Ok (record { names = names; constraints = l })) (append_assoc before ((scored x).constraint ∷ []) (map (λ x. (scored x).constraint) xs))

-- ---- reports

each-tasks : (names : List (List ℕ)) → each as_str (values_of (items_of (map string names))) ≡ Some names
each-tasks [] = refl
each-tasks (name ∷ names) = ap (option_map (λ ys. name ∷ ys)) (each-tasks names)

-- the shape of a value whose members are these lists
shaped : (value : Data) (constraints : List Data) (names : List (List ℕ)) (repertoire : Repertoire) → get (codes "constraints") value ≡ Some (array (items_of constraints))
    → get (codes "tasks") value ≡ Some (array (items_of (map string names))) → repertoire_of value ≡ Some repertoire → shape_of value ≡ Some (shape constraints names repertoire)
shaped value constraints names repertoire has_constraints has_tasks =
    shape_of-is value constraints names repertoire (ap (option_and_then list_in) has_constraints ∙ ap Some (values_of-items_of constraints))
    (ap (λ o. unwrap_or (option_map texts_in o) (Some [])) has_tasks ∙ each-tasks names)

-- a value that lists items for these constraints, and these names, is read as they
report_back : {X : Type 0} (report : Data) (value : X → Data) (scored : X → Scored) (repertoire : Repertoire) (names : List (List ℕ)) (xs : List X) (list : List Scored)
    → ((x : X) → item_of (value x) ≡ Some (record { template = name_of (scored x).constraint.kind; parameters = map (λ rank. name_at names rank ∷ []) (activities_of (scored x).constraint) }))
    → map (λ x. (scored x).constraint) xs ≡ map unscored list → IsListed repertoire names list
    → shape_of report ≡ Some (shape (map value xs) names repertoire) → model_of report ≡ Ok (listed names list)
report_back report value scored repertoire names xs list is same known shape_is =
    let few : length (map value xs) ≤ standard.candidates =
    omega (arith, length-map xs value, length-map xs (λ x. (scored x).constraint), ap length same, known.0.few_constraints) in
    let made = All-unmap (IsWellMadeFor (length names)) (λ x. (scored x).constraint) xs (subst (All (IsWellMadeFor (length names))) (sym same) known.0.made) in
    let of_it = All-unmap (λ c. is_of repertoire c.kind ≡ true) (λ x. (scored x).constraint) xs
    (subst (All (λ c. is_of repertoire c.kind ≡ true)) (sym same) (All-map (λ c. is_of repertoire c.kind ≡ true) unscored list known.1)) in
    model-items report (shape (map value xs) names repertoire) shape_is few names (ap within (first_seen-own names known.0.once) ∙ within-few names known.0.few_names)
    ∙ items_back value scored repertoire names known.0.once known.0.few_names is 1 [] xs made of_it ∙ ap (λ l. Ok (record { names = names; constraints = l })) same

pub scores_back : (names : List (List ℕ)) (repertoire : Repertoire) (list : List Scored) (traces events : ℕ) → IsListed repertoire names list
    → model_of (scores_report names repertoire list traces events) ≡ Ok (listed names list)
scores_back names repertoire list traces events known =
    let values = map (scored_value names) list in
    let report : Repertoire → Data = λ repertoire. scores_report names repertoire list traces events in
    report_back (report repertoire) (scored_value names) (λ s. s) repertoire names list list (named_item names) refl known
    (each_repertoire (λ r. shape_of (report r) ≡ Some (shape values names r)) (shaped (report First) values names First refl refl refl) (shaped (report Second) values names Second refl refl refl) repertoire)

pub consistent_back : (names : List (List ℕ)) (repertoire : Repertoire) (list : List Scored) (sifting : Sifting) (traces events : ℕ) → IsListed repertoire names (staying list sifting.decisions)
    → model_of (consistent_report names repertoire list sifting traces events) ≡ Ok (listed names (staying list sifting.decisions))
consistent_back names repertoire list sifting traces events known =
    let kept = staying list sifting.decisions in
    let values = map (scored_value names) kept in
    let report : Repertoire → Data = λ repertoire. consistent_report names repertoire list sifting traces events in
    report_back (report repertoire) (scored_value names) (λ s. s) repertoire names kept kept (named_item names) refl known
    (each_repertoire (λ r. shape_of (report r) ≡ Some (shape values names r)) (shaped (report First) values names First refl refl refl) (shaped (report Second) values names Second refl refl refl) repertoire)

pub model_back : (names : List (List ℕ)) (repertoire : Repertoire) (list : List Scored) (decisions : List Decision) (witnesses : List (List ℕ)) (example : List ℕ) (traces events : ℕ)
    → IsListed repertoire names (staying list decisions) → length witnesses ≡ count_by is_tested decisions
    → model_of (model_report names repertoire list decisions witnesses example traces events) ≡ Ok (listed names (staying list decisions))
model_back names repertoire list decisions witnesses example traces events known many =
    let kept = with_witnesses list decisions witnesses in
    let value : Scored × Option (List ℕ) → Data = λ p. listed_value names p.0 p.1 in
    let values = map value kept in
    let report : Repertoire → Data = λ repertoire. model_report names repertoire list decisions witnesses example traces events in
    report_back (report repertoire) value (λ p. p.0) repertoire names kept (staying list decisions) (λ p. listed_item names p.0 p.1) (stay-same list decisions witnesses many) known
    (each_repertoire (λ r. shape_of (report r) ≡ Some (shape values names r)) (shaped (report First) values names First refl refl refl) (shaped (report Second) values names Second refl refl refl) repertoire)

-- a line that reads as a value is read as its model
pub line_back : (value : Data) (text : List ℕ) (model : Known) → IsLineOf value text → depth value ≤ max_depth → model_of value ≡ Ok model → model_of_bytes text ≡ Ok model
line_back value text model line shallow is = rw (line.2 shallow) is
