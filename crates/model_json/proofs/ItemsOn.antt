-- The names of the tasks and the items of the constraints, one more at a time.
use Rattle.std.proofs.Common.{◌≡◌, ℕ, suc, ◌+◌, ◌<◌, List, [], ◌∷◌, ◌++◌, Some, None, false, fold, length, map, take, drop, get_or, sym, ap, ◌∙◌, Ok, Err, arith, append-nil, drop-cons}
use Rattle.std.specs.List.{filter_map, cons_option}
use Rattle.std.proofs.lemmas.List.{map-append, take-append-drop, take_more}
use Rattle.std.proofs.lemmas.List.Elements.{filter_map-append}
use Rattle.std.proofs.lemmas.List.Sums.{fold-append}
use Rattle.serde_json.specs.Find.{as_str}
use Rattle.serde_json.specs.View.{view}
use Rattle.serde_json.specs.declared.value.Value.{Value}
use Rattle.decl_base.specs.Limits.{standard}
use Rattle.decl_base.specs.declared.refusal.Refusal.{Refusal}
use Rattle.decl_base.specs.declared.refusal.Refusal.TheVariants.{Activities}
use Rattle.event_log.specs.Logs.{first_seen, has_name, with_name}
use Rattle.template_core.specs.declared.constraint.Constraint.{Constraint}
use Rattle.template_core.specs.declared.repertoire.Repertoire.{Repertoire}
use Rattle.model_json.specs.Model.{item_read, items_read, within}
use Rattle.model_json.proofs.Causes.{goes_on, stops}
use Rattle.model_json.proofs.ItemsRead.{one_too_many}

-- the texts of the first values
abbrev pub texts_before : List Value → ℕ → List (List ℕ)
texts_before tasks i = filter_map as_str (map view (take i tasks))

-- one value more
texts_more : (tasks : List Value) (i : ℕ) (x : Value) → i < length tasks → x ≡ get_or tasks i x → texts_before tasks (i + 1) ≡ texts_before tasks i ++ cons_option (as_str (view x)) []
texts_more tasks i x inside is =
    ap (λ l. filter_map as_str (map view l)) (take_more tasks i x inside ∙ ap (λ e. take i tasks ++ e ∷ []) (sym is))
    ∙ ap (filter_map as_str) (map-append view (take i tasks) (x ∷ [])) ∙ filter_map-append as_str (map view (take i tasks)) (view x ∷ [])

pub names_text : (tasks : List Value) (i : ℕ) (x : Value) (name : List ℕ) (names : List (List ℕ)) → i < length tasks → x ≡ get_or tasks i x → Some name ≡ as_str (view x)
    → names ≡ first_seen (texts_before tasks i) → with_name names name ≡ first_seen (texts_before tasks (i + 1))
names_text tasks i x name names inside is text so_far =
    ap (λ n. with_name n name) so_far ∙ sym (fold-append with_name [] (texts_before tasks i) (name ∷ []))
    ∙ ap first_seen (sym (texts_more tasks i x inside is ∙ ap (λ o. texts_before tasks i ++ cons_option o []) (sym text)))

pub names_other : (tasks : List Value) (i : ℕ) (x : Value) (names : List (List ℕ)) → i < length tasks → x ≡ get_or tasks i x → None ≡ as_str (view x)
    → names ≡ first_seen (texts_before tasks i) → names ≡ first_seen (texts_before tasks (i + 1))
names_other tasks i x names inside is none so_far =
    so_far ∙ ap first_seen (sym (texts_more tasks i x inside is ∙ ap (λ o. texts_before tasks i ++ cons_option o []) (sym none) ∙ append-nil (texts_before tasks i)))

-- a name that is one too many is so whatever comes behind it
pub tasks_over : (tasks : List Value) (i : ℕ) (x : Value) (name : List ℕ) (names : List (List ℕ)) → i < length tasks → x ≡ get_or tasks i x → Some name ≡ as_str (view x)
    → names ≡ first_seen (texts_before tasks i) → length names ≡ standard.activities → has_name names name ≡ false
    → within (first_seen (filter_map as_str (map view tasks))) ≡ Err (Activities standard.activities)
tasks_over tasks i x name names inside is text so_far full new =
    let rest = filter_map as_str (map view (drop (i + 1) tasks)) in
    ap (λ l. within (first_seen (filter_map as_str (map view l)))) (sym (take-append-drop (i + 1) tasks))
    ∙ ap (λ l. within (first_seen (filter_map as_str l))) (map-append view (take (i + 1) tasks) (drop (i + 1) tasks))
    ∙ ap (λ l. within (first_seen l)) (filter_map-append as_str (map view (take (i + 1) tasks)) (map view (drop (i + 1) tasks)))
    ∙ ap within (fold-append with_name [] (texts_before tasks (i + 1)) rest)
    ∙ ap (λ n. within (fold with_name n rest)) (sym (names_text tasks i x name names inside is text so_far))
    ∙ one_too_many names rest name full new

-- ---- items

module _ (repertoire : Repertoire) (items : List Value) (i : ℕ) (x : Value) (names : List (List ℕ)) (constraints : List Constraint) (inside : i < length items) (is : x ≡ get_or items i x) where
  here : items_read repertoire (i + 1) (record { names = names; constraints = constraints }) (map view (drop i items))
      ≡ items_read repertoire (i + 1) (record { names = names; constraints = constraints }) (view x ∷ map view (drop (suc i) items))
  here = ap (λ l. items_read repertoire (i + 1) (record { names = names; constraints = constraints }) (map view l)) (drop-cons items i x inside ∙ ap (λ e. e ∷ drop (suc i) items) (sym is))

  pub items_on : (next : Constraint) (more : List (List ℕ)) → item_read repertoire (i + 1) names (view x) ≡ Ok (next, more)
      → items_read repertoire (i + 1) (record { names = names; constraints = constraints }) (map view (drop i items))
      ≡ items_read repertoire ((i + 1) + 1) (record { names = more; constraints = constraints ++ next ∷ [] }) (map view (drop (i + 1) items))
  items_on next more read =
      here ∙ goes_on _ _ (next, more) read
      ∙ ap (λ n. items_read repertoire ((i + 1) + 1) (record { names = more; constraints = constraints ++ next ∷ [] }) (map view (drop n items))) {x = suc i} {y = i + 1} (omega arith)

  pub items_stop : (r : Refusal) → item_read repertoire (i + 1) names (view x) ≡ Err r
      → items_read repertoire (i + 1) (record { names = names; constraints = constraints }) (map view (drop i items)) ≡ Err r
  items_stop r refused = here ∙ stops _ _ r refused
