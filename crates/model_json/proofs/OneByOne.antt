-- A list that is read one element after another.
use Rattle.std.proofs.Common.{◌≡◌, ℕ, suc, ◌+◌, ◌<◌, ◌≤◌, List, [], ◌∷◌, ◌++◌, map, drop, length, get_or, refl, sym, ap, ◌∙◌, Option, None, Some, option_map, option_and_then, arith, append_assoc, append-nil, drop-cons}
use Rattle.std.proofs.lemmas.List.{length-drop}
use Rattle.model_json.specs.Model.{each}

-- these, and behind them what is read of the rest
abbrev pub onto : {B : Type 0} → List B → Option (List B) → Option (List B)
onto done rest = option_map (λ more. done ++ more) rest

-- these were read of the elements before a place
abbrev pub IsReadTo : {V A B : Type 0} → (V → A) → (A → Option B) → List V → ℕ → List B → Type 0
IsReadTo v f values i done = each f (map v values) ≡ onto done (each f (map v (drop i values)))

onto-nothing : {B : Type 0} (rest : Option (List B)) → rest ≡ onto [] rest
onto-nothing None = refl
onto-nothing (Some more) = refl

onto-one : {B : Type 0} (done : List B) (y : B) (rest : Option (List B)) → onto done (option_map (λ more. y ∷ more) rest) ≡ onto (done ++ y ∷ []) rest
onto-one done y None = refl
onto-one done y (Some more) = ap Some (sym (append_assoc done (y ∷ []) more))

pub read-none : {V A B : Type 0} (v : V → A) (f : A → Option B) (values : List V) → IsReadTo v f values 0 []
read-none v f values = onto-nothing (each f (map v values))

pub past-end : {V : Type 0} (values : List V) (i : ℕ) → length values ≤ i → drop i values ≡ []
past-end {V} values i past = go (drop i values) (omega (arith, length-drop i values, past))
  where
    go : (rest : List V) → length rest ≤ 0 → rest ≡ []
    go [] h = refl
    go (x ∷ rest) h = absurd (omega (arith, h))

pub read-all : {V A B : Type 0} (v : V → A) (f : A → Option B) (values : List V) (i : ℕ) (done : List B) → length values ≤ i → IsReadTo v f values i done → each f (map v values) ≡ Some done
read-all v f values i done past so_far = so_far ∙ ap (λ l. onto done (each f (map v l))) (past-end values i past) ∙ ap Some (append-nil done)

module _ {V A B : Type 0} (v : V → A) (f : A → Option B) (values : List V) (i : ℕ) (x : V) (inside : i < length values) (is : x ≡ get_or values i x) where
  front : drop i values ≡ x ∷ drop (i + 1) values
  front = drop-cons values i x inside ∙ ap (λ z. z ∷ drop (suc i) values) (sym is) ∙ ap (λ n. x ∷ drop n values) {x = suc i} {y = i + 1} (omega arith)

  here : each f (map v (drop i values)) ≡ option_and_then (λ y. option_map (λ more. y ∷ more) (each f (map v (drop (i + 1) values)))) (f (v x))
  here = ap (λ l. each f (map v l)) front

  -- one more
  pub read-one : (done : List B) (y : B) → f (v x) ≡ Some y → IsReadTo v f values i done → IsReadTo v f values (i + 1) (done ++ y ∷ [])
  read-one done y h so_far =
      let rest = each f (map v (drop (i + 1) values)) in
      so_far ∙ ap (onto done) (here ∙ ap (option_and_then (λ y. option_map (λ more. y ∷ more) rest)) h) ∙ onto-one done y rest

  -- nothing is read of one, and so of all
  pub read-stop : (done : List B) → f (v x) ≡ None → IsReadTo v f values i done → each f (map v values) ≡ None
  read-stop done h so_far =
      let rest = each f (map v (drop (i + 1) values)) in
      so_far ∙ ap (onto done) (here ∙ ap (option_and_then (λ y. option_map (λ more. y ∷ more) rest)) h)
