-- Decisions that are written at a place, and marks of decisions.
use Rattle.std.proofs.Common.{◌≡◌, ◌↔◌, ℕ, zero, suc, ◌<◌, ◌≤◌, inl, inr, List, [], ◌∷◌, ◌++◌, Bool, true, false, length, map, take, drop, get_or, set, refl, sym, ap, ◌∙◌, arith, add-one}
use Rattle.std.proofs.lemmas.Bool.{cases_lt}
use Rattle.std.proofs.lemmas.List.{get_or-map, map-set, set-get_or, take_more_same}
use Rattle.std.proofs.lemmas.Option.{get_or_from_slice_get, slice_get_within}
use Rattle.template_core.specs.declared.constraint.Constraint.{Constraint}
use Rattle.reduce_model.proofs.Marks.{at_place}
use Rattle.list_dfa.proofs.Keeping.{anything}
use Rattle.reduce_model.specs.Deciding.{is_consistent, marked}
use Rattle.reduce_model.specs.Reduction.{IsFirstAbove, TellsWeaker}
use Rattle.reduce_model.specs.declared.decision.Decision.{Decision}
use Rattle.reduce_model.specs.declared.decision.Decision.TheVariants.{Kept, Weaker}

module _ {B : Type 0} where
  -- a write that a view doesn't see
  pub map-set_same : (f : Decision → B) (ds : List Decision) (i : ℕ) (x : Decision) → f x ≡ f (get_or ds i Kept) → map f (set ds i x) ≡ map f ds
  map-set_same f ds i x e =
      map-set f ds i x ∙ (ap (λ (b : B). set (map f ds) i b) e ∙ (sym (map-set f ds i (get_or ds i Kept)) ∙ ap (map f) (set-get_or ds i Kept)))

  -- a view of a view
  pub map-map_same : (f : Decision → Decision) (g : Decision → B) (ds : List Decision) → ((d : Decision) → g (f d) ≡ g d) → map g (map f ds) ≡ map g ds
  map-map_same f g [] h = refl
  map-map_same f g (d ∷ ds) h = let here = h d in let ih = map-map_same f g ds h in cc (here, ih)

  pub view_same : (f : Decision → Decision) (g : Decision → B) (new old : List Decision) → ((d : Decision) → g (f d) ≡ g d) → map f new ≡ old → map g new ≡ map g old
  view_same f g new old h e = sym (map-map_same f g new h) ∙ ap (map g) e

twice : (f g : Decision → Decision) (ds : List Decision) → ((d : Decision) → g (f d) ≡ f d) → map g (map f ds) ≡ map f ds
twice f g [] h = refl
twice f g (d ∷ ds) h = let here = h d in let ih = twice f g ds h in cc (here, ih)

pub fixed-fixed : (f g : Decision → Decision) (ds : List Decision) → ((d : Decision) → g (f d) ≡ f d) → map f ds ≡ ds → map g ds ≡ ds
fixed-fixed f g ds h e = ap (map g) (sym e) ∙ (twice f g ds h ∙ e)

-- a decision that a view leaves as it is
pub fixed-at : (f : Decision → Decision) (ds : List Decision) (place : ℕ) → place < length ds → map f ds ≡ ds → get_or ds place Kept ≡ f (get_or ds place Kept)
fixed-at f ds place lt e = ap (λ (l : List Decision). get_or l place Kept) (sym e) ∙ get_or-map f ds place Kept Kept lt

-- ---- marks of a part

-- one place more
pub marked-next : (marks : List Bool) (list : List Constraint) (i : ℕ) → i < length marks → i < length list
    → marked (take (suc i) marks) (take (suc i) list) ≡ marked (take i marks) (take i list) ++ marked (get_or marks i false ∷ []) (get_or list i anything ∷ [])
marked-next [] list i lm ll = absurd (omega (arith, lm))
marked-next (m ∷ marks) [] i lm ll = absurd (omega (arith, ll))
marked-next (m ∷ marks) (c ∷ list) zero lm ll = refl
marked-next (true ∷ marks) (c ∷ list) (suc i) lm ll = ap (λ (l : List Constraint). c ∷ l) (marked-next marks list i (omega (arith, lm)) (omega (arith, ll)))
marked-next (false ∷ marks) (c ∷ list) (suc i) lm ll = marked-next marks list i (omega (arith, lm)) (omega (arith, ll))

marked-nil : (marks : List Bool) → [] ≡ marked marks []
marked-nil [] = refl
marked-nil (m ∷ marks) = refl

-- the part before a place and the part from it on
pub marked-split : (marks : List Bool) (list : List Constraint) (i : ℕ) → marked marks list ≡ marked (take i marks) (take i list) ++ marked (drop i marks) (drop i list)
marked-split marks list zero = refl
marked-split [] list (suc i) = refl
marked-split (m ∷ marks) [] (suc i) = marked-nil (drop i marks)
marked-split (true ∷ marks) (c ∷ list) (suc i) = ap (λ (l : List Constraint). c ∷ l) (marked-split marks list i)
marked-split (false ∷ marks) (c ∷ list) (suc i) = marked-split marks list i

-- equal place by place up to a bound
pub take-ext : (xs ys : List Bool) (n : ℕ) → n ≤ length xs → n ≤ length ys → ((k : ℕ) → k < n → get_or xs k false ≡ get_or ys k false) → take n xs ≡ take n ys
take-ext xs ys zero lx ly h = refl
take-ext xs ys (suc n) lx ly h = rw (← add-one) (take_more_same xs ys n false (omega arith) (omega arith) (take-ext xs ys n (omega arith) (omega arith) (λ k lt. h k (omega arith))) (h n (omega arith)))

-- ---- weaker ones, place by place

abbrev pub WeakerAt : List Constraint → List Decision → ℕ → Type 0
WeakerAt list ds place =
    (by : ℕ) → is_consistent (get_or ds place Kept) ≡ true → get_or ds place Kept ≡ Weaker by ↔ IsFirstAbove list (map is_consistent ds) (get_or list place anything) by

pub weaker-tells : (list : List Constraint) (ds : List Decision) → length ds ≡ length list → ((place : ℕ) → place < length list → WeakerAt list ds place) → TellsWeaker list ds
weaker-tells list ds many h place c d by at consistent =
    let lt = slice_get_within list place c at.constraint in
    let ec : get_or list place anything ≡ c = get_or_from_slice_get list place c anything at.constraint in
    let ed : get_or ds place Kept ≡ d = get_or_from_slice_get ds place d Kept at.decision in
    rw ec at (rw ed at (h place lt by) consistent)

pub tells-weaker : (list : List Constraint) (ds : List Decision) → length ds ≡ length list → TellsWeaker list ds → (place : ℕ) → place < length list → WeakerAt list ds place
tells-weaker list ds many told place lt by consistent = told place (get_or list place anything) (get_or ds place Kept) by (at_place list ds place many lt) consistent

pub first_above-unique : (list : List Constraint) (marks : List Bool) (c : Constraint) (a b : ℕ) → IsFirstAbove list marks c a → IsFirstAbove list marks c b → a ≡ b
first_above-unique list marks c a b h g = elim (cases_lt a b) [
  | inl lt ↦ absurd (g.first a lt h.above)
  | inr le ↦ elim (cases_lt b a) [ inl lt ↦ absurd (h.first b lt g.above) | inr ge ↦ omega arith ]
]
