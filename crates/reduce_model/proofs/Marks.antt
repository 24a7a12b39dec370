-- Marks of a list of candidates, told place by place, are determined.
use Rattle.std.proofs.Common.{◌≡◌, ◌↔◌, ◌⊎◌, ℕ, zero, suc, ◌+◌, ◌<◌, ◌≤◌, inl, inr, List, ◌∷◌, Bool, true, false, IsTrue, length, map, take, drop, get_or, refl, sym, ap, ◌∙◌, arith, add-one, drop-cons}
use Rattle.std.proofs.lemmas.Bool.{cases_lt}
use Rattle.std.proofs.lemmas.List.{drop_all, get_or-map, take_more_same}
use Rattle.std.proofs.lemmas.Option.{get_or_from_slice_get, slice_get-get_or, slice_get_within}
use Rattle.template_core.specs.declared.constraint.Constraint.{Constraint}
use Rattle.reduce_model.specs.Deciding.{IsAt, marked}
use Rattle.reduce_model.specs.declared.decision.Decision.{Decision}
use Rattle.reduce_model.specs.declared.decision.Decision.TheVariants.{Kept}
use Rattle.list_dfa.proofs.Keeping.{anything}

pub false_same : (a b : Bool) → (a ≡ false ↔ b ≡ false) → a ≡ b
false_same true true h = refl
false_same true false h = h.1 refl
false_same false true h = sym (h.0 refl)
false_same false false h = refl

pub true_or_false : (b : Bool) → (b ≡ true) ⊎ (b ≡ false)
true_or_false true = inl refl
true_or_false false = inr refl

pub both_ways : {P Q R : Type 0} → P ↔ Q → R ↔ Q → P ↔ R
both_ways f g = (λ p. g.1 (f.0 p), λ r. f.1 (g.0 r))

-- ---- the candidates before a place, and after it

-- of the places before a bound for which a condition holds, those have no mark for which a fact holds of the marked ones before it and of the candidate
abbrev pub IsForward : (List Constraint → Constraint → Type 0) → (ℕ → Type 0) → List Constraint → List Bool → ℕ → Type 0
IsForward F Q list marks bound =
    (place : ℕ) → place < bound → Q place → get_or marks place false ≡ false ↔ F (marked (take place marks) (take place list)) (get_or list place anything)

-- one place more
pub forward-more : (F : List Constraint → Constraint → Type 0) (Q : ℕ → Type 0) (list : List Constraint) (marks : List Bool) (at : ℕ) → IsForward F Q list marks at
    → (Q at → get_or marks at false ≡ false ↔ F (marked (take at marks) (take at list)) (get_or list at anything)) → IsForward F Q list marks (at + 1)
forward-more F Q list marks at h here = λ place lt q. elim (cases_lt place at) [
  | inl before ↦ h place before q
  | inr le ↦ let e : place ≡ at = omega arith in rw e (here (rw e at q))
]

-- and so at the places from a bound on, with the marked ones after it
abbrev pub IsBackward : (ℕ → List Constraint → Constraint → Type 0) → (ℕ → Type 0) → List Constraint → List Bool → ℕ → Type 0
IsBackward F Q list marks bound =
    (place : ℕ) → bound ≤ place → place < length list → Q place → get_or marks place false ≡ false ↔ F place (marked (drop (suc place) marks) (drop (suc place) list)) (get_or list place anything)

-- where the condition doesn't hold, two lists of marks agree
abbrev pub Agree : (ℕ → Type 0) → List Bool → List Bool → Type 0
Agree Q v u = (place : ℕ) → Q place ⊎ (get_or v place false ≡ get_or u place false)

pub forward_same : (F : List Constraint → Constraint → Type 0) (Q : ℕ → Type 0) (list : List Constraint) (v u : List Bool) (bound : ℕ) → bound ≤ length v → bound ≤ length u
    → IsForward F Q list v bound → IsForward F Q list u bound → Agree Q v u → take bound v ≡ take bound u
forward_same F Q list v u zero lv lu fv fu agree = refl
forward_same F Q list v u (suc i) lv lu fv fu agree =
    let ih = forward_same F Q list v u i (omega arith) (omega arith) (λ place lt q. fv place (omega arith) q) (λ place lt q. fu place (omega arith) q) agree in
    let here : get_or v i false ≡ get_or u i false = elim (agree i) [
      | inl q ↦
          let fu_ : get_or u i false ≡ false ↔ F (marked (take i v) (take i list)) (get_or list i anything) = rw ih (fu i (omega arith) q) in
          false_same (get_or v i false) (get_or u i false) (both_ways (fv i (omega arith) q) fu_)
      | inr e ↦ e
    ] in
    rw (← add-one) (take_more_same v u i false (omega arith) (omega arith) ih here)

pub backward_same : (F : ℕ → List Constraint → Constraint → Type 0) (Q : ℕ → Type 0) (list : List Constraint) (v u : List Bool) (left bound : ℕ) → length v ≡ length list → length u ≡ length list
    → bound + left ≡ length list → IsBackward F Q list v bound → IsBackward F Q list u bound → Agree Q v u → drop bound v ≡ drop bound u
backward_same F Q list v u zero bound lv lu e fv fu agree =
    drop_all bound v (omega arith) ∙ sym (drop_all bound u (omega arith))
backward_same F Q list v u (suc left) bound lv lu e fv fu agree =
    let ih = backward_same F Q list v u left (suc bound) lv lu (omega arith) (λ place le lt q. fv place (omega arith) lt q) (λ place le lt q. fu place (omega arith) lt q) agree in
    let here : get_or v bound false ≡ get_or u bound false = elim (agree bound) [
      | inl q ↦
          let fu_ : get_or u bound false ≡ false ↔ F bound (marked (drop (suc bound) v) (drop (suc bound) list)) (get_or list bound anything) =
          rw ih (fu bound (omega arith) (omega arith) q) in
          false_same (get_or v bound false) (get_or u bound false) (both_ways (fv bound (omega arith) (omega arith) q) fu_)
      | inr same ↦ same
    ] in
    let lv_ : bound < length v = omega arith in
    let lu_ : bound < length u = omega arith in
    drop-cons v bound false lv_ ∙ (ap (λ (b : Bool). b ∷ drop (suc bound) v) here ∙ (ap (λ (l : List Bool). get_or u bound false ∷ l) ih ∙ sym (drop-cons u bound false lu_)))

-- ---- decisions as marks

pub at_place : (list : List Constraint) (ds : List Decision) (place : ℕ) → length ds ≡ length list → place < length list → IsAt list ds place (get_or list place anything) (get_or ds place Kept)
at_place list ds place many lt = record {
  constraint = slice_get-get_or list place anything lt;
  decision = slice_get-get_or ds place Kept (omega arith);
}

-- a decision that is told place by place where a test holds, as the lack of a mark
abbrev pub Tells : (Decision → Bool) → Decision → (ℕ → Constraint → Type 0) → List Constraint → List Decision → Type 0
Tells q x G list ds = (place : ℕ) (c : Constraint) (d : Decision) → IsAt list ds place c d → IsTrue (q d) → d ≡ x ↔ G place c

abbrev pub Lacks : (Decision → Bool) → (Decision → Bool) → (ℕ → Constraint → Type 0) → List Constraint → List Decision → Type 0
Lacks q p G list ds =
    (place : ℕ) → place < length list → get_or (map q ds) place false ≡ true → get_or (map p ds) place false ≡ false ↔ G place (get_or list place anything)

pub lacks : (q p : Decision → Bool) (x : Decision) (G : ℕ → Constraint → Type 0) (list : List Constraint) (ds : List Decision) → ((d : Decision) → IsTrue (q d) → d ≡ x ↔ p d ≡ false)
    → length ds ≡ length list → Tells q x G list ds → Lacks q p G list ds
lacks q p x G list ds are many tells place lt holds =
    let ld : place < length ds = omega arith in
    let eq = get_or-map q ds place Kept false ld in
    let ep = get_or-map p ds place Kept false ld in
    let is_q : q (get_or ds place Kept) ≡ true = sym eq ∙ holds in
    let told = tells place (get_or list place anything) (get_or ds place Kept) (at_place list ds place many lt) is_q in
    let same = are (get_or ds place Kept) is_q in
    (λ e. told.0 (same.1 (sym ep ∙ e)), λ g. ep ∙ same.0 (told.1 g))

pub tells : (q p : Decision → Bool) (x : Decision) (G : ℕ → Constraint → Type 0) (list : List Constraint) (ds : List Decision) → ((d : Decision) → IsTrue (q d) → d ≡ x ↔ p d ≡ false)
    → length ds ≡ length list → Lacks q p G list ds → Tells q x G list ds
tells q p x G list ds are many lack place c d at holds =
    let lt = slice_get_within list place c at.constraint in
    let ld = slice_get_within ds place d at.decision in
    let ec : get_or list place anything ≡ c = get_or_from_slice_get list place c anything at.constraint in
    let ed : get_or ds place Kept ≡ d = get_or_from_slice_get ds place d Kept at.decision in
    let eq : get_or (map q ds) place false ≡ q d = get_or-map q ds place Kept false ld ∙ ap q ed in
    let ep : get_or (map p ds) place false ≡ p d = get_or-map p ds place Kept false ld ∙ ap p ed in
    let lack_ = rw ec at (lack place lt (eq ∙ holds)) in
    let same = are d holds in
    (λ e. lack_.0 (ep ∙ same.0 e), λ g. same.1 (sym ep ∙ lack_.1 g))
