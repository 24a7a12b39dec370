-- The claim of a list and its reduction has the form of one.
use Rattle.std.proofs.Common.{◌≡◌, ◌≢◌, ℕ, zero, suc, ◌+◌, ◌<◌, ◌≤◌, List, [], ◌∷◌, ◌++◌, Bool, true, false, Some, All, length, map, take, drop, cond, get_or, refl, sym, ap, ◌∙◌, arith, subst, append_assoc}
use Rattle.std.specs.List.{slice_get}
use Rattle.std.proofs.lemmas.List.{append-nil, drop_more}
use Rattle.std.proofs.lemmas.List.Elements.{All-nil, All-cons, All-head, All-tail}
use Rattle.dfa_core.specs.Languages.{IsLeastMember}
use Rattle.dfa_core.specs.Traces.{IsTrace}
use Rattle.template_core.specs.Constraints.{IsWellMade, IsWellMadeFor}
use Rattle.template_core.specs.Keeping.{KeepsAll, KeepsOne}
use Rattle.template_core.specs.declared.constraint.Constraint.{Constraint}
use Rattle.reduce_model.proofs.FirstPasses.{length-marked}
use Rattle.reduce_model.proofs.SecondPasses.{all-marked}
use Rattle.reduce_model.specs.Deciding.{IsAt, is_kept, those}
use Rattle.reduce_model.specs.Reduction.{AreWitnesses, Breaks, Reduction}
use Rattle.reduce_model.specs.declared.decision.Decision.{Decision}
use Rattle.chain_cert.specs.Checks.{IsWitnessOf}
use Rattle.chain_cert.specs.Forms.{IsClaim}
use Rattle.chain_cert.specs.Parts.{claim_parts, constraint_at, list_at}
use Rattle.chain_cert.specs.declared.claim.Dropped.{Dropped}
use Rattle.chain_make.specs.Claims.{claim_of, dropped_as, left_out}

-- ---- what stays

-- ---- what doesn't

left_out-few : (list : List Constraint) (ds : List Decision) → length (left_out list ds) ≤ length list
left_out-few [] ds = omega arith
left_out-few (c ∷ list) [] = omega arith
left_out-few (c ∷ list) (d ∷ ds) = go (is_kept d) (left_out-few list ds)
  where
    go : (b : Bool) → length (left_out list ds) ≤ length list → length (cond b (left_out list ds) (dropped_as d c ∷ left_out list ds)) ≤ length (c ∷ list)
    go true ih = omega (arith, ih)
    go false ih = omega (arith, ih)

pub left_out-all : (P : Dropped → Type 0) (list : List Constraint) (ds : List Decision) → ((place : ℕ) (c : Constraint) (d : Decision) → IsAt list ds place c d → is_kept d ≡ false → P (dropped_as d c)) → All P (left_out list ds)
left_out-all P [] ds h = All-nil P
left_out-all P (c ∷ list) [] h = All-nil P
left_out-all P (c ∷ list) (d ∷ ds) h = go (is_kept d) refl (left_out-all P list ds (λ place c2 d2 at. h (suc place) c2 d2 (record { constraint = at.constraint; decision = at.decision })))
  where
    go : (b : Bool) → is_kept d ≡ b → All P (left_out list ds) → All P (cond b (left_out list ds) (dropped_as d c ∷ left_out list ds))
    go true e rest = rest
    go false e rest = All-cons P (dropped_as d c) (left_out list ds) (h 0 c d (record { constraint = refl; decision = refl }) e) rest

slice-all : (P : Constraint → Type 0) (list : List Constraint) (place : ℕ) (c : Constraint) → All P list → slice_get list place ≡ Some c → P c
slice-all P [] place c h e = absurd (cc)
slice-all P (x ∷ list) zero c h e = let same : x ≡ c = cc in subst P same (All-head P x list h)
slice-all P (x ∷ list) (suc place) c h e = slice-all P list place c (All-tail P x list h) e

pub left_out-made : (P : Constraint → Type 0) (list : List Constraint) (ds : List Decision) → All P list → All (λ (d : Dropped). P d.constraint) (left_out list ds)
left_out-made P list ds h = left_out-all (λ (d : Dropped). P d.constraint) list ds (λ place c d at kept. slice-all P list place c h at.constraint)

-- as a loop goes on
left_out-at : (list : List Constraint) (ds : List Decision) (place : ℕ) (c : Constraint) (d : Decision) → place < length list → place < length ds
    → left_out (drop place list) (drop place ds) ≡ cond (is_kept (get_or ds place d)) (left_out (drop (place + 1) list) (drop (place + 1) ds)) (dropped_as (get_or ds place d) (get_or list place c) ∷ left_out (drop (place + 1) list) (drop (place + 1) ds))
left_out-at list ds place c d ll ld = rw (drop_more list place c ll, drop_more ds place d ld) refl

module _ (list : List Constraint) (ds : List Decision) (place : ℕ) (c : Constraint) (d : Decision) (ll : place < length list) (ld : place < length ds) (front : List Dropped)
    (so_far : front ++ left_out (drop place list) (drop place ds) ≡ left_out list ds) where
  pub left_out-skip : is_kept (get_or ds place d) ≡ true → front ++ left_out (drop (place + 1) list) (drop (place + 1) ds) ≡ left_out list ds
  left_out-skip e =
      let here : left_out (drop place list) (drop place ds) ≡ left_out (drop (place + 1) list) (drop (place + 1) ds) =
      left_out-at list ds place c d ll ld ∙ ap (λ (b : Bool). cond b (left_out (drop (place + 1) list) (drop (place + 1) ds)) (dropped_as (get_or ds place d) (get_or list place c) ∷ left_out (drop (place + 1) list) (drop (place + 1) ds))) e in
      ap (λ (l : List Dropped). front ++ l) (sym here) ∙ so_far

  pub left_out-take : is_kept (get_or ds place d) ≡ false → (front ++ dropped_as (get_or ds place d) (get_or list place c) ∷ []) ++ left_out (drop (place + 1) list) (drop (place + 1) ds) ≡ left_out list ds
  left_out-take e =
      let here : left_out (drop place list) (drop place ds) ≡ dropped_as (get_or ds place d) (get_or list place c) ∷ left_out (drop (place + 1) list) (drop (place + 1) ds) =
      left_out-at list ds place c d ll ld ∙ ap (λ (b : Bool). cond b (left_out (drop (place + 1) list) (drop (place + 1) ds)) (dropped_as (get_or ds place d) (get_or list place c) ∷ left_out (drop (place + 1) list) (drop (place + 1) ds))) e in
      append_assoc front (dropped_as (get_or ds place d) (get_or list place c) ∷ []) (left_out (drop (place + 1) list) (drop (place + 1) ds)) ∙ (ap (λ (l : List Dropped). front ++ l) (sym here) ∙ so_far)

pub left_out-whole : (list : List Constraint) (ds : List Decision) (place : ℕ) (front : List Dropped) → length list ≤ place → front ++ left_out (drop place list) (drop place ds) ≡ left_out list ds → front ≡ left_out list ds
left_out-whole list ds place front past e = sym (append-nil front) ∙ (ap (λ (l : List Dropped). front ++ l) (sym none) ∙ e)
  where
    past-all : (xs : List Constraint) (n : ℕ) → length xs ≤ n → drop n xs ≡ []
    past-all [] zero le = refl
    past-all [] (suc n) le = refl
    past-all (x ∷ xs) zero le = absurd (omega (arith, le))
    past-all (x ∷ xs) (suc n) le = past-all xs n (omega (arith, le))

    none : left_out (drop place list) (drop place ds) ≡ []
    none = rw (past-all list place past) refl

-- ---- the witnesses

pub witnesses-many : (n : ℕ) (before after : List Constraint) (ws : List (List ℕ)) → AreWitnesses n before after ws → length ws ≡ length after
witnesses-many n before [] [] h = refl
witnesses-many n before [] (w ∷ ws) h = absurd h
witnesses-many n before (c ∷ after) [] h = absurd h
witnesses-many n before (c ∷ after) (w ∷ ws) h = ap suc (witnesses-many n (before ++ c ∷ []) after ws h.1)

witnesses-over : (n : ℕ) (before after : List Constraint) (ws : List (List ℕ)) → AreWitnesses n before after ws → All (IsTrace n) ws
witnesses-over n before [] [] h = All-nil (IsTrace n)
witnesses-over n before [] (w ∷ ws) h = absurd h
witnesses-over n before (c ∷ after) [] h = absurd h
witnesses-over n before (c ∷ after) (w ∷ ws) h = All-cons (IsTrace n) w ws h.0.over (witnesses-over n (before ++ c ∷ []) after ws h.1)

witness-breaks : (n : ℕ) (before after : List Constraint) (ws : List (List ℕ)) → AreWitnesses n before after ws → (i : ℕ) → i < length after
    → Breaks ((before ++ take i after) ++ drop (suc i) after) (constraint_at after i) (list_at ws i)
witness-breaks n before [] ws h i lt = absurd (omega (arith, lt))
witness-breaks n before (c ∷ after) [] h i lt = absurd h
witness-breaks n before (c ∷ after) (w ∷ ws) h zero lt = subst (λ (l : List Constraint). Breaks (l ++ after) c w) (sym (append-nil before)) h.0.member
witness-breaks n before (c ∷ after) (w ∷ ws) h (suc i) lt =
    subst (λ (l : List Constraint). Breaks (l ++ drop (suc i) after) (constraint_at after i) (list_at ws i)) (append_assoc before (c ∷ []) (take i after)) (witness-breaks n (before ++ c ∷ []) after ws h.1 i (omega (arith, lt)))

pub keeps-at : (list : List Constraint) (w : List ℕ) → KeepsAll list w → (i : ℕ) → i < length list → KeepsOne (constraint_at list i) w
keeps-at [] w all i lt = absurd (omega (arith, lt))
keeps-at (c ∷ list) w all zero lt = all.0
keeps-at (c ∷ list) w all (suc i) lt = keeps-at list w all.1 i (omega (arith, lt))

keeps-but : (list : List Constraint) (w : List ℕ) (i : ℕ) → KeepsAll (take i list ++ drop (suc i) list) w → (j : ℕ) → j < length list → j ≢ i → KeepsOne (constraint_at list j) w
keeps-but [] w i all j lt ne = absurd (omega (arith, lt))
keeps-but (c ∷ list) w zero all zero lt ne = absurd (ne refl)
keeps-but (c ∷ list) w zero all (suc j) lt ne = keeps-at list w all j (omega (arith, lt))
keeps-but (c ∷ list) w (suc i) all zero lt ne = all.0
keeps-but (c ∷ list) w (suc i) all (suc j) lt ne = keeps-but list w i all.1 j (omega (arith, lt)) (λ e. ne (ap suc e))

pub witness-is : (n : ℕ) (model : List Constraint) (ws : List (List ℕ)) → AreWitnesses n [] model ws → (i : ℕ) → i < length model → IsWitnessOf model ws i
witness-is n model ws h i lt =
    let b = witness-breaks n [] model ws h i lt in
    record {
      keeps_others = keeps-but model (list_at ws i) i b.0;
      breaks_own = b.1;
    }

-- ---- the form

pub claim-form : (n : ℕ) (list : List Constraint) (r : Reduction) → n ≤ 1000 → length list ≤ 65536 → All (IsWellMadeFor n) list → AreWitnesses n [] (those is_kept list r.decisions) r.witnesses
    → IsLeastMember n (KeepsAll (those is_kept list r.decisions)) r.example → IsClaim (claim_of n list r)
claim-form n list r few_symbols few made witnesses example =
    let kept = length-marked (map is_kept r.decisions) list in
    let out = left_out-few list r.decisions in
    record {
      few_symbols = few_symbols;
      few_constraints = omega (arith, kept, few);
      constraints_made = all-marked (IsWellMadeFor n) (map is_kept r.decisions) list made;
      witness_for_each = witnesses-many n [] (those is_kept list r.decisions) r.witnesses witnesses;
      witnesses_over = witnesses-over n [] (those is_kept list r.decisions) r.witnesses witnesses;
      few_dropped = omega (arith, out, few);
      dropped_made = left_out-made (IsWellMadeFor n) list r.decisions made;
      example_over = example.over;
    }

-- ---- what the calls ask

pub same-parts : (n : ℕ) (m o : List Constraint) (ws vs : List (List ℕ)) (ds es : List Dropped) (x y : List ℕ) → m ≡ o → ws ≡ vs → ds ≡ es → x ≡ y → claim_parts n m ws ds x ≡ claim_parts n o vs es y
same-parts n m o ws vs ds es x y em ew ed ex = rw (em, ew, ed, ex) refl

pub made-kinds : (n : ℕ) (list : List Constraint) (ds : List Decision) → All (IsWellMadeFor n) list → All (λ (d : Dropped). IsWellMade d.constraint.kind d.constraint.first d.constraint.second) (left_out list ds)
made-kinds n list ds made = left_out-made (λ (c : Constraint). IsWellMade c.kind c.first c.second) list ds (λ k d lt. (made k d lt).made)

pub model-made : (n : ℕ) (list : List Constraint) (ds : List Decision) → All (IsWellMadeFor n) list → All (IsWellMadeFor n) (those is_kept list ds)
model-made n list ds made = all-marked (IsWellMadeFor n) (map is_kept ds) list made
