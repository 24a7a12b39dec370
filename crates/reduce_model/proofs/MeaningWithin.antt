-- What the decisions of the reduction within a limit say of traces.
use Rattle.std.proofs.Common.{◌≡◌, ◌↔◌, ◌⊎◌, ℕ, zero, suc, ◌<◌, inl, inr, List, [], ◌∷◌, ◌++◌, Bool, true, false, Some, length, map, get_or, refl, sym, ap, subst, ◌∙◌, arith, append_assoc}
use Rattle.std.specs.List.{All, slice_get}
use Rattle.std.proofs.lemmas.List.{append-nil}
use Rattle.std.proofs.lemmas.Option.{get_or_from_slice_get, slice_get_within}
use Rattle.dfa_core.specs.Languages.{HasNoMember}
use Rattle.dfa_core.specs.Traces.{IsTrace}
use Rattle.template_core.specs.Constraints.{IsWellMadeFor}
use Rattle.template_core.specs.declared.constraint.Constraint.{Constraint}
use Rattle.reduce_model.proofs.Marks.{true_or_false}
use Rattle.list_dfa.proofs.Keeping.{anything, keeps-append, push-keeps}
use Rattle.reduce_model.proofs.Meaning.{consistent-model, keeps-at, mark, strongest-consistent}
use Rattle.reduce_model.specs.Deciding.{IsAt, after, as_sifted, before, is_consistent, is_kept, is_left, is_strongest, marked, those}
use Rattle.reduce_model.specs.Keeping.{IsKeepable, KeepsAll}
use Rattle.reduce_model.specs.Reduction.{Breaks, Implies, Reduction}
use Rattle.reduce_model.specs.Sifting.{kept_of}
use Rattle.reduce_model.specs.Within.{AreWitnessesWithin, IsFirstPassedWithin, IsReducedWithin, IsReductionWithin, IsSecondPassedWithin, IsSiftedWithin, IsWideList, has_witness}
use Rattle.reduce_model.specs.declared.decision.Decision.{Decision}
use Rattle.reduce_model.specs.declared.decision.Decision.TheVariants.{Kept, Conflict, Weaker, FirstPass, SecondPass, Beyond, Untested}

pub within-many : (n s : ℕ) (kept list : List Constraint) (ds : List Decision) → IsSiftedWithin n s kept list (map as_sifted ds) → length ds ≡ length list
within-many n s kept [] [] h = refl
within-many n s kept [] (d ∷ ds) h = absurd h
within-many n s kept (c ∷ list) [] h = absurd h
within-many n s kept (c ∷ list) (Conflict ∷ ds) h = ap suc (within-many n s kept list ds h.1)
within-many n s kept (c ∷ list) (Beyond ∷ ds) h = ap suc (within-many n s kept list ds h.2)
within-many n s kept (c ∷ list) (d ∷ ds) h = ap suc (within-many n s (kept ++ c ∷ []) list ds h.2)

-- what stays keeps what is left
left-kept : (n s : ℕ) (w : List ℕ) → IsTrace n w → (left list : List Constraint) (ds : List Decision) → IsSecondPassedWithin n s left list ds → KeepsAll left w → KeepsAll (those is_kept list ds) w → KeepsAll (those is_left list ds) w
left-kept n s w tw left [] [] h front all = tt
left-kept n s w tw left [] (d ∷ ds) h front all = elim d [ Kept ↦ tt | Conflict ↦ tt | Weaker by ↦ tt | FirstPass ↦ tt | SecondPass ↦ tt | Beyond ↦ tt | Untested ↦ tt ]
left-kept n s w tw left (c ∷ list) [] h front all = tt
left-kept n s w tw left (c ∷ list) (SecondPass ∷ ds) h front all =
    let one = h.1 w tw ((keeps-append left (those is_kept list ds) w).1 (front, all)) in (one, left-kept n s w tw (left ++ c ∷ []) list ds h.2 (push-keeps left c w front one) all)
left-kept n s w tw left (c ∷ list) (Kept ∷ ds) h front all = (all.0, left-kept n s w tw (left ++ c ∷ []) list ds h.1 (push-keeps left c w front all.0) all.1)
left-kept n s w tw left (c ∷ list) (Untested ∷ ds) h front all = (all.0, left-kept n s w tw (left ++ c ∷ []) list ds h.1 (push-keeps left c w front all.0) all.1)
left-kept n s w tw left (c ∷ list) (d ∷ ds) h front all = left-kept n s w tw left list ds h front all

-- and what is left keeps the strongest
strongest-left : (n s : ℕ) (w : List ℕ) → IsTrace n w → (joined list : List Constraint) (ds : List Decision) → IsFirstPassedWithin n s joined list ds → KeepsAll joined w → KeepsAll (those is_left list ds) w → KeepsAll (those is_strongest list ds) w
strongest-left n s w tw joined [] [] h front all = tt
strongest-left n s w tw joined [] (d ∷ ds) h front all = elim d [ Kept ↦ tt | Conflict ↦ tt | Weaker by ↦ tt | FirstPass ↦ tt | SecondPass ↦ tt | Beyond ↦ tt | Untested ↦ tt ]
strongest-left n s w tw joined (c ∷ list) [] h front all = tt
strongest-left n s w tw joined (c ∷ list) (FirstPass ∷ ds) h front all = (h.0 w tw front, strongest-left n s w tw joined list ds h.1 front all)
strongest-left n s w tw joined (c ∷ list) (Conflict ∷ ds) h front all = strongest-left n s w tw joined list ds h front all
strongest-left n s w tw joined (c ∷ list) (Beyond ∷ ds) h front all = strongest-left n s w tw joined list ds h front all
strongest-left n s w tw joined (c ∷ list) (Weaker by ∷ ds) h front all = strongest-left n s w tw joined list ds h front all
strongest-left n s w tw joined (c ∷ list) (d ∷ ds) h front all = elim h.1 [
  | inl wide ↦ (all.0, strongest-left n s w tw joined list ds wide.1 front all.1)
  | inr narrow ↦ (all.0, strongest-left n s w tw (joined ++ c ∷ []) list ds narrow.1 (push-keeps joined c w front all.0) all.1)
]

-- the reduced model keeps exactly the traces of the conflict-free model within the limit
pub same-traces-within : (n s : ℕ) (list : List Constraint) (ds : List Decision) → All (IsWellMadeFor n) list → IsReducedWithin n s list ds → (w : List ℕ) → IsTrace n w → KeepsAll (those is_kept list ds) w ↔ KeepsAll (those is_consistent list ds) w
same-traces-within n s list ds made h w tw =
    let many = within-many n s [] list ds h.sifted in (
      λ all.
          let left = left-kept n s w tw [] list ds h.second_pass tt all in
          let strong = strongest-left n s w tw [] list ds h.first_pass tt left in
          strongest-consistent n list ds many h.weaker w made (λ place lt strongest. keeps-at (map is_strongest ds) list w place strong lt (mark is_strongest ds place (omega (arith, many, lt)) ∙ strongest)),
      consistent-model n list ds many h.weaker w,
    )

pub keepable-within : (n s : ℕ) (list : List Constraint) (reduction : Reduction) → IsReductionWithin n s list reduction → IsKeepable n (those is_kept list reduction.decisions)
keepable-within n s list reduction h = record {
  by = reduction.example;
  over = h.example.over;
  keeps = h.example.member;
}

-- ---- the kept list of the sift

within-kept : (n s : ℕ) (kept list : List Constraint) (ds : List Decision) → IsSiftedWithin n s kept list ds → those is_consistent list ds ≡ kept_of list ds
within-kept n s kept [] [] h = refl
within-kept n s kept [] (d ∷ ds) h = absurd h
within-kept n s kept (c ∷ list) [] h = absurd h
within-kept n s kept (c ∷ list) (Kept ∷ ds) h = ap (λ (l : List Constraint). c ∷ l) (within-kept n s (kept ++ c ∷ []) list ds h.2)
within-kept n s kept (c ∷ list) (Conflict ∷ ds) h = within-kept n s kept list ds h.1
within-kept n s kept (c ∷ list) (Beyond ∷ ds) h = within-kept n s kept list ds h.2
within-kept n s kept (c ∷ list) (d ∷ ds) h = absurd h

pub consistent-kept_of : (n s : ℕ) (list : List Constraint) (ds es : List Decision) → IsSiftedWithin n s [] list es → map is_consistent ds ≡ map is_consistent es → those is_consistent list ds ≡ kept_of list es
consistent-kept_of n s list ds es h e = ap (λ (v : List Bool). marked v list) e ∙ within-kept n s [] list es h

-- ---- witnesses, and what is left out

abbrev WitnessAt : ℕ → List Constraint → List Constraint → List Decision → List (List ℕ) → ℕ → Constraint → Type 0
WitnessAt n kept list ds ws place c =
    (w : List ℕ) × (slice_get ws (length (before has_witness place list ds)) ≡ Some w) × IsTrace n w × Breaks ((kept ++ before is_kept place list ds) ++ after is_kept place list ds) c w

witness-moved : (n : ℕ) (kept : List Constraint) (x : Constraint) (list : List Constraint) (ds : List Decision) (ws : List (List ℕ)) (place : ℕ) (c : Constraint) → WitnessAt n (kept ++ x ∷ []) list ds ws place c
    → (w : List ℕ) × (slice_get ws (length (before has_witness place list ds)) ≡ Some w) × IsTrace n w × Breaks ((kept ++ x ∷ before is_kept place list ds) ++ after is_kept place list ds) c w
witness-moved n kept x list ds ws place c ih =
    (ih.0, ih.1, ih.2, subst (λ (l : List Constraint). Breaks (l ++ after is_kept place list ds) c ih.0) (append_assoc kept (x ∷ []) (before is_kept place list ds)) ih.3)

-- the witness of a constraint that is kept stands at the number of those before it that have one
witness-within : (n : ℕ) (kept list : List Constraint) (ds : List Decision) (ws : List (List ℕ)) → AreWitnessesWithin n kept list ds ws → (place : ℕ) (c : Constraint) → IsAt list ds place c Kept
    → WitnessAt n kept list ds ws place c
witness-within n kept [] ds ws h place c at = cc
witness-within n kept (x ∷ list) [] ws h place c at = absurd h
witness-within n kept (x ∷ list) (Kept ∷ ds) [] h place c at = absurd h
witness-within n kept (x ∷ list) (Kept ∷ ds) (w ∷ ws) h zero c at =
    let same : x ≡ c = let e = at.constraint in cc in
    let breaks : Breaks ((kept ++ []) ++ those is_kept list ds) x w = subst (λ (l : List Constraint). Breaks (l ++ those is_kept list ds) x w) (sym (append-nil kept)) h.0.member in
    (w, refl, h.0.over, subst (λ (y : Constraint). Breaks ((kept ++ []) ++ those is_kept list ds) y w) same breaks)
witness-within n kept (x ∷ list) (Kept ∷ ds) (w ∷ ws) h (suc place) c at = witness-moved n kept x list ds ws place c (witness-within n (kept ++ x ∷ []) list ds ws h.1 place c (record { constraint = at.constraint; decision = at.decision }))
witness-within n kept (x ∷ list) (Untested ∷ ds) ws h zero c at = let no_ = at.decision in cc
witness-within n kept (x ∷ list) (Untested ∷ ds) ws h (suc place) c at = witness-moved n kept x list ds ws place c (witness-within n (kept ++ x ∷ []) list ds ws h place c (record { constraint = at.constraint; decision = at.decision }))
witness-within n kept (x ∷ list) (d ∷ ds) ws h zero c at = let no_ = at.decision in cc
witness-within n kept (x ∷ list) (d ∷ ds) ws h (suc place) c at = witness-within n kept list ds ws h place c (record { constraint = at.constraint; decision = at.decision })

pub witnesses-break-within : (n s : ℕ) (list : List Constraint) (reduction : Reduction) → IsReductionWithin n s list reduction → (place : ℕ) (c : Constraint) → IsAt list reduction.decisions place c Kept
    → (w : List ℕ) × (slice_get reduction.witnesses (length (before has_witness place list reduction.decisions)) ≡ Some w) × IsTrace n w
    × Breaks (before is_kept place list reduction.decisions ++ after is_kept place list reduction.decisions) c w
witnesses-break-within n s list reduction h place c at = witness-within n [] list reduction.decisions reduction.witnesses h.witnesses place c at

abbrev OutsideAt : ℕ → ℕ → List Constraint → Constraint → Type 0
OutsideAt n s list c = HasNoMember n (KeepsAll (list ++ c ∷ [])) ⊎ IsWideList n s (list ++ c ∷ [])

outside-moved : (n s : ℕ) (kept : List Constraint) (x : Constraint) (list : List Constraint) (ds : List Decision) (place : ℕ) (c : Constraint) → OutsideAt n s ((kept ++ x ∷ []) ++ before is_consistent place list ds) c
    → OutsideAt n s (kept ++ x ∷ before is_consistent place list ds) c
outside-moved n s kept x list ds place c h = subst (λ (l : List Constraint). OutsideAt n s l c) (append_assoc kept (x ∷ []) (before is_consistent place list ds)) h

-- what isn't in the conflict-free model within the limit conflicts with the constraints of it before the candidate, or would have made their list wide
outside : (n s : ℕ) (kept list : List Constraint) (ds : List Decision) → IsSiftedWithin n s kept list (map as_sifted ds) → (place : ℕ) (c : Constraint) (d : Decision) → IsAt list ds place c d → is_consistent d ≡ false
    → HasNoMember n (KeepsAll ((kept ++ before is_consistent place list ds) ++ c ∷ [])) ⊎ IsWideList n s ((kept ++ before is_consistent place list ds) ++ c ∷ [])
outside n s kept [] ds h place c d at out_ = cc
outside n s kept (x ∷ list) [] h place c d at out_ = absurd h
outside n s kept (x ∷ list) (Conflict ∷ ds) h zero c d at out_ =
    let same : x ≡ c = let e = at.constraint in cc in
    let none : HasNoMember n (KeepsAll ((kept ++ []) ++ x ∷ [])) = subst (λ (l : List Constraint). HasNoMember n (KeepsAll (l ++ x ∷ []))) (sym (append-nil kept)) h.0 in
    inl (subst (λ (y : Constraint). HasNoMember n (KeepsAll ((kept ++ []) ++ y ∷ []))) same none)
outside n s kept (x ∷ list) (Beyond ∷ ds) h zero c d at out_ =
    let same : x ≡ c = let e = at.constraint in cc in
    let wide : IsWideList n s ((kept ++ []) ++ x ∷ []) = subst (λ (l : List Constraint). IsWideList n s (l ++ x ∷ [])) (sym (append-nil kept)) h.1 in
    inr (subst (λ (y : Constraint). IsWideList n s ((kept ++ []) ++ y ∷ [])) same wide)
outside n s kept (x ∷ list) (Conflict ∷ ds) h (suc place) c d at out_ = outside n s kept list ds h.1 place c d (record { constraint = at.constraint; decision = at.decision }) out_
outside n s kept (x ∷ list) (Beyond ∷ ds) h (suc place) c d at out_ = outside n s kept list ds h.2 place c d (record { constraint = at.constraint; decision = at.decision }) out_
outside n s kept (x ∷ list) (e ∷ ds) h zero c d at out_ = let is = at.decision in cc
outside n s kept (x ∷ list) (e ∷ ds) h (suc place) c d at out_ = outside-moved n s kept x list ds place c (outside n s (kept ++ x ∷ []) list ds h.2 place c d (record { constraint = at.constraint; decision = at.decision }) out_)

-- each candidate that is left out
pub left_out_within : (n s : ℕ) (list : List Constraint) (ds : List Decision) → All (IsWellMadeFor n) list → IsReducedWithin n s list ds → (place : ℕ) (c : Constraint) (d : Decision) → IsAt list ds place c d → is_kept d ≡ false
    → Implies n (those is_kept list ds) c ⊎ (HasNoMember n (KeepsAll (before is_consistent place list ds ++ c ∷ [])) ⊎ IsWideList n s (before is_consistent place list ds ++ c ∷ []))
left_out_within n s list ds made h place c d at out_ = elim (true_or_false (is_consistent d)) [
  | inl consistent ↦
      let lt : place < length list = slice_get_within list place c at.constraint in
      let ld : place < length ds = slice_get_within ds place d at.decision in
      let ec : get_or list place anything ≡ c = get_or_from_slice_get list place c anything at.constraint in
      let ed : get_or ds place Kept ≡ d = get_or_from_slice_get ds place d Kept at.decision in
      let has : get_or (map is_consistent ds) place false ≡ true = mark is_consistent ds place ld ∙ (ap is_consistent ed ∙ consistent) in
      inl (λ w tw all. rw ec at (keeps-at (map is_consistent ds) list w place ((same-traces-within n s list ds made h w tw).0 all) lt has))
  | inr lacks ↦ inr (outside n s [] list ds h.sifted place c d at lacks)
]
