-- The steps of the reduction put together.
use Rattle.std.proofs.Common.{◌≡◌, ◌↔◌, ℕ, zero, suc, ◌+◌, ◌<◌, ◌≤◌, inl, inr, List, [], ◌∷◌, ◌++◌, Bool, true, false, length, map, take, drop, get_or, refl, sym, ap, ◌∙◌, subst, arith, append_assoc}
use Rattle.std.specs.List.{All, AllByRecursion}
use Rattle.std.proofs.lemmas.Bool.{cases_lt}
use Rattle.std.proofs.lemmas.List.{append-nil, get_or-map, get_or-take, length-map, length-take, length-take-le, take-take, take_all, take_more}
use Rattle.decl_base.specs.declared.refusal.Refusal.{Refusal}
use Rattle.decl_base.specs.declared.refusal.Refusal.TheVariants.{States, Memory}
use Rattle.dfa_core.specs.Languages.{HasNoMember, IsLeastMember}
use Rattle.dfa_minimise.specs.Wide.{IsWide}
use Rattle.template_core.specs.Constraints.{IsWellMadeFor}
use Rattle.template_core.specs.declared.constraint.Constraint.{Constraint}
use Rattle.reduce_model.proofs.Determined.{Always, Conflicts, conflicts_forward, consistent_same, first_pass_forward, forward_conflicts, forward_first_pass, left_same, reduced_unique, strongest_same}
use Rattle.reduce_model.proofs.Lists.{first-here, first-skip, narrow-append, phase-narrow, up-first, up-narrow}
use Rattle.reduce_model.proofs.Marks.{IsForward, forward_same}
use Rattle.list_dfa.proofs.Keeping.{anything}
use Rattle.reduce_model.proofs.Meaning.{irredundant, same-traces}
use Rattle.reduce_model.proofs.Members.{least-same}
use Rattle.reduce_model.proofs.SecondPasses.{fixed-tested}
use Rattle.list_dfa.proofs.Listing.{empty-narrow}
use Rattle.reduce_model.proofs.Writes.{marked-split, tells-weaker, view_same, weaker-tells}
use Rattle.reduce_model.specs.Building.{AreNarrow, Built, IsFirstOfWide, all_but_each, built_lists, in_phase, tests, up_to_each}
use Rattle.reduce_model.specs.Deciding.{as_sifted, is_at_limit, is_consistent, is_kept, is_left, is_strongest, marked, those}
use Rattle.reduce_model.specs.Keeping.{KeepsAll}
use Rattle.reduce_model.specs.Passes.{IsFirstPassed, IsIrredundant, IsPruned, IsSecondPassed, IsWitnessed, RefusesFirstPass, RefusesSecondPass, RefusesWitnesses, before_first_pass, before_second_pass}
use Rattle.list_dfa.specs.Lists.{IsNarrowList}
use Rattle.reduce_model.specs.Reduction.{IsReduced, IsReduction, RefusesReduction, TellsConflicts, TellsFirstPass, TellsWeaker}
use Rattle.reduce_model.specs.Sifting.{IsFirstWide, IsNarrow, IsSifted, RefusesSift, kept_of}
use Rattle.reduce_model.specs.declared.decision.Decision.{Decision}
use Rattle.reduce_model.specs.declared.decision.Decision.TheVariants.{Kept, Conflict, Weaker, FirstPass, SecondPass, Beyond, Untested}

-- ---- the sift's marks

pub sifted-many : (n : ℕ) (kept list : List Constraint) (ds : List Decision) → IsSifted n kept list ds → length ds ≡ length list
sifted-many n kept [] [] h = refl
sifted-many n kept [] (d ∷ ds) h = absurd h
sifted-many n kept (c ∷ list) [] h = absurd h
sifted-many n kept (c ∷ list) (Kept ∷ ds) h = ap suc (sifted-many n (kept ++ c ∷ []) list ds h.1)
sifted-many n kept (c ∷ list) (Conflict ∷ ds) h = ap suc (sifted-many n kept list ds h.1)
sifted-many n kept (c ∷ list) (d ∷ ds) h = absurd h

pub sifted-fixed : (n : ℕ) (kept list : List Constraint) (ds : List Decision) → IsSifted n kept list ds → map as_sifted ds ≡ ds
sifted-fixed n kept [] [] h = refl
sifted-fixed n kept [] (d ∷ ds) h = absurd h
sifted-fixed n kept (c ∷ list) [] h = absurd h
sifted-fixed n kept (c ∷ list) (Kept ∷ ds) h = ap (λ (l : List Decision). Kept ∷ l) (sifted-fixed n (kept ++ c ∷ []) list ds h.1)
sifted-fixed n kept (c ∷ list) (Conflict ∷ ds) h = ap (λ (l : List Decision). Conflict ∷ l) (sifted-fixed n kept list ds h.1)
sifted-fixed n kept (c ∷ list) (d ∷ ds) h = absurd h

sifted-none : (n : ℕ) (kept list : List Constraint) (ds : List Decision) → IsSifted n kept list ds → AllByRecursion (λ (d : Decision). is_at_limit d ≡ false) ds
sifted-none n kept [] [] h = tt
sifted-none n kept [] (d ∷ ds) h = absurd h
sifted-none n kept (c ∷ list) [] h = absurd h
sifted-none n kept (c ∷ list) (Kept ∷ ds) h = (refl, sifted-none n (kept ++ c ∷ []) list ds h.1)
sifted-none n kept (c ∷ list) (Conflict ∷ ds) h = (refl, sifted-none n kept list ds h.1)
sifted-none n kept (c ∷ list) (d ∷ ds) h = absurd h

sifted-kept : (n : ℕ) (kept list : List Constraint) (ds : List Decision) → IsSifted n kept list ds → those is_consistent list ds ≡ kept_of list ds
sifted-kept n kept [] [] h = refl
sifted-kept n kept [] (d ∷ ds) h = absurd h
sifted-kept n kept (c ∷ list) [] h = absurd h
sifted-kept n kept (c ∷ list) (Kept ∷ ds) h = ap (λ (l : List Constraint). c ∷ l) (sifted-kept n (kept ++ c ∷ []) list ds h.1)
sifted-kept n kept (c ∷ list) (Conflict ∷ ds) h = sifted-kept n kept list ds h.1
sifted-kept n kept (c ∷ list) (d ∷ ds) h = absurd h

sifted-take : (n : ℕ) (kept list : List Constraint) (ds : List Decision) (count : ℕ) → IsSifted n kept list ds → IsSifted n kept (take count list) (take count ds)
sifted-take n kept list ds zero h = tt
sifted-take n kept [] [] (suc count) h = tt
sifted-take n kept [] (d ∷ ds) (suc count) h = absurd h
sifted-take n kept (c ∷ list) [] (suc count) h = absurd h
sifted-take n kept (c ∷ list) (Kept ∷ ds) (suc count) h = (h.0, sifted-take n (kept ++ c ∷ []) list ds count h.1)
sifted-take n kept (c ∷ list) (Conflict ∷ ds) (suc count) h = (h.0, sifted-take n kept list ds count h.1)
sifted-take n kept (c ∷ list) (d ∷ ds) (suc count) h = absurd h

-- each prefix of the kept list is the kept list of so many candidates
kept-prefix : (n : ℕ) (kept list : List Constraint) (ds : List Decision) → IsSifted n kept list ds → (size : ℕ) → size ≤ length (kept_of list ds)
    → (count : ℕ) × (count ≤ length list) × (kept_of (take count list) (take count ds) ≡ take size (kept_of list ds))
kept-prefix n kept list ds h zero le = (0, omega arith, refl)
kept-prefix n kept [] ds h (suc size) le = absurd (omega (arith, le))
kept-prefix n kept (c ∷ list) [] h (suc size) le = absurd h
kept-prefix n kept (c ∷ list) (Kept ∷ ds) h (suc size) le =
    let ih = kept-prefix n (kept ++ c ∷ []) list ds h.1 size (omega (arith, le)) in (suc ih.0, let few = ih.1 in omega (arith, few), ap (λ (l : List Constraint). c ∷ l) ih.2)
kept-prefix n kept (c ∷ list) (Conflict ∷ ds) h (suc size) le =
    let ih = kept-prefix n kept list ds h.1 (suc size) le in (suc ih.0, let few = ih.1 in omega (arith, few), ih.2)
kept-prefix n kept (c ∷ list) (d ∷ ds) h (suc size) le = absurd h

sifted-forward : (n : ℕ) (kept list : List Constraint) (ds : List Decision) → IsSifted n kept list ds → (place : ℕ) → place < length list
    → get_or (map is_consistent ds) place false ≡ false ↔ HasNoMember n (KeepsAll ((kept ++ marked (take place (map is_consistent ds)) (take place list)) ++ get_or list place anything ∷ []))
sifted-forward n kept [] ds h place lt = absurd (omega (arith, lt))
sifted-forward n kept (c ∷ list) [] h place lt = absurd h
sifted-forward n kept (c ∷ list) (Kept ∷ ds) h zero lt = (
  λ e. cc,
  λ none. let no_ : HasNoMember n (KeepsAll (kept ++ c ∷ [])) = subst (λ (l : List Constraint). HasNoMember n (KeepsAll (l ++ c ∷ []))) (append-nil kept) none in absurd (no_ h.0.by h.0.over h.0.keeps),
)
sifted-forward n kept (c ∷ list) (Conflict ∷ ds) h zero lt = (λ e. subst (λ (l : List Constraint). HasNoMember n (KeepsAll (l ++ c ∷ []))) (sym (append-nil kept)) h.0, λ none. refl)
sifted-forward n kept (c ∷ list) (Kept ∷ ds) h (suc place) lt =
    let ih = sifted-forward n (kept ++ c ∷ []) list ds h.1 place (omega (arith, lt)) in
    subst (λ (l : List Constraint). get_or (map is_consistent ds) place false ≡ false ↔ HasNoMember n (KeepsAll (l ++ get_or list place anything ∷ [])))
    (append_assoc kept (c ∷ []) (marked (take place (map is_consistent ds)) (take place list))) ih
sifted-forward n kept (c ∷ list) (Conflict ∷ ds) h (suc place) lt = sifted-forward n kept list ds h.1 place (omega (arith, lt))
sifted-forward n kept (c ∷ list) (d ∷ ds) h place lt = absurd h

-- ---- narrow kept lists

pub sift-narrow : (n s : ℕ) (list : List Constraint) (ds0 : List Decision) → IsSifted n [] list ds0 → IsNarrow n s list → IsNarrowList n s (kept_of list ds0)
sift-narrow n s list ds0 sifted narrow size wide =
    let go : (k : ℕ) → k ≤ length (kept_of list ds0) → IsWide n (KeepsAll (take k (kept_of list ds0))) s → ⊥ = λ k le is.
    let p = kept-prefix n [] list ds0 sifted k le in
    narrow p.0 (take k (kept_of list ds0)) (record {
      within = p.1;
      decisions = take p.0 ds0;
      sifted = sifted-take n [] list ds0 p.0 sifted;
      is = p.2;
    }) is in
    elim (cases_lt (length (kept_of list ds0)) size) [
      | inl past ↦
          let all_ : take size (kept_of list ds0) ≡ kept_of list ds0 = take_all size (kept_of list ds0) (omega arith) in
          let same : take (length (kept_of list ds0)) (kept_of list ds0) ≡ kept_of list ds0 = take_all (length (kept_of list ds0)) (kept_of list ds0) (omega arith) in
          go (length (kept_of list ds0)) (omega arith) (rw same (rw all_ at wide))
      | inr le ↦ go size le wide
    ]

-- a list that is wide, none of whose prefixes is, is the first of those up to each constraint
first-kept : (n s : ℕ) (kept rest : List Constraint) → 1 ≤ s → IsWide n (KeepsAll kept) s → ((less : ℕ) → less < length kept → IsWide n (KeepsAll (take less kept)) s → ⊥)
    → IsFirstOfWide n s (in_phase 1 (up_to_each [] (kept ++ rest))) 1 (length kept)
first-kept n s [] rest some wide first = absurd (empty-narrow n s some wide)
first-kept n s (x ∷ xs) rest some wide first =
    let kept : List Constraint = x ∷ xs in
    let all_ : take (length xs + 1) (x ∷ xs) ≡ x ∷ xs = take_all (length xs + 1) (x ∷ xs) (omega arith) in
    let cut : x ∷ xs ≡ take (length xs) (x ∷ xs) ++ get_or (x ∷ xs) (length xs) anything ∷ [] = sym all_ ∙ take_more (x ∷ xs) (length xs) anything (omega arith) in
    let narrow : IsNarrowList n s (take (length xs) (x ∷ xs)) = λ size is. elim (cases_lt (length xs) size) [
      | inl past ↦
          let long = length-take (length xs) (x ∷ xs) in
          let same : take size (take (length xs) (x ∷ xs)) ≡ take (length xs) (x ∷ xs) = take_all size (take (length xs) (x ∷ xs)) (omega (arith, long)) in
          first (length xs) (omega arith) (rw same at is)
      | inr le ↦ first size (omega arith) (rw (take-take size (length xs) (x ∷ xs) le) at is)
    ] in
    let wide_cut : IsWide n (KeepsAll (take (length xs) (x ∷ xs) ++ get_or (x ∷ xs) (length xs) anything ∷ [])) s = subst (λ (l : List Constraint). IsWide n (KeepsAll l) s) cut wide in
    let found = up-first n s 1 (take (length xs) (x ∷ xs)) (get_or (x ∷ xs) (length xs) anything) rest narrow wide_cut in
    let long : length (take (length xs) (x ∷ xs)) + 1 ≡ length (x ∷ xs) = let l = length-take-le (length xs) (x ∷ xs) (omega arith) in omega (arith, l) in
    let joined : take (length xs) (x ∷ xs) ++ get_or (x ∷ xs) (length xs) anything ∷ rest ≡ (x ∷ xs) ++ rest =
    sym (append_assoc (take (length xs) (x ∷ xs)) (get_or (x ∷ xs) (length xs) anything ∷ []) rest) ∙ ap (λ (l : List Constraint). l ++ rest) (sym cut) in
    subst (λ (l : List Constraint). IsFirstOfWide n s (in_phase 1 (up_to_each [] l)) 1 (length (x ∷ xs))) joined (subst (λ (k : ℕ). IsFirstOfWide n s (in_phase 1 (up_to_each [] (take (length xs) (x ∷ xs) ++ get_or (x ∷ xs) (length xs) anything ∷ rest))) 1 k) long found)

-- ---- a sift that is refused

module _ (n s : ℕ) (list : List Constraint) (built : ℕ) (some : 1 ≤ s) (h : IsFirstWide n s list built) (es : List Decision) (he : IsReduced n list es) where
  front_length : length (take h.count list) ≡ h.count
  front_length = length-take-le h.count list h.after.within

  forward_sift : IsForward (Conflicts n) Always list (map is_consistent h.after.decisions) h.count
  forward_sift place lt q =
      let inside : place < length (take h.count list) = let long = front_length in omega (arith, long, lt) in
      let told = sifted-forward n [] (take h.count list) h.after.decisions h.after.sifted place inside in
      let before : take place (take h.count list) ≡ take place list = take-take place h.count list (omega arith) in
      let there : get_or (take h.count list) place anything ≡ get_or list place anything = get_or-take h.count list place anything lt in
      rw (before, there) at told

  sift_marks : length (map is_consistent h.after.decisions) ≡ h.count
  sift_marks = length-map h.after.decisions is_consistent ∙ (sifted-many n [] (take h.count list) h.after.decisions h.after.sifted ∙ front_length)

  same_marks : map is_consistent h.after.decisions ≡ take h.count (map is_consistent es)
  same_marks =
      let long = length-map es is_consistent in
      let many = he.as_many in
      let within = h.after.within in
      let marks = sift_marks in
      sym (take_all h.count (map is_consistent h.after.decisions) (omega (arith, marks)))
      ∙ forward_same (Conflicts n) Always list (map is_consistent h.after.decisions) (map is_consistent es) h.count (omega (arith, marks)) (omega (arith, long, many, within)) forward_sift
      (λ place lt q. conflicts_forward n list es he.as_many he.none_at_limit he.conflicts place (omega (arith, lt, within)) q) (λ place. inl tt)

  split_kept : those is_consistent list es ≡ h.kept ++ marked (drop h.count (map is_consistent es)) (drop h.count list)
  split_kept =
      let front : marked (take h.count (map is_consistent es)) (take h.count list) ≡ h.kept =
      ap (λ (l : List Bool). marked l (take h.count list)) (sym same_marks) ∙ (sifted-kept n [] (take h.count list) h.after.decisions h.after.sifted ∙ h.after.is) in
      marked-split (map is_consistent es) list h.count ∙ ap (λ (l : List Constraint). l ++ marked (drop h.count (map is_consistent es)) (drop h.count list)) front

  none-before : (less : ℕ) → less < length h.kept → IsWide n (KeepsAll (take less h.kept)) s → ⊥
  none-before less lt wide =
      let same_length : length (kept_of (take h.count list) h.after.decisions) ≡ length h.kept = ap length h.after.is in
      let p = kept-prefix n [] (take h.count list) h.after.decisions h.after.sifted less (omega (arith, same_length, lt)) in
      let is : kept_of (take p.0 (take h.count list)) (take p.0 h.after.decisions) ≡ take less h.kept = p.2 ∙ ap (take less) h.after.is in
      elim (cases_lt p.0 h.count) [
        | inl earlier ↦
            let cut : take p.0 (take h.count list) ≡ take p.0 list = take-take p.0 h.count list (omega arith) in
            let sifted : IsSifted n [] (take p.0 list) (take p.0 h.after.decisions) = subst (λ (l : List Constraint). IsSifted n [] l (take p.0 h.after.decisions)) cut (sifted-take n [] (take h.count list) h.after.decisions p.0 h.after.sifted) in
            let within = h.after.within in
            h.first p.0 (take less h.kept) earlier (record {
              within = omega (arith, earlier, within);
              decisions = take p.0 h.after.decisions;
              sifted = sifted;
              is = ap (λ (l : List Constraint). kept_of l (take p.0 h.after.decisions)) (sym cut) ∙ is;
            }) wide
        | inr past ↦
            let long = front_length in
            let many = sifted-many n [] (take h.count list) h.after.decisions h.after.sifted in
            let whole : take p.0 (take h.count list) ≡ take h.count list = take_all p.0 (take h.count list) (omega (arith, long, past)) in
            let whole_ds : take p.0 h.after.decisions ≡ h.after.decisions = take_all p.0 h.after.decisions (omega (arith, long, many, past)) in
            let all_ : h.kept ≡ take less h.kept = sym h.after.is ∙ (ap (λ (l : List Constraint). kept_of l h.after.decisions) (sym whole) ∙ (ap (kept_of (take p.0 (take h.count list))) (sym whole_ds) ∙ is)) in
            let short = length-take-le less h.kept (omega (arith, lt)) in
            let equal = ap length all_ in
            omega (arith, short, equal, lt)
      ]

  pub first-wide : IsFirstOfWide n s (in_phase 1 (up_to_each [] (those is_consistent list es))) 1 built
  first-wide =
      let found = first-kept n s h.kept (marked (drop h.count (map is_consistent es)) (drop h.count list)) some h.wide none-before in
      subst (λ (l : List Constraint). IsFirstOfWide n s (in_phase 1 (up_to_each [] l)) 1 built) (sym split_kept) (subst (λ (k : ℕ). IsFirstOfWide n s (in_phase 1 (up_to_each [] (h.kept ++ marked (drop h.count (map is_consistent es)) (drop h.count list)))) 1 k) h.built_length found)

-- the parts of the built lists
abbrev pub phase_1 : List Constraint → List Decision → List Built
phase_1 list ds = in_phase 1 (up_to_each [] (those is_consistent list ds))

abbrev pub phase_2 : List Constraint → List Decision → List Built
phase_2 list ds = in_phase 2 (up_to_each [] (those is_left list ds))

abbrev pub phase_3 : List Constraint → List Decision → List Built
phase_3 list ds = in_phase 3 (tests [] list ds)

abbrev pub phase_4 : List Constraint → List Decision → List Built
phase_4 list ds = in_phase 4 (all_but_each [] (those is_kept list ds))

in-1 : (n s : ℕ) (list : List Constraint) (es : List Decision) (phase built : ℕ) → IsFirstOfWide n s (phase_1 list es) phase built → IsFirstOfWide n s (built_lists list es) phase built
in-1 n s list es phase built h = first-here n s ((phase_1 list es ++ phase_2 list es) ++ phase_3 list es) (phase_4 list es) phase built (first-here n s (phase_1 list es ++ phase_2 list es) (phase_3 list es) phase built (first-here n s (phase_1 list es) (phase_2 list es) phase built h))

in-2 : (n s : ℕ) (list : List Constraint) (es : List Decision) (phase built : ℕ) → AreNarrow n s (phase_1 list es) → IsFirstOfWide n s (phase_2 list es) phase built → IsFirstOfWide n s (built_lists list es) phase built
in-2 n s list es phase built one h = first-here n s ((phase_1 list es ++ phase_2 list es) ++ phase_3 list es) (phase_4 list es) phase built (first-here n s (phase_1 list es ++ phase_2 list es) (phase_3 list es) phase built (first-skip n s (phase_1 list es) (phase_2 list es) phase built one h))

in-3 : (n s : ℕ) (list : List Constraint) (es : List Decision) (phase built : ℕ) → AreNarrow n s (phase_1 list es) → AreNarrow n s (phase_2 list es) → IsFirstOfWide n s (phase_3 list es) phase built
    → IsFirstOfWide n s (built_lists list es) phase built
in-3 n s list es phase built one two h =
    first-here n s ((phase_1 list es ++ phase_2 list es) ++ phase_3 list es) (phase_4 list es) phase built
    (first-skip n s (phase_1 list es ++ phase_2 list es) (phase_3 list es) phase built (narrow-append n s (phase_1 list es) (phase_2 list es) one two) h)

in-4 : (n s : ℕ) (list : List Constraint) (es : List Decision) (phase built : ℕ) → AreNarrow n s (phase_1 list es) → AreNarrow n s (phase_2 list es) → AreNarrow n s (phase_3 list es)
    → IsFirstOfWide n s (phase_4 list es) phase built → IsFirstOfWide n s (built_lists list es) phase built
in-4 n s list es phase built one two three h =
    first-skip n s ((phase_1 list es ++ phase_2 list es) ++ phase_3 list es) (phase_4 list es) phase built
    (narrow-append n s (phase_1 list es ++ phase_2 list es) (phase_3 list es) (narrow-append n s (phase_1 list es) (phase_2 list es) one two) three) h

pub refused-1 : (n s : ℕ) (list : List Constraint) (refusal : Refusal) → 1 ≤ s → RefusesSift n s list refusal → RefusesReduction n s list refusal
refused-1 n s list (States phase built) some h = λ es he. in-1 n s list es phase built (subst (λ (p : ℕ). IsFirstOfWide n s (phase_1 list es) p built) (sym h.0) (first-wide n s list built some h.1 es he))
refused-1 n s list Memory some h = tt
refused-1 n s list refusal some h = absurd h

-- ---- the marks that a later step leaves as they are

pub consistent-pruning : (d : Decision) → is_consistent (as_sifted d) ≡ is_consistent d
consistent-pruning Kept = refl
consistent-pruning d = refl

consistent-first : (d : Decision) → is_consistent (before_first_pass d) ≡ is_consistent d
consistent-first Kept = refl
consistent-first d = refl

strongest-first : (d : Decision) → is_strongest (before_first_pass d) ≡ is_strongest d
strongest-first Kept = refl
strongest-first d = refl

strongest-second : (d : Decision) → is_strongest (before_second_pass d) ≡ is_strongest d
strongest-second Kept = refl
strongest-second d = refl

pub left-second : (d : Decision) → is_left (before_second_pass d) ≡ is_left d
left-second Kept = refl
left-second d = refl

pub first-second : (d : Decision) → before_first_pass (before_second_pass d) ≡ before_first_pass d
first-second Kept = refl
first-second d = refl

weaker-first : (d : Decision) (by : ℕ) → d ≡ Weaker by ↔ before_first_pass d ≡ Weaker by
weaker-first Kept by = (λ e. cc, λ e. cc)
weaker-first Conflict by = (λ e. e, λ e. e)
weaker-first (Weaker other) by = (λ e. e, λ e. e)
weaker-first FirstPass by = (λ e. cc, λ e. cc)
weaker-first SecondPass by = (λ e. cc, λ e. cc)
weaker-first Beyond by = (λ e. e, λ e. e)
weaker-first Untested by = (λ e. cc, λ e. cc)

conflicts-move : (n : ℕ) (list : List Constraint) (ds es : List Decision) → length ds ≡ length list → length es ≡ length list → AllByRecursion (λ (d : Decision). is_at_limit d ≡ false) ds
    → AllByRecursion (λ (d : Decision). is_at_limit d ≡ false) es → map is_consistent ds ≡ map is_consistent es → TellsConflicts n list es → TellsConflicts n list ds
conflicts-move n list ds es md me nd ne same told =
    forward_conflicts n list ds md nd (subst (λ (v : List Bool). IsForward (Conflicts n) Always list v (length list)) (sym same) (conflicts_forward n list es me ne told))

-- the decisions without the marks of the passes tell the same weaker ones
pub weaker-move : (list : List Constraint) (ds es : List Decision) → length ds ≡ length list → length es ≡ length list → map before_first_pass ds ≡ es → TellsWeaker list es → TellsWeaker list ds
weaker-move list ds es md me same told = weaker-tells list ds md (λ place lt by consistent.
    let ld : place < length ds = omega arith in
    let e : get_or es place Kept ≡ before_first_pass (get_or ds place Kept) = ap (λ (l : List Decision). get_or l place Kept) (sym same) ∙ get_or-map before_first_pass ds place Kept Kept ld in
    let view : map is_consistent ds ≡ map is_consistent es = view_same before_first_pass is_consistent ds es consistent-first same in
    let consistent_es : is_consistent (get_or es place Kept) ≡ true = ap is_consistent e ∙ (consistent-first (get_or ds place Kept) ∙ consistent) in
    let there = tells-weaker list es me told place lt by consistent_es in
    let both = weaker-first (get_or ds place Kept) by in
    rw view (λ is. there.0 (e ∙ both.0 is), λ first. both.1 (sym e ∙ there.1 first)))

first_pass-move : (n : ℕ) (list : List Constraint) (ds es : List Decision) → length ds ≡ length list → length es ≡ length list → map is_strongest ds ≡ map is_strongest es → map is_left ds ≡ map is_left es
    → TellsFirstPass n list es → TellsFirstPass n list ds
first_pass-move n list ds es md me strong left told =
    forward_first_pass n list ds md (λ place lt q.
    let has : get_or (map is_strongest es) place false ≡ true = ap (λ (l : List Bool). get_or l place false) (sym strong) ∙ q in
    rw left (first_pass_forward n list es me told place lt has))

-- a limit gives none of the decisions that steps before have left so
none-move : (f : Decision → Decision) (new old : List Decision) → map f new ≡ old → ((d : Decision) → is_at_limit (f d) ≡ false → (d ≡ Untested → ⊥) → is_at_limit d ≡ false)
    → ((place : ℕ) → get_or new place Kept ≡ Untested → ⊥) → AllByRecursion (λ (d : Decision). is_at_limit d ≡ false) old → AllByRecursion (λ (d : Decision). is_at_limit d ≡ false) new
none-move f [] old e g tested h = tt
none-move f (d ∷ new) [] e g tested h = cc
none-move f (d ∷ new) (o ∷ old) e g tested h =
    let here : f d ≡ o = cc in
    let rest : map f new ≡ old = cc in
    (g d (ap is_at_limit here ∙ h.0) (tested 0), none-move f new old rest g (λ place. tested (suc place)) h.1)

none-sifted : (d : Decision) → is_at_limit (as_sifted d) ≡ false → (d ≡ Untested → ⊥) → is_at_limit d ≡ false
none-sifted Untested e u = absurd (u refl)
none-sifted Beyond e u = e
none-sifted d e u = refl

none-first : (d : Decision) → is_at_limit (before_first_pass d) ≡ false → (d ≡ Untested → ⊥) → is_at_limit d ≡ false
none-first Untested e u = absurd (u refl)
none-first Beyond e u = e
none-first d e u = refl

-- ---- one step after the other

module _ (n s : ℕ) (list : List Constraint) (ds0 ds1 : List Decision) (hs : IsSifted n [] list ds0) (hn : IsNarrow n s list) (hp : IsPruned list ds0 ds1) where
  pub many-0 : length ds0 ≡ length list
  many-0 = sifted-many n [] list ds0 hs

  pub many-1 : length ds1 ≡ length list
  many-1 = sym (length-map ds1 as_sifted) ∙ (ap length hp.same ∙ many-0)

  none-0 : AllByRecursion (λ (d : Decision). is_at_limit d ≡ false) ds0
  none-0 = sifted-none n [] list ds0 hs

  none-1 : AllByRecursion (λ (d : Decision). is_at_limit d ≡ false) ds1
  none-1 = none-move as_sifted ds1 ds0 hp.same none-sifted (fixed-tested before_first_pass refl ds1 hp.later) none-0

  consistent-1 : map is_consistent ds1 ≡ map is_consistent ds0
  consistent-1 = view_same as_sifted is_consistent ds1 ds0 consistent-pruning hp.same

  conflicts-1 : TellsConflicts n list ds1
  conflicts-1 = conflicts-move n list ds1 ds0 many-1 many-0 none-1 none-0 consistent-1 (forward_conflicts n list ds0 many-0 none-0 (λ place lt q. sifted-forward n [] list ds0 hs place lt))

  -- every reduction has the kept lists of the sift
  consistent-es : (es : List Decision) → IsReduced n list es → map is_consistent es ≡ map is_consistent ds1
  consistent-es es he = consistent_same n list es ds1 he.as_many many-1 he.none_at_limit none-1 he.conflicts conflicts-1

  kept-es : (es : List Decision) → IsReduced n list es → those is_consistent list es ≡ kept_of list ds0
  kept-es es he = ap (λ (v : List Bool). marked v list) (consistent-es es he ∙ consistent-1) ∙ sifted-kept n [] list ds0 hs

  narrow-1 : (es : List Decision) → IsReduced n list es → AreNarrow n s (phase_1 list es)
  narrow-1 es he =
      let narrow : IsNarrowList n s (those is_consistent list es) = rw (kept-es es he) (sift-narrow n s list ds0 hs hn) in
      phase-narrow n s 1 (up_to_each [] (those is_consistent list es)) (up-narrow n s [] (those is_consistent list es) narrow)

  strongest-es : (es : List Decision) → IsReduced n list es → map is_strongest es ≡ map is_strongest ds1
  strongest-es es he = strongest_same list es ds1 he.as_many many-1 (consistent-es es he) he.weaker hp.weaker

  pub refused-2 : (refusal : Refusal) → RefusesFirstPass n s list ds1 refusal → RefusesReduction n s list refusal
  refused-2 (States phase built) h = λ es he. in-2 n s list es phase built (narrow-1 es he) (h es he.as_many (strongest-es es he) he.first_pass)
  refused-2 Memory h = tt
  refused-2 refusal h = absurd h

  module _ (ds2 : List Decision) (hf : IsFirstPassed n s list ds1 ds2) where
    pub many-2 : length ds2 ≡ length list
    many-2 = sym (length-map ds2 before_first_pass) ∙ (ap length hf.same ∙ many-1)

    strongest-2 : map is_strongest ds2 ≡ map is_strongest ds1
    strongest-2 = view_same before_first_pass is_strongest ds2 ds1 strongest-first hf.same

    left-es : (es : List Decision) → IsReduced n list es → map is_left es ≡ map is_left ds2
    left-es es he = left_same n list es ds2 he.as_many many-2 (strongest-es es he ∙ sym strongest-2) he.first_pass hf.first_pass

    narrow-2 : (es : List Decision) → IsReduced n list es → AreNarrow n s (phase_2 list es)
    narrow-2 es he = subst (λ (v : List Bool). AreNarrow n s (in_phase 2 (up_to_each [] (marked v list)))) (sym (left-es es he)) hf.narrow

    pub refused-3 : (refusal : Refusal) → RefusesSecondPass n s list ds2 refusal → RefusesReduction n s list refusal
    refused-3 (States phase built) h = λ es he. in-3 n s list es phase built (narrow-1 es he) (narrow-2 es he) (h es he.as_many (left-es es he) he.second_pass)
    refused-3 Memory h = tt
    refused-3 refusal h = absurd h

    module _ (ds3 : List Decision) (hb : IsSecondPassed n s list ds2 ds3) where
      pub many-3 : length ds3 ≡ length list
      many-3 = sym (length-map ds3 before_second_pass) ∙ (ap length hb.same ∙ many-2)

      first-3 : map before_first_pass ds3 ≡ ds1
      first-3 = view_same before_second_pass before_first_pass ds3 ds2 first-second hb.same ∙ hf.same

      none-3 : AllByRecursion (λ (d : Decision). is_at_limit d ≡ false) ds3
      none-3 = none-move before_first_pass ds3 ds1 first-3 none-first hb.tested none-1

      pub reduced : IsReduced n list ds3
      reduced = record {
        as_many = many-3;
        none_at_limit = none-3;
        conflicts = conflicts-move n list ds3 ds1 many-3 many-1 none-3 none-1 (view_same before_first_pass is_consistent ds3 ds1 consistent-first first-3) conflicts-1;
        weaker = weaker-move list ds3 ds1 many-3 many-1 first-3 hp.weaker;
        first_pass = first_pass-move n list ds3 ds2 many-3 many-2 (view_same before_second_pass is_strongest ds3 ds2 strongest-second hb.same) (view_same before_second_pass is_left ds3 ds2 left-second hb.same) hf.first_pass;
        second_pass = hb.second_pass;
      }

      pub irredundant-3 : IsIrredundant n (those is_kept list ds3)
      irredundant-3 = irredundant n list ds3 reduced

      pub refused-4 : (refusal : Refusal) → RefusesWitnesses n s (those is_kept list ds3) refusal → RefusesReduction n s list refusal
      refused-4 (States phase built) h = λ es he.
          let same : ds3 ≡ es = reduced_unique n list ds3 es reduced he in
          subst (λ (ds : List Decision). IsFirstOfWide n s (built_lists list ds) phase built) same (in-4 n s list ds3 phase built (narrow-1 ds3 reduced) (narrow-2 ds3 reduced) hb.narrow h)
      refused-4 Memory h = tt
      refused-4 refusal h = absurd h

      pub reduction : (made : All (IsWellMadeFor n) list) (witnesses : List (List ℕ)) → IsWitnessed n s (those is_kept list ds3) witnesses
          → (example : List ℕ) → IsLeastMember n (KeepsAll (kept_of list ds0)) example → IsReduction n s list (record { decisions = ds3; witnesses = witnesses; example = example })
      reduction made witnesses hw example least = record {
        reduced = reduced;
        witnesses = hw.witnesses_of;
        example = least-same n n (KeepsAll (kept_of list ds0)) (KeepsAll (those is_kept list ds3)) example refl (λ w tw.
            let same = same-traces n list ds3 made reduced w tw in
            let e = kept-es ds3 reduced in
            (λ all. same.1 (rw e all), λ all. rw e at (same.0 all))) least;
        narrow =
            narrow-append n s ((phase_1 list ds3 ++ phase_2 list ds3) ++ phase_3 list ds3) (phase_4 list ds3)
            (narrow-append n s (phase_1 list ds3 ++ phase_2 list ds3) (phase_3 list ds3) (narrow-append n s (phase_1 list ds3) (phase_2 list ds3) (narrow-1 ds3 reduced) (narrow-2 ds3 reduced)) hb.narrow) hw.narrow;
      }
