-- Where no built list is wide, the reduction within a limit is the reduction.
use Rattle.std.proofs.Common.{◌≡◌, ◌↔◌, ℕ, zero, suc, inr, List, [], ◌∷◌, ◌++◌, Bool, true, false, IsTrue, length, map, take, refl, sym, subst, arith, append_assoc}
use Rattle.std.specs.List.{All, AllByRecursion}
use Rattle.std.proofs.lemmas.List.{append-nil, take_all}
use Rattle.dfa_core.specs.Languages.{HasNoMember}
use Rattle.dfa_core.specs.Traces.{IsTrace}
use Rattle.template_core.specs.Constraints.{IsWellMadeFor}
use Rattle.template_core.specs.declared.constraint.Constraint.{Constraint}
use Rattle.reduce_model.proofs.Meaning.{same-traces}
use Rattle.list_dfa.proofs.Keeping.{push-keeps}
use Rattle.reduce_model.proofs.Reduces.{sift-narrow}
use Rattle.reduce_model.specs.Building.{AreNarrow, Built, all_but_each, built_in, growing, in_phase, tests, up_to_each}
use Rattle.reduce_model.specs.Deciding.{IsAt, after, as_sifted, before, is_at_limit, is_consistent, is_kept, is_left, is_strongest, those}
use Rattle.reduce_model.specs.Keeping.{IsKeepable, KeepsAll, KeepsOne}
use Rattle.reduce_model.specs.Reduction.{AreWitnesses, Implies, IsReduction, Reduction}
use Rattle.reduce_model.specs.Sifting.{IsSift, IsSifted, Sifting, kept_of}
use Rattle.reduce_model.specs.Within.{AreWitnessesWithin, IsClosed, IsFirstPassedWithin, IsReductionWithin, IsSecondPassedWithin, IsSiftWithin, IsSiftedWithin, IsWideList, TellsUntested}
use Rattle.reduce_model.specs.declared.decision.Decision.{Decision}
use Rattle.reduce_model.specs.declared.decision.Decision.TheVariants.{Kept, Conflict, Weaker, FirstPass, SecondPass, Beyond, Untested}

-- ---- lists that are narrow with their prefixes

narrow-split : (n s : ℕ) (xs ys : List Built) → AreNarrow n s (xs ++ ys) → AreNarrow n s xs × AreNarrow n s ys
narrow-split n s [] ys h = (tt, h)
narrow-split n s (x ∷ xs) ys h = let rest = narrow-split n s xs ys h.1 in ((h.0, rest.0), rest.1)

growing-opens : (n s phase : ℕ) (before rest : List Constraint) → AreNarrow n s (map (built_in phase) (growing before rest)) → (size : ℕ) → IsWideList n s (before ++ take size rest) → ⊥
growing-opens n s phase before [] h zero wide = h.0 (rw append-nil at wide)
growing-opens n s phase before [] h (suc size) wide = h.0 (rw append-nil at wide)
growing-opens n s phase before (c ∷ rest) h zero wide = h.0 (rw append-nil at wide)
growing-opens n s phase before (c ∷ rest) h (suc size) wide = growing-opens n s phase (before ++ c ∷ []) rest h.1 size (rw (append_assoc before (c ∷ []) (take size rest)) wide)

phase-opens : (n s phase : ℕ) (lists : List (List Constraint)) → AreNarrow n s (in_phase phase lists) → AllByRecursion (λ (list : List Constraint). IsClosed n s list → ⊥) lists
phase-opens n s phase [] h = tt
phase-opens n s phase (list ∷ lists) h =
    let parts = narrow-split n s (map (built_in phase) (growing [] list)) (in_phase phase lists) h in
    (λ closed. growing-opens n s phase [] list parts.0 closed.size closed.wide, phase-opens n s phase lists parts.1)

-- a list with no closed part isn't wide
opens-narrow : (n s : ℕ) (list : List Constraint) → (IsClosed n s list → ⊥) → IsWideList n s list → ⊥
opens-narrow n s list h wide = h (record {
  size = length list;
  wide = rw (take_all (length list) list (omega arith)) wide;
})

all-split : (n s : ℕ) (xs ys : List (List Constraint)) → AllByRecursion (λ (list : List Constraint). IsClosed n s list → ⊥) (xs ++ ys)
    → AllByRecursion (λ (list : List Constraint). IsClosed n s list → ⊥) xs × AllByRecursion (λ (list : List Constraint). IsClosed n s list → ⊥) ys
all-split n s [] ys h = (tt, h)
all-split n s (x ∷ xs) ys h = let rest = all-split n s xs ys h.1 in ((h.0, rest.0), rest.1)

-- ---- the sift

sifted-within : (n s : ℕ) (kept xs : List Constraint) (ds : List Decision) → IsSifted n kept xs ds → ((size : ℕ) → IsWideList n s (kept ++ take size (kept_of xs ds)) → ⊥) → IsSiftedWithin n s kept xs ds
sifted-within n s kept [] [] h g = tt
sifted-within n s kept [] (d ∷ ds) h g = absurd h
sifted-within n s kept (x ∷ xs) [] h g = absurd h
sifted-within n s kept (x ∷ xs) (Kept ∷ ds) h g = (h.0, g 1, sifted-within n s (kept ++ x ∷ []) xs ds h.1 (λ size wide. g (suc size) (rw (append_assoc kept (x ∷ []) (take size (kept_of xs ds))) at wide)))
sifted-within n s kept (x ∷ xs) (Conflict ∷ ds) h g = (h.0, sifted-within n s kept xs ds h.1 g)
sifted-within n s kept (x ∷ xs) (d ∷ ds) h g = absurd h

pub sift-agrees : (n s : ℕ) (list : List Constraint) (sifting : Sifting) → IsSift n s list sifting → IsSiftWithin n s list sifting
sift-agrees n s list sifting h = record {
  sifted = sifted-within n s [] list sifting.decisions h.sifted (sift-narrow n s list sifting.decisions h.sifted h.narrow);
  example = h.example;
}

-- ---- the steps, from place to place

next-at : (c : Constraint) (list : List Constraint) (d : Decision) (ds : List Decision) (place : ℕ) (x : Constraint) (e : Decision) → IsAt list ds place x e → IsAt (c ∷ list) (d ∷ ds) (suc place) x e
next-at c list d ds place x e at = record {
  constraint = at.constraint;
  decision = at.decision;
}

first-at : (c : Constraint) (list : List Constraint) (d : Decision) (ds : List Decision) → IsAt (c ∷ list) (d ∷ ds) 0 c d
first-at c list d ds = record {
  constraint = refl;
  decision = refl;
}

-- a fact of each candidate, by those before it that have a mark and those after it that stay
abbrev Told : (Decision → Bool) → (List Constraint → List Constraint → Constraint → Decision → Type 0) → List Constraint → List Constraint → List Decision → Type 0
Told mark F start list ds = (place : ℕ) (c : Constraint) (d : Decision) → IsAt list ds place c d → F (start ++ before mark place list ds) (after is_kept place list ds) c d

told-first : (mark : Decision → Bool) (F : List Constraint → List Constraint → Constraint → Decision → Type 0) (start : List Constraint) (c : Constraint) (list : List Constraint) (d : Decision) (ds : List Decision)
    → Told mark F start (c ∷ list) (d ∷ ds) → F start (those is_kept list ds) c d
told-first mark F start c list d ds h = rw (append-nil start) at (h 0 c d (first-at c list d ds))

told-more : (mark : Decision → Bool) (F : List Constraint → List Constraint → Constraint → Decision → Type 0) (start : List Constraint) (c : Constraint) (list : List Constraint) (d : Decision) (ds : List Decision) → mark d ≡ true
    → Told mark F start (c ∷ list) (d ∷ ds) → Told mark F (start ++ c ∷ []) list ds
told-more mark F start c list d ds yes_ h place x e at =
    let is : start ++ before mark (suc place) (c ∷ list) (d ∷ ds) ≡ (start ++ c ∷ []) ++ before mark place list ds = rw yes_ (sym (append_assoc start (c ∷ []) (before mark place list ds))) in
    subst (λ (l : List Constraint). F l (after is_kept place list ds) x e) is (h (suc place) x e (next-at c list d ds place x e at))

told-past : (mark : Decision → Bool) (F : List Constraint → List Constraint → Constraint → Decision → Type 0) (start : List Constraint) (c : Constraint) (list : List Constraint) (d : Decision) (ds : List Decision) → mark d ≡ false
    → Told mark F start (c ∷ list) (d ∷ ds) → Told mark F start list ds
told-past mark F start c list d ds no_ h place x e at =
    let is : start ++ before mark (suc place) (c ∷ list) (d ∷ ds) ≡ start ++ before mark place list ds = rw no_ refl in
    subst (λ (l : List Constraint). F l (after is_kept place list ds) x e) is (h (suc place) x e (next-at c list d ds place x e at))

abbrev Conflicting : ℕ → List Constraint → List Constraint → Constraint → Decision → Type 0
Conflicting n front back c d = d ≡ Conflict ↔ HasNoMember n (KeepsAll (front ++ c ∷ []))

-- one of the conflict-free model
marks-joins : (n s : ℕ) (w : List ℕ) → IsTrace n w → (kept : List Constraint) (c : Constraint) (list : List Constraint) (d : Decision) (ds : List Decision)
    → (Told is_consistent (Conflicting n) (kept ++ c ∷ []) list ds → KeepsAll (kept ++ c ∷ []) w → IsSiftedWithin n s (kept ++ c ∷ []) list (map as_sifted ds)) → is_consistent d ≡ true → Told is_consistent (Conflicting n) kept (c ∷ list) (d ∷ ds) → KeepsAll kept w
    → KeepsOne c w → (IsClosed n s (kept ++ c ∷ []) → ⊥) → IsKeepable n (kept ++ c ∷ []) × (IsWideList n s (kept ++ c ∷ []) → ⊥) × IsSiftedWithin n s (kept ++ c ∷ []) list (map as_sifted ds)
marks-joins n s w tw kept c list d ds rest yes_ told front one opens = (
  record {
    by = w;
    over = tw;
    keeps = push-keeps kept c w front one;
  },
  opens-narrow n s (kept ++ c ∷ []) opens,
  rest (told-more is_consistent (Conflicting n) kept c list d ds yes_ told) (push-keeps kept c w front one),
)

marks-within : (n s : ℕ) (w : List ℕ) → IsTrace n w → (kept list : List Constraint) (ds : List Decision) → length ds ≡ length list → AllByRecursion (λ (d : Decision). is_at_limit d ≡ false) ds → Told is_consistent (Conflicting n) kept list ds
    → KeepsAll kept w → KeepsAll (those is_consistent list ds) w → AllByRecursion (λ (l : List Constraint). IsClosed n s l → ⊥) (up_to_each kept (those is_consistent list ds)) → IsSiftedWithin n s kept list (map as_sifted ds)
marks-within n s w tw kept [] [] many none told front all opens = tt
marks-within n s w tw kept [] (d ∷ ds) many none told front all opens = absurd (omega (arith, many))
marks-within n s w tw kept (c ∷ list) [] many none told front all opens = absurd (omega (arith, many))
marks-within n s w tw kept (c ∷ list) (Conflict ∷ ds) many none told front all opens =
    let no_ : HasNoMember n (KeepsAll (kept ++ c ∷ [])) = (told-first is_consistent (Conflicting n) kept c list Conflict ds told).0 refl in
    (no_, marks-within n s w tw kept list ds (omega (arith, many)) none.1 (told-past is_consistent (Conflicting n) kept c list Conflict ds refl told) front all opens)
marks-within n s w tw kept (c ∷ list) (Beyond ∷ ds) many none told front all opens = absurd (let no_ = none.0 in cc)
marks-within n s w tw kept (c ∷ list) (Untested ∷ ds) many none told front all opens = absurd (let no_ = none.0 in cc)
marks-within n s w tw kept (c ∷ list) (d ∷ ds) many none told front all opens =
    marks-joins n s w tw kept c list d ds (λ told_ front_. marks-within n s w tw (kept ++ c ∷ []) list ds (omega (arith, many)) none.1 told_ front_ all.1 opens.1) refl told front all.0 opens.0

abbrev FirstTold : ℕ → List Constraint → List Constraint → Constraint → Decision → Type 0
FirstTold n front back c d = IsTrue (is_strongest d) → d ≡ FirstPass ↔ Implies n front c

first-within : (n s : ℕ) (joined list : List Constraint) (ds : List Decision) → Told is_left (FirstTold n) joined list ds → AllByRecursion (λ (l : List Constraint). IsClosed n s l → ⊥) (up_to_each joined (those is_left list ds)) → IsFirstPassedWithin n s joined list ds
first-within n s joined [] ds told opens = tt
first-within n s joined (c ∷ list) [] told opens = tt
first-within n s joined (c ∷ list) (Conflict ∷ ds) told opens = first-within n s joined list ds (told-past is_left (FirstTold n) joined c list Conflict ds refl told) opens
first-within n s joined (c ∷ list) (Beyond ∷ ds) told opens = first-within n s joined list ds (told-past is_left (FirstTold n) joined c list Beyond ds refl told) opens
first-within n s joined (c ∷ list) (Weaker by ∷ ds) told opens = first-within n s joined list ds (told-past is_left (FirstTold n) joined c list (Weaker by) ds refl told) opens
first-within n s joined (c ∷ list) (FirstPass ∷ ds) told opens =
    ((told-first is_left (FirstTold n) joined c list FirstPass ds told refl).0 refl, first-within n s joined list ds (told-past is_left (FirstTold n) joined c list FirstPass ds refl told) opens)
first-within n s joined (c ∷ list) (d ∷ ds) told opens = (
  λ implies. let e = (told-first is_left (FirstTold n) joined c list d ds told refl).1 implies in cc,
  inr (opens-narrow n s (joined ++ c ∷ []) opens.0, first-within n s (joined ++ c ∷ []) list ds (told-more is_left (FirstTold n) joined c list d ds refl told) opens.1),
)

abbrev SecondTold : ℕ → List Constraint → List Constraint → Constraint → Decision → Type 0
SecondTold n front back c d = IsTrue (is_left d) → d ≡ SecondPass ↔ Implies n (front ++ back) c

second-within : (n s : ℕ) (left list : List Constraint) (ds : List Decision) → AllByRecursion (λ (d : Decision). is_at_limit d ≡ false) ds → Told is_left (SecondTold n) left list ds → AllByRecursion (λ (l : List Constraint). IsClosed n s l → ⊥) (tests left list ds)
    → IsSecondPassedWithin n s left list ds
second-within n s left [] ds none told opens = tt
second-within n s left (c ∷ list) [] none told opens = tt
second-within n s left (c ∷ list) (Untested ∷ ds) none told opens = absurd (let no_ = none.0 in cc)
second-within n s left (c ∷ list) (SecondPass ∷ ds) none told opens =
    let parts = all-split n s (tests (left ++ c ∷ []) list ds) ((left ++ those is_kept list ds) ∷ []) opens in
    (parts.1.0, (told-first is_left (SecondTold n) left c list SecondPass ds told refl).0 refl, second-within n s (left ++ c ∷ []) list ds none.1 (told-more is_left (SecondTold n) left c list SecondPass ds refl told) parts.0)
second-within n s left (c ∷ list) (Kept ∷ ds) none told opens =
    let parts = all-split n s (tests (left ++ c ∷ []) list ds) ((left ++ those is_kept list ds) ∷ []) opens in
    (λ implies. let e = (told-first is_left (SecondTold n) left c list Kept ds told refl).1 implies in absurd cc, second-within n s (left ++ c ∷ []) list ds none.1 (told-more is_left (SecondTold n) left c list Kept ds refl told) parts.0)
second-within n s left (c ∷ list) (d ∷ ds) none told opens = second-within n s left list ds none.1 (told-past is_left (SecondTold n) left c list d ds refl told) opens

untested-within : (n s : ℕ) (left kept list : List Constraint) (ds : List Decision) → AllByRecursion (λ (d : Decision). is_at_limit d ≡ false) ds → AllByRecursion (λ (l : List Constraint). IsClosed n s l → ⊥) (tests left list ds)
    → AllByRecursion (λ (l : List Constraint). IsClosed n s l → ⊥) (all_but_each kept (those is_kept list ds)) → TellsUntested n s left kept list ds
untested-within n s left kept [] ds none opens others = tt
untested-within n s left kept (c ∷ list) [] none opens others = tt
untested-within n s left kept (c ∷ list) (Untested ∷ ds) none opens others = absurd (let no_ = none.0 in cc)
untested-within n s left kept (c ∷ list) (SecondPass ∷ ds) none opens others =
    let parts = all-split n s (tests (left ++ c ∷ []) list ds) ((left ++ those is_kept list ds) ∷ []) opens in untested-within n s (left ++ c ∷ []) kept list ds none.1 parts.0 others
untested-within n s left kept (c ∷ list) (Kept ∷ ds) none opens others =
    let parts = all-split n s (tests (left ++ c ∷ []) list ds) ((left ++ those is_kept list ds) ∷ []) opens in (parts.1.0, others.0, untested-within n s (left ++ c ∷ []) (kept ++ c ∷ []) list ds none.1 parts.0 others.1)
untested-within n s left kept (c ∷ list) (d ∷ ds) none opens others = untested-within n s left kept list ds none.1 opens others

witnesses-agree : (n : ℕ) (kept list : List Constraint) (ds : List Decision) (ws : List (List ℕ)) → length ds ≡ length list → AllByRecursion (λ (d : Decision). is_at_limit d ≡ false) ds → AreWitnesses n kept (those is_kept list ds) ws → AreWitnessesWithin n kept list ds ws
witnesses-agree n kept [] [] [] many none h = tt
witnesses-agree n kept [] [] (w ∷ ws) many none h = absurd h
witnesses-agree n kept [] (d ∷ ds) ws many none h = absurd (omega (arith, many))
witnesses-agree n kept (c ∷ list) [] ws many none h = absurd (omega (arith, many))
witnesses-agree n kept (c ∷ list) (Kept ∷ ds) [] many none h = absurd h
witnesses-agree n kept (c ∷ list) (Kept ∷ ds) (w ∷ ws) many none h = (h.0, witnesses-agree n (kept ++ c ∷ []) list ds ws (omega (arith, many)) none.1 h.1)
witnesses-agree n kept (c ∷ list) (Untested ∷ ds) ws many none h = absurd (let no_ = none.0 in cc)
witnesses-agree n kept (c ∷ list) (d ∷ ds) ws many none h = witnesses-agree n kept list ds ws (omega (arith, many)) none.1 h

pub reduction-agrees : (n s : ℕ) (list : List Constraint) (reduction : Reduction) → All (IsWellMadeFor n) list → IsReduction n s list reduction → IsReductionWithin n s list reduction
reduction-agrees n s list reduction made h =
    let ds = reduction.decisions in
    let r = h.reduced in
    let one = in_phase 1 (up_to_each [] (those is_consistent list ds)) in
    let two = in_phase 2 (up_to_each [] (those is_left list ds)) in
    let three_ = in_phase 3 (tests [] list ds) in
    let four = in_phase 4 (all_but_each [] (those is_kept list ds)) in
    let last = narrow-split n s ((one ++ two) ++ three_) four h.narrow in
    let third = narrow-split n s (one ++ two) three_ last.0 in
    let both = narrow-split n s one two third.0 in
    let all_ = (same-traces n list ds made r reduction.example h.example.over).0 h.example.member in
    let tested = phase-opens n s 3 (tests [] list ds) third.1 in
    record {
      reduced = record {
        sifted = marks-within n s reduction.example h.example.over [] list ds r.as_many r.none_at_limit r.conflicts tt all_ (phase-opens n s 1 (up_to_each [] (those is_consistent list ds)) both.0);
        weaker = r.weaker;
        first_pass = first-within n s [] list ds r.first_pass (phase-opens n s 2 (up_to_each [] (those is_left list ds)) both.1);
        second_pass = second-within n s [] list ds r.none_at_limit r.second_pass tested;
        untested = untested-within n s [] [] list ds r.none_at_limit tested (phase-opens n s 4 (all_but_each [] (those is_kept list ds)) last.1);
      };
      witnesses = witnesses-agree n [] list ds reduction.witnesses r.as_many r.none_at_limit h.witnesses;
      example = h.example;
    }
