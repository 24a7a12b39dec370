-- Lists that are built one after the other, and the first of them that is wide.
use Rattle.std.proofs.Common.{◌≡◌, ℕ, zero, suc, ◌+◌, ◌<◌, ◌≤◌, inl, inr, List, [], ◌∷◌, ◌++◌, length, map, take, drop, refl, sym, ap, ◌∙◌, arith, append_assoc}
use Rattle.std.specs.List.{AllByRecursion}
use Rattle.std.proofs.lemmas.Bool.{cases_lt}
use Rattle.std.proofs.lemmas.List.{append-nil, length_push, take_all, take-append-le}
use Rattle.dfa_minimise.specs.Wide.{IsWide}
use Rattle.template_core.specs.declared.constraint.Constraint.{Constraint}
use Rattle.reduce_model.specs.Building.{AreNarrow, Built, IsFirstOfWide, all_but_each, built_in, growing, in_phase, tests, up_to_each}
use Rattle.reduce_model.specs.Deciding.{is_kept, is_left, those}
use Rattle.reduce_model.specs.Keeping.{KeepsAll}
use Rattle.list_dfa.specs.Lists.{IsFirstPrefix, IsNarrowList}
use Rattle.reduce_model.specs.declared.decision.Decision.{Decision}
use Rattle.reduce_model.specs.declared.decision.Decision.TheVariants.{Kept, Conflict, Weaker, FirstPass, SecondPass, Beyond, Untested}

-- the list is wide
abbrev pub Wide : ℕ → ℕ → List Constraint → Type 0
Wide n s list = IsWide n (KeepsAll list) s

-- ---- lists one after the other

pub narrow-append : (n s : ℕ) (xs ys : List Built) → AreNarrow n s xs → AreNarrow n s ys → AreNarrow n s (xs ++ ys)
narrow-append n s [] ys h g = g
narrow-append n s (x ∷ xs) ys h g = (h.0, narrow-append n s xs ys h.1 g)

pub first-skip : (n s : ℕ) (xs ys : List Built) (phase size : ℕ) → AreNarrow n s xs → IsFirstOfWide n s ys phase size → IsFirstOfWide n s (xs ++ ys) phase size
first-skip n s [] ys phase size h g = g
first-skip n s (x ∷ xs) ys phase size h g = inr (h.0, first-skip n s xs ys phase size h.1 g)

pub first-here : (n s : ℕ) (xs ys : List Built) (phase size : ℕ) → IsFirstOfWide n s xs phase size → IsFirstOfWide n s (xs ++ ys) phase size
first-here n s [] ys phase size h = absurd h
first-here n s (x ∷ xs) ys phase size (inl h) = inl h
first-here n s (x ∷ xs) ys phase size (inr h) = inr (h.0, first-here n s xs ys phase size h.1)

pub first-not_narrow : (n s : ℕ) (xs : List Built) (phase size : ℕ) → IsFirstOfWide n s xs phase size → AreNarrow n s xs → ⊥
first-not_narrow n s [] phase size h g = h
first-not_narrow n s (x ∷ xs) phase size (inl h) g = g.0 h.0
first-not_narrow n s (x ∷ xs) phase size (inr h) g = first-not_narrow n s xs phase size h.1 g.1

pub first-unique : (n s : ℕ) (xs : List Built) (p q a b : ℕ) → IsFirstOfWide n s xs p a → IsFirstOfWide n s xs q b → (p ≡ q) × (a ≡ b)
first-unique n s [] p q a b h g = absurd h
first-unique n s (x ∷ xs) p q a b (inl h) (inl g) = (sym h.1 ∙ g.1, sym h.2 ∙ g.2)
first-unique n s (x ∷ xs) p q a b (inl h) (inr g) = absurd (g.0 h.0)
first-unique n s (x ∷ xs) p q a b (inr h) (inl g) = absurd (h.0 g.0)
first-unique n s (x ∷ xs) p q a b (inr h) (inr g) = first-unique n s xs p q a b h.1 g.1

-- ---- a list with its prefixes

growing-narrow : (n s phase : ℕ) (before rest : List Constraint) → ((size : ℕ) → Wide n s (before ++ take size rest) → ⊥) → AreNarrow n s (map (built_in phase) (growing before rest))
growing-narrow n s phase before [] h = let here : Wide n s before → ⊥ = rw append-nil at (h 0) in (here, tt)
growing-narrow n s phase before (c ∷ rest) h =
    let here : Wide n s before → ⊥ = rw append-nil at (h 0) in
    (here, growing-narrow n s phase (before ++ c ∷ []) rest (λ size wide. h (suc size) (rw (append_assoc before (c ∷ []) (take size rest)) at wide)))

growing-first : (n s phase : ℕ) (before rest : List Constraint) (size : ℕ) → size ≤ length rest → Wide n s (before ++ take size rest) → ((less : ℕ) → less < size → Wide n s (before ++ take less rest) → ⊥)
    → IsFirstOfWide n s (map (built_in phase) (growing before rest)) phase (length before + size)
growing-first n s phase before [] zero le wide first = let here : Wide n s before = rw append-nil at wide in inl (here, refl, omega arith)
growing-first n s phase before [] (suc size) le wide first = absurd (omega (arith, le))
growing-first n s phase before (c ∷ rest) zero le wide first = let here : Wide n s before = rw append-nil at wide in inl (here, refl, omega arith)
growing-first n s phase before (c ∷ rest) (suc size) le wide first =
    let none : Wide n s before → ⊥ = rw append-nil at (first 0 (omega arith)) in
    let long = length_push before c in
    let ih = growing-first n s phase (before ++ c ∷ []) rest size (omega (arith, le)) (rw (append_assoc before (c ∷ []) (take size rest)) wide)
    (λ less lt is. first (suc less) (omega arith) (rw (append_assoc before (c ∷ []) (take less rest)) at is)) in
    let e : length (before ++ c ∷ []) + size ≡ length before + suc size = omega (arith, long) in
    inr (none, rw e at ih)

-- ---- the lists of a phase

pub phase-narrow : (n s phase : ℕ) (lists : List (List Constraint)) → AllByRecursion (IsNarrowList n s) lists → AreNarrow n s (in_phase phase lists)
phase-narrow n s phase [] h = tt
phase-narrow n s phase (list ∷ lists) h = narrow-append n s (map (built_in phase) (growing [] list)) (in_phase phase lists) (growing-narrow n s phase [] list h.0) (phase-narrow n s phase lists h.1)

pub phase-first : (n s phase : ℕ) (done : List (List Constraint)) (list : List Constraint) (rest : List (List Constraint)) (size : ℕ) → AllByRecursion (IsNarrowList n s) done → IsFirstPrefix n s list size
    → IsFirstOfWide n s (in_phase phase (done ++ list ∷ rest)) phase size
phase-first n s phase [] list rest size h first =
    let here = growing-first n s phase [] list size first.within first.wide first.first in
    let e : 0 + size ≡ size = omega arith in
    first-here n s (map (built_in phase) (growing [] list)) (in_phase phase rest) phase size (rw e at here)
phase-first n s phase (x ∷ done) list rest size h first =
    first-skip n s (map (built_in phase) (growing [] x)) (in_phase phase (done ++ list ∷ rest)) phase size (growing-narrow n s phase [] x h.0) (phase-first n s phase done list rest size h.1 first)

pub all-append : (n s : ℕ) (xs ys : List (List Constraint)) → AllByRecursion (IsNarrowList n s) xs → AllByRecursion (IsNarrowList n s) ys → AllByRecursion (IsNarrowList n s) (xs ++ ys)
all-append n s [] ys h g = g
all-append n s (x ∷ xs) ys h g = (h.0, all-append n s xs ys h.1 g)

-- ---- kept lists as they arise

pub prefix-narrow : (n s : ℕ) (xs ys : List Constraint) → IsNarrowList n s (xs ++ ys) → IsNarrowList n s xs
prefix-narrow n s xs ys h size wide = elim (cases_lt (length xs) size) [
  | inl lt ↦
      let all_ : take size xs ≡ xs = take_all size xs (omega arith) in
      let same : take (length xs) (xs ++ ys) ≡ xs = take-append-le (length xs) xs ys (omega arith) ∙ take_all (length xs) xs (omega arith) in
      h (length xs) (rw same (rw all_ at wide))
  | inr le ↦ h size (rw (take-append-le size xs ys le) wide)
]

pub up-narrow : (n s : ℕ) (before rest : List Constraint) → IsNarrowList n s (before ++ rest) → AllByRecursion (IsNarrowList n s) (up_to_each before rest)
up-narrow n s before [] h = tt
up-narrow n s before (c ∷ rest) h =
    let more : IsNarrowList n s ((before ++ c ∷ []) ++ rest) = rw append_assoc h in
    (prefix-narrow n s (before ++ c ∷ []) rest more, up-narrow n s (before ++ c ∷ []) rest more)

up-split : (before xs : List Constraint) (c : Constraint) (rest : List Constraint)
    → up_to_each before (xs ++ c ∷ rest) ≡ up_to_each before xs ++ ((before ++ xs) ++ c ∷ []) ∷ up_to_each ((before ++ xs) ++ c ∷ []) rest
up-split before [] c rest = rw append-nil refl
up-split before (x ∷ xs) c rest =
    ap (λ (l : List (List Constraint)). (before ++ x ∷ []) ∷ l) (up-split (before ++ x ∷ []) xs c rest ∙ rw (append_assoc before (x ∷ []) xs) refl)

-- the first wide kept list ends with a constraint after which it was narrow
pub up-first : (n s phase : ℕ) (xs : List Constraint) (c : Constraint) (rest : List Constraint) → IsNarrowList n s xs → Wide n s (xs ++ c ∷ [])
    → IsFirstOfWide n s (in_phase phase (up_to_each [] (xs ++ c ∷ rest))) phase (length xs + 1)
up-first n s phase xs c rest narrow wide =
    let long = length_push xs c in
    let first : IsFirstPrefix n s (xs ++ c ∷ []) (length xs + 1) = record {
      within = omega (arith, long);
      wide = rw (take_all (length xs + 1) (xs ++ c ∷ []) (omega (arith, long))) wide;
      first = λ less lt is. narrow less (rw (take-append-le less xs (c ∷ []) (omega arith)) at is);
    } in
    rw (up-split [] xs c rest) (phase-first n s phase (up_to_each [] xs) (xs ++ c ∷ []) (up_to_each (xs ++ c ∷ []) rest) (length xs + 1) (up-narrow n s [] xs narrow) first)

-- ---- the tests of the second pass

more-left : (T : List Constraint → List (List Constraint)) (before : List Constraint) (x : Constraint) (rest : List Constraint) (all_ : List (List Constraint)) (list : List Constraint)
    → ((earlier : List (List Constraint)) × (all_ ≡ T ((before ++ x ∷ []) ++ rest) ++ earlier)) → (earlier : List (List Constraint)) × (all_ ++ list ∷ [] ≡ T (before ++ x ∷ rest) ++ earlier)
more-left T before x rest all_ list h = (
  h.0 ++ list ∷ [],
  ap (λ (w : List (List Constraint)). w ++ list ∷ []) h.1
      ∙ (append_assoc (T ((before ++ x ∷ []) ++ rest)) h.0 (list ∷ []) ∙ ap (λ (b : List Constraint). T b ++ (h.0 ++ list ∷ [])) (append_assoc before (x ∷ []) rest)),
)

-- of a part of the candidates after others, the tests come first
pub tests-split : (before xs ys : List Constraint) (ds es : List Decision) → length xs ≡ length ds
    → (earlier : List (List Constraint)) × (tests before (xs ++ ys) (ds ++ es) ≡ tests (before ++ those is_left xs ds) ys es ++ earlier)
tests-split before [] ys [] es same = ([], ap (λ (b : List Constraint). tests b ys es) (sym (append-nil before)) ∙ sym (append-nil (tests (before ++ []) ys es)))
tests-split before [] ys (d ∷ ds) es same = absurd (omega (arith, same))
tests-split before (x ∷ xs) ys [] es same = absurd (omega (arith, same))
tests-split before (x ∷ xs) ys (Kept ∷ ds) es same =
    more-left (λ (b : List Constraint). tests b ys es) before x (those is_left xs ds) (tests (before ++ x ∷ []) (xs ++ ys) (ds ++ es)) (before ++ those is_kept (xs ++ ys) (ds ++ es))
    (tests-split (before ++ x ∷ []) xs ys ds es (omega (arith, same)))
tests-split before (x ∷ xs) ys (SecondPass ∷ ds) es same =
    more-left (λ (b : List Constraint). tests b ys es) before x (those is_left xs ds) (tests (before ++ x ∷ []) (xs ++ ys) (ds ++ es)) (before ++ those is_kept (xs ++ ys) (ds ++ es))
    (tests-split (before ++ x ∷ []) xs ys ds es (omega (arith, same)))
tests-split before (x ∷ xs) ys (Untested ∷ ds) es same =
    more-left (λ (b : List Constraint). tests b ys es) before x (those is_left xs ds) (tests (before ++ x ∷ []) (xs ++ ys) (ds ++ es)) (before ++ those is_kept (xs ++ ys) (ds ++ es))
    (tests-split (before ++ x ∷ []) xs ys ds es (omega (arith, same)))
tests-split before (x ∷ xs) ys (Beyond ∷ ds) es same = tests-split before xs ys ds es (omega (arith, same))
tests-split before (x ∷ xs) ys (Conflict ∷ ds) es same = tests-split before xs ys ds es (omega (arith, same))
tests-split before (x ∷ xs) ys (Weaker by ∷ ds) es same = tests-split before xs ys ds es (omega (arith, same))
tests-split before (x ∷ xs) ys (FirstPass ∷ ds) es same = tests-split before xs ys ds es (omega (arith, same))

-- ---- the model without each of its constraints

pub all_but-at : (before after : List Constraint) (k : ℕ) → k < length after
    → drop k (all_but_each before after) ≡ ((before ++ take k after) ++ drop (suc k) after) ∷ drop (suc k) (all_but_each before after)
all_but-at before [] k lt = absurd (omega (arith, lt))
all_but-at before (c ∷ after) zero lt = ap (λ (b : List Constraint). (b ++ after) ∷ all_but_each (before ++ c ∷ []) after) (sym (append-nil before))
all_but-at before (c ∷ after) (suc k) lt =
    all_but-at (before ++ c ∷ []) after k (omega (arith, lt))
    ∙ ap (λ (b : List Constraint). (b ++ drop (suc k) after) ∷ drop (suc k) (all_but_each (before ++ c ∷ []) after)) (append_assoc before (c ∷ []) (take k after))

pub length-all_but : (before after : List Constraint) → length (all_but_each before after) ≡ length after
length-all_but before [] = refl
length-all_but before (c ∷ after) = ap suc (length-all_but (before ++ c ∷ []) after)
