-- The traces with exactly so many of an activity, at nine places.
use Rattle.std.proofs.Common.{◌≡◌, ℕ, ◌+◌, ◌<◌, ◌≤◌, List, [], ◌∷◌, ◌++◌, eqb, nat_eq, length, map, count_by, get_or, ap, ◌∙◌, arith, ◌⊎◌, ⊎_elim}
use Rattle.std.specs.List.{range_with_len}
use Rattle.std.proofs.lemmas.Bool.{ne_eqb}
use Rattle.std.proofs.lemmas.List.{get_or_past}
use Rattle.std.proofs.lemmas.List.Sums.{count_by-le-length}
use Rattle.std.proofs.lemmas.List.FromFn.{fill_by_all, length-map-range_with_len, get_or-map-range_with_len}
use Rattle.template_core.specs.Events.{one_if}
use Rattle.template_core.specs.Counters.{occurrences}
use Rattle.interplay_kb.proofs.Cells.{count_by-ended}

-- one more at the place of so many, if there is such a place
abbrev pub one_more : List ℕ → ℕ → List ℕ
one_more exact count = map (λ k. get_or exact k 0 + one_if (eqb count (k + 1))) (range_with_len 0 9)

abbrev pub exact_of : ℕ → List (List ℕ) → List ℕ
exact_of a log = map (λ k. count_by (λ trace. eqb (occurrences nat_eq a trace) (k + 1)) log) (range_with_len 0 9)

-- the same numbers at each of the nine places
pub same_exact : (f g : ℕ → ℕ) → ((k : ℕ) → f k ≡ g k) → map f (range_with_len 0 9) ≡ map g (range_with_len 0 9)
same_exact f g each =
    fill_by_all g (map f (range_with_len 0 9)) 9 0 (length-map-range_with_len f 0 9) (λ k h. get_or-map-range_with_len f 0 9 k k 0 h (omega arith) ∙ each k)

-- one more trace at the end
pub exact-ended : (a : ℕ) (e : List (List ℕ)) (c : List ℕ) → one_more (exact_of a e) (occurrences nat_eq a c) ≡ exact_of a (e ++ c ∷ [])
exact-ended a e c =
    fill_by_all (λ k. count_by (λ trace. eqb (occurrences nat_eq a trace) (k + 1)) (e ++ c ∷ [])) (one_more (exact_of a e) (occurrences nat_eq a c)) 9 0
    (length-map-range_with_len (λ j. get_or (exact_of a e) j 0 + one_if (eqb (occurrences nat_eq a c) (j + 1))) 0 9)
    (λ k h. get_or-map-range_with_len (λ j. get_or (exact_of a e) j 0 + one_if (eqb (occurrences nat_eq a c) (j + 1))) 0 9 k k 0 h (omega arith)
    ∙ omega (
      arith,
      get_or-map-range_with_len (λ j. count_by (λ trace. eqb (occurrences nat_eq a trace) (j + 1)) e) 0 9 k k 0 h (omega arith),
      count_by-ended (λ trace. eqb (occurrences nat_eq a trace) (k + 1)) e c,
    ))

pub exact-absent : (a : ℕ) (e : List (List ℕ)) (c : List ℕ) → occurrences nat_eq a c ≡ 0 → exact_of a e ≡ exact_of a (e ++ c ∷ [])
exact-absent a e c none =
    same_exact (λ k. count_by (λ trace. eqb (occurrences nat_eq a trace) (k + 1)) e) (λ k. count_by (λ trace. eqb (occurrences nat_eq a trace) (k + 1)) (e ++ c ∷ []))
    (λ k. omega (arith, count_by-ended (λ trace. eqb (occurrences nat_eq a trace) (k + 1)) e c, ap one_if (ne_eqb (occurrences nat_eq a c) (k + 1) (λ same. omega (arith, same, none)))))

pub exact-le : (a : ℕ) (e : List (List ℕ)) (k : ℕ) → get_or (exact_of a e) k 0 ≤ length e
exact-le a e k = ⊎_elim
    (λ inside. omega (
      arith,
      get_or-map-range_with_len (λ j. count_by (λ trace. eqb (occurrences nat_eq a trace) (j + 1)) e) 0 9 k k 0 inside (omega arith),
      count_by-le-length (λ trace. eqb (occurrences nat_eq a trace) (k + 1)) e,
    ))
    (λ past. omega (arith, get_or_past (exact_of a e) k 0 past)) (split k)
  where
    split : (k : ℕ) → (k < 9) ⊎ (9 ≤ k)
    split k = grind arith
