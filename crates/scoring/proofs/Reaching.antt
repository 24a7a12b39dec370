-- Scores have denominators, and reach a threshold in lowest terms or before.
use Rattle.std.proofs.Common.{◌≡◌, ℕ, zero, suc, ◌+◌, ◌*◌, ◌<◌, ◌≤◌, List, [], ◌∷◌, Bool, true, false, cond, nat_le, nat_eq, length, count_by, map, filter, refl, sym, ap, ap₂, subst, ◌∙◌, arith, ⊎_elim}
use Rattle.std.specs.List.{AllByRecursion}
use Rattle.std.specs.List.Sorted.{IsStrictlySortedBy}
use Rattle.std.specs.Ordering.{eq_by_cmp, is_eq}
use Rattle.std.specs.declared.cmp.Ordering.{Ordering}
use Rattle.std.specs.declared.cmp.Ordering.TheVariants.{Less, Equal, Greater}
use Rattle.std.proofs.Math.Nat.{mul-le-mul_right, le_of_mul-le-mul_right}
use Rattle.std.proofs.lemmas.Bool.Decides.{leb_tells}
use Rattle.decl_base.specs.Fraction.{lowest_terms, greatest_common_divisor}
use Rattle.decl_base.specs.Threshold.{is_met}
use Rattle.decl_base.specs.declared.threshold.Thresholds.{Thresholds}
use Rattle.decl_base.proofs.Divisors.{IsMultiple-of_lowest}
use Rattle.template_core.specs.Constraints.{IsTemplate}
use Rattle.template_core.specs.Repertoire.{activated}
use Rattle.template_core.specs.declared.repertoire.Repertoire.{Repertoire}
use Rattle.template_core.specs.declared.constraint.Constraint.{Constraint}
use Rattle.scoring.specs.Candidates.{mined_kinds, constraints_over, IsConstraintOver, reaches_all, reaching, candidates_of, EachOccurs}
use Rattle.scoring.specs.Priority.{constraint_cmp, priority_cmp, in_order}
use Rattle.scoring.specs.Scores.{scored_from, scored, HasScores, IsScored}
use Rattle.scoring.specs.Search.{reaching_of}
use Rattle.scoring.specs.declared.scored.Scored.{Scored}
use Rattle.scoring.proofs.Listing.{all-map, all-filter, once_from_strictly, sorted-over}
use Rattle.scoring.proofs.Members.{over_all, scored-constraint}
use Rattle.scoring.proofs.Numbers.{activated_over, traces_over}
use Rattle.scoring.proofs.Orders.{count-cons, tied, in_order-count, in_order-rises, in_order-all, strictly_from_rises}
use Rattle.scoring.proofs.Priorities.{sound_priority, sound_priority-total, sound_priority-agrees, sound_priority-tied, constraint_total, in_order-agree}

left_factor : (d g b : ℕ) → d * g ≡ b → 0 < b → 0 < d
left_factor zero g b e h = absurd (omega arith)
left_factor (suc d) g b e h = omega arith

lowest-positive : (a b : ℕ) → 0 < b → 0 < (lowest_terms a b).den
lowest-positive a b h = left_factor (lowest_terms a b).den (greatest_common_divisor a b) b (IsMultiple-of_lowest a b h).den h

both_times : (x y g : ℕ) → 0 < g → nat_le (x * g) (y * g) ≡ nat_le x y
both_times x y g h =
    ⊎_elim (λ yes. ⊎_elim (λ more. more.0 ∙ sym yes.0) (λ less. absurd (let m : x * g ≤ y * g = mul-le-mul_right g yes.1 in omega (arith, less.1))) (leb_tells (x * g) (y * g)))
    (λ no. ⊎_elim (λ more. absurd (let m : x ≤ y = le_of_mul-le-mul_right more.1 h in omega (arith, no.1))) (λ less. less.0 ∙ sym no.0) (leb_tells (x * g) (y * g))) (leb_tells x y)

-- a threshold is reached in lowest terms exactly where it is reached before
pub is_met-lowest : (m a b : ℕ) → 0 < b → is_met m (lowest_terms a b).num (lowest_terms a b).den ≡ is_met m a b
is_met-lowest m a b h =
    let times = IsMultiple-of_lowest a b h in
    let g : ℕ = greatest_common_divisor a b in
    let num : ℕ = (lowest_terms a b).num in
    let den : ℕ = (lowest_terms a b).den in
    sym (both_times (m * den) (num * 1000000) g times.positive)
    ∙ ap₂ nat_le (regroup m den g ∙ ap (λ n. m * n) times.den) (swap num g ∙ ap (λ n. n * 1000000) times.num)
  where
    regroup : (m d g : ℕ) → m * d * g ≡ m * (d * g)
    regroup m d g = omega arith

    swap : (n g : ℕ) → n * 1000000 * g ≡ n * g * 1000000
    swap n g = omega arith

times_positive : (x y : ℕ) → 0 < x → 0 < y → 0 < x * y
times_positive zero y h k = absurd (omega arith)
times_positive (suc x) y h k = omega arith

-- where some place is activated, each score has a denominator
pub HasScores-scored : (log : List (List ℕ)) (c : Constraint) → 0 < activated nat_eq c.kind c.first c.second log → 0 < length log → HasScores (scored log c)
unfolding scored scored_from
HasScores-scored log c some traces =
    let twice = times_positive _ _ some traces in
    record {
      support = lowest-positive _ _ some;
      confidence = lowest-positive _ _ twice;
      interest = lowest-positive _ _ (times_positive _ _ twice traces);
    }

-- over a log where each rank occurs
pub IsScored-scored : (log : List (List ℕ)) (n : ℕ) (c : Constraint) → EachOccurs n log → IsConstraintOver n c → IsScored log (scored log c)
IsScored-scored log n c each over = record {
  template = subst IsTemplate (ap (λ d. d.kind) (sym (scored-constraint log c))) over.template;
  scores = ap (scored log) (sym (scored-constraint log c));
  has = HasScores-scored log c (activated_over log n c each over) (traces_over log n c each over);
}

pub reaching_of-scored : (log : List (List ℕ)) (n : ℕ) (thresholds : Thresholds) (cs : List Constraint) → EachOccurs n log → AllByRecursion (IsConstraintOver n) cs
    → AllByRecursion (IsScored log) (reaching_of log thresholds cs)
unfolding reaching_of
reaching_of-scored log n thresholds cs each all =
    all-filter (IsScored log) (IsScored log) (reaches_all thresholds) (λ s h e. h) (map (scored log) cs)
    (all-map (IsConstraintOver n) (IsScored log) (scored log) (λ c over. IsScored-scored log n c each over) cs all)

pub reaching-is : (log : List (List ℕ)) (n : ℕ) (repertoire : Repertoire) (thresholds : Thresholds)
    → reaching log n repertoire thresholds ≡ reaching_of log thresholds (constraints_over (mined_kinds repertoire) n)
unfolding reaching reaching_of
reaching-is log n repertoire thresholds = refl

pub reaching_scored : (log : List (List ℕ)) (n : ℕ) (repertoire : Repertoire) (thresholds : Thresholds) → EachOccurs n log
    → AllByRecursion (IsScored log) (reaching log n repertoire thresholds)
reaching_scored log n repertoire thresholds each =
    subst (AllByRecursion (IsScored log)) (sym (reaching-is log n repertoire thresholds))
    (reaching_of-scored log n thresholds (constraints_over (mined_kinds repertoire) n) each (over_all repertoire n))

-- no two candidates tie
tied_constraint : (log : List (List ℕ)) (p : Scored → Bool) (z : Scored) (cs : List Constraint)
    → tied sound_priority sound_priority-total z (filter p (map (scored log) cs)) ≤ count_by (eq_by_cmp constraint_cmp z.constraint) cs
tied_constraint log p z [] = omega arith
tied_constraint log p z (c ∷ cs) =
    omega (arith, count-cons (eq_by_cmp constraint_cmp z.constraint) c cs, go (p (scored log c)) (tied_constraint log p z cs))
  where
    left : (r : Ordering) → sound_priority z (scored log c) ≡ r → cond (is_eq r) 1 0 ≤ cond (eq_by_cmp constraint_cmp z.constraint c) 1 0
    left Less e = omega arith
    left Equal e =
        let same : constraint_cmp z.constraint c ≡ Equal = ap (constraint_cmp z.constraint) (sym (scored-constraint log c)) ∙ sound_priority-tied z (scored log c) e in
        rw same (omega arith)
    left Greater e = omega arith

    go : (v : Bool) → tied sound_priority sound_priority-total z (filter p (map (scored log) cs)) ≤ count_by (eq_by_cmp constraint_cmp z.constraint) cs
        → tied sound_priority sound_priority-total z (cond v (scored log c ∷ filter p (map (scored log) cs)) (filter p (map (scored log) cs)))
        ≤ cond (eq_by_cmp constraint_cmp z.constraint c) 1 0 + count_by (eq_by_cmp constraint_cmp z.constraint) cs
    go true rest =
        omega (arith, count-cons (eq_by_cmp sound_priority z) (scored log c) (filter p (map (scored log) cs)), left (sound_priority z (scored log c)) refl)
    go false rest = omega arith

strictly-agree : {X : Type 0} (R S : X → X → Ordering) (P : X → Type 0) → ((x y : X) → P x → P y → R x y ≡ S x y) → (xs : List X) → AllByRecursion P xs → IsStrictlySortedBy S xs → IsStrictlySortedBy R xs
unfolding IsStrictlySortedBy
strictly-agree R S P agree [] all h = tt
strictly-agree {X} R S P agree (x ∷ xs) all h = (go xs all.1 h.0, strictly-agree R S P agree xs all.1 h.1)
  where
    go : (ys : List X) → AllByRecursion P ys → AllByRecursion (λ y. S x y ≡ Less) ys → AllByRecursion (λ y. R x y ≡ Less) ys
    go [] all h = tt
    go (y ∷ ys) all' h = (agree x y all.0 all'.0 ∙ h.0, go ys all'.1 h.1)

pub candidates_ascending : (log : List (List ℕ)) (n : ℕ) (repertoire : Repertoire) (thresholds : Thresholds) → EachOccurs n log
    → IsStrictlySortedBy priority_cmp (candidates_of log n repertoire thresholds)
unfolding candidates_of reaching
candidates_ascending log n repertoire thresholds each =
    let xs : List Scored = reaching log n repertoire thresholds in
    let P : Scored → Type 0 = IsScored log in
    let all : AllByRecursion P xs = reaching_scored log n repertoire thresholds each in
    let agree : (s t : Scored) → P s → P t → priority_cmp s t ≡ sound_priority s t = λ s t p q. sound_priority-agrees s t p.has q.has in
    let sorted : IsStrictlySortedBy sound_priority (in_order sound_priority xs) =
    strictly_from_rises sound_priority sound_priority-total (in_order sound_priority xs) (in_order-rises sound_priority sound_priority-total xs)
    (λ z. omega (
      arith,
      in_order-count sound_priority (eq_by_cmp sound_priority z) xs,
      tied_constraint log (reaches_all thresholds) z (constraints_over (mined_kinds repertoire) n),
      once_from_strictly constraint_cmp constraint_total z.constraint (constraints_over (mined_kinds repertoire) n) (sorted-over repertoire n),
    )) in
    subst (IsStrictlySortedBy priority_cmp) (sym (in_order-agree priority_cmp sound_priority P agree xs all))
    (strictly-agree priority_cmp sound_priority P agree (in_order sound_priority xs) (in_order-all sound_priority P xs all) sorted)
