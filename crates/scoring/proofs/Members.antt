-- Which constraints and which scores a list of candidates has.
use Rattle.std.proofs.Common.{◌≡◌, ◌↔◌, ℕ, zero, suc, ◌<◌, ◌≤◌, List, [], ◌∷◌, ◌++◌, Bool, true, false, cond, map, filter, length, refl, sym, ap, subst, ◌∙◌, arith}
use Rattle.std.specs.List.{AllByRecursion, Contains, range_with_len, flat_map}
use Rattle.std.proofs.lemmas.List.Elements.{All-from_recursion, recursion_from_All, All-contains, Contains-get_or, Contains-append_left, Contains-append_right}
use Rattle.std.proofs.lemmas.List.Sorted.{Contains-permutation}
use Rattle.std.proofs.lemmas.List.Sums.{length-filter, count_by-le-length}
use Rattle.std.proofs.lemmas.List.FromFn.{get_or-range_with_len, length-range_with_len}
use Rattle.decl_base.specs.declared.threshold.Thresholds.{Thresholds}
use Rattle.template_core.specs.declared.constraint.Constraint.{Constraint}
use Rattle.template_core.specs.declared.kind.Kind.{Kind}
use Rattle.template_core.specs.declared.repertoire.Repertoire.{Repertoire}
use Rattle.template_set.specs.Names.{all_kinds}
use Rattle.template_set.proofs.EachKind.{each_kind, all_templates}
use Rattle.template_core.specs.Constraints.{IsTemplate}
use Rattle.template_core.specs.Groups.{takes}
use Rattle.template_core.specs.Repertoires.{is_candidate}
use Rattle.scoring.specs.Candidates.{constraint_of, mined_kinds, constraints_from, constraints_of, constraints_over, IsConstraintOver, reaches_all, reaching, candidates_of, IsCandidate}
use Rattle.scoring.specs.Priority.{priority_cmp, in_order}
use Rattle.scoring.specs.Scores.{scored_from, scored}
use Rattle.scoring.specs.declared.scored.Scored.{Scored}
use Rattle.scoring.proofs.Listing.{all_and, all-map, all-filter, all-flat_map, each_below}
use Rattle.scoring.proofs.Orders.{in_order-all, in_order-moves}

Contains-here : {X : Type 0} (x : X) (xs : List X) → Contains (x ∷ xs) x
Contains-here x xs = (0, omega arith, refl)

Contains-more : {X : Type 0} (y x : X) (xs : List X) → Contains xs x → Contains (y ∷ xs) x
Contains-more y x xs (k, h, e) = (suc k, omega arith, e)

Contains-cons : {X : Type 0} (P : Type 0) (y x : X) (xs : List X) → Contains (y ∷ xs) x → (y ≡ x → P) → (Contains xs x → P) → P
Contains-cons P y x xs (zero, h, e) here more = here e
Contains-cons P y x xs (suc k, h, e) here more = more (k, omega arith, e)

Contains-map : {X Y : Type 0} (f : X → Y) (x : X) (xs : List X) → Contains xs x → Contains (map f xs) (f x)
Contains-map f x [] (k, h, e) = absurd (omega arith)
Contains-map f x (y ∷ ys) h =
    Contains-cons (Contains (f y ∷ map f ys) (f x)) y x ys h (λ e. subst (λ v. Contains (f y ∷ map f ys) v) (ap f e) (Contains-here (f y) (map f ys)))
    (λ rest. Contains-more (f y) (f x) (map f ys) (Contains-map f x ys rest))

Contains-filter : {X : Type 0} (p : X → Bool) (x : X) (xs : List X) → p x ≡ true → Contains xs x → Contains (filter p xs) x
Contains-filter p x [] passes (k, h, e) = absurd (omega arith)
Contains-filter {X} p x (y ∷ ys) passes h = go (p y) refl (Contains-filter p x ys passes)
  where
    go : (v : Bool) → p y ≡ v → (Contains ys x → Contains (filter p ys) x) → Contains (cond v (y ∷ filter p ys) (filter p ys)) x
    go true e rest =
        Contains-cons (Contains (y ∷ filter p ys) x) y x ys h (λ same. subst (λ v. Contains (y ∷ filter p ys) v) same (Contains-here y (filter p ys)))
        (λ more. Contains-more y x (filter p ys) (rest more))
    go false e rest = Contains-cons (Contains (filter p ys) x) y x ys h (λ same. absurd (let t : p y ≡ true = ap p same ∙ passes in cc)) rest

Contains-flat_map : {X Y : Type 0} (f : X → List Y) (x : X) (y : Y) (xs : List X) → Contains xs x → Contains (f x) y → Contains (flat_map f xs) y
Contains-flat_map f x y [] (k, h, e) inside = absurd (omega arith)
Contains-flat_map f x y (z ∷ zs) h inside =
    Contains-cons (Contains (f z ++ flat_map f zs) y) z x zs h (λ e. Contains-append_left (f z) (flat_map f zs) y (subst (λ v. Contains (f v) y) (sym e) inside))
    (λ rest. Contains-append_right (f z) (flat_map f zs) y (Contains-flat_map f x y zs rest inside))

Contains-range : (n k : ℕ) → k < n → Contains (range_with_len 0 n) k
Contains-range n k h = (k, omega (arith, length-range_with_len 0 n), get_or-range_with_len 0 n k k h ∙ omega arith)

has_kind : (kind : Kind) → IsTemplate kind → Contains all_kinds kind
has_kind = each_kind (Contains all_kinds) (λ place other h. Contains-get_or all_kinds place other h)

-- the constraints of a repertoire over n ranks
abbrev IsMinedOver : Repertoire → ℕ → Constraint → Type 0
IsMinedOver repertoire n c = IsConstraintOver n c × (is_candidate repertoire c.kind ≡ true)

over_has : (repertoire : Repertoire) (n : ℕ) (c : Constraint) → IsMinedOver repertoire n c → Contains (constraints_over (mined_kinds repertoire) n) c
unfolding constraints_over constraints_of constraints_from
over_has repertoire n c (h, mined) =
    Contains-flat_map (constraints_of n) c.kind c (mined_kinds repertoire) (Contains-filter (is_candidate repertoire) c.kind all_kinds mined (has_kind c.kind h.template))
    (Contains-flat_map (constraints_from n c.kind) c.first c (range_with_len 0 n) (Contains-range n c.first h.first)
    (Contains-map (constraint_of c.kind c.first) c.second (filter (takes c.kind c.first) (range_with_len 0 n))
    (Contains-filter (takes c.kind c.first) c.second (range_with_len 0 n) h.takes (Contains-range n c.second h.second))))

kinds_all : (repertoire : Repertoire) → AllByRecursion (λ kind. IsTemplate kind × (is_candidate repertoire kind ≡ true)) (mined_kinds repertoire)
kinds_all repertoire =
    all-filter IsTemplate (λ kind. IsTemplate kind × (is_candidate repertoire kind ≡ true)) (is_candidate repertoire) (λ kind t e. (t, e)) all_kinds
    (recursion_from_All IsTemplate all_kinds all_templates)

pub mined_templates : (repertoire : Repertoire) → AllByRecursion IsTemplate (mined_kinds repertoire)
mined_templates repertoire = all_and (λ kind. IsTemplate kind × (is_candidate repertoire kind ≡ true)) IsTemplate (λ kind h. h.0) (mined_kinds repertoire) (kinds_all repertoire)

pub mined_few : (repertoire : Repertoire) → length (mined_kinds repertoire) ≤ 50
mined_few repertoire =
    let fifty : length all_kinds ≡ 50 = refl in
    omega (arith, fifty, length-filter (is_candidate repertoire) all_kinds, count_by-le-length (is_candidate repertoire) all_kinds)

over_mined : (repertoire : Repertoire) (n : ℕ) → AllByRecursion (IsMinedOver repertoire n) (constraints_over (mined_kinds repertoire) n)
unfolding constraints_over constraints_of constraints_from
over_mined repertoire n =
    all-flat_map (λ kind. IsTemplate kind × (is_candidate repertoire kind ≡ true)) (IsMinedOver repertoire n) (constraints_of n)
    (λ kind p. all-flat_map (λ first. first < n) (IsMinedOver repertoire n) (constraints_from n kind)
    (λ first h. all-map (λ second. (second < n) × (takes kind first second ≡ true)) (IsMinedOver repertoire n) (constraint_of kind first)
    (λ second k. (record { template = p.0; first = h; second = k.0; takes = k.1 }, p.1)) (filter (takes kind first) (range_with_len 0 n))
    (all-filter (λ second. second < n) (λ second. (second < n) × (takes kind first second ≡ true)) (takes kind first) (λ second k e. (k, e)) (range_with_len 0 n) (each_below n)))
    (range_with_len 0 n) (each_below n)) (mined_kinds repertoire) (kinds_all repertoire)

pub over_all : (repertoire : Repertoire) (n : ℕ) → AllByRecursion (IsConstraintOver n) (constraints_over (mined_kinds repertoire) n)
over_all repertoire n = all_and (IsMinedOver repertoire n) (IsConstraintOver n) (λ c h. h.0) (constraints_over (mined_kinds repertoire) n) (over_mined repertoire n)

from_all : {X : Type 0} (P : X → Type 0) (xs : List X) (x : X) → AllByRecursion P xs → Contains xs x → P x
from_all P xs x all h = All-contains P xs x (All-from_recursion P xs all) h

pub constraints_are : (repertoire : Repertoire) (n : ℕ) (c : Constraint)
    → Contains (constraints_over (mined_kinds repertoire) n) c ↔ IsConstraintOver n c × (is_candidate repertoire c.kind ≡ true)
constraints_are repertoire n c =
    (from_all (IsMinedOver repertoire n) (constraints_over (mined_kinds repertoire) n) c (over_mined repertoire n), over_has repertoire n c)

pub scored-constraint : (log : List (List ℕ)) (c : Constraint) → (scored log c).constraint ≡ c
unfolding scored scored_from
scored-constraint log c = refl

module _ (log : List (List ℕ)) (n : ℕ) (repertoire : Repertoire) (thresholds : Thresholds) where
  reaching_all : AllByRecursion (IsCandidate log n repertoire thresholds) (reaching log n repertoire thresholds)
  unfolding reaching
  reaching_all =
      all-filter (λ s. IsMinedOver repertoire n s.constraint × (s ≡ scored log s.constraint)) (IsCandidate log n repertoire thresholds) (reaches_all thresholds)
      (λ s h e. record { over = h.0.0; mined = h.0.1; scores = h.1; reaches = e }) (map (scored log) (constraints_over (mined_kinds repertoire) n))
      (all-map (IsMinedOver repertoire n) (λ s. IsMinedOver repertoire n s.constraint × (s ≡ scored log s.constraint)) (scored log)
      (λ c h. (subst (IsMinedOver repertoire n) (sym (scored-constraint log c)) h, ap (scored log) (sym (scored-constraint log c))))
      (constraints_over (mined_kinds repertoire) n) (over_mined repertoire n))

  reaching_has : (s : Scored) → IsCandidate log n repertoire thresholds s → Contains (reaching log n repertoire thresholds) s
  unfolding reaching
  reaching_has s h =
      let cs : List Constraint = constraints_over (mined_kinds repertoire) n in
      Contains-filter (reaches_all thresholds) s (map (scored log) cs) h.reaches
      (subst (λ v. Contains (map (scored log) cs) v) (sym h.scores) (Contains-map (scored log) s.constraint cs (over_has repertoire n s.constraint (h.over, h.mined))))

  pub candidates_are : (s : Scored) → Contains (candidates_of log n repertoire thresholds) s ↔ IsCandidate log n repertoire thresholds s
  unfolding candidates_of
  candidates_are s = (
    from_all (IsCandidate log n repertoire thresholds) (in_order priority_cmp (reaching log n repertoire thresholds)) s
        (in_order-all priority_cmp (IsCandidate log n repertoire thresholds) (reaching log n repertoire thresholds) reaching_all),
    λ h. Contains-permutation (reaching log n repertoire thresholds) (in_order priority_cmp (reaching log n repertoire thresholds)) s
        (in_order-moves priority_cmp (reaching log n repertoire thresholds)) (reaching_has s h),
  )
