-- The order of priority puts each list of candidates into one order.
use Rattle.std.proofs.Common.{◌≡◌, ℕ, zero, suc, ◌+◌, ◌-◌, ◌<◌, List, [], ◌∷◌, Bool, cond, length, map, get_or, count_by, fold, Less, Equal, Greater, Ordering, nat_cmp, refl, sym, ap, ap₂, ◌∙◌, arith}
use Rattle.std.specs.Cmp.{IsTotalOrder, nat_cmp_total, then_total, back_total, on_total}
use Rattle.std.specs.List.{AllByRecursion, range_with_len}
use Rattle.std.specs.List.Sorted.{IsPermutation, IsSortedBy}
use Rattle.std.specs.Ordering.{is_lt, ordering_then, on, flip_args, then_cmp, eq_by_cmp}
use Rattle.std.proofs.lemmas.Bool.Decides.{nat_tests}
use Rattle.std.proofs.lemmas.List.{get_or-map}
use Rattle.std.proofs.lemmas.List.FromFn.{get_or-range_with_len}
use Rattle.std.proofs.lemmas.List.Elements.{All-from_recursion, recursion_from_All}
use Rattle.std.proofs.lemmas.List.Sorted.{All-permutation, sum_by-IsPermutation}
use Rattle.decl_base.specs.Fraction.{Fraction, fraction_cmp}
use Rattle.decl_base.proofs.Orders.{ordered}
use Rattle.template_core.specs.Constraints.{number_of, IsTemplate}
use Rattle.template_core.specs.declared.constraint.Constraint.{Constraint}
use Rattle.template_core.specs.declared.kind.Kind.{Kind}
use Rattle.template_core.specs.declared.kind.Kind.TheVariants.{Init}
use Rattle.template_set.specs.Names.{all_kinds}
use Rattle.template_set.proofs.EachKind.{each_kind}
use Rattle.interplay_kb.proofs.Events.{same_default}
use Rattle.scoring.specs.Priority.{constraint_cmp, priority_cmp, insert_in_order, in_order}
use Rattle.scoring.specs.Scores.{scored, HasScores, IsScored}
use Rattle.scoring.specs.declared.scored.Scored.{Scored}
use Rattle.scoring.proofs.Orders.{insert-all, in_order-all, in_order-count, in_order-rises, rises_from_sorted, same_in_order}

pub is_equal : (m n : ℕ) → nat_cmp m n ≡ Equal → m ≡ n
is_equal m n h = grind (arith, nat_tests)

-- 1 in place of 0
sound : ℕ → ℕ
sound zero = 1
sound (suc n) = suc n

sound-positive : (n : ℕ) → 0 < sound n
unfolding sound
sound-positive zero = omega arith
sound-positive (suc n) = omega arith

sound-same : (n : ℕ) → 0 < n → sound n ≡ n
unfolding sound
sound-same zero h = absurd (omega arith)
sound-same (suc n) h = refl

-- a fraction with a denominator above 0
made_sound : Fraction → Fraction
made_sound f = record { num = f.num; den = sound f.den }

-- cross multiplication, in order for any two numbers
sound_cmp : Fraction → Fraction → Ordering
sound_cmp f g = fraction_cmp (made_sound f) (made_sound g)

sound_total : IsTotalOrder sound_cmp
unfolding sound_cmp made_sound
sound_total = record {
  antisymm = λ x y. ordered.reversed (made_sound x) (made_sound y);
  trans = λ x y z p q. ordered.chained (made_sound x) (made_sound y) (made_sound z) (sound-positive x.den) (sound-positive y.den) (sound-positive z.den) p q;
  congr = λ x y z p. ordered.tied (made_sound x) (made_sound y) (made_sound z) (sound-positive x.den) (sound-positive y.den) p;
}

sound-agrees : (f g : Fraction) → 0 < f.den → 0 < g.den → fraction_cmp f g ≡ sound_cmp f g
unfolding sound_cmp made_sound
sound-agrees f g p q = rw (sound-same f.den p, sound-same g.den q) refl

pub constraint_total : IsTotalOrder constraint_cmp
constraint_total =
    then_total (on_total (λ (c : Constraint). number_of c.kind) nat_cmp_total)
    (then_total (on_total (λ (c : Constraint). c.first) nat_cmp_total) (on_total (λ (c : Constraint). c.second) nat_cmp_total))

pub sound_priority : Scored → Scored → Ordering
sound_priority =
    then_cmp (flip_args (on (λ s. s.support) sound_cmp))
    (then_cmp (flip_args (on (λ s. s.confidence) sound_cmp))
    (then_cmp (flip_args (on (λ s. s.interest) sound_cmp)) (on (λ s. s.constraint) constraint_cmp)))

pub sound_priority-total : IsTotalOrder sound_priority
unfolding sound_priority
sound_priority-total =
    then_total (back_total (on_total (λ (s : Scored). s.support) sound_total))
    (then_total (back_total (on_total (λ (s : Scored). s.confidence) sound_total))
    (then_total (back_total (on_total (λ (s : Scored). s.interest) sound_total)) (on_total (λ (s : Scored). s.constraint) constraint_total)))

pub sound_priority-agrees : (s t : Scored) → HasScores s → HasScores t → priority_cmp s t ≡ sound_priority s t
unfolding sound_priority
sound_priority-agrees s t p q =
    ap₂ ordering_then (sound-agrees t.support s.support q.support p.support)
    (ap₂ ordering_then (sound-agrees t.confidence s.confidence q.confidence p.confidence)
    (ap₂ ordering_then (sound-agrees t.interest s.interest q.interest p.interest) refl))

-- what the code answers is in that order
pub answers_soundly : (r : Ordering) (s t : Scored) → r ≡ priority_cmp s t → HasScores s → HasScores t → is_lt r ≡ is_lt (sound_priority s t)
answers_soundly r s t e p q = ap is_lt (e ∙ sound_priority-agrees s t p q)

-- a template is the one of its number
number-at : (place : ℕ) (other : Kind) → place < length all_kinds → number_of (get_or all_kinds place other) ≡ 1 + place
number-at place other h =
    let each : map number_of all_kinds ≡ range_with_len 1 50 = refl in
    sym (get_or-map number_of all_kinds place other 0 h) ∙ ap (λ ns. get_or ns place 0) each ∙ get_or-range_with_len 1 50 place 0 h

kind-at : (kind : Kind) → IsTemplate kind → get_or all_kinds (number_of kind - 1) Init ≡ kind
kind-at =
    each_kind (λ kind. get_or all_kinds (number_of kind - 1) Init ≡ kind)
    (λ place other h. let back : number_of (get_or all_kinds place other) - 1 ≡ place = omega (arith, number-at place other h) in
    ap (λ n. get_or all_kinds n Init) back ∙ same_default all_kinds place Init other h)

same_kind : (k l : Kind) → IsTemplate k → IsTemplate l → number_of k ≡ number_of l → k ≡ l
same_kind k l p q e = sym (kind-at k p) ∙ ap (λ n. get_or all_kinds (n - 1) Init) e ∙ kind-at l q

both_equal : (r s : Ordering) → ordering_then r s ≡ Equal → (r ≡ Equal) × (s ≡ Equal)
both_equal Less s e = absurd (cc)
both_equal Equal s e = (refl, e)
both_equal Greater s e = absurd (cc)

constraint-same : (c d : Constraint) → IsTemplate c.kind → IsTemplate d.kind → constraint_cmp c d ≡ Equal → c ≡ d
constraint-same c d p q e =
    let number = both_equal (nat_cmp (number_of c.kind) (number_of d.kind)) _ e in
    let ranks = both_equal (nat_cmp c.first d.first) _ number.1 in
    let make : Kind → ℕ → ℕ → Constraint = λ kind first second. record { kind = kind; first = first; second = second } in
    let kind : c.kind ≡ d.kind = same_kind c.kind d.kind p q (is_equal _ _ number.0) in
    let first : c.first ≡ d.first = is_equal c.first d.first ranks.0 in
    let second : c.second ≡ d.second = is_equal c.second d.second ranks.1 in
    ap (λ k. make k c.first c.second) kind ∙ ap (λ n. make d.kind n c.second) first ∙ ap (λ n. make d.kind d.first n) second

pub sound_priority-tied : (s t : Scored) → sound_priority s t ≡ Equal → constraint_cmp s.constraint t.constraint ≡ Equal
unfolding sound_priority
sound_priority-tied s t e =
    let support = both_equal (sound_cmp t.support s.support) _ e in
    let confidence = both_equal (sound_cmp t.confidence s.confidence) _ support.1 in
    (both_equal (sound_cmp t.interest s.interest) _ confidence.1).1

scored-same : (log : List (List ℕ)) (s t : Scored) → IsScored log s → IsScored log t → sound_priority s t ≡ Equal → s ≡ t
scored-same log s t p q e =
    p.scores ∙ ap (scored log) (constraint-same s.constraint t.constraint p.template q.template (sound_priority-tied s t e)) ∙ sym q.scores

-- two orders that agree on the elements put them into the same order
module _ {X : Type 0} (R S : X → X → Ordering) (P : X → Type 0) (agree : (x y : X) → P x → P y → R x y ≡ S x y) where
  insert-agree : (x : X) (xs : List X) → P x → AllByRecursion P xs → insert_in_order R xs x ≡ insert_in_order S xs x
  insert-agree x [] h all = refl
  insert-agree x (y ∷ ys) h all = rw (agree x y h all.0, insert-agree x ys h all.1) refl

  fold-agree : (done xs : List X) → AllByRecursion P done → AllByRecursion P xs → fold (insert_in_order R) done xs ≡ fold (insert_in_order S) done xs
  fold-agree done [] h all = refl
  fold-agree done (x ∷ xs) h all =
      fold-agree (insert_in_order R done x) xs (insert-all R P x done all.0 h) all.1
      ∙ ap (λ d. fold (insert_in_order S) d xs) (insert-agree x done all.0 h)

  pub in_order-agree : (xs : List X) → AllByRecursion P xs → in_order R xs ≡ in_order S xs
  in_order-agree xs all = fold-agree [] xs tt all

-- what a sort by priority gives is the list in order of priority
pub sorted_is : (log : List (List ℕ)) (xs ys : List Scored) → AllByRecursion (IsScored log) xs → IsPermutation xs ys
    → IsSortedBy (λ s t. is_lt (sound_priority s t)) ys → ys ≡ in_order priority_cmp xs
sorted_is log xs ys all moved sorted =
    let P : Scored → Type 0 = IsScored log in
    same_in_order sound_priority sound_priority-total P (scored-same log) ys (in_order sound_priority xs)
    (recursion_from_All P ys (All-permutation P xs ys moved (All-from_recursion P xs all)))
    (in_order-all sound_priority P xs all) (rises_from_sorted sound_priority sound_priority-total ys sorted)
    (in_order-rises sound_priority sound_priority-total xs)
    (λ z. sum_by-IsPermutation (λ s. cond (eq_by_cmp sound_priority z s) 1 0) xs ys moved ∙ sym (in_order-count sound_priority (eq_by_cmp sound_priority z) xs))
    ∙ sym (in_order-agree priority_cmp sound_priority P (λ s t p q. sound_priority-agrees s t p.has q.has) xs all)

-- the order of a list with the same elements says nothing about what it is in order of priority
pub in_order-same : (log : List (List ℕ)) (xs ys : List Scored) → AllByRecursion (IsScored log) xs → AllByRecursion (IsScored log) ys
    → ((p : Scored → Bool) → count_by p xs ≡ count_by p ys) → in_order priority_cmp xs ≡ in_order priority_cmp ys
in_order-same log xs ys all others same =
    let P : Scored → Type 0 = IsScored log in
    let agree : (s t : Scored) → P s → P t → priority_cmp s t ≡ sound_priority s t = λ s t p q. sound_priority-agrees s t p.has q.has in
    in_order-agree priority_cmp sound_priority P agree xs all
    ∙ same_in_order sound_priority sound_priority-total P (scored-same log) (in_order sound_priority xs) (in_order sound_priority ys)
    (in_order-all sound_priority P xs all) (in_order-all sound_priority P ys others) (in_order-rises sound_priority sound_priority-total xs)
    (in_order-rises sound_priority sound_priority-total ys)
    (λ z. in_order-count sound_priority (eq_by_cmp sound_priority z) xs ∙ same (eq_by_cmp sound_priority z) ∙ sym (in_order-count sound_priority (eq_by_cmp sound_priority z) ys))
    ∙ sym (in_order-agree priority_cmp sound_priority P agree ys others)
