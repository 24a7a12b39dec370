-- What a comparison gives and what an analysis gives is determined, and what they refuse.
use Rattle.std.proofs.Common.{◌≡◌, ℕ, zero, suc, ◌+◌, ◌<◌, List, [], ◌∷◌, ◌⊎◌, inl, inr, Option, None, Some, length, slice_index_or, refl, sym, ap, ap₂, subst, ◌∙◌, arith}
use Rattle.std.specs.List.{Contains}
use Rattle.std.proofs.lemmas.List.{get_or_default}
use Rattle.decl_base.specs.declared.refusal.Refusal.{Refusal}
use Rattle.decl_base.specs.declared.refusal.Refusal.TheVariants.{Memory, States}
use Rattle.dfa_core.specs.Languages.{IsLeastIfAny}
use Rattle.dfa_core.specs.Shortlex.{IsBefore}
use Rattle.dfa_core.proofs.Shortlex.{least_unique}
use Rattle.list_dfa.specs.Lists.{IsFirstPrefix}
use Rattle.model_compare.specs.Analysis.{Analysis, AreFirst, AreThose, IsAnalysis, IsFirstOfOthers, IsRedundant, IsDead, RefusesAnalysis, others}
use Rattle.model_compare.specs.Comparison.{Comparison, IsCompared, KeepsOnly, RefusesComparing, relation_of}
use Rattle.model_compare.specs.declared.compared.Relation.{Relation}
use Rattle.model_compare.proofs.Comparing.{told}
use Rattle.template_core.specs.Keeping.{KeepsAll}
use Rattle.template_core.specs.declared.constraint.Constraint.{Constraint}
use Rattle.minerful_core.specs.Outcome.{IsTold}

found_unique : (n : ℕ) (Member : List ℕ → Type 0) (a b : Option (List ℕ)) → IsLeastIfAny n Member a → IsLeastIfAny n Member b → a ≡ b
found_unique n Member None None h g = refl
found_unique n Member None (Some u) h g = absurd (h u g.over g.member)
found_unique n Member (Some t) None h g = absurd (g t h.over h.member)
found_unique n Member (Some t) (Some u) h g = ap Some (least_unique n Member t u h g)

order : (m n : ℕ) → (m ≡ n) ⊎ ((m < n) ⊎ (n < m))
order m n = grind arith

pub prefix_unique : (n s : ℕ) (list : List Constraint) (a b : ℕ) → IsFirstPrefix n s list a → IsFirstPrefix n s list b → a ≡ b
prefix_unique n s list a b h g =
    elim (order a b) [
      | inl same ↦ same
      | inr (inl less) ↦ absurd (g.first a less h.wide)
      | inr (inr more) ↦ absurd (h.first b more g.wide)
    ]

-- ---- comparisons

module _ (n s : ℕ) (first second : List Constraint) where
  abbrev of_parts : Relation → Option (List ℕ) → Option (List ℕ) → Comparison
  of_parts relation only_first only_second = record { relation = relation; only_first = only_first; only_second = only_second }

  pub comparison_unique : (x y : Comparison) → IsCompared n s first second x → IsCompared n s first second y → x ≡ y
  comparison_unique x y h g =
      let f = found_unique n (KeepsOnly first second) x.only_first y.only_first h.comparison.only_first g.comparison.only_first in
      let l = found_unique n (KeepsOnly second first) x.only_second y.only_second h.comparison.only_second g.comparison.only_second in
      let r : x.relation ≡ y.relation = told n first second x h.comparison ∙ ap₂ relation_of f l ∙ sym (told n first second y g.comparison) in
      ap (λ a. of_parts a x.only_first x.only_second) r ∙ ap₂ (of_parts y.relation) f l

  pub compared_or_refused : (x : Comparison) (r : Refusal) → IsCompared n s first second x → IsTold (RefusesComparing n s first second) r → ⊥
  compared_or_refused x (States phase built) h (inl g) = h.first_narrow built g.1.wide
  compared_or_refused x (States phase built) h (inr g) = h.second_narrow built g.2.wide
  compared_or_refused x Memory h g = g
  compared_or_refused x r h g = g

  same_comparing : (phase built other more : ℕ) → RefusesComparing n s first second (States phase built) → RefusesComparing n s first second (States other more) → (phase ≡ other) × (built ≡ more)
  same_comparing phase built other more (inl h) (inl g) = (h.0 ∙ sym g.0, prefix_unique n s first built more h.1 g.1)
  same_comparing phase built other more (inl h) (inr g) = absurd (g.1 built h.1.wide)
  same_comparing phase built other more (inr h) (inl g) = absurd (h.1 more g.1.wide)
  same_comparing phase built other more (inr h) (inr g) = (h.0 ∙ sym g.0, prefix_unique n s second built more h.2 g.2)

  pub refused_comparison_unique : (r q : Refusal) → IsTold (RefusesComparing n s first second) r → IsTold (RefusesComparing n s first second) q → r ≡ q
  refused_comparison_unique (States phase built) (States other more) h g = let same = same_comparing phase built other more h g in ap₂ States same.0 same.1
  refused_comparison_unique (States phase built) Memory h g = absurd g
  refused_comparison_unique (States phase built) q h g = absurd g
  refused_comparison_unique Memory q h g = absurd h
  refused_comparison_unique r q h g = absurd h

-- ---- ascending numbers with one property

abbrev Ascends : List ℕ → Type 0
Ascends xs = (i j : ℕ) → i < j → j < length xs → slice_index_or xs i 0 < slice_index_or xs j 0

behind : (x : ℕ) (xs : List ℕ) → Ascends (x ∷ xs) → Ascends xs
behind x xs a i j less inside = a (suc i) (suc j) (omega (arith, less)) (omega (arith, inside))

here : (x : ℕ) (xs : List ℕ) → Contains (x ∷ xs) x
here x xs = (0, omega arith, refl)

there : (x z : ℕ) (xs : List ℕ) → Contains xs z → Contains (x ∷ xs) z
there x z xs h = let inside = h.1 in (suc h.0, omega arith, h.2)

here_or_there : (x z : ℕ) (xs : List ℕ) → Contains (x ∷ xs) z → (x ≡ z) ⊎ Contains xs z
here_or_there x z xs h = go h.0 h.1 h.2
  where
    go : (i : ℕ) → i < length (x ∷ xs) → slice_index_or (x ∷ xs) i z ≡ z → (x ≡ z) ⊎ Contains xs z
    go zero inside e = inl e
    go (suc i) inside e = inr (i, omega (arith, inside), e)

above : (x z : ℕ) (xs : List ℕ) → Ascends (x ∷ xs) → Contains xs z → x < z
above x z xs a h =
    let inside = h.1 in
    let is : slice_index_or xs h.0 0 ≡ z = get_or_default xs h.0 0 z inside ∙ h.2 in
    omega (arith, a 0 (suc h.0) (omega arith) (omega arith), is)

abbrev IsIn : List ℕ → List ℕ → Type 0
IsIn xs ys = (z : ℕ) → Contains xs z → Contains ys z

same_head : (x y : ℕ) (xs ys : List ℕ) → Ascends (x ∷ xs) → Ascends (y ∷ ys) → IsIn (x ∷ xs) (y ∷ ys) → IsIn (y ∷ ys) (x ∷ xs) → x ≡ y
same_head x y xs ys a b f g =
    elim (here_or_there y x ys (f x (here x xs))) [
      | inl e ↦ sym e
      | inr h ↦ elim (here_or_there x y xs (g y (here y ys))) [
        | inl e ↦ e
        | inr k ↦ let less = above y x ys b h in let more = above x y xs a k in absurd (omega (arith, less, more))
      ]
    ]

rest_in : (x y : ℕ) (xs ys : List ℕ) → Ascends (x ∷ xs) → x ≡ y → IsIn (x ∷ xs) (y ∷ ys) → IsIn xs ys
rest_in x y xs ys a same f z h =
    elim (here_or_there y z ys (f z (there x z xs h))) [
      | inl e ↦ let less = above x z xs a h in absurd (omega (arith, less, same, e))
      | inr k ↦ k
    ]

ascending_same : (xs ys : List ℕ) → Ascends xs → Ascends ys → IsIn xs ys → IsIn ys xs → xs ≡ ys
ascending_same [] [] a b f g = refl
ascending_same [] (y ∷ ys) a b f g = let h = g y (here y ys) in let inside = h.1 in absurd (omega (arith, inside))
ascending_same (x ∷ xs) [] a b f g = let h = f x (here x xs) in let inside = h.1 in absurd (omega (arith, inside))
ascending_same (x ∷ xs) (y ∷ ys) a b f g =
    let same = same_head x y xs ys a b f g in
    ap₂ (λ z l. z ∷ l) same (ascending_same xs ys (behind x xs a) (behind y ys b) (rest_in x y xs ys a same f) (rest_in y x ys xs b (sym same) g))

those_unique : (Has : ℕ → Type 0) (xs ys : List ℕ) → AreThose Has xs → AreThose Has ys → xs ≡ ys
those_unique Has xs ys h g =
    ascending_same xs ys h.ascending g.ascending (λ z at. (g.exact z).1 ((h.exact z).0 at)) (λ z at. (h.exact z).1 ((g.exact z).0 at))

-- ---- analyses

first_unique : (n k : ℕ) (Member : List ℕ → Type 0) (a b : List (List ℕ)) → AreFirst n Member k a → AreFirst n Member k b → a ≡ b
first_unique n zero Member a b h g = h ∙ sym g
first_unique n (suc k) Member [] [] h g = refl
first_unique n (suc k) Member [] (u ∷ b) h g = absurd (h u g.0.over g.0.member)
first_unique n (suc k) Member (t ∷ a) [] h g = absurd (g t h.0.over h.0.member)
first_unique n (suc k) Member (t ∷ a) (u ∷ b) h g =
    let same = least_unique n Member t u h.0 g.0 in
    let rest = subst (λ v. AreFirst n (λ w. Member w × IsBefore v w) k b) (sym same) g.1 in
    ap₂ (λ v l. v ∷ l) same (first_unique n k (λ w. Member w × IsBefore t w) a b h.1 rest)

module _ (n s k : ℕ) (list : List Constraint) where
  abbrev in_parts : Option (List ℕ) → List ℕ → List ℕ → List (List ℕ) → Analysis
  in_parts accepts dead redundant traces = record { accepts = accepts; dead = dead; redundant = redundant; traces = traces }

  pub analysis_unique : (x y : Analysis) → IsAnalysis n s k list x → IsAnalysis n s k list y → x ≡ y
  analysis_unique x y h g =
      let accepts = found_unique n (KeepsAll list) x.accepts y.accepts h.accepts g.accepts in
      let dead = those_unique (λ z. (z + 1 < n) × IsDead n list z) x.dead y.dead h.dead g.dead in
      let redundant = those_unique (IsRedundant n list) x.redundant y.redundant h.redundant g.redundant in
      let traces = first_unique n k (KeepsAll list) x.traces y.traces h.traces g.traces in
      ap₂ (λ a d. in_parts a d x.redundant x.traces) accepts dead ∙ ap₂ (in_parts y.accepts y.dead) redundant traces

  pub analysed_or_refused : (x : Analysis) (r : Refusal) → IsAnalysis n s k list x → IsTold (RefusesAnalysis n s list) r → ⊥
  analysed_or_refused x (States phase built) h (inl g) = h.narrow built g.1.wide
  analysed_or_refused x (States phase built) h (inr g) = h.others_narrow g.2.place g.2.within built g.2.wide.wide
  analysed_or_refused x Memory h g = g
  analysed_or_refused x r h g = g

module _ (n s : ℕ) (list : List Constraint) where
  others_unique : (a b : ℕ) → IsFirstOfOthers n s list a → IsFirstOfOthers n s list b → a ≡ b
  others_unique a b h g =
      elim (order h.place g.place) [
        | inl same ↦ prefix_unique n s (others h.place list) a b h.wide (subst (λ p. IsFirstPrefix n s (others p list) b) (sym same) g.wide)
        | inr (inl less) ↦ absurd (g.first h.place less a h.wide.wide)
        | inr (inr more) ↦ absurd (h.first g.place more b g.wide.wide)
      ]

  same_analysing : (phase built other more : ℕ) → RefusesAnalysis n s list (States phase built) → RefusesAnalysis n s list (States other more) → (phase ≡ other) × (built ≡ more)
  same_analysing phase built other more (inl h) (inl g) = (h.0 ∙ sym g.0, prefix_unique n s list built more h.1 g.1)
  same_analysing phase built other more (inl h) (inr g) = absurd (g.1 built h.1.wide)
  same_analysing phase built other more (inr h) (inl g) = absurd (h.1 more g.1.wide)
  same_analysing phase built other more (inr h) (inr g) = (h.0 ∙ sym g.0, others_unique built more h.2 g.2)

  pub refused_analysis_unique : (r q : Refusal) → IsTold (RefusesAnalysis n s list) r → IsTold (RefusesAnalysis n s list) q → r ≡ q
  refused_analysis_unique (States phase built) (States other more) h g = let same = same_analysing phase built other more h g in ap₂ States same.0 same.1
  refused_analysis_unique (States phase built) Memory h g = absurd g
  refused_analysis_unique (States phase built) q h g = absurd g
  refused_analysis_unique Memory q h g = absurd h
  refused_analysis_unique r q h g = absurd h
