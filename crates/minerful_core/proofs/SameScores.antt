-- Logs of ranks with the same sums have the same scores, the same candidates, and the same counters.
use Rattle.std.proofs.Common.{◌≡◌, ℕ, ◌+◌, List, [], ◌∷◌, ◌++◌, true, ◌||◌, ◌&&◌, cond, map, filter, length, count_by, sum_by, nat_eq, refl, sym, ap, ap₂, ◌∙◌}
use Rattle.std.specs.Prelude.{◌==◌, codes, decimal, min, nat_lt}
use Rattle.std.specs.List.{flat_map, range_with_len}
use Rattle.report_text.specs.Fields.{columns, quoted_at}
use Rattle.report_text.specs.KbTable.{activity_heading, activity_line, activity_numbers, kb_text, pair_heading, pair_line, pair_lines, pair_numbers}
use Rattle.template_core.specs.Counters.{occurrences, without, no_later, no_earlier, next, previous, rep_later, rep_earlier}
use Rattle.decl_base.specs.declared.threshold.Thresholds.{Thresholds}
use Rattle.template_core.specs.Counts.{pair_counts, traces_in, targets_in, unary_counts}
use Rattle.template_core.specs.Events.{is_first, is_last, occurs}
use Rattle.template_core.specs.Groups.{activation_of, group_of, target_of}
use Rattle.template_core.specs.Repertoire.{activated, fulfilled}
use Rattle.template_core.specs.declared.constraint.Constraint.{Constraint}
use Rattle.template_core.specs.declared.group.Group.{Group}
use Rattle.template_core.specs.declared.group.Group.TheVariants.{Existence, Relation, Mutual, Negative}
use Rattle.template_core.specs.declared.kind.Kind.{Kind}
use Rattle.template_core.specs.declared.repertoire.Repertoire.{Repertoire}
use Rattle.template_set.specs.Numbers.{numbers_of}
use Rattle.scoring.specs.Candidates.{candidates_of, constraints_over, mined_kinds, reaches_all, reaching}
use Rattle.scoring.specs.Priority.{in_order, priority_cmp}
use Rattle.scoring.specs.Scores.{scored, scored_from}
use Rattle.scoring.proofs.ByPair.{length-count}
use Rattle.minerful_core.proofs.SameSums.{SumAlike}

map-same : {X Y : Type 0} (f g : X → Y) → ((x : X) → f x ≡ g x) → (xs : List X) → map f xs ≡ map g xs
map-same f g same [] = refl
map-same f g same (x ∷ xs) = ap₂ (λ y ys. y ∷ ys) (same x) (map-same f g same xs)

flat_map-same : {X Y : Type 0} (f g : X → List Y) → ((x : X) → f x ≡ g x) → (xs : List X) → flat_map f xs ≡ flat_map g xs
flat_map-same f g same [] = refl
flat_map-same f g same (x ∷ xs) = ap₂ (λ y ys. y ++ ys) (same x) (flat_map-same f g same xs)

-- the table of so many traces, with these lines of the activities and of the pairs
abbrev table : ℕ → List ℕ → List ℕ → List ℕ
table n activities pairs = codes "traces " ++ decimal n ++ codes "\n" ++ activity_heading ++ activities ++ pair_heading ++ pairs

module _ (xs ys : List (List ℕ)) (h : SumAlike xs ys) where
  pub same_length : length xs ≡ length ys
  same_length = length-count xs ∙ h (λ t. cond true 1 0) ∙ sym (length-count ys)

  same_with : (a : ℕ) → count_by (occurs nat_eq a) xs ≡ count_by (occurs nat_eq a) ys
  same_with a = h (λ t. cond (occurs nat_eq a t) 1 0)

  same_traces : (group : Group) (a b : ℕ) → traces_in nat_eq group a b xs ≡ traces_in nat_eq group a b ys
  same_traces Existence a b = same_length
  same_traces (Relation activation) a b = same_with (activation_of activation a b)
  same_traces Mutual a b = h (λ t. cond (occurs nat_eq a t || occurs nat_eq b t) 1 0)
  same_traces Negative a b = h (λ t. cond (occurs nat_eq a t || occurs nat_eq b t) 1 0)

  same_targets : (group : Group) (a b : ℕ) → targets_in nat_eq group a b xs ≡ targets_in nat_eq group a b ys
  same_targets Existence a b = same_with a
  same_targets (Relation activation) a b = same_with (target_of activation a b)
  same_targets Mutual a b = ap₂ min (same_with a) (same_with b)
  same_targets Negative a b = ap₂ min (same_with a) (same_with b)

  same_numbers : (kind : Kind) (a b : ℕ) → numbers_of kind a b xs ≡ numbers_of kind a b ys
  same_numbers kind a b =
      let places : activated nat_eq kind a b xs ≡ activated nat_eq kind a b ys = h _ in
      let kept : fulfilled nat_eq kind a b xs ≡ fulfilled nat_eq kind a b ys = h _ in
      cc (places, kept, same_traces (group_of kind) a b, same_targets (group_of kind) a b)

  same_scores : (c : Constraint) → scored xs c ≡ scored ys c
  unfolding scored
  same_scores c = ap₂ (scored_from c) (same_numbers c.kind c.first c.second) same_length

  pub same_candidates : (n : ℕ) (repertoire : Repertoire) (thresholds : Thresholds) → candidates_of xs n repertoire thresholds ≡ candidates_of ys n repertoire thresholds
  unfolding candidates_of reaching
  same_candidates n repertoire thresholds =
      ap (λ list. in_order priority_cmp (filter (reaches_all thresholds) list)) (map-same (scored xs) (scored ys) same_scores (constraints_over (mined_kinds repertoire) n))

  -- ---- the counters

  same_unary : (a : ℕ) → unary_counts a xs ≡ unary_counts a ys
  same_unary a =
      let occurrences_ : sum_by (occurrences nat_eq a) xs ≡ sum_by (occurrences nat_eq a) ys = h (occurrences nat_eq a) in
      let traces : count_by (occurs nat_eq a) xs ≡ count_by (occurs nat_eq a) ys = same_with a in
      let repeated : count_by (λ trace. nat_lt 1 (occurrences nat_eq a trace)) xs ≡ count_by (λ trace. nat_lt 1 (occurrences nat_eq a trace)) ys = h _ in
      let first : count_by (is_first nat_eq a) xs ≡ count_by (is_first nat_eq a) ys = h _ in
      let last : count_by (is_last nat_eq a) xs ≡ count_by (is_last nat_eq a) ys = h _ in
      let exact : map (λ k. count_by (λ trace. occurrences nat_eq a trace == k + 1) xs) (range_with_len 0 9) ≡ map (λ k. count_by (λ trace. occurrences nat_eq a trace == k + 1) ys) (range_with_len 0 9)
      = map-same _ _ (λ k. h (λ trace. cond (occurrences nat_eq a trace == k + 1) 1 0)) (range_with_len 0 9) in
      cc (occurrences_, traces, repeated, first, last, exact)

  same_pair : (a b : ℕ) → pair_counts a b xs ≡ pair_counts a b ys
  same_pair a b =
      let alone : sum_by (without nat_eq a b) xs ≡ sum_by (without nat_eq a b) ys = h _ in
      let later : sum_by (no_later nat_eq a b) xs ≡ sum_by (no_later nat_eq a b) ys = h _ in
      let earlier : sum_by (no_earlier nat_eq a b) xs ≡ sum_by (no_earlier nat_eq a b) ys = h _ in
      let following : sum_by (next nat_eq a b) xs ≡ sum_by (next nat_eq a b) ys = h _ in
      let preceding : sum_by (previous nat_eq a b) xs ≡ sum_by (previous nat_eq a b) ys = h _ in
      let repeated_later : sum_by (rep_later nat_eq a b) xs ≡ sum_by (rep_later nat_eq a b) ys = h _ in
      let repeated_earlier : sum_by (rep_earlier nat_eq a b) xs ≡ sum_by (rep_earlier nat_eq a b) ys = h _ in
      let both : count_by (λ trace. occurs nat_eq a trace && occurs nat_eq b trace) xs ≡ count_by (λ trace. occurs nat_eq a trace && occurs nat_eq b trace) ys = h _ in
      cc (alone, later, earlier, following, preceding, repeated_later, repeated_earlier, both)

  same_line : (names : List (List ℕ)) (a : ℕ) → activity_line names xs a ≡ activity_line names ys a
  same_line names a = ap (λ c. columns 12 (activity_numbers c) ++ quoted_at names a ++ 10 ∷ []) (same_unary a)

  same_pair_lines : (names : List (List ℕ)) (a : ℕ) → pair_lines names xs a ≡ pair_lines names ys a
  same_pair_lines names a =
      flat_map-same (λ b. cond (a == b) [] (pair_line names xs a b)) (λ b. cond (a == b) [] (pair_line names ys a b))
      (λ b. ap (λ c. cond (a == b) [] (columns 12 (pair_numbers c) ++ quoted_at names a ++ 32 ∷ [] ++ quoted_at names b ++ 10 ∷ [])) (same_pair a b))
      (range_with_len 0 (length names))

  pub same_table : (names : List (List ℕ)) → kb_text names xs ≡ kb_text names ys
  unfolding kb_text
  same_table names =
      ap (λ n. table n (flat_map (activity_line names xs) (range_with_len 0 (length names))) (flat_map (pair_lines names xs) (range_with_len 0 (length names)))) same_length
      ∙ ap₂ (table (length ys)) (flat_map-same (activity_line names xs) (activity_line names ys) (same_line names) (range_with_len 0 (length names)))
      (flat_map-same (pair_lines names xs) (pair_lines names ys) (same_pair_lines names) (range_with_len 0 (length names)))
