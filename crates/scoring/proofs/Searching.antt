-- What the search over a list of constraints finds.
use Rattle.std.proofs.Common.{◌≡◌, ℕ, ◌+◌, ◌<◌, ◌≤◌, List, [], ◌∷◌, ◌++◌, Bool, true, false, cond, Some, None, map, count_by, take, get_or, if◌then◌else◌, length, refl, sym, ap, subst, ◌∙◌, append_assoc}
use Rattle.std.specs.List.{AllByRecursion, flat_map}
use Rattle.std.proofs.lemmas.List.{append-nil, map-append, take_more, take_all}
use Rattle.std.proofs.lemmas.List.Elements.{filter-append}
use Rattle.std.proofs.lemmas.Grind.{flat_map-append}
use Rattle.decl_base.specs.declared.threshold.Thresholds.{Thresholds}
use Rattle.interplay_kb.proofs.ByRank.{id_known, traces_with_told}
use Rattle.interplay_kb.specs.Ranks.{TellsOf, kb_of, rank_count}
use Rattle.interplay_kb.specs.declared.ranked.RankedKb.{RankedKb}
use Rattle.template_core.specs.declared.constraint.Constraint.{Constraint}
use Rattle.template_core.specs.declared.kind.Kind.{Kind}
use Rattle.template_core.specs.declared.repertoire.Repertoire.{Repertoire}
use Rattle.template_core.specs.Groups.{takes}
use Rattle.scoring.specs.Candidates.{constraint_of, mined_kinds, constraints_over, reaches_all, reaching, candidates_of, EachOccurs}
use Rattle.scoring.specs.Conditions.{HasEachEvent}
use Rattle.scoring.specs.Found.{Holds}
use Rattle.scoring.specs.Priority.{priority_cmp, in_order}
use Rattle.scoring.specs.Scores.{scored, IsScored}
use Rattle.scoring.specs.Search.{taken, constraints_at, constraints_by_pair, reaching_of, Finds}
use Rattle.scoring.specs.declared.found.Found.{Found}
use Rattle.scoring.specs.declared.scored.Scored.{Scored}
use Rattle.scoring.proofs.ByPair.{same_reaching, length-count, by_pair_all}
use Rattle.scoring.proofs.Members.{mined_templates}
use Rattle.scoring.proofs.Orders.{in_order-count}
use Rattle.scoring.proofs.Priorities.{in_order-same}
use Rattle.scoring.proofs.Reaching.{reaching-is, reaching_of-scored, reaching_scored}

module _ (log : List (List ℕ)) (thresholds : Thresholds) where
  reaching_of-append : (cs ds : List Constraint) → reaching_of log thresholds (cs ++ ds) ≡ reaching_of log thresholds cs ++ reaching_of log thresholds ds
  unfolding reaching_of
  reaching_of-append cs ds = rw (map-append (scored log) cs ds) (filter-append (reaches_all thresholds) (map (scored log) cs) (map (scored log) ds))

  reaching_of-nil : reaching_of log thresholds [] ≡ []
  unfolding reaching_of
  reaching_of-nil = refl

  -- a constraint that reaches the thresholds, and one that doesn't
  pub reaching_of-some : (c : Constraint) (s : Scored) → Some s ≡ (if reaches_all thresholds (scored log c) then Some (scored log c) else None) → reaching_of log thresholds (c ∷ []) ≡ s ∷ []
  unfolding reaching_of
  reaching_of-some c s e = go (reaches_all thresholds (scored log c)) e
    where
      go : (v : Bool) → Some s ≡ (if v then Some (scored log c) else None) → cond v (scored log c ∷ []) [] ≡ s ∷ []
      go true h = let same : scored log c ≡ s = cc in ap (λ x. x ∷ []) same
      go false h = absurd (cc)

  pub reaching_of-none : (c : Constraint) → None ≡ (if reaches_all thresholds (scored log c) then Some (scored log c) else None) → reaching_of log thresholds (c ∷ []) ≡ []
  unfolding reaching_of
  reaching_of-none c e = go (reaches_all thresholds (scored log c)) e
    where
      go : (v : Bool) → None ≡ (if v then Some (scored log c) else None) → cond v (scored log c ∷ []) [] ≡ []
      go true h = absurd (cc)
      go false h = refl

module _ (counters : RankedKb) (thresholds : Thresholds) where
  -- no constraints; and more behind those that are done
  pub finds-none : (found : Found) (cs : List Constraint) → cs ≡ [] → Finds counters thresholds cs found found
  finds-none found cs e = record {
    holds = λ log before told h. subst (Holds found) (sym (append-nil before) ∙ ap (λ xs. before ++ xs) (sym (reaching_of-nil log thresholds) ∙ ap (reaching_of log thresholds) (sym e))) h;
  }

  pub finds-more : (old mid new : Found) (cs ds all : List Constraint) → all ≡ cs ++ ds → Finds counters thresholds cs old mid → Finds counters thresholds ds mid new
      → Finds counters thresholds all old new
  finds-more old mid new cs ds all e f g = record {
    holds = λ log before told h.
        subst (Holds new)
        (append_assoc before (reaching_of log thresholds cs) (reaching_of log thresholds ds)
        ∙ ap (λ xs. before ++ xs) (sym (reaching_of-append log thresholds cs ds) ∙ ap (reaching_of log thresholds) (sym e)))
        (g.holds log (before ++ reaching_of log thresholds cs) told (f.holds log before told h));
  }

-- the templates are those of a repertoire
pub finds_mined : (counters : RankedKb) (repertoire : Repertoire) (thresholds : Thresholds) (old new : Found) {kinds : List Kind} → kinds ≡ mined_kinds repertoire
    → Finds counters thresholds (constraints_by_pair kinds (rank_count counters)) old new → Finds counters thresholds (constraints_by_pair (mined_kinds repertoire) (rank_count counters)) old new
finds_mined counters repertoire thresholds old new e found = subst (λ ks. Finds counters thresholds (constraints_by_pair ks (rank_count counters)) old new) e found

pub taken-passed : (first second : ℕ) (kind : Kind) → takes kind first second ≡ false → taken first second kind ≡ []
taken-passed first second kind e = rw e refl

pub taken-is : (first second : ℕ) (kind : Kind) → takes kind first second ≡ true → taken first second kind ≡ constraint_of kind first second ∷ []
taken-is first second kind e = rw e refl

-- one more template
pub kinds-more : {X : Type 0} (f : Kind → List X) (k : ℕ) (other : Kind) (kinds : List Kind) → k < length kinds
    → flat_map f (take (k + 1) kinds) ≡ flat_map f (take k kinds) ++ f (get_or kinds k other)
kinds-more f k other kinds h =
    ap (flat_map f) (take_more kinds k other h)
    ∙ flat_map-append f (take k kinds) (get_or kinds k other ∷ []) ∙ ap (λ xs. flat_map f (take k kinds) ++ xs) (append-nil (f (get_or kinds k other)))

pub kinds-all : (kinds : List Kind) (first second k : ℕ) → length kinds ≤ k → constraints_at kinds first second ≡ flat_map (taken first second) (take k kinds)
unfolding constraints_at
kinds-all kinds first second k h = ap (flat_map (taken first second)) (sym (take_all k kinds h))

-- each rank occurs in the log of ranks
pub each_told : (counters : RankedKb) (log : List (List ℕ)) → TellsOf counters log → HasEachEvent (kb_of counters) → EachOccurs (rank_count counters) log
each_told counters log told each = λ rank h.
    subst (λ n. 0 < n) (traces_with_told counters log told each.0 each.1 rank h) (each.2 _ (id_known counters log told rank h))

module _ (log : List (List ℕ)) (n : ℕ) (repertoire : Repertoire) (thresholds : Thresholds) where
  pub found_scored : EachOccurs n log → AllByRecursion (IsScored log) (reaching_of log thresholds (constraints_by_pair (mined_kinds repertoire) n))
  found_scored each = reaching_of-scored log n thresholds (constraints_by_pair (mined_kinds repertoire) n) each (by_pair_all (mined_kinds repertoire) (mined_templates repertoire) n)

  -- what the search finds is as much as the candidates, and the candidates in order of priority
  pub found-length : length (reaching_of log thresholds (constraints_by_pair (mined_kinds repertoire) n)) ≡ length (candidates_of log n repertoire thresholds)
  unfolding candidates_of
  found-length =
      length-count (reaching_of log thresholds (constraints_by_pair (mined_kinds repertoire) n))
      ∙ same_reaching (mined_kinds repertoire) log thresholds n (λ (s : Scored). true)
      ∙ ap (count_by (λ (s : Scored). true)) (sym (reaching-is log n repertoire thresholds))
      ∙ sym (in_order-count priority_cmp (λ (s : Scored). true) (reaching log n repertoire thresholds))
      ∙ sym (length-count (in_order priority_cmp (reaching log n repertoire thresholds)))

  pub found-in_order : EachOccurs n log → in_order priority_cmp (reaching_of log thresholds (constraints_by_pair (mined_kinds repertoire) n)) ≡ candidates_of log n repertoire thresholds
  unfolding candidates_of
  found-in_order each =
      in_order-same log (reaching_of log thresholds (constraints_by_pair (mined_kinds repertoire) n)) (reaching_of log thresholds (constraints_over (mined_kinds repertoire) n))
      (found_scored each) (subst (AllByRecursion (IsScored log)) (reaching-is log n repertoire thresholds) (reaching_scored log n repertoire thresholds each))
      (same_reaching (mined_kinds repertoire) log thresholds n)
      ∙ ap (in_order priority_cmp) (sym (reaching-is log n repertoire thresholds))
