-- The laws of the reduction.
use Rattle.std.proofs.Common.{◌≡◌, ◌⊎◌, ℕ, zero, suc, ◌<◌, inl, inr, List, [], ◌∷◌, ◌++◌, true, false, Some, length, map, take, drop, get_or, refl, sym, ap, ◌∙◌, subst, append_assoc}
use Rattle.std.specs.List.{All, slice_get}
use Rattle.std.proofs.lemmas.List.{append-nil, get_or-map}
use Rattle.std.proofs.lemmas.Option.{get_or_from_slice_get, slice_get_within}
use Rattle.decl_base.specs.declared.refusal.Refusal.TheVariants.{States}
use Rattle.dfa_core.proofs.Shortlex.{before_total}
use Rattle.dfa_core.specs.Languages.{HasNoMember, IsLeastMember}
use Rattle.dfa_core.specs.Traces.{IsTrace}
use Rattle.template_core.specs.Constraints.{IsWellMadeFor}
use Rattle.template_core.specs.declared.constraint.Constraint.{Constraint}
use Rattle.reduce_model.proofs.Determined.{conflict-lacks, reduced_unique, told-at}
use Rattle.reduce_model.proofs.Lists.{first-not_narrow}
use Rattle.reduce_model.proofs.Marks.{true_or_false}
use Rattle.list_dfa.proofs.Keeping.{anything}
use Rattle.reduce_model.proofs.Meaning.{keeps-at, same-traces}
use Rattle.reduce_model.specs.Building.{built_lists}
use Rattle.reduce_model.specs.Deciding.{IsAt, before, is_consistent, is_kept, those}
use Rattle.reduce_model.specs.Keeping.{IsKeepable, KeepsAll}
use Rattle.reduce_model.specs.Reduction.{AreWitnesses, Breaks, Implies, IsReduced, IsReduction, Reduction, RefusesReduction}
use Rattle.reduce_model.specs.declared.decision.Decision.{Decision}
use Rattle.reduce_model.specs.declared.decision.Decision.TheVariants.{Kept}

pub keepable : (n s : ℕ) (list : List Constraint) (reduction : Reduction) → IsReduction n s list reduction → IsKeepable n (those is_kept list reduction.decisions)
keepable n s list reduction h = record {
  by = reduction.example;
  over = h.example.over;
  keeps = h.example.member;
}

-- the witness at a place
witness-at : (n : ℕ) (before after : List Constraint) (witnesses : List (List ℕ)) → AreWitnesses n before after witnesses → (place : ℕ) (c : Constraint) → slice_get after place ≡ Some c
    → (w : List ℕ) × (slice_get witnesses place ≡ Some w) × IsTrace n w × Breaks ((before ++ take place after) ++ drop (suc place) after) c w
witness-at n before [] ws h place c e = cc
witness-at n before (x ∷ after) [] h place c e = absurd h
witness-at n before (x ∷ after) (w ∷ ws) h zero c e =
    let same : x ≡ c = cc in
    let breaks : Breaks ((before ++ []) ++ after) x w = subst (λ (l : List Constraint). Breaks (l ++ after) x w) (sym (append-nil before)) h.0.member in
    (w, refl, h.0.over, subst (λ (y : Constraint). Breaks ((before ++ []) ++ after) y w) same breaks)
witness-at n before (x ∷ after) (w ∷ ws) h (suc place) c e =
    let ih = witness-at n (before ++ x ∷ []) after ws h.1 place c e in
    (ih.0, ih.1, ih.2, subst (λ (l : List Constraint). Breaks (l ++ drop (suc place) after) c ih.0) (append_assoc before (x ∷ []) (take place after)) ih.3)

pub witnesses-break : (n s : ℕ) (list : List Constraint) (reduction : Reduction) → IsReduction n s list reduction → (place : ℕ) (c : Constraint) → slice_get (those is_kept list reduction.decisions) place ≡ Some c
    → (w : List ℕ) × (slice_get reduction.witnesses place ≡ Some w) × IsTrace n w
    × Breaks (take place (those is_kept list reduction.decisions) ++ drop (suc place) (those is_kept list reduction.decisions)) c w
witnesses-break n s list reduction h place c e = witness-at n [] (those is_kept list reduction.decisions) reduction.witnesses h.witnesses place c e

pub left_out : (n : ℕ) (list : List Constraint) (ds : List Decision) → All (IsWellMadeFor n) list → IsReduced n list ds → (place : ℕ) (c : Constraint) (d : Decision) → IsAt list ds place c d → (d ≡ Kept → ⊥)
    → HasNoMember n (KeepsAll (before is_consistent place list ds ++ c ∷ [])) ⊎ Implies n (those is_kept list ds) c
left_out n list ds made h place c d at out = elim (true_or_false (is_consistent d)) [
  | inl consistent ↦
      let lt : place < length list = slice_get_within list place c at.constraint in
      let ld : place < length ds = slice_get_within ds place d at.decision in
      let ec : get_or list place anything ≡ c = get_or_from_slice_get list place c anything at.constraint in
      let ed : get_or ds place Kept ≡ d = get_or_from_slice_get ds place d Kept at.decision in
      let has : get_or (map is_consistent ds) place false ≡ true = get_or-map is_consistent ds place Kept false ld ∙ (ap is_consistent ed ∙ consistent) in
      inr (λ w tw all. rw ec at (keeps-at (map is_consistent ds) list w place ((same-traces n list ds made h w tw).0 all) lt has))
  | inr lacks ↦ inl ((h.conflicts place c d at).0 ((conflict-lacks d (told-at ds h.none_at_limit place d at.decision)).1 lacks))
]

-- ---- one reduction

pub least_unique : (n : ℕ) (P : List ℕ → Type 0) (t u : List ℕ) → IsLeastMember n P t → IsLeastMember n P u → t ≡ u
least_unique n P t u h g = elim (before_total t u) [
  | inl same ↦ same
  | inr (inl before) ↦ absurd (g.none_before t h.over h.member before)
  | inr (inr after) ↦ absurd (h.none_before u g.over g.member after)
]

witnesses_unique : (n : ℕ) (before after : List Constraint) (ws vs : List (List ℕ)) → AreWitnesses n before after ws → AreWitnesses n before after vs → ws ≡ vs
witnesses_unique n before [] [] [] h g = refl
witnesses_unique n before [] (w ∷ ws) vs h g = absurd h
witnesses_unique n before [] [] (v ∷ vs) h g = absurd g
witnesses_unique n before (c ∷ after) [] vs h g = absurd h
witnesses_unique n before (c ∷ after) (w ∷ ws) [] h g = absurd g
witnesses_unique n before (c ∷ after) (w ∷ ws) (v ∷ vs) h g =
    let here = least_unique n (Breaks (before ++ after) c) w v h.0 g.0 in
    let more = witnesses_unique n (before ++ c ∷ []) after ws vs h.1 g.1 in
    cc (here, more)

three : List Decision → List (List ℕ) → List ℕ → Reduction
three ds ws t = record {
  decisions = ds;
  witnesses = ws;
  example = t;
}

pub three-same : (a b : Reduction) → a.decisions ≡ b.decisions → a.witnesses ≡ b.witnesses → a.example ≡ b.example → a ≡ b
unfolding three
three-same a b decisions witnesses example =
    ap (λ (ds : List Decision). three ds a.witnesses a.example) decisions ∙ (ap (λ (ws : List (List ℕ)). three b.decisions ws a.example) witnesses ∙ ap (three b.decisions b.witnesses) example)

pub reduction_unique : (n s : ℕ) (list : List Constraint) (a b : Reduction) → IsReduction n s list a → IsReduction n s list b → a ≡ b
reduction_unique n s list a b h g =
    let decisions = reduced_unique n list a.decisions b.decisions h.reduced g.reduced in
    let ws : AreWitnesses n [] (those is_kept list b.decisions) a.witnesses = subst (λ (ds : List Decision). AreWitnesses n [] (those is_kept list ds) a.witnesses) decisions h.witnesses in
    let witnesses = witnesses_unique n [] (those is_kept list b.decisions) a.witnesses b.witnesses ws g.witnesses in
    let t : IsLeastMember n (KeepsAll (those is_kept list b.decisions)) a.example = subst (λ (ds : List Decision). IsLeastMember n (KeepsAll (those is_kept list ds)) a.example) decisions h.example in
    let example = least_unique n (KeepsAll (those is_kept list b.decisions)) a.example b.example t g.example in
    three-same a b decisions witnesses example

pub not_both : (n s : ℕ) (list : List Constraint) (a : Reduction) (phase built : ℕ) → IsReduction n s list a → RefusesReduction n s list (States phase built) → ⊥
not_both n s list a phase built h refuses = first-not_narrow n s (built_lists list a.decisions) phase built (refuses a.decisions h.reduced) h.narrow
