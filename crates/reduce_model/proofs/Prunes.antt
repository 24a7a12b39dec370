-- Pruning that goes on by one candidate.
use Rattle.std.proofs.Common.{◌≡◌, ◌≢◌, ℕ, ◌+◌, ◌<◌, ◌≤◌, inl, inr, List, Bool, true, false, Some, length, map, get_or, set, refl, sym, ap, ◌∙◌, arith, get_or-set_same, get_or-set_other}
use Rattle.std.proofs.lemmas.Bool.{cases_lt, cases_eq}
use Rattle.std.proofs.lemmas.List.{get_or-map, length-map, length-set, map-set}
use Rattle.std.proofs.lemmas.Option.{get_or_from_slice_get, slice_get-get_or, slice_get_within}
use Rattle.template_core.specs.declared.constraint.Constraint.{Constraint}
use Rattle.list_dfa.proofs.Keeping.{anything}
use Rattle.reduce_model.proofs.Writes.{WeakerAt, first_above-unique, fixed-at, fixed-fixed, map-set_same, weaker-tells}
use Rattle.reduce_model.specs.Deciding.{as_sifted, is_consistent}
use Rattle.reduce_model.specs.Passes.{IsPruned, before_first_pass}
use Rattle.template_set.specs.Hierarchy.{IsStronger}
use Rattle.reduce_model.specs.Reduction.{IsAbove, IsFirstAbove}
use Rattle.reduce_model.specs.declared.decision.Decision.{Decision}
use Rattle.reduce_model.specs.declared.decision.Decision.TheVariants.{Kept, Conflict, Weaker, Beyond}

-- the candidates before a place are pruned, the others not yet
pub record IsPruning (list : List Constraint) (old new : List Decision) (at : ℕ) : Type 0 where
  pub as_many : length new ≡ length list
  pub same : map as_sifted new ≡ old
  pub weaker : (place : ℕ) → place < at → WeakerAt list new place
  pub fresh : (place : ℕ) → at ≤ place → place < length list → get_or new place Kept ≡ as_sifted (get_or new place Kept)
  pub later : map before_first_pass new ≡ new

passes-pruning : (d : Decision) → before_first_pass (as_sifted d) ≡ as_sifted d
passes-pruning Kept = refl
passes-pruning d = refl

pub pruning-none : (list : List Constraint) (old : List Decision) → length old ≡ length list → map as_sifted old ≡ old → IsPruning list old old 0
pruning-none list old many sifted = record {
  as_many = many;
  same = sifted;
  weaker = λ place lt. absurd (omega (arith, lt));
  fresh = λ place le lt. fixed-at as_sifted old place (omega arith) sifted;
  later = fixed-fixed as_sifted before_first_pass old passes-pruning sifted;
}

consistent-kept : (d : Decision) → d ≡ as_sifted d → is_consistent d ≡ true → d ≡ Kept
consistent-kept Kept e c = refl
consistent-kept Conflict e c = cc
consistent-kept Beyond e c = cc
consistent-kept d e c = e

-- a conflict is left alone
pub pruning-conflict : (list : List Constraint) (old new : List Decision) (at : ℕ) → IsPruning list old new at → is_consistent (get_or new at Kept) ≡ false → IsPruning list old new (at + 1)
pruning-conflict list old new at h lacks = record {
  as_many = h.as_many;
  same = h.same;
  weaker = λ place lt by yes_. elim (cases_lt place at) [
    | inl before ↦ h.weaker place before by yes_
    | inr le ↦ let e : place ≡ at = omega arith in let yes_at : is_consistent (get_or new at Kept) ≡ true = rw e at yes_ in absurd (cc (yes_at, lacks))
  ];
  fresh = λ place le lt. h.fresh place (omega arith) lt;
  later = h.later;
}

-- one that none is above stays
pub pruning-strongest : (list : List Constraint) (old new : List Decision) (at : ℕ) → at < length list → IsPruning list old new at → is_consistent (get_or new at Kept) ≡ true
    → ((place : ℕ) → IsAbove list (map is_consistent new) (get_or list at anything) place → ⊥) → IsPruning list old new (at + 1)
pruning-strongest list old new at in_list h yes_ none =
    let kept : get_or new at Kept ≡ Kept = consistent-kept (get_or new at Kept) (h.fresh at (omega arith) in_list) yes_ in
    record {
      as_many = h.as_many;
      same = h.same;
      weaker = λ place lt by consistent. elim (cases_lt place at) [
        | inl before ↦ h.weaker place before by consistent
        | inr le ↦
            let e : place ≡ at = omega arith in
            rw e (λ is. absurd (cc (kept, is)), λ first. absurd (none by first.above))
      ];
      fresh = λ place le lt. h.fresh place (omega arith) lt;
      later = h.later;
    }

-- one that another is above is marked
pub pruning-weaker : (list : List Constraint) (old new : List Decision) (at by : ℕ) → at < length list → IsPruning list old new at → is_consistent (get_or new at Kept) ≡ true
    → IsFirstAbove list (map is_consistent new) (get_or list at anything) by → IsPruning list old (set new at (Weaker by)) (at + 1)
pruning-weaker list old new at by in_list h yes_ first =
    let kept : get_or new at Kept ≡ Kept = consistent-kept (get_or new at Kept) (h.fresh at (omega arith) in_list) yes_ in
    let many = h.as_many in
    let within : at < length new = omega arith in
    let written = set new at (Weaker by) in
    let view : map is_consistent written ≡ map is_consistent new = map-set_same is_consistent new at (Weaker by) (sym yes_) in
    record {
      as_many = length-set new at (Weaker by) ∙ many;
      same = map-set_same as_sifted new at (Weaker by) (sym (ap as_sifted kept)) ∙ h.same;
      weaker = λ place lt other consistent. elim (cases_eq place at) [
        | inl e ↦
            let is : get_or written place Kept ≡ Weaker by = rw e (get_or-set_same new at (Weaker by) Kept within) in
            rw (is, view, e) (
              λ w. let same_by : by ≡ other = cc in let f : IsFirstAbove list (map is_consistent new) (get_or list at anything) other = rw same_by at first in f,
              λ f. ap Weaker (first_above-unique list (map is_consistent new) (get_or list at anything) by other first f),
            )
        | inr ne ↦
            let is : get_or written place Kept ≡ get_or new place Kept = get_or-set_other new at place (Weaker by) Kept ne in
            let old_consistent : is_consistent (get_or new place Kept) ≡ true = rw is at consistent in
            rw (is, view) (h.weaker place (omega arith) other old_consistent)
      ];
      fresh = λ place le lt.
          let ne : place ≢ at = omega arith in
          let is : get_or written place Kept ≡ get_or new place Kept = get_or-set_other new at place (Weaker by) Kept ne in
          rw is (h.fresh place (omega arith) lt);
      later = map-set before_first_pass new at (Weaker by) ∙ ap (λ (l : List Decision). set l at (Weaker by)) h.later;
    }

pub pruning-all : (list : List Constraint) (old new : List Decision) (at : ℕ) → length list ≤ at → IsPruning list old new at → IsPruned list old new
pruning-all list old new at past h = record {
  same = h.same;
  weaker = weaker-tells list new h.as_many (λ place lt. h.weaker place (omega arith));
  later = h.later;
}

-- ---- the first above, one place more

pub above-here : (list : List Constraint) (ds : List Decision) (c : Constraint) (place : ℕ) → length ds ≡ length list → IsAbove list (map is_consistent ds) c place
    → (is_consistent (get_or ds place Kept) ≡ true) × IsStronger (get_or list place anything) c
above-here list ds c place many h =
    let lt = slice_get_within list place h.constraint h.at in
    let ld : place < length ds = omega arith in
    let ec : get_or list place anything ≡ h.constraint = get_or_from_slice_get list place h.constraint anything h.at in
    let mark : get_or (map is_consistent ds) place false ≡ true = get_or_from_slice_get (map is_consistent ds) place true false h.has_mark in
    (sym (get_or-map is_consistent ds place Kept false ld) ∙ mark, rw ec h.above)

pub here-above : (list : List Constraint) (ds : List Decision) (c : Constraint) (place : ℕ) → length ds ≡ length list → place < length list → is_consistent (get_or ds place Kept) ≡ true
    → IsStronger (get_or list place anything) c → IsAbove list (map is_consistent ds) c place
here-above list ds c place many lt holds above =
    let ld : place < length ds = omega arith in
    let lm = length-map ds is_consistent in
    record {
      constraint = get_or list place anything;
      at = slice_get-get_or list place anything lt;
      has_mark = slice_get-get_or (map is_consistent ds) place false (omega (arith, lm)) ∙ ap Some (get_or-map is_consistent ds place Kept false ld ∙ holds);
      above = above;
    }

pub above-within : (list : List Constraint) (marks : List Bool) (c : Constraint) (place : ℕ) → IsAbove list marks c place → place < length list
above-within list marks c place h = slice_get_within list place h.constraint h.at
