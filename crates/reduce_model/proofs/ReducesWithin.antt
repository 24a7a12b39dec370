-- The steps of the reduction within a limit put together.
use Rattle.std.proofs.Common.{◌≡◌, ℕ, suc, inl, inr, List, [], ◌∷◌, ◌++◌, length, map, take, drop, refl, sym, ap, ◌∙◌, arith}
use Rattle.std.specs.List.{All}
use Rattle.std.proofs.lemmas.List.{length-map, take-append-le, take_all}
use Rattle.template_core.specs.Constraints.{IsWellMadeFor}
use Rattle.template_core.specs.declared.constraint.Constraint.{Constraint}
use Rattle.reduce_model.proofs.MeaningWithin.{consistent-kept_of, same-traces-within}
use Rattle.reduce_model.proofs.Members.{least-same}
use Rattle.reduce_model.proofs.Reduces.{consistent-pruning, first-second, weaker-move}
use Rattle.reduce_model.proofs.Writes.{view_same}
use Rattle.reduce_model.specs.Deciding.{as_sifted, is_consistent, is_kept, those}
use Rattle.reduce_model.specs.Keeping.{KeepsAll}
use Rattle.reduce_model.specs.Passes.{IsDroppedWithin, IsFirstPassedOf, IsPruned, IsSecondPassedTo, IsWitnessedWithin, before_first_pass, before_second_pass}
use Rattle.reduce_model.specs.Sifting.{kept_of}
use Rattle.reduce_model.specs.Within.{IsFirstPassedWithin, IsReducedWithin, IsSiftedWithin}
use Rattle.reduce_model.specs.declared.decision.Decision.{Decision}
use Rattle.reduce_model.specs.declared.decision.Decision.TheVariants.{Kept, Conflict, Weaker, FirstPass, Beyond}
use Rattle.reduce_model.specs.declared.first_within.FirstPassed.{FirstPassed}
use Rattle.reduce_model.specs.declared.witnesses_within.Witnessed.{Witnessed}

pub within-length : (n s : ℕ) (kept list : List Constraint) (ds : List Decision) → IsSiftedWithin n s kept list ds → length ds ≡ length list
within-length n s kept [] [] h = refl
within-length n s kept [] (d ∷ ds) h = absurd h
within-length n s kept (c ∷ list) [] h = absurd h
within-length n s kept (c ∷ list) (Kept ∷ ds) h = ap suc (within-length n s (kept ++ c ∷ []) list ds h.2)
within-length n s kept (c ∷ list) (Conflict ∷ ds) h = ap suc (within-length n s kept list ds h.1)
within-length n s kept (c ∷ list) (Beyond ∷ ds) h = ap suc (within-length n s kept list ds h.2)
within-length n s kept (c ∷ list) (d ∷ ds) h = absurd h

pub within-fixed : (n s : ℕ) (kept list : List Constraint) (ds : List Decision) → IsSiftedWithin n s kept list ds → map as_sifted ds ≡ ds
within-fixed n s kept [] [] h = refl
within-fixed n s kept [] (d ∷ ds) h = absurd h
within-fixed n s kept (c ∷ list) [] h = absurd h
within-fixed n s kept (c ∷ list) (Kept ∷ ds) h = ap (λ (l : List Decision). Kept ∷ l) (within-fixed n s (kept ++ c ∷ []) list ds h.2)
within-fixed n s kept (c ∷ list) (Conflict ∷ ds) h = ap (λ (l : List Decision). Conflict ∷ l) (within-fixed n s kept list ds h.1)
within-fixed n s kept (c ∷ list) (Beyond ∷ ds) h = ap (λ (l : List Decision). Beyond ∷ l) (within-fixed n s kept list ds h.2)
within-fixed n s kept (c ∷ list) (d ∷ ds) h = absurd h

-- decisions that are written back where as many stood
pub written-back : (size : ℕ) (new old : List Decision) → size ≡ length new → take size (new ++ drop (length new) old) ≡ new
written-back size new old e = take-append-le size new (drop (length new) old) (omega (arith, e)) ∙ take_all size new (omega (arith, e))

sifted-first : (d : Decision) → as_sifted (before_first_pass d) ≡ as_sifted d
sifted-first Kept = refl
sifted-first d = refl

-- the first pass says nothing of the marks of the second
first-view : (n s : ℕ) (joined list : List Constraint) (ds : List Decision) → IsFirstPassedWithin n s joined list (map before_second_pass ds) → IsFirstPassedWithin n s joined list ds
first-view n s joined [] ds h = tt
first-view n s joined (c ∷ list) [] h = tt
first-view n s joined (c ∷ list) (Conflict ∷ ds) h = first-view n s joined list ds h
first-view n s joined (c ∷ list) (Beyond ∷ ds) h = first-view n s joined list ds h
first-view n s joined (c ∷ list) (Weaker by ∷ ds) h = first-view n s joined list ds h
first-view n s joined (c ∷ list) (FirstPass ∷ ds) h = (h.0, first-view n s joined list ds h.1)
first-view n s joined (c ∷ list) (d ∷ ds) h = (
  h.0,
  elim h.1 [
    | inl wide ↦ inl (wide.0, first-view n s joined list ds wide.1)
    | inr narrow ↦ inr (narrow.0, first-view n s (joined ++ c ∷ []) list ds narrow.1)
  ],
)

-- ---- one step after the other

module _ (n s : ℕ) (list : List Constraint) (made : All (IsWellMadeFor n) list) (ds0 : List Decision) (hs : IsSiftedWithin n s [] list ds0) (ds1 : List Decision) (hp : IsPruned list ds0 ds1) where
  pub many-0 : length ds0 ≡ length list
  many-0 = within-length n s [] list ds0 hs

  pub many-1 : length ds1 ≡ length list
  many-1 = sym (length-map ds1 as_sifted) ∙ (ap length hp.same ∙ many-0)

  module _ (passed : FirstPassed) (hf : IsFirstPassedOf n s list ds1 passed) where
    pub many-2 : length passed.decisions.items ≡ length list
    many-2 = sym (length-map passed.decisions.items before_first_pass) ∙ (ap length hf.same ∙ many-1)

    module _ (ds3 : List Decision) (hb : IsSecondPassedTo n s list passed.decisions.items ds3) where
      pub many-3 : length ds3 ≡ length list
      many-3 = sym (length-map ds3 before_second_pass) ∙ (ap length hb.same ∙ many-2)

      module _ (witnessed : Witnessed) (hw : IsWitnessedWithin n s list ds3 witnessed) where
        second-4 : map before_second_pass witnessed.decisions.items ≡ passed.decisions.items
        second-4 = hw.same ∙ hb.same

        first-4 : map before_first_pass witnessed.decisions.items ≡ ds1
        first-4 = view_same before_second_pass before_first_pass witnessed.decisions.items passed.decisions.items first-second second-4 ∙ hf.same

        sifted-4 : map as_sifted witnessed.decisions.items ≡ ds0
        sifted-4 = view_same before_first_pass as_sifted witnessed.decisions.items ds1 sifted-first first-4 ∙ hp.same

        many-4 : length witnessed.decisions.items ≡ length list
        many-4 = sym (length-map witnessed.decisions.items as_sifted) ∙ (ap length sifted-4 ∙ many-0)

        reduced : IsReducedWithin n s list witnessed.decisions.items
        reduced = record {
          sifted = rw sifted-4 hs;
          weaker = weaker-move list witnessed.decisions.items ds1 many-4 many-1 first-4 hp.weaker;
          first_pass = first-view n s [] list witnessed.decisions.items (rw second-4 hf.first_pass);
          second_pass = hw.second_pass;
          untested = hw.untested;
        }

        pub reduction-within : IsDroppedWithin n s list ds0 witnessed
        reduction-within example least =
            let view : map is_consistent witnessed.decisions.items ≡ map is_consistent ds0 = view_same as_sifted is_consistent witnessed.decisions.items ds0 consistent-pruning sifted-4 in
            let model = consistent-kept_of n s list witnessed.decisions.items ds0 hs view in
            record {
              reduced = reduced;
              witnesses = hw.witnesses;
              example = least-same n n (KeepsAll (kept_of list ds0)) (KeepsAll (those is_kept list witnessed.decisions.items)) example refl (λ w tw.
                  let same = same-traces-within n s list witnessed.decisions.items made reduced w tw in (λ all. same.1 (rw model all), λ all. rw model at (same.0 all))) least;
            }
