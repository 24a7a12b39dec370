-- What is untested has a test that is wide, or a prefix of one.
use Rattle.std.proofs.Common.{◌≡◌, ◌⊎◌, ℕ, zero, suc, inl, inr, List, [], ◌∷◌, ◌++◌, Bool, true, false, cond, map, take, refl, sym, subst, append_assoc, append-nil}
use Rattle.template_core.specs.declared.constraint.Constraint.{Constraint}
use Rattle.reduce_model.specs.Deciding.{IsAt, after, before, is_kept, is_left, marked, those}
use Rattle.reduce_model.specs.Within.{IsClosed, TellsUntested}
use Rattle.reduce_model.specs.declared.decision.Decision.{Decision}
use Rattle.reduce_model.specs.declared.decision.Decision.TheVariants.{Kept, Conflict, Weaker, FirstPass, SecondPass, Beyond, Untested}

-- a list gone by, with one constraint more where it has the mark
abbrev joins : Bool → List Constraint → Constraint → List Constraint
joins has list c = cond has (list ++ c ∷ []) list

-- behind a list gone by
joined-before : (has : Bool) (gone : List Constraint) (c : Constraint) (marks : List Bool) (list : List Constraint) → joins has gone c ++ marked marks list ≡ gone ++ marked (has ∷ marks) (c ∷ list)
joined-before true gone c marks list = append_assoc gone (c ∷ []) (marked marks list)
joined-before false gone c marks list = refl

at-rest : (x : Constraint) (list : List Constraint) (e : Decision) (ds : List Decision) (place : ℕ) (c : Constraint) (d : Decision) → IsAt (x ∷ list) (e ∷ ds) (suc place) c d → IsAt list ds place c d
at-rest x list e ds place c d at = record { constraint = at.constraint; decision = at.decision }

module _ (n s : ℕ) where
  abbrev Tells : List Constraint → List Constraint → List Constraint → List Decision → Type 0
  Tells left kept list ds = TellsUntested n s left kept list ds

  tells-rest : (left kept : List Constraint) (c : Constraint) (list : List Constraint) (d : Decision) (ds : List Decision) → Tells left kept (c ∷ list) (d ∷ ds)
      → Tells (joins (is_left d) left c) (joins (is_kept d) kept c) list ds
  tells-rest left kept c list Kept ds h = h.2
  tells-rest left kept c list Conflict ds h = h
  tells-rest left kept c list (Weaker by) ds h = h
  tells-rest left kept c list FirstPass ds h = h
  tells-rest left kept c list SecondPass ds h = h
  tells-rest left kept c list Beyond ds h = h
  tells-rest left kept c list Untested ds h = h.1

  pub untested-at : (left kept list : List Constraint) (ds : List Decision) → TellsUntested n s left kept list ds → (place : ℕ) (c : Constraint) → IsAt list ds place c Untested
      → IsClosed n s ((left ++ before is_left place list ds) ++ after is_kept place list ds) ⊎ IsClosed n s ((kept ++ before is_kept place list ds) ++ after is_kept place list ds)
  untested-at left kept [] ds h place c at = absurd (let e = at.constraint in cc)
  untested-at left kept (x ∷ list) [] h place c at = absurd (let e = at.decision in cc)
  untested-at left kept (x ∷ list) (d ∷ ds) h zero c at =
      let is : d ≡ Untested = (let e = at.decision in cc) in
      elim (subst (λ d. Tells left kept (x ∷ list) (d ∷ ds)) is h).0 [
        | inl closed ↦ inl (subst (λ l. IsClosed n s (l ++ those is_kept list ds)) (sym (append-nil left)) closed)
        | inr closed ↦ inr (subst (λ l. IsClosed n s (l ++ those is_kept list ds)) (sym (append-nil kept)) closed)
      ]
  untested-at left kept (x ∷ list) (d ∷ ds) h (suc place) c at =
      elim (untested-at (joins (is_left d) left x) (joins (is_kept d) kept x) list ds (tells-rest left kept x list d ds h) place c (at-rest x list d ds place c Untested at)) [
        | inl closed ↦ inl (subst (λ l. IsClosed n s (l ++ after is_kept place list ds)) (joined-before (is_left d) left x (take place (map is_left ds)) (take place list)) closed)
        | inr closed ↦ inr (subst (λ l. IsClosed n s (l ++ after is_kept place list ds)) (joined-before (is_kept d) kept x (take place (map is_kept ds)) (take place list)) closed)
      ]
