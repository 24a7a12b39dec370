-- The sift within a limit that goes on by one candidate.
use Rattle.std.proofs.Common.{◌≡◌, ℕ, inl, inr, ◌+◌, ◌<◌, ◌≤◌, List, [], ◌∷◌, ◌++◌, length, drop, get_or, refl, sym, ap, ◌∙◌, arith, add-one, append_assoc, drop-cons}
use Rattle.std.proofs.lemmas.List.{append-nil, drop_all, length_push}
use Rattle.dfa_core.specs.Languages.{HasNoMember}
use Rattle.template_core.specs.declared.constraint.Constraint.{Constraint}
use Rattle.list_dfa.proofs.Keeping.{anything}
use Rattle.reduce_model.proofs.Members.{least-same}
use Rattle.dfa_minimise.proofs.Widths.{over-wide, wide-over}
use Rattle.reduce_model.proofs.Sifts.{IsCarried, carried-more, carried-none, implied-joins, same-more}
use Rattle.list_dfa.proofs.Listing.{empty-narrow}
use Rattle.reduce_model.specs.Joining.{IsEmptyKept, IsTakenIn, JoinsKept}
use Rattle.list_dfa.specs.Extending.{AcceptsKept}
use Rattle.reduce_model.specs.Keeping.{KeepsAll, IsKeepable}
use Rattle.reduce_model.specs.Sifting.{Sifting, kept_of}
use Rattle.reduce_model.specs.Within.{IsSiftWithin, IsSiftedWithin, IsWideList}
use Rattle.reduce_model.specs.declared.decision.Decision.{Decision}
use Rattle.reduce_model.specs.declared.decision.Decision.TheVariants.{Kept, Conflict, Beyond}
use Rattle.reduce_model.specs.declared.kept.KeptList.{KeptList}

-- so many candidates are gone through: what is carried, and what the others make of it
pub record IsSiftingWithin (n s : ℕ) (list : List Constraint) (at : ℕ) (carried : KeptList) (ds : List Decision) : Type 0 where
  pub kept : List Constraint
  pub carried_of : IsCarried n s kept carried
  pub few : length kept ≤ at
  pub narrow : IsWideList n s kept → ⊥
  pub rest : (es : List Decision) → IsSiftedWithin n s kept (drop at list) es → IsSiftedWithin n s [] list (ds ++ es)
  pub rest_kept : (es : List Decision) → kept_of list (ds ++ es) ≡ kept ++ kept_of (drop at list) es

pub sifting-none : (n s : ℕ) (list : List Constraint) (carried : KeptList) (ds : List Decision) → 1 ≤ s → IsEmptyKept n carried → ds ≡ [] → IsSiftingWithin n s list 0 carried ds
sifting-none n s list carried ds some begins unmarked = rw unmarked (record {
  kept = [];
  carried_of = carried-none n s carried some begins;
  few = omega arith;
  narrow = empty-narrow n s some;
  rest = λ es h. h;
  rest_kept = λ es. refl;
})

module _ (n s : ℕ) (list : List Constraint) (at : ℕ) (old : KeptList) (ds : List Decision) (in_list : at < length list) (h : IsSiftingWithin n s list at old ds) where
  abbrev c : Constraint
  c = get_or list at anything

  here : drop at list ≡ c ∷ drop (at + 1) list
  here = rw add-one (drop-cons list at anything in_list)

  pushed : (d : Decision) (es : List Decision) → (ds ++ d ∷ []) ++ es ≡ ds ++ d ∷ es
  pushed d es = append_assoc ds (d ∷ []) es

  within-kept : (new : KeptList) → JoinsKept s old c new → IsSiftingWithin n s list (at + 1) new (ds ++ Kept ∷ [])
  within-kept new joins =
      let carried = carried-more n s h.kept old new c h.carried_of joins in
      let keepable : IsKeepable n (h.kept ++ c ∷ []) = record {
        by = new.example;
        over = carried.example.over;
        keeps = carried.example.member;
      } in
      let narrow : IsWideList n s (h.kept ++ c ∷ []) → ⊥ = λ wide.
      joins.extends.narrow (wide-over old.dfa.symbols n s (AcceptsKept old.dfa c) (KeepsAll (h.kept ++ c ∷ [])) h.carried_of.over (same-more n s h.kept old c h.carried_of) wide) in
      record {
        kept = h.kept ++ c ∷ [];
        carried_of = carried;
        few = let long = length_push h.kept c in let few_ = h.few in omega (arith, long, few_);
        narrow = narrow;
        rest = λ es more. rw (pushed Kept es) (h.rest (Kept ∷ es) (rw here (keepable, narrow, more)));
        rest_kept = λ es. rw (pushed Kept es) (h.rest_kept (Kept ∷ es) ∙ rw here (sym (append_assoc h.kept (c ∷ []) (kept_of (drop (at + 1) list) es))));
      }

  -- one that doesn't join
  stays-out : (d : Decision) → ((es : List Decision) → IsSiftedWithin n s h.kept (drop (at + 1) list) es → IsSiftedWithin n s h.kept (c ∷ drop (at + 1) list) (d ∷ es))
      → ((es : List Decision) → kept_of (c ∷ drop (at + 1) list) (d ∷ es) ≡ kept_of (drop (at + 1) list) es) → IsSiftingWithin n s list (at + 1) old (ds ++ d ∷ [])
  stays-out d says says_kept = record {
    kept = h.kept;
    carried_of = h.carried_of;
    few = let few_ = h.few in omega (arith, few_);
    narrow = h.narrow;
    rest = λ es more. rw (pushed d es) (h.rest (d ∷ es) (rw here (says es more)));
    rest_kept = λ es. rw (pushed d es) (h.rest_kept (d ∷ es) ∙ rw here (ap (λ (l : List Constraint). h.kept ++ l) (says_kept es)));
  }

  pub within-taken : (new : KeptList) (d : Decision) → IsTakenIn s old c new d → IsSiftingWithin n s list (at + 1) new (ds ++ d ∷ [])
  within-taken new Kept (inl implied) = within-kept new (implied-joins n s h.kept old new c h.carried_of h.narrow implied)
  within-taken new Kept (inr joins) = within-kept new joins
  within-taken new Conflict taken =
      let none : HasNoMember n (KeepsAll (h.kept ++ c ∷ [])) = λ w tw all. taken.1 w (rw h.carried_of.over tw) ((same-more n s h.kept old c h.carried_of w tw).1 all) in
      rw taken.0 (stays-out Conflict (λ es more. (none, more)) (λ es. refl))
  within-taken new Beyond taken =
      let too = taken.1 in
      let least = least-same old.dfa.symbols n (AcceptsKept old.dfa c) (KeepsAll (h.kept ++ c ∷ [])) too.by h.carried_of.over (same-more n s h.kept old c h.carried_of) too.example in
      let keepable : IsKeepable n (h.kept ++ c ∷ []) = record {
        by = too.by;
        over = least.over;
        keeps = least.member;
      } in
      let wide : IsWideList n s (h.kept ++ c ∷ []) = over-wide old.dfa.symbols n s (AcceptsKept old.dfa c) (KeepsAll (h.kept ++ c ∷ [])) h.carried_of.over (same-more n s h.kept old c h.carried_of) too.wide in
      rw taken.0 (stays-out Beyond (λ es more. (keepable, wide, more)) (λ es. refl))
  within-taken new d taken = absurd taken

pub sifting-length : (n s : ℕ) (list : List Constraint) (at : ℕ) (carried : KeptList) (ds : List Decision) → IsSiftingWithin n s list at carried ds → carried.length ≤ at
sifting-length n s list at carried ds h = let long = h.carried_of.carried_length in let few = h.few in omega (arith, long, few)

pub sifting-all : (n s : ℕ) (list : List Constraint) (at : ℕ) (carried : KeptList) (sifting : Sifting) → length list ≤ at → carried.example ≡ sifting.example → IsSiftingWithin n s list at carried sifting.decisions
    → IsSiftWithin n s list sifting
sifting-all n s list at carried sifting past same h =
    let none : drop at list ≡ [] = drop_all at list past in
    let all_ : sifting.decisions ++ [] ≡ sifting.decisions = append-nil sifting.decisions in
    let kept : kept_of list sifting.decisions ≡ h.kept = ap (kept_of list) (sym all_) ∙ (h.rest_kept [] ∙ (rw none (append-nil h.kept))) in
    record {
      sifted = rw all_ at (h.rest [] (rw none tt));
      example = rw kept (rw (← same) h.carried_of.example);
    }
