-- A sift that goes on by one candidate.
use Rattle.std.proofs.Common.{◌≡◌, ◌↔◌, ℕ, zero, suc, ◌+◌, ◌<◌, ◌≤◌, inl, inr, List, [], ◌∷◌, ◌++◌, length, take, refl, sym, ap, subst, ◌∙◌, arith, append_assoc}
use Rattle.std.proofs.lemmas.Bool.{cases_lt}
use Rattle.std.proofs.lemmas.List.{append-nil, length_push}
use Rattle.dfa_core.specs.Automaton.{Automaton, Accepts, state_count}
use Rattle.dfa_core.specs.Languages.{HasNoMember, IsLeastMember}
use Rattle.dfa_core.specs.Shortlex.{IsBefore}
use Rattle.dfa_core.specs.Traces.{IsTrace}
use Rattle.dfa_minimise.specs.Wide.{IsWide}
use Rattle.template_core.specs.declared.constraint.Constraint.{Constraint}
use Rattle.reduce_model.proofs.Members.{keeps-stable, least-same}
use Rattle.dfa_minimise.proofs.Widths.{over-wide, wide-over}
use Rattle.reduce_model.specs.Joining.{IsEmptyKept, IsTakenIn, IsTooWide, JoinsImplied, JoinsKept}
use Rattle.list_dfa.specs.Extending.{AcceptsKept}
use Rattle.reduce_model.specs.Keeping.{KeepsAll, IsKeepable}
use Rattle.reduce_model.specs.Sifting.{IsFirstWide, IsKeptAfter, IsSift, IsSifted, Sifting, kept_of}
use Rattle.reduce_model.specs.declared.decision.Decision.{Decision}
use Rattle.reduce_model.specs.declared.decision.Decision.TheVariants.{Kept, Conflict, Beyond}
use Rattle.reduce_model.specs.declared.kept.KeptList.{KeptList}
use Rattle.list_dfa.proofs.Keeping.{push-keeps, keeps-push}
use Rattle.list_dfa.proofs.Listing.{empty-narrow}

-- ---- a list with one more constraint

kept_of-append : (n : ℕ) (kept xs ys : List Constraint) (ds es : List Decision) → IsSifted n kept xs ds → kept_of (xs ++ ys) (ds ++ es) ≡ kept_of xs ds ++ kept_of ys es
kept_of-append n kept [] ys [] es h = refl
kept_of-append n kept [] ys (d ∷ ds) es h = absurd h
kept_of-append n kept (x ∷ xs) ys [] es h = absurd h
kept_of-append n kept (x ∷ xs) ys (Kept ∷ ds) es h = ap (λ (l : List Constraint). x ∷ l) (kept_of-append n (kept ++ x ∷ []) xs ys ds es h.1)
kept_of-append n kept (x ∷ xs) ys (Conflict ∷ ds) es h = kept_of-append n kept xs ys ds es h.1
kept_of-append n kept (x ∷ xs) ys (d ∷ ds) es h = absurd h

sifted-append : (n : ℕ) (kept xs ys : List Constraint) (ds es : List Decision) → IsSifted n kept xs ds → IsSifted n (kept ++ kept_of xs ds) ys es → IsSifted n kept (xs ++ ys) (ds ++ es)
sifted-append n kept [] ys [] es h g = subst (λ (l : List Constraint). IsSifted n l ys es) (append-nil kept) g
sifted-append n kept [] ys (d ∷ ds) es h g = absurd h
sifted-append n kept (x ∷ xs) ys [] es h g = absurd h
sifted-append n kept (x ∷ xs) ys (Kept ∷ ds) es h g =
    (h.0, sifted-append n (kept ++ x ∷ []) xs ys ds es h.1 (subst (λ (l : List Constraint). IsSifted n l ys es) (sym (append_assoc kept (x ∷ []) (kept_of xs ds))) g))
sifted-append n kept (x ∷ xs) ys (Conflict ∷ ds) es h g = (h.0, sifted-append n kept xs ys ds es h.1 g)
sifted-append n kept (x ∷ xs) ys (d ∷ ds) es h g = absurd h

-- a sift has one list of marks
pub sifted_unique : (n : ℕ) (kept xs : List Constraint) (ds es : List Decision) → IsSifted n kept xs ds → IsSifted n kept xs es → ds ≡ es
sifted_unique n kept [] [] [] h g = refl
sifted_unique n kept [] [] (e ∷ es) h g = absurd g
sifted_unique n kept [] (d ∷ ds) es h g = absurd h
sifted_unique n kept (x ∷ xs) [] es h g = absurd h
sifted_unique n kept (x ∷ xs) (d ∷ ds) [] h g = absurd g
sifted_unique n kept (x ∷ xs) (Kept ∷ ds) (Kept ∷ es) h g = ap (λ (l : List Decision). Kept ∷ l) (sifted_unique n (kept ++ x ∷ []) xs ds es h.1 g.1)
sifted_unique n kept (x ∷ xs) (Kept ∷ ds) (Conflict ∷ es) h g = absurd (g.0 h.0.by h.0.over h.0.keeps)
sifted_unique n kept (x ∷ xs) (Kept ∷ ds) (e ∷ es) h g = absurd g
sifted_unique n kept (x ∷ xs) (Conflict ∷ ds) (Kept ∷ es) h g = absurd (h.0 g.0.by g.0.over g.0.keeps)
sifted_unique n kept (x ∷ xs) (Conflict ∷ ds) (Conflict ∷ es) h g = ap (λ (l : List Decision). Conflict ∷ l) (sifted_unique n kept xs ds es h.1 g.1)
sifted_unique n kept (x ∷ xs) (Conflict ∷ ds) (e ∷ es) h g = absurd g
sifted_unique n kept (x ∷ xs) (d ∷ ds) (e ∷ es) h g = absurd h

-- ---- what is carried of a kept list

-- an automaton of the traces that keep the list, its length, and the least such trace
pub record IsCarried (n s : ℕ) (kept : List Constraint) (carried : KeptList) : Type 0 where
  pub over : carried.dfa.symbols ≡ n
  pub same : (w : List ℕ) → IsTrace n w → Accepts carried.dfa w ↔ KeepsAll kept w
  pub few : state_count carried.dfa ≤ s
  pub carried_length : carried.length ≡ length kept
  pub example : IsLeastMember n (KeepsAll kept) carried.example

-- with a candidate more
pub same-more : (n s : ℕ) (kept : List Constraint) (carried : KeptList) (c : Constraint) → IsCarried n s kept carried
    → (w : List ℕ) → IsTrace n w → AcceptsKept carried.dfa c w ↔ KeepsAll (kept ++ c ∷ []) w
same-more n s kept carried c h w tw = (
  λ p. push-keeps kept c w ((h.same w tw).0 p.0) p.1,
  λ all. let parts = keeps-push kept c w all in ((h.same w tw).1 parts.0, parts.1),
)

pub carried-more : (n s : ℕ) (kept : List Constraint) (old new : KeptList) (c : Constraint) → IsCarried n s kept old → JoinsKept s old c new → IsCarried n s (kept ++ c ∷ []) new
carried-more n s kept old new c h joins = record {
  over = joins.extends.over ∙ h.over;
  same = λ w tw.
      let more = same-more n s kept old c h w tw in
      let narrowed = joins.extends.same w (rw h.over tw) in (λ is. more.0 (narrowed.0 is), λ all. narrowed.1 (more.1 all));
  few = joins.extends.few;
  carried_length = joins.new_length ∙ (ap (λ (k : ℕ). k + 1) h.carried_length ∙ sym (length_push kept c));
  example = least-same old.dfa.symbols n (AcceptsKept old.dfa c) (KeepsAll (kept ++ c ∷ [])) new.example h.over (same-more n s kept old c h) joins.example;
}

-- ---- the sift of so many candidates, with no kept list so far that is wide

pub record IsSiftedSoFar (n s : ℕ) (list : List Constraint) (at : ℕ) (carried : KeptList) (decisions : List Decision) : Type 0 where
  pub sifted : IsSifted n [] (take at list) decisions
  pub carried_of : IsCarried n s (kept_of (take at list) decisions) carried
  pub narrow : (count : ℕ) (kept : List Constraint) → count ≤ at → IsKeptAfter n list count kept → IsWide n (KeepsAll kept) s → ⊥

no_before_nil : (w : List ℕ) → IsBefore w [] → ⊥
no_before_nil w (inl lt) = omega (arith, lt)
no_before_nil [] (inr p) = p.1
no_before_nil (x ∷ w) (inr p) = p.1

pub carried-none : (n s : ℕ) (carried : KeptList) → 1 ≤ s → IsEmptyKept n carried → IsCarried n s [] carried
carried-none n s carried some begins = record {
  over = begins.every.over;
  same = λ w tw. (λ is. tt, λ all. begins.every.accepts_all w tw);
  few = let one = begins.every.one_state in omega (arith, one, some);
  carried_length = begins.none;
  example = rw begins.empty (record {
    over = tt;
    member = tt;
    none_before = λ w tw is before. no_before_nil w before;
  });
}

pub so_far-none : (n s : ℕ) (list : List Constraint) (carried : KeptList) (decisions : List Decision) → 1 ≤ s → IsEmptyKept n carried → decisions ≡ [] → IsSiftedSoFar n s list 0 carried decisions
so_far-none n s list carried decisions some begins unmarked = rw unmarked (record {
  sifted = tt;
  carried_of = carried-none n s carried some begins;
  narrow = λ count kept le after wide.
      let z : count ≡ 0 = omega arith in
      let sifted : IsSifted n [] [] after.decisions = rw z at after.sifted in
      let is : kept_of [] after.decisions ≡ kept = rw z at after.is in
      empty-narrow n s some (rw is wide);
})

-- the kept list after as many candidates is the one that is known
after-known : (n : ℕ) (list : List Constraint) (count at : ℕ) (kept : List Constraint) (ds : List Decision) → count ≡ at → IsKeptAfter n list count kept → IsSifted n [] (take at list) ds → kept_of (take at list) ds ≡ kept
after-known n list count at kept ds e after sifted =
    let theirs : IsSifted n [] (take at list) after.decisions = rw e at after.sifted in
    let is : kept_of (take at list) after.decisions ≡ kept = rw e at after.is in
    ap (kept_of (take at list)) (sifted_unique n [] (take at list) ds after.decisions sifted theirs) ∙ is

so_far-kept : (n s : ℕ) (list : List Constraint) (at : ℕ) (old new : KeptList) (ds : List Decision) (c : Constraint) → take (at + 1) list ≡ take at list ++ c ∷ []
    → IsSiftedSoFar n s list at old ds → JoinsKept s old c new → IsSiftedSoFar n s list (at + 1) new (ds ++ Kept ∷ [])
so_far-kept n s list at old new ds c more h joins =
    let front = take at list in
    let kept = kept_of front ds in
    let carried = carried-more n s kept old new c h.carried_of joins in
    let grown : kept_of (front ++ c ∷ []) (ds ++ Kept ∷ []) ≡ kept ++ c ∷ [] = kept_of-append n [] front (c ∷ []) ds (Kept ∷ []) h.sifted in
    let keepable : IsKeepable n (kept ++ c ∷ []) = record {
      by = new.example;
      over = carried.example.over;
      keeps = carried.example.member;
    } in
    let sifted : IsSifted n [] (take (at + 1) list) (ds ++ Kept ∷ []) = rw more (sifted-append n [] front (c ∷ []) ds (Kept ∷ []) h.sifted (keepable, tt)) in
    let known : kept_of (take (at + 1) list) (ds ++ Kept ∷ []) ≡ kept ++ c ∷ [] = rw more grown in
    record {
      sifted = sifted;
      carried_of = rw known carried;
      narrow = λ count other le after wide. elim (cases_lt at count) [
        | inl new_ ↦
            let same : count ≡ at + 1 = omega arith in
            let is : kept ++ c ∷ [] ≡ other = sym known ∙ after-known n list count (at + 1) other (ds ++ Kept ∷ []) same after sifted in
            joins.extends.narrow (wide-over old.dfa.symbols n s (AcceptsKept old.dfa c) (KeepsAll (kept ++ c ∷ [])) h.carried_of.over (same-more n s kept old c h.carried_of) (rw is wide))
        | inr old_ ↦ h.narrow count other old_ after wide
      ];
    }

-- a candidate that the kept list implies joins it, and what is carried stays as it is
pub implied-joins : (n s : ℕ) (kept : List Constraint) (old new : KeptList) (c : Constraint) → IsCarried n s kept old → (IsWide n (KeepsAll kept) s → ⊥) → JoinsImplied old c new → JoinsKept s old c new
implied-joins n s kept old new c carried narrow joins =
    let same_dfa = joins.same_dfa in
    let every : (w : List ℕ) → IsTrace old.dfa.symbols w → Accepts old.dfa w ↔ AcceptsKept old.dfa c w = λ w tw. (λ is. (is, keeps-stable c w (λ breaks. joins.implied w tw (is, breaks))), λ both. both.0) in
    let least : IsLeastMember old.dfa.symbols (Accepts old.dfa) old.example =
    least-same n old.dfa.symbols (KeepsAll kept) (Accepts old.dfa) old.example (sym carried.over) (λ w tw. let p = carried.same w (rw carried.over at tw) in (p.1, p.0)) carried.example in
    record {
      extends = record {
        over = ap (λ (a : Automaton). a.symbols) same_dfa;
        same = λ w tw. rw same_dfa (every w tw);
        narrow = λ wide. narrow (over-wide old.dfa.symbols n s (AcceptsKept old.dfa c) (KeepsAll kept) carried.over
            (λ w tw.
            let p = carried.same w tw in
            let q = every w (rw carried.over tw) in (λ both. p.0 (q.1 both), λ all. q.0 (p.1 all))) wide);
        few = rw same_dfa carried.few;
      };
      example = rw joins.same_example (least-same old.dfa.symbols old.dfa.symbols (Accepts old.dfa) (AcceptsKept old.dfa c) old.example refl every least);
      new_length = joins.new_length;
    }

so_far-conflict : (n s : ℕ) (list : List Constraint) (at : ℕ) (old : KeptList) (ds : List Decision) (c : Constraint) → take (at + 1) list ≡ take at list ++ c ∷ []
    → at < length list → IsSiftedSoFar n s list at old ds → HasNoMember old.dfa.symbols (AcceptsKept old.dfa c) → IsSiftedSoFar n s list (at + 1) old (ds ++ Conflict ∷ [])
so_far-conflict n s list at old ds c more lt h none =
    let front = take at list in
    let kept = kept_of front ds in
    let no : HasNoMember n (KeepsAll (kept ++ c ∷ [])) = λ w tw all. none w (rw h.carried_of.over tw) ((same-more n s kept old c h.carried_of w tw).1 all) in
    let sifted : IsSifted n [] (take (at + 1) list) (ds ++ Conflict ∷ []) = rw more (sifted-append n [] front (c ∷ []) ds (Conflict ∷ []) h.sifted (no, tt)) in
    let known : kept_of (take (at + 1) list) (ds ++ Conflict ∷ []) ≡ kept = rw more (kept_of-append n [] front (c ∷ []) ds (Conflict ∷ []) h.sifted ∙ append-nil kept) in
    record {
      sifted = sifted;
      carried_of = rw known h.carried_of;
      narrow = λ count other le after wide. elim (cases_lt at count) [
        | inl new_ ↦
            let same : count ≡ at + 1 = omega arith in
            let is : kept ≡ other = sym known ∙ after-known n list count (at + 1) other (ds ++ Conflict ∷ []) same after sifted in
            h.narrow at other (omega arith) (record {
              within = omega arith;
              decisions = ds;
              sifted = h.sifted;
              is = is;
            }) wide
        | inr old_ ↦ h.narrow count other old_ after wide
      ];
    }

-- a candidate that isn't beyond
pub so_far-more : (n s : ℕ) (list : List Constraint) (at : ℕ) (old new : KeptList) (ds : List Decision) (c : Constraint) (d : Decision) → take (at + 1) list ≡ take at list ++ c ∷ [] → at < length list
    → IsSiftedSoFar n s list at old ds → IsTakenIn s old c new d → (d ≡ Beyond → ⊥) → IsSiftedSoFar n s list (at + 1) new (ds ++ d ∷ [])
so_far-more n s list at old new ds c Kept more lt h (inl implied) not_ =
    let kept = kept_of (take at list) ds in
    let narrow : IsWide n (KeepsAll kept) s → ⊥ = λ wide. h.narrow at kept (omega arith) (record {
      within = omega arith;
      decisions = ds;
      sifted = h.sifted;
      is = refl;
    }) wide in
    so_far-kept n s list at old new ds c more h (implied-joins n s kept old new c h.carried_of narrow implied)
so_far-more n s list at old new ds c Kept more lt h (inr joins) not_ = so_far-kept n s list at old new ds c more h joins
so_far-more n s list at old new ds c Conflict more lt h taken not_ = rw taken.0 (so_far-conflict n s list at old ds c more lt h taken.1)
so_far-more n s list at old new ds c Beyond more lt h taken not_ = absurd (not_ refl)
so_far-more n s list at old new ds c d more lt h taken not_ = absurd taken

pub so_far-refused : (n s : ℕ) (list : List Constraint) (at : ℕ) (old : KeptList) (ds : List Decision) (c : Constraint) → take (at + 1) list ≡ take at list ++ c ∷ []
    → at < length list → IsSiftedSoFar n s list at old ds → IsTooWide s old.dfa c → IsFirstWide n s list (old.length + 1)
so_far-refused n s list at old ds c more lt h too =
    let front = take at list in
    let kept = kept_of front ds in
    let least = least-same old.dfa.symbols n (AcceptsKept old.dfa c) (KeepsAll (kept ++ c ∷ [])) too.by h.carried_of.over (same-more n s kept old c h.carried_of) too.example in
    let keepable : IsKeepable n (kept ++ c ∷ []) = record {
      by = too.by;
      over = least.over;
      keeps = least.member;
    } in
    record {
      count = at + 1;
      kept = kept ++ c ∷ [];
      after = record {
        within = omega arith;
        decisions = ds ++ Kept ∷ [];
        sifted = rw more (sifted-append n [] front (c ∷ []) ds (Kept ∷ []) h.sifted (keepable, tt));
        is = rw more (kept_of-append n [] front (c ∷ []) ds (Kept ∷ []) h.sifted);
      };
      wide = over-wide old.dfa.symbols n s (AcceptsKept old.dfa c) (KeepsAll (kept ++ c ∷ [])) h.carried_of.over (same-more n s kept old c h.carried_of) too.wide;
      built_length = length_push kept c ∙ ap (λ (k : ℕ). k + 1) (sym h.carried_of.carried_length);
      first = λ earlier before less after wide. h.narrow earlier before (omega arith) after wide;
    }

pub so_far-all : (n s : ℕ) (list : List Constraint) (at : ℕ) (carried : KeptList) (sifting : Sifting) → take at list ≡ list → length list ≤ at → carried.example ≡ sifting.example
    → IsSiftedSoFar n s list at carried sifting.decisions → IsSift n s list sifting
so_far-all n s list at carried sifting whole past same h = record {
  sifted = rw whole at h.sifted;
  example = let least : IsLeastMember n (KeepsAll (kept_of list sifting.decisions)) carried.example = rw whole at h.carried_of.example in rw (← same) least;
  narrow = λ count kept after wide. let within = after.within in h.narrow count kept (omega (arith, within, past)) after wide;
}

length-kept_of : (list : List Constraint) (ds : List Decision) → length (kept_of list ds) ≤ length list
length-kept_of [] ds = omega arith
length-kept_of (c ∷ list) [] = omega arith
length-kept_of (c ∷ list) (Kept ∷ ds) = let ih = length-kept_of list ds in omega (arith, ih)
length-kept_of (c ∷ list) (d ∷ ds) = let ih = length-kept_of list ds in omega (arith, ih)

pub length-take_le : (count : ℕ) (list : List Constraint) → length (take count list) ≤ length list
length-take_le zero list = omega arith
length-take_le (suc count) [] = omega arith
length-take_le (suc count) (c ∷ list) = let ih = length-take_le count list in omega (arith, ih)

pub so_far-length : (n s : ℕ) (list : List Constraint) (at : ℕ) (carried : KeptList) (ds : List Decision) → IsSiftedSoFar n s list at carried ds → carried.length ≤ length list
so_far-length n s list at carried ds h =
    let long = h.carried_of.carried_length in
    let kept = length-kept_of (take at list) ds in
    let front = length-take_le at list in
    omega (arith, long, kept, front)
