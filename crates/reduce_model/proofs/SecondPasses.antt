-- The second pass that goes on by one candidate, from the last to the first.
use Rattle.std.proofs.Common.{◌≡◌, ◌≢◌, ℕ, zero, suc, ◌+◌, ◌-◌, ◌<◌, ◌≤◌, inl, inr, List, [], ◌∷◌, ◌++◌, Bool, true, false, length, map, take, drop, get_or, set, refl, sym, ap, subst, ◌∙◌, arith, add-one, append_assoc, drop-cons, length-append, length-drop, reverse, get_or-set_same, get_or-set_other}
use Rattle.std.specs.List.{All, AllByRecursion}
use Rattle.std.proofs.lemmas.Bool.{cases_eq}
use Rattle.std.proofs.lemmas.List.{drop-map, drop-set-lt, get_or-map, length-map, length-set, length-take, length-take-le, map-set, reverse-append, set-get_or, take-append-drop, take-map, take-take}
use Rattle.std.proofs.lemmas.List.Elements.{All-append, All-cons, All-drop, All-head, All-nil, All-tail, All-take}
use Rattle.std.proofs.lemmas.Option.{get_or_from_slice_get, slice_get-get_or}
use Rattle.dfa_core.specs.Languages.{HasNoMember, IsLeastMember}
use Rattle.template_core.specs.Constraints.{IsWellMadeFor}
use Rattle.template_core.specs.declared.constraint.Constraint.{Constraint}
use Rattle.reduce_model.proofs.Determined.{Has, ImpliesWith, backward_second_pass, kept_same_from}
use Rattle.reduce_model.proofs.FirstPasses.{before-has, before-lacks, fresh-tested, is-kept, left_before, length-marked, none-implies}
use Rattle.reduce_model.proofs.Grows.{sought}
use Rattle.reduce_model.proofs.Lists.{all-append, phase-first, phase-narrow, tests-split}
use Rattle.reduce_model.proofs.Marks.{IsBackward}
use Rattle.list_dfa.proofs.Keeping.{anything}
use Rattle.reduce_model.proofs.Writes.{map-set_same, marked-split, take-ext, view_same}
use Rattle.reduce_model.specs.Building.{IsFirstOfWide, in_phase, tests}
use Rattle.reduce_model.specs.Deciding.{after, before, is_kept, is_left, marked, those}
use Rattle.reduce_model.specs.Passes.{AreFirstWitnesses, IsAsked, IsPrefixOf, IsSecondPassed, IsSought, IsSoughtAt, IsSoughtFrom, before_second_pass}
use Rattle.list_dfa.specs.Lists.{IsFirstPrefix, IsNarrowList}
use Rattle.reduce_model.specs.Reduction.{Breaks, TellsSecondPass}
use Rattle.reduce_model.specs.declared.decision.Decision.{Decision}
use Rattle.reduce_model.specs.declared.decision.Decision.TheVariants.{Kept, SecondPass, Untested}
use Rattle.reduce_model.specs.declared.grown.Sought.{Sought}
use Rattle.reduce_model.specs.declared.prefixes.Prefix.{Prefix}

-- ---- the tests

-- they depend on the marks alone
tests-same : (before list : List Constraint) (ds es : List Decision) → map is_left ds ≡ map is_left es → map is_kept ds ≡ map is_kept es → tests before list ds ≡ tests before list es
tests-same before [] ds es l k = refl
tests-same before (c ∷ list) [] [] l k = refl
tests-same before (c ∷ list) [] (e ∷ es) l k = cc
tests-same before (c ∷ list) (d ∷ ds) [] l k = cc
tests-same before (c ∷ list) (d ∷ ds) (e ∷ es) l k =
    let here : is_left d ≡ is_left e = cc in
    let left : map is_left ds ≡ map is_left es = cc in
    let kept : map is_kept ds ≡ map is_kept es = cc in
    let more = tests-same (before ++ c ∷ []) list ds es left kept in
    let other = tests-same before list ds es left kept in
    rw (here, kept, more, other) refl

-- the tests from a place on
tests-at : (before list : List Constraint) (ds : List Decision) (p : ℕ) → p < length list → p < length ds → is_left (get_or ds p Kept) ≡ true
    → tests before (drop p list) (drop p ds)
    ≡ tests (before ++ get_or list p anything ∷ []) (drop (suc p) list) (drop (suc p) ds) ++ (before ++ those is_kept (drop (suc p) list) (drop (suc p) ds)) ∷ []
tests-at before list ds p ll ld has = rw (drop-cons list p anything ll, drop-cons ds p Kept ld, has) refl

tests-past : (before list : List Constraint) (ds : List Decision) (p : ℕ) → p < length list → p < length ds → is_left (get_or ds p Kept) ≡ false
    → tests before (drop p list) (drop p ds) ≡ tests before (drop (suc p) list) (drop (suc p) ds)
tests-past before list ds p ll ld lacks = rw (drop-cons list p anything ll, drop-cons ds p Kept ld, lacks) refl

-- ---- what stands is of the list

pub all-marked : (P : Constraint → Type 0) (marks : List Bool) (list : List Constraint) → All P list → All P (marked marks list)
all-marked P [] list h = All-nil P
all-marked P (m ∷ marks) [] h = All-nil P
all-marked P (true ∷ marks) (c ∷ list) h = All-cons P c (marked marks list) (All-head P c list h) (all-marked P marks list (All-tail P c list h))
all-marked P (false ∷ marks) (c ∷ list) h = all-marked P marks list (All-tail P c list h)

pub asked-marked : {n s : ℕ} {list : List Constraint} → IsAsked n s list → (marks : List Bool) → IsAsked n s (marked marks list)
asked-marked {n = n} {list = list} asked marks = record {
  made = all-marked (IsWellMadeFor n) marks list asked.made;
  few = let le = length-marked marks list in let few = asked.few in omega (arith, le, few);
  some_states = asked.some_states;
  few_states = asked.few_states;
}

pub length-others : (list : List Constraint) (ds : List Decision) (place : ℕ) → length (before is_kept place list ds ++ after is_kept place list ds) ≤ length list
length-others list ds place =
    let a = length-marked (take place (map is_kept ds)) (take place list) in
    let b = length-marked (drop (suc place) (map is_kept ds)) (drop (suc place) list) in
    let t = length-take place list in
    let d = length-drop (suc place) list in
    let both = length-append (before is_kept place list ds) (after is_kept place list ds) in
    omega (arith, a, b, t, d, both)

pub all-from : (P : Constraint → Type 0) (list : List Constraint) (ds : List Decision) (from place : ℕ) → All P list
    → All P (marked (drop from (take place (map is_kept ds))) (drop from (take place list)) ++ after is_kept place list ds)
all-from P list ds from place h =
    All-append P (marked (drop from (take place (map is_kept ds))) (drop from (take place list))) (after is_kept place list ds)
    (all-marked P (drop from (take place (map is_kept ds))) (drop from (take place list)) (All-drop P from (take place list) (All-take P place list h)))
    (all-marked P (drop (suc place) (map is_kept ds)) (drop (suc place) list) (All-drop P (suc place) list h))

-- ---- the pass

-- the candidates from a place on are gone through, those before it not yet
pub record IsGoingBack (list : List Constraint) (old new : List Decision) (at : ℕ) : Type 0 where
  pub as_many : length new ≡ length list
  pub at_most : at ≤ length list
  pub same : map before_second_pass new ≡ old
  pub fresh : (place : ℕ) → place < at → get_or new place Kept ≡ before_second_pass (get_or new place Kept)

-- and no test was wide
pub record IsPassingBack (n s : ℕ) (list : List Constraint) (old new : List Decision) (at : ℕ) : Type 0 where
  pub going : IsGoingBack list old new at
  pub backward : IsBackward (ImpliesWith n list (map is_left new)) (Has is_left new) list (map is_kept new) at
  pub tested : (place : ℕ) → get_or new place Kept ≡ Untested → ⊥
  pub narrow : AllByRecursion (IsNarrowList n s) (tests (left_before at list new) (drop at list) (drop at new))

-- the witnesses that are found: those of the first that stay, before which the pass drops none
pub record AreFound (n s : ℕ) (list : List Constraint) (new : List Decision) (at : ℕ) (ws : List (List ℕ)) : Type 0 where
  pub witnesses : AreFirstWitnesses n s (left_before at list new) (those is_kept (drop at list) (drop at new)) ws
  pub first : take (length ws) (those is_left (drop at list) (drop at new)) ≡ take (length ws) (those is_kept (drop at list) (drop at new))

-- a view that has no untested one leaves none
pub fixed-tested : (f : Decision → Decision) → f Untested ≡ Kept → (ds : List Decision) → map f ds ≡ ds → (place : ℕ) → get_or ds place Kept ≡ Untested → ⊥
fixed-tested f k [] e place u = cc
fixed-tested f k (d ∷ ds) e zero u = let here : f d ≡ d = cc in let no_ : Kept ≡ Untested = sym k ∙ (ap f (sym u) ∙ (here ∙ u)) in cc
fixed-tested f k (d ∷ ds) e (suc place) u = let rest : map f ds ≡ ds = cc in fixed-tested f k ds rest place u

left-passes : (d : Decision) → is_left (before_second_pass d) ≡ is_left d
left-passes Kept = refl
left-passes d = refl

pub kept-is-left : (d : Decision) → d ≡ before_second_pass d → is_kept d ≡ is_left d
kept-is-left SecondPass e = cc
kept-is-left d e = refl

whole-tests : (all_ split_ from_ from_before joined earlier : List (List Constraint)) (one : List Constraint) → split_ ≡ all_ → split_ ≡ from_ ++ earlier → from_ ≡ from_before → from_before ≡ joined ++ one ∷ []
    → all_ ≡ joined ++ one ∷ earlier
whole-tests all_ split_ from_ from_before joined earlier one a b c d =
    sym a ∙ (b ∙ (ap (λ (l : List (List Constraint)). l ++ earlier) (c ∙ d) ∙ append_assoc joined (one ∷ []) earlier))

module _ {list : List Constraint} {old new : List Decision} {p : ℕ} (in_list : p < length list) (g : IsGoingBack list old new (suc p)) where
  pub in_new : p < length new
  in_new = let many = g.as_many in omega (arith, many, in_list)

  mark-of : (test : Decision → Bool) → get_or (map test new) p false ≡ test (get_or new p Kept)
  mark-of test = get_or-map test new p Kept false in_new

  in_marks : (test : Decision → Bool) → p < length (map test new)
  in_marks test = let many = g.as_many in let long = length-map new test in omega (arith, many, long, in_list)

  pub going-on : IsGoingBack list old new p
  going-on = record {
    as_many = g.as_many;
    at_most = omega arith;
    same = g.same;
    fresh = λ place lt. g.fresh place (omega arith);
  }

  -- a decision that the pass writes at the place
  pub going-write : (d : Decision) → before_second_pass d ≡ get_or old p Kept → IsGoingBack list old (set new p d) p
  going-write d e = record {
    as_many = length-set new p d ∙ g.as_many;
    at_most = omega arith;
    same = map-set_same before_second_pass new p d (e ∙ (ap (λ (l : List Decision). get_or l p Kept) (sym g.same) ∙ get_or-map before_second_pass new p Kept Kept in_new)) ∙ g.same;
    fresh = λ place lt.
        let ne : place ≢ p = omega arith in
        let same_ : get_or (set new p d) place Kept ≡ get_or new place Kept = get_or-set_other new p place d Kept ne in
        rw same_ (g.fresh place (omega arith));
  }

  pub past-list : is_left (get_or new p Kept) ≡ false → left_before (suc p) list new ≡ left_before p list new
  past-list lacks_left = rw (← add-one) (before-lacks list (map is_left new) p (in_marks is_left) in_list (mark-of is_left ∙ lacks_left))

  -- of those before the place the ones that are left still stand
  pub standing : take p (map is_kept new) ≡ take p (map is_left new)
  standing =
      let lk = in_marks is_kept in
      let ll = in_marks is_left in
      take-ext (map is_kept new) (map is_left new) p (omega (arith, lk)) (omega (arith, ll)) (λ k lt.
      let inside : k < length new = let w = in_new in omega (arith, w, lt) in
      get_or-map is_kept new k Kept false inside ∙ (kept-is-left (get_or new k Kept) (g.fresh k (omega arith)) ∙ sym (get_or-map is_left new k Kept false inside)))

  pub left_old : map is_left old ≡ map is_left new
  left_old = sym (view_same before_second_pass is_left new old left-passes g.same)

  module _ (kept : is_kept (get_or new p Kept) ≡ true) where
    pub is : get_or new p Kept ≡ Kept
    is = is-kept (get_or new p Kept) (fresh-tested before_second_pass refl (get_or new p Kept) (g.fresh p (omega arith))) kept

    pub was : get_or old p Kept ≡ Kept
    was = ap (λ (l : List Decision). get_or l p Kept) (sym g.same) ∙ (get_or-map before_second_pass new p Kept Kept in_new ∙ ap before_second_pass is)

    pub has_left : is_left (get_or new p Kept) ≡ true
    has_left = ap is_left is

    pub longer : left_before (suc p) list new ≡ left_before p list new ++ get_or list p anything ∷ []
    longer = rw (← add-one) (before-has list (map is_left new) p (in_marks is_left) in_list (mark-of is_left ∙ has_left))

    -- that it stays is what it said
    pub kept-again : set new p Kept ≡ new
    kept-again = ap (set new p) (sym is) ∙ set-get_or new p Kept

    -- the others that still stand
    pub others : before is_kept p list new ++ after is_kept p list new ≡ left_before p list new ++ marked (drop (suc p) (map is_kept new)) (drop (suc p) list)
    others = ap (λ (l : List Bool). marked l (take p list) ++ marked (drop (suc p) (map is_kept new)) (drop (suc p) list)) standing

    pub those_after : those is_kept (drop (suc p) list) (drop (suc p) new) ≡ marked (drop (suc p) (map is_kept new)) (drop (suc p) list)
    those_after = ap (λ (l : List Bool). marked l (drop (suc p) list)) (sym (drop-map is_kept (suc p) new))

    -- one that they imply is marked
    marks_after : map is_kept (set new p SecondPass) ≡ set (map is_kept new) p false
    marks_after = map-set is_kept new p SecondPass

    left_after : map is_left (set new p SecondPass) ≡ map is_left new
    left_after = map-set_same is_left new p SecondPass (sym has_left)

    back_after : (place : ℕ) → p < place → drop place (map is_kept (set new p SecondPass)) ≡ drop place (map is_kept new)
    back_after place lt = ap (drop place) marks_after ∙ drop-set-lt place (map is_kept new) p false lt

    lacks_after : get_or (map is_kept (set new p SecondPass)) p false ≡ false
    lacks_after = ap (λ (l : List Bool). get_or l p false) marks_after ∙ get_or-set_same (map is_kept new) p false false (in_marks is_kept)

module _ {n s : ℕ} {list : List Constraint} {old new : List Decision} {p : ℕ} (in_list : p < length list) (g : IsGoingBack list old new (suc p)) where
  -- one that doesn't stand is left alone
  pub back-on : IsPassingBack n s list old new (suc p) → is_kept (get_or new p Kept) ≡ false → IsPassingBack n s list old new p
  back-on h lacks =
      let lacks_left : is_left (get_or new p Kept) ≡ false = sym (kept-is-left (get_or new p Kept) (g.fresh p (omega arith))) ∙ lacks in
      let same_list = past-list in_list g lacks_left in
      record {
        going = going-on in_list g;
        backward = λ place le lt q. elim (cases_eq place p) [
          | inl e ↦ let has : get_or (map is_left new) p false ≡ true = rw e at q in let no_ = mark-of in_list g is_left ∙ lacks_left in absurd (cc (has, no_))
          | inr ne ↦ h.backward place (omega arith) lt q
        ];
        tested = h.tested;
        narrow = rw (tests-past (left_before p list new) list new p in_list (in_new in_list g) lacks_left) (rw same_list at h.narrow);
      }

  pub found-on : (ws : List (List ℕ)) → is_kept (get_or new p Kept) ≡ false → AreFound n s list new (suc p) ws → AreFound n s list new p ws
  found-on ws lacks found =
      let lacks_left : is_left (get_or new p Kept) ≡ false = sym (kept-is-left (get_or new p Kept) (g.fresh p (omega arith))) ∙ lacks in
      let same_list = past-list in_list g lacks_left in
      let tail : those is_kept (drop p list) (drop p new) ≡ those is_kept (drop (suc p) list) (drop (suc p) new) = rw (drop-cons list p anything in_list, drop-cons new p Kept (in_new in_list g), lacks) refl in
      let tail_left : those is_left (drop p list) (drop p new) ≡ those is_left (drop (suc p) list) (drop (suc p) new) = rw (drop-cons list p anything in_list, drop-cons new p Kept (in_new in_list g), lacks_left) refl in
      record {
        witnesses = rw tail (rw same_list at found.witnesses);
        first = rw (tail, tail_left) found.first;
      }

  module _ (kept : is_kept (get_or new p Kept) ≡ true) where
    -- ---- the witnesses that are found

    pub found-more : (ws : List (List ℕ)) (t : List ℕ) → IsLeastMember n (Breaks (before is_kept p list new ++ after is_kept p list new) (get_or list p anything)) t
        → IsNarrowList n s (before is_kept p list new ++ after is_kept p list new) → AreFound n s list new (suc p) (reverse ws) → AreFound n s list new p (reverse (ws ++ t ∷ []))
    found-more ws t least narrow found =
        let tail : List Constraint = those is_kept (drop (suc p) list) (drop (suc p) new) in
        let tested : before is_kept p list new ++ after is_kept p list new ≡ left_before p list new ++ tail = others in_list g kept ∙ ap (λ (l : List Constraint). left_before p list new ++ l) (sym (those_after in_list g kept)) in
        let here : those is_kept (drop p list) (drop p new) ≡ get_or list p anything ∷ tail = rw (drop-cons list p anything in_list, drop-cons new p Kept (in_new in_list g), kept) refl in
        let here_left : those is_left (drop p list) (drop p new) ≡ get_or list p anything ∷ those is_left (drop (suc p) list) (drop (suc p) new) = rw (drop-cons list p anything in_list, drop-cons new p Kept (in_new in_list g), has_left in_list g kept) refl in
        let more : AreFirstWitnesses n s (left_before p list new ++ get_or list p anything ∷ []) tail (reverse ws) = rw (longer in_list g kept) at found.witnesses in
        let least_ : IsLeastMember n (Breaks (left_before p list new ++ tail) (get_or list p anything)) t = rw tested at least in
        let narrow_ : IsNarrowList n s (left_before p list new ++ tail) = rw tested at narrow in
        rw (reverse-append ws (t ∷ [])) (record {
          witnesses = rw here ((least_, narrow_), more);
          first = rw (here, here_left) (ap (λ (l : List Constraint). get_or list p anything ∷ l) found.first);
        })

    -- one that the others don't imply stays
    pub back-found : IsPassingBack n s list old new (suc p) → (t : List ℕ) → IsLeastMember n (Breaks (before is_kept p list new ++ after is_kept p list new) (get_or list p anything)) t
        → IsNarrowList n s (before is_kept p list new ++ after is_kept p list new) → IsPassingBack n s list old new p
    back-found h t least narrow =
        let list_narrow : IsNarrowList n s (left_before p list new ++ those is_kept (drop (suc p) list) (drop (suc p) new)) = rw (those_after in_list g kept) (rw (others in_list g kept) at narrow) in
        let old_narrow : AllByRecursion (IsNarrowList n s) (tests (left_before p list new ++ get_or list p anything ∷ []) (drop (suc p) list) (drop (suc p) new)) = rw (longer in_list g kept) at h.narrow in
        record {
          going = going-on in_list g;
          backward = λ place le lt q. elim (cases_eq place p) [
            | inl e ↦
                let has : get_or (map is_kept new) p false ≡ true = mark-of in_list g is_kept ∙ kept in
                let breaks : Breaks (left_before p list new ++ marked (drop (suc p) (map is_kept new)) (drop (suc p) list)) (get_or list p anything) t = rw (others in_list g kept) at least.member in
                rw e (λ lacks. absurd (cc (has, lacks)), λ implies. absurd (breaks.1 (implies t least.over breaks.0)))
            | inr ne ↦ h.backward place (omega arith) lt q
          ];
          tested = h.tested;
          narrow = rw (tests-at (left_before p list new) list new p in_list (in_new in_list g) (has_left in_list g kept))
              (all-append n s (tests (left_before p list new ++ get_or list p anything ∷ []) (drop (suc p) list) (drop (suc p) new)) ((left_before p list new ++ those is_kept (drop (suc p) list) (drop (suc p) new)) ∷ []) old_narrow (list_narrow, tt));
        }

    pub back-missing : IsPassingBack n s list old new (suc p) → HasNoMember n (Breaks (before is_kept p list new ++ after is_kept p list new) (get_or list p anything))
        → IsNarrowList n s (before is_kept p list new ++ after is_kept p list new) → IsPassingBack n s list old (set new p SecondPass) p
    back-missing h none narrow =
        let long = length-set new p SecondPass in
        let in_after : p < length (set new p SecondPass) = let w = in_new in_list g in omega (arith, long, w) in
        let written : get_or (set new p SecondPass) p Kept ≡ SecondPass = get_or-set_same new p SecondPass Kept (in_new in_list g) in
        let left_written : is_left (get_or (set new p SecondPass) p Kept) ≡ true = ap is_left written in
        let tail : drop (suc p) (set new p SecondPass) ≡ drop (suc p) new = drop-set-lt (suc p) new p SecondPass (omega arith) in
        let list_narrow : IsNarrowList n s (left_before p list new ++ those is_kept (drop (suc p) list) (drop (suc p) new)) = rw (those_after in_list g kept) (rw (others in_list g kept) at narrow) in
        let old_narrow : AllByRecursion (IsNarrowList n s) (tests (left_before p list new ++ get_or list p anything ∷ []) (drop (suc p) list) (drop (suc p) new)) = rw (longer in_list g kept) at h.narrow in
        let all_narrow = all-append n s (tests (left_before p list new ++ get_or list p anything ∷ []) (drop (suc p) list) (drop (suc p) new)) ((left_before p list new ++ those is_kept (drop (suc p) list) (drop (suc p) new)) ∷ []) old_narrow (list_narrow, tt) in
        record {
          going = going-write in_list g SecondPass (sym (was in_list g kept));
          backward = λ place le lt q. elim (cases_eq place p) [
            | inl e ↦
                let no_ : HasNoMember n (Breaks (left_before p list new ++ marked (drop (suc p) (map is_kept new)) (drop (suc p) list)) (get_or list p anything)) = rw (others in_list g kept) at none in
                let implies = none-implies n (left_before p list new ++ marked (drop (suc p) (map is_kept new)) (drop (suc p) list)) (get_or list p anything) no_ in
                rw (e, left_after in_list g kept, back_after in_list g kept (suc p) (omega arith)) (λ lacks. implies, λ i. (lacks_after in_list g kept))
            | inr ne ↦
                let past : suc p ≤ place = omega arith in
                let mark : get_or (map is_kept (set new p SecondPass)) place false ≡ get_or (map is_kept new) place false =
                ap (λ (l : List Bool). get_or l place false) (marks_after in_list g kept) ∙ get_or-set_other (map is_kept new) p place false false ne in
                let has : get_or (map is_left new) place false ≡ true = rw (left_after in_list g kept) at q in
                rw (mark, left_after in_list g kept, back_after in_list g kept (suc place) (omega arith)) (h.backward place past lt has)
          ];
          tested = λ place u. elim (cases_eq place p) [
            | inl e ↦ let there : get_or (set new p SecondPass) p Kept ≡ Untested = rw e at u in absurd (cc (there, written))
            | inr ne ↦ h.tested place (sym (get_or-set_other new p place SecondPass Kept ne) ∙ u)
          ];
          narrow = rw (left_after in_list g kept, tests-at (left_before p list new) list (set new p SecondPass) p in_list in_after left_written, tail) all_narrow;
        }

    -- one whose test is wide ends the pass
    pub back-refused : IsPassingBack n s list old new (suc p) → (size : ℕ) → IsFirstPrefix n s (before is_kept p list new ++ after is_kept p list new) size
        → (es : List Decision) → length es ≡ length list → map is_left es ≡ map is_left old → TellsSecondPass n list es → IsFirstOfWide n s (in_phase 3 (tests [] list es)) 3 size
    back-refused h size first es many left told =
        let left_new : map is_left new ≡ map is_left es = view_same before_second_pass is_left new old left-passes g.same ∙ sym left in
        let gap_ : (k : ℕ) × (suc p + k ≡ length list) = (length list - suc p, omega arith) in
        let kept_back = kept_same_from n list new es gap_.0 (suc p) gap_.1 g.as_many many left_new h.backward told in
        let in_es : p < length es = omega (arith, many, in_list) in
        let has_es : is_left (get_or es p Kept) ≡ true =
        sym (get_or-map is_left es p Kept false in_es) ∙ (ap (λ (l : List Bool). get_or l p false) (sym left_new) ∙ (mark-of in_list g is_left ∙ has_left in_list g kept)) in
        let left_tail : map is_left (drop (suc p) new) ≡ map is_left (drop (suc p) es) = sym (drop-map is_left (suc p) new) ∙ (ap (drop (suc p)) left_new ∙ drop-map is_left (suc p) es) in
        let kept_tail : map is_kept (drop (suc p) new) ≡ map is_kept (drop (suc p) es) = sym (drop-map is_kept (suc p) new) ∙ (kept_back ∙ drop-map is_kept (suc p) es) in
        let same_tests = tests-same (left_before p list new ++ get_or list p anything ∷ []) (drop (suc p) list) (drop (suc p) new) (drop (suc p) es) left_tail kept_tail in
        let done : AllByRecursion (IsNarrowList n s) (tests (left_before p list new ++ get_or list p anything ∷ []) (drop (suc p) list) (drop (suc p) es)) = rw same_tests at (rw (longer in_list g kept) at h.narrow) in
        let front_es : those is_left (take p list) (take p es) ≡ left_before p list new =
        ap (λ (l : List Bool). marked l (take p list)) (sym (take-map is_left p es) ∙ ap (take p) (sym left_new)) in
        let tested : before is_kept p list new ++ after is_kept p list new ≡ left_before p list new ++ those is_kept (drop (suc p) list) (drop (suc p) es) =
        others in_list g kept ∙ (ap (λ (l : List Constraint). left_before p list new ++ l) (sym (those_after in_list g kept)) ∙ ap (λ (l : List Bool). left_before p list new ++ marked l (drop (suc p) list)) kept_tail) in
        let first_es : IsFirstPrefix n s (left_before p list new ++ those is_kept (drop (suc p) list) (drop (suc p) es)) size = rw tested at first in
        let long_take : length (take p list) ≡ length (take p es) = omega (arith, length-take-le p list (omega arith), length-take-le p es (omega arith)) in
        let split = tests-split [] (take p list) (drop p list) (take p es) (drop p es) long_take in
        let joined : List (List Constraint) = tests (left_before p list new ++ get_or list p anything ∷ []) (drop (suc p) list) (drop (suc p) es) in
        let one : List Constraint = left_before p list new ++ those is_kept (drop (suc p) list) (drop (suc p) es) in
        let at_list : tests [] (take p list ++ drop p list) (take p es ++ drop p es) ≡ tests [] list es = rw (take-append-drop p list, take-append-drop p es) refl in
        let at_front : tests (those is_left (take p list) (take p es)) (drop p list) (drop p es) ≡ tests (left_before p list new) (drop p list) (drop p es) = ap (λ (l : List Constraint). tests l (drop p list) (drop p es)) front_es in
        let whole : tests [] list es ≡ joined ++ one ∷ split.0 = whole-tests (tests [] list es) (tests [] (take p list ++ drop p list) (take p es ++ drop p es)) (tests (those is_left (take p list) (take p es)) (drop p list) (drop p es))
        (tests (left_before p list new) (drop p list) (drop p es)) joined split.0 one at_list split.1 at_front (tests-at (left_before p list new) list es p in_list in_es has_es) in
        rw whole
        (phase-first n s 3 (tests (left_before p list new ++ get_or list p anything ∷ []) (drop (suc p) list) (drop (suc p) es)) (left_before p list new ++ those is_kept (drop (suc p) list) (drop (suc p) es)) split.0 size done first_es)

-- ---- the test at a place

module _ (n s : ℕ) (list : List Constraint) (ds : List Decision) (p : ℕ) (same : take p (map is_kept ds) ≡ take p (map is_left ds)) where
  -- the others behind a place, and those before it that are left
  split-others : (q : ℕ) → q ≤ p → before is_kept p list ds ++ after is_kept p list ds
      ≡ marked (take q (map is_left ds)) (take q list) ++ (marked (drop q (take p (map is_kept ds))) (drop q (take p list)) ++ after is_kept p list ds)
  split-others q le =
      let behind : List Constraint = marked (drop q (take p (map is_kept ds))) (drop q (take p list)) in
      let first : marked (take q (take p (map is_kept ds))) (take q (take p list)) ≡ marked (take q (map is_left ds)) (take q list) =
      ap (λ (l : List Bool). marked (take q l) (take q (take p list))) same
      ∙ (ap (λ (l : List Bool). marked l (take q (take p list))) (take-take q p (map is_left ds) le) ∙ ap (marked (take q (map is_left ds))) (take-take q p list le)) in
      ap (λ (l : List Constraint). l ++ after is_kept p list ds) (marked-split (take p (map is_kept ds)) (take p list) q ∙ ap (λ (l : List Constraint). l ++ behind) first)
      ∙ append_assoc (marked (take q (map is_left ds)) (take q list)) behind (after is_kept p list ds)

  -- a test that begins with what is left before an earlier place
  module _ (prefix : Prefix) (le : prefix.place ≤ p) (prefix_of : IsPrefixOf n s list (map is_left ds) prefix) where
    abbrev pub rest : List Constraint
    rest = marked (drop prefix.place (take p (map is_kept ds))) (drop prefix.place (take p list)) ++ after is_kept p list ds

    pub test-sought : (c : Constraint) (r : Sought) → IsSoughtFrom s prefix.dfa prefix.length rest c r → IsSought n s (before is_kept p list ds ++ after is_kept p list ds) c r
    test-sought c r found =
        sought n s (marked (take prefix.place (map is_left ds)) (take prefix.place list)) rest (before is_kept p list ds ++ after is_kept p list ds) prefix.dfa (split-others prefix.place le) prefix_of.automaton prefix_of.narrow
        prefix.length prefix_of.counted c r found

    pub test-length : prefix.length + length rest ≤ length list
    test-length =
        let counted = prefix_of.counted in
        let whole = ap length (split-others prefix.place le) in
        let both = length-append (marked (take prefix.place (map is_left ds)) (take prefix.place list)) rest in
        let few = length-others list ds p in
        omega (arith, counted, whole, both, few)

-- what is told of the candidate at the place
pub told-at : {n s : ℕ} {list others : List Constraint} {place : ℕ} {r : Sought} → place < length list → IsSoughtAt n s list place others r → IsSought n s others (get_or list place anything) r
told-at {list = list} {place = place} lt told = told.tells (get_or list place anything) (slice_get-get_or list place anything lt)

pub at-told : {n s : ℕ} {list others : List Constraint} {place : ℕ} {r : Sought} → IsSought n s others (get_or list place anything) r → IsSoughtAt n s list place others r
at-told {n = n} {s = s} {list = list} {others = others} {place = place} {r = r} told = record {
  tells = λ c is. subst (λ (x : Constraint). IsSought n s others x r) (get_or_from_slice_get list place c anything is) told;
}

-- ---- the end

pub back-all : (n s : ℕ) (list : List Constraint) (old new : List Decision) → IsPassingBack n s list old new 0 → IsSecondPassed n s list old new
back-all n s list old new h = record {
  same = h.going.same;
  second_pass = backward_second_pass n list new h.going.as_many h.backward;
  tested = h.tested;
  narrow = phase-narrow n s 3 (tests [] list new) h.narrow;
}

-- ---- the places of the loop, which goes down

pub back-step : {n s : ℕ} {list : List Constraint} {old new : List Decision} {at : ℕ} → 0 < at → IsPassingBack n s list old new at → IsPassingBack n s list old new (suc (at - 1))
back-step {n = n} {s = s} {list = list} {old = old} {new = new} {at = at} some h = let e : at ≡ suc (at - 1) = omega arith in subst (λ (k : ℕ). IsPassingBack n s list old new k) e h

pub back-within : {n s : ℕ} {list : List Constraint} {old new : List Decision} {at : ℕ} → 0 < at → IsPassingBack n s list old new at → at - 1 < length list
back-within some h = let le = h.going.at_most in omega (arith, le, some)

pub found-step : {n s : ℕ} {list : List Constraint} {new : List Decision} {at : ℕ} {ws : List (List ℕ)} → 0 < at → AreFound n s list new at ws → AreFound n s list new (suc (at - 1)) ws
found-step {n = n} {s = s} {list = list} {new = new} {at = at} {ws = ws} some found = let e : at ≡ suc (at - 1) = omega arith in subst (λ (k : ℕ). AreFound n s list new k ws) e found

pub back-end : {n s : ℕ} {list : List Constraint} {old new : List Decision} {at : ℕ} → at ≤ 0 → IsPassingBack n s list old new at → IsSecondPassed n s list old new
back-end {n = n} {s = s} {list = list} {old = old} {new = new} {at = at} none h = let e : at ≡ 0 = omega arith in back-all n s list old new (subst (λ (k : ℕ). IsPassingBack n s list old new k) e h)
