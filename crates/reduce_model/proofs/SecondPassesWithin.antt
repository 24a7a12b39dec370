-- The second pass within a limit that goes on by one candidate, from the last to the first.
use Rattle.std.proofs.Common.{◌≡◌, ℕ, suc, ◌-◌, ◌<◌, List, [], ◌∷◌, ◌++◌, Bool, true, false, length, map, take, drop, get_or, set, refl, sym, ap, subst, ◌∙◌, arith, drop-cons, get_or-set_same}
use Rattle.std.proofs.lemmas.List.{drop-set-lt, length-set, map-set, take-set-le}
use Rattle.dfa_core.specs.Languages.{HasNoMember, IsLeastMember}
use Rattle.template_core.specs.declared.constraint.Constraint.{Constraint}
use Rattle.reduce_model.proofs.FirstPasses.{left_before, none-implies}
use Rattle.list_dfa.proofs.Keeping.{anything}
use Rattle.reduce_model.proofs.SecondPasses.{IsGoingBack, going-on, going-write, in_new, kept-is-left, left_old, longer, others, past-list, those_after, was}
use Rattle.reduce_model.specs.Deciding.{after, before, is_kept, is_left, marked, those}
use Rattle.reduce_model.specs.Passes.{AreClosedPast, IsTestedWithin, before_second_pass}
use Rattle.list_dfa.specs.Lists.{IsFirstPrefix, IsNarrowList}
use Rattle.reduce_model.specs.Reduction.{Breaks}
use Rattle.reduce_model.specs.Within.{IsClosed}
use Rattle.reduce_model.specs.declared.decision.Decision.{Decision}
use Rattle.reduce_model.specs.declared.decision.Decision.TheVariants.{Kept, SecondPass, Untested}

-- the candidates from a place on are gone through
pub record IsTestingBack (n s : ℕ) (list : List Constraint) (old new : List Decision) (at : ℕ) : Type 0 where
  pub going : IsGoingBack list old new at
  pub tested : IsTestedWithin n s (left_before at list new) (drop at list) (drop at new)

-- one that isn't left says nothing
not-left : (n s : ℕ) (left : List Constraint) (c : Constraint) (list : List Constraint) (d : Decision) (ds : List Decision) → is_left d ≡ false → IsTestedWithin n s left list ds → IsTestedWithin n s left (c ∷ list) (d ∷ ds)
not-left n s left c list Kept ds e h = cc
not-left n s left c list SecondPass ds e h = cc
not-left n s left c list Untested ds e h = cc
not-left n s left c list d ds e h = h

module _ {n s : ℕ} {list : List Constraint} {old new : List Decision} {p : ℕ} (in_list : p < length list) (h : IsTestingBack n s list old new (suc p)) where
  abbrev g : IsGoingBack list old new (suc p)
  g = h.going

  pub testing-on : is_kept (get_or new p Kept) ≡ false → IsTestingBack n s list old new p
  testing-on lacks =
      let inside = in_new in_list g in
      let lacks_left : is_left (get_or new p Kept) ≡ false = sym (kept-is-left (get_or new p Kept) (g.fresh p (omega arith))) ∙ lacks in
      let same_list : left_before (suc p) list new ≡ left_before p list new = past-list in_list g lacks_left in
      let rest : IsTestedWithin n s (left_before p list new) (drop (suc p) list) (drop (suc p) new) = rw same_list at h.tested in
      record {
        going = going-on in_list g;
        tested = rw (drop-cons list p anything in_list, drop-cons new p Kept inside) (not-left n s (left_before p list new) (get_or list p anything) (drop (suc p) list) (get_or new p Kept) (drop (suc p) new) lacks_left rest);
      }

  module _ (kept : is_kept (get_or new p Kept) ≡ true) where
    -- the test
    test : before is_kept p list new ++ after is_kept p list new ≡ left_before p list new ++ those is_kept (drop (suc p) list) (drop (suc p) new)
    test = others in_list g kept ∙ ap (λ (l : List Constraint). left_before p list new ++ l) (sym (those_after in_list g kept))

    rest_tested : IsTestedWithin n s (left_before p list new ++ get_or list p anything ∷ []) (drop (suc p) list) (drop (suc p) new)
    rest_tested = rw (longer in_list g kept) at h.tested

    -- a decision that is written at the place
    pub written : (d : Decision) → before_second_pass d ≡ Kept → is_left d ≡ true → IsTestedWithin n s (left_before p list new) (get_or list p anything ∷ drop (suc p) list) (d ∷ drop (suc p) new) → IsTestingBack n s list old (set new p d) p
    written d view left says =
        let inside = in_new in_list g in
        let long : p < length (set new p d) = let l = length-set new p d in omega (arith, l, inside) in
        let front : left_before p list (set new p d) ≡ left_before p list new = ap (λ (marks : List Bool). marked marks (take p list)) (ap (take p) (map-set is_left new p d) ∙ take-set-le p (map is_left new) p (is_left d) (omega arith)) in
        let tail : drop (suc p) (set new p d) ≡ drop (suc p) new = drop-set-lt (suc p) new p d (omega arith) in
        let there : get_or (set new p d) p Kept ≡ d = get_or-set_same new p d Kept inside in
        record {
          going = going-write in_list g d (view ∙ sym (was in_list g kept));
          tested = rw (front, drop-cons list p anything in_list, drop-cons (set new p d) p Kept long, there, tail) says;
        }

    pub testing-missing : HasNoMember n (Breaks (before is_kept p list new ++ after is_kept p list new) (get_or list p anything)) → IsNarrowList n s (before is_kept p list new ++ after is_kept p list new)
        → IsTestingBack n s list old (set new p SecondPass) p
    testing-missing none narrow =
        let none_ : HasNoMember n (Breaks (left_before p list new ++ those is_kept (drop (suc p) list) (drop (suc p) new)) (get_or list p anything)) = rw test at none in
        let narrow_ : IsNarrowList n s (left_before p list new ++ those is_kept (drop (suc p) list) (drop (suc p) new)) = rw test at narrow in
        written SecondPass refl refl (
          λ closed. narrow_ closed.size closed.wide,
          none-implies n (left_before p list new ++ those is_kept (drop (suc p) list) (drop (suc p) new)) (get_or list p anything) none_,
          rest_tested,
        )

    pub testing-closed : IsClosed n s (before is_kept p list new ++ after is_kept p list new) → IsTestingBack n s list old (set new p Untested) p
    testing-closed closed = let closed_ : IsClosed n s (left_before p list new ++ those is_kept (drop (suc p) list) (drop (suc p) new)) = rw test at closed in written Untested refl refl (closed_, rest_tested)

    pub testing-wide : (size : ℕ) → IsFirstPrefix n s (before is_kept p list new ++ after is_kept p list new) size → IsTestingBack n s list old (set new p Untested) p
    testing-wide size first = testing-closed (record {
      size = size;
      wide = first.wide;
    })

    pub testing-past : (wide : ℕ) → AreClosedPast n s list (map is_left old) wide → wide < p → IsTestingBack n s list old (set new p Untested) p
    testing-past wide closed lt =
        let marks : map is_left old ≡ map is_left new = left_old in_list g in
        testing-closed (rw (others in_list g kept, ← marks) (closed p (marked (drop (suc p) (map is_kept new)) (drop (suc p) list)) lt (omega arith)))

    pub testing-found : (t : List ℕ) → IsLeastMember n (Breaks (before is_kept p list new ++ after is_kept p list new) (get_or list p anything)) t → IsNarrowList n s (before is_kept p list new ++ after is_kept p list new)
        → IsTestingBack n s list old (set new p Kept) p
    testing-found t least narrow =
        let breaks : Breaks (left_before p list new ++ those is_kept (drop (suc p) list) (drop (suc p) new)) (get_or list p anything) t = rw test at least.member in
        let narrow_ : IsNarrowList n s (left_before p list new ++ those is_kept (drop (suc p) list) (drop (suc p) new)) = rw test at narrow in
        written Kept refl refl (λ closed. narrow_ closed.size closed.wide, λ implies. breaks.1 (implies t least.over breaks.0), rest_tested)

pub testing-inside : {n s : ℕ} {list : List Constraint} {old new : List Decision} {at : ℕ} → 0 < at → IsTestingBack n s list old new at → at - 1 < length list
testing-inside some h = let le = h.going.at_most in omega (arith, le, some)

pub testing-step : {n s : ℕ} {list : List Constraint} {old new : List Decision} {at : ℕ} → 0 < at → IsTestingBack n s list old new at → IsTestingBack n s list old new (suc (at - 1))
testing-step {n = n} {s = s} {list = list} {old = old} {new = new} {at = at} some h = let e : at ≡ suc (at - 1) = omega arith in subst (λ (k : ℕ). IsTestingBack n s list old new k) e h
