-- Witnesses within a limit, one candidate after the other.
use Rattle.std.proofs.Common.{◌≡◌, ◌⊎◌, ℕ, ◌+◌, ◌<◌, ◌≤◌, inl, inr, List, [], ◌∷◌, ◌++◌, Bool, true, false, Option, None, Some, length, map, take, drop, get_or, refl, sym, ap, ◌∙◌, arith, add-one, append_assoc, drop-cons, length-drop}
use Rattle.std.proofs.lemmas.Bool.{cases_lt}
use Rattle.std.proofs.lemmas.List.{append-nil, drop_all, length_push, map-append, take-append-le, take_all, take_more}
use Rattle.dfa_core.specs.Languages.{HasNoMember, IsLeastMember}
use Rattle.template_core.specs.declared.constraint.Constraint.{Constraint}
use Rattle.reduce_model.proofs.FirstPasses.{length-marked, none-implies}
use Rattle.list_dfa.proofs.Listing.{every-automaton, take-nil, empty-narrow}
use Rattle.reduce_model.proofs.Grows.{breaks-same, sought}
use Rattle.list_dfa.proofs.Keeping.{anything, keeps-append, keeps-push, push-keeps}
use Rattle.reduce_model.proofs.Witnessing.{start-push, start-wide}
use Rattle.reduce_model.specs.Deciding.{is_kept, is_left, marked, those}
use Rattle.reduce_model.specs.Keeping.{KeepsAll}
use Rattle.reduce_model.specs.Passes.{IsBreakable, IsEmptyPrefix, IsFoundOf, IsNext, IsSmall, IsStartOf, IsTestedWithin, IsWitnessedWithin, before_second_pass, length_of}
use Rattle.reduce_model.specs.Reduction.{Breaks, Implies}
use Rattle.reduce_model.specs.Within.{AreWitnessesWithin, IsClosed, IsSecondPassedWithin, TellsUntested}
use Rattle.reduce_model.specs.declared.decision.Decision.{Decision}
use Rattle.reduce_model.specs.declared.decision.Decision.TheVariants.{Kept, SecondPass, Untested}
use Rattle.reduce_model.specs.declared.grown.Sought.TheVariants.{Found, TooWide}
use Rattle.reduce_model.specs.declared.prefixes.Prefix.{Prefix}
use Rattle.reduce_model.specs.declared.witnesses_within.Witnessed.{Witnessed}

-- a longer list is closed too
pub closed-append : (n s : ℕ) (xs ys : List Constraint) → IsClosed n s xs → IsClosed n s (xs ++ ys)
closed-append n s xs ys h = elim (cases_lt (length xs) h.size) [
  | inl past ↦
      let all_ : take h.size xs ≡ xs = take_all h.size xs (omega arith) in
      let same : take (length xs) (xs ++ ys) ≡ xs = take-append-le (length xs) xs ys (omega arith) ∙ take_all (length xs) xs (omega arith) in
      record {
        size = length xs;
        wide = rw same (rw all_ at h.wide);
      }
  | inr le ↦ record {
    size = h.size;
    wide = rw (take-append-le h.size xs ys le) h.wide;
  }
]

-- ---- what is found

module _ (n s : ℕ) (kept rest : List Constraint) (c : Constraint) where
  pub found-least : (before : Option Prefix) (t : List ℕ) → IsStartOf n s kept before → IsFoundOf s before rest c (Some t) → IsLeastMember n (Breaks (kept ++ rest) c) t × (IsClosed n s (kept ++ rest) → ⊥)
  found-least None t start found = cc
  found-least (Some prefix) t start found =
      let h = sought n s kept rest (kept ++ rest) prefix.dfa refl start.automaton start.narrow prefix.length start.counted c (Found t) found in
      (h.0, λ closed. h.1 closed.size closed.wide)

  pub found-none : (before : Option Prefix) → IsStartOf n s kept before → IsFoundOf s before rest c None → IsClosed n s (kept ++ rest)
  found-none None start found = closed-append n s kept rest start
  found-none (Some prefix) start found =
      let h = sought n s kept rest (kept ++ rest) prefix.dfa refl start.automaton start.narrow prefix.length start.counted c (TooWide (prefix.length + found.0)) (found.0, refl, found.1) in
      record {
        size = prefix.length + found.0;
        wide = h.wide;
      }

  pub found-breakable : (left : List Constraint) → ((w : List ℕ) → KeepsAll left w → KeepsAll kept w) → (Implies n (left ++ rest) c → ⊥) → (before : Option Prefix) → IsStartOf n s kept before → IsBreakable before rest c
  found-breakable left fewer none None start = tt
  found-breakable left fewer none (Some prefix) start = λ missing.
      let gone : HasNoMember n (Breaks (kept ++ rest) c) = λ w tw b. missing w (rw start.automaton.over tw) ((breaks-same n s kept rest (kept ++ rest) prefix.dfa refl start.automaton start.narrow c w tw).1 b) in
      none (λ w tw all. let parts = (keeps-append left rest w).0 all in none-implies n (kept ++ rest) c gone w tw ((keeps-append kept rest w).1 (fewer w parts.0, parts.1)))

  pub start-next : (before next : Option Prefix) → s ≤ 65536 → IsStartOf n s kept before → IsNext s before c next → IsStartOf n s (kept ++ c ∷ []) next
  start-next None next limit start is = rw is (closed-append n s kept (c ∷ []) start)
  start-next (Some prefix) None limit start is = record {
    size = length (kept ++ c ∷ []);
    wide = rw (take_all (length (kept ++ c ∷ [])) (kept ++ c ∷ []) (omega arith)) (start-wide n s kept prefix c start is);
  }
  start-next (Some prefix) (Some next) limit start is = start-push n s kept prefix next c limit start is.0 is.1

pub start-small : (n s : ℕ) (kept : List Constraint) (before : Option Prefix) → IsStartOf n s kept before → IsSmall before
start-small n s kept None start = tt
start-small n s kept (Some prefix) start = start.automaton.few

pub start-length : (n s : ℕ) (kept : List Constraint) (before : Option Prefix) → IsStartOf n s kept before → length_of before ≤ length kept
start-length n s kept None start = omega arith
start-length n s kept (Some prefix) start = let e = start.counted in omega (arith, e)

-- ---- one candidate after the other

-- so many candidates have their decisions in the end: what is left and what stays of them, and what the others make of it
pub record IsWitnessingWithin (n s : ℕ) (list : List Constraint) (old new : List Decision) (at : ℕ) (before : Option Prefix) (ws : List (List ℕ)) : Type 0 where
  pub left : List Constraint
  pub kept : List Constraint
  pub many : length new ≡ at
  pub same : map before_second_pass new ≡ map before_second_pass (take at old)
  pub start : IsStartOf n s kept before
  pub few : length kept ≤ at
  pub fewer : (w : List ℕ) → KeepsAll left w → KeepsAll kept w
  pub tested : IsTestedWithin n s left (drop at list) (drop at old)
  pub second : (es : List Decision) → map is_kept es ≡ map is_kept (drop at old) → IsSecondPassedWithin n s left (drop at list) es → IsSecondPassedWithin n s [] list (new ++ es)
  pub untested : (es : List Decision) → map is_kept es ≡ map is_kept (drop at old) → TellsUntested n s left kept (drop at list) es → TellsUntested n s [] [] list (new ++ es)
  pub witnesses : (es : List Decision) (vs : List (List ℕ)) → map is_kept es ≡ map is_kept (drop at old) → AreWitnessesWithin n kept (drop at list) es vs → AreWitnessesWithin n [] list (new ++ es) (ws ++ vs)

pub witnessing-none : (n s : ℕ) (list : List Constraint) (old new : List Decision) (prefix : Prefix) (ws : List (List ℕ)) → 1 ≤ s → IsTestedWithin n s [] list old → new ≡ [] → ws ≡ [] → IsEmptyPrefix n prefix
    → IsWitnessingWithin n s list old new 0 (Some prefix) ws
witnessing-none n s list old new prefix ws some tested empty none begins = rw (empty, none) (record {
  left = [];
  kept = [];
  many = refl;
  same = refl;
  start = record {
    automaton = every-automaton n prefix.dfa begins.every;
    counted = begins.none;
    narrow = λ size wide. empty-narrow n s some (rw (take-nil size) at wide);
  };
  few = omega arith;
  fewer = λ w all. tt;
  tested = tested;
  second = λ es marks h. h;
  untested = λ es marks h. h;
  witnesses = λ es vs marks h. h;
})

-- what a decision that doesn't stay says is what it said
skip-tested : (n s : ℕ) (left : List Constraint) (c : Constraint) (list : List Constraint) (d : Decision) (ds : List Decision) → is_left d ≡ false → IsTestedWithin n s left (c ∷ list) (d ∷ ds) → IsTestedWithin n s left list ds
skip-tested n s left c list Kept ds e h = cc
skip-tested n s left c list SecondPass ds e h = cc
skip-tested n s left c list Untested ds e h = cc
skip-tested n s left c list d ds e h = h

skip-second : (n s : ℕ) (left : List Constraint) (c : Constraint) (list : List Constraint) (d : Decision) (ds : List Decision) → is_left d ≡ false → IsSecondPassedWithin n s left list ds → IsSecondPassedWithin n s left (c ∷ list) (d ∷ ds)
skip-second n s left c list Kept ds e h = cc
skip-second n s left c list SecondPass ds e h = cc
skip-second n s left c list Untested ds e h = cc
skip-second n s left c list d ds e h = h

skip-untested : (n s : ℕ) (left kept : List Constraint) (c : Constraint) (list : List Constraint) (d : Decision) (ds : List Decision) → is_left d ≡ false → TellsUntested n s left kept list ds → TellsUntested n s left kept (c ∷ list) (d ∷ ds)
skip-untested n s left kept c list Kept ds e h = cc
skip-untested n s left kept c list SecondPass ds e h = cc
skip-untested n s left kept c list Untested ds e h = cc
skip-untested n s left kept c list d ds e h = h

skip-witnesses : (n : ℕ) (kept : List Constraint) (c : Constraint) (list : List Constraint) (d : Decision) (ds : List Decision) (vs : List (List ℕ)) → is_kept d ≡ false → AreWitnessesWithin n kept list ds vs
    → AreWitnessesWithin n kept (c ∷ list) (d ∷ ds) vs
skip-witnesses n kept c list Kept ds vs e h = cc
skip-witnesses n kept c list Untested ds vs e h = cc
skip-witnesses n kept c list d ds vs e h = h

left-or-second : (d : Decision) → is_kept d ≡ false → (is_left d ≡ false) ⊎ (d ≡ SecondPass)
left-or-second Kept e = cc
left-or-second SecondPass e = inr refl
left-or-second Untested e = cc
left-or-second d e = inl refl

pub kept-or-untested : (d : Decision) → is_kept d ≡ true → (d ≡ Kept) ⊎ (d ≡ Untested)
kept-or-untested Kept e = inl refl
kept-or-untested Untested e = inr refl
kept-or-untested d e = cc

module _ (n s : ℕ) (list : List Constraint) (old new : List Decision) (at : ℕ) (before : Option Prefix) (ws : List (List ℕ)) (in_list : at < length list) (many_old : length old ≡ length list)
    (h : IsWitnessingWithin n s list old new at before ws) where
  abbrev c : Constraint
  c = get_or list at anything

  abbrev pub after_list : List Constraint
  after_list = drop (at + 1) list

  abbrev pub after_old : List Decision
  after_old = drop (at + 1) old

  here : drop at list ≡ c ∷ after_list
  here = rw add-one (drop-cons list at anything in_list)

  here_old : drop at old ≡ get_or old at Kept ∷ after_old
  here_old = rw add-one (drop-cons old at Kept (omega (arith, many_old, in_list)))

  pushed : (d : Decision) (es : List Decision) → (new ++ d ∷ []) ++ es ≡ new ++ d ∷ es
  pushed d es = append_assoc new (d ∷ []) es

  more : (d : Decision) → before_second_pass d ≡ before_second_pass (get_or old at Kept) → map before_second_pass (new ++ d ∷ []) ≡ map before_second_pass (take (at + 1) old)
  more d e =
      map-append before_second_pass new (d ∷ [])
      ∙ (ap (λ (l : List Decision). l ++ before_second_pass d ∷ []) h.same
      ∙ (ap (λ (x : Decision). map before_second_pass (take at old) ++ x ∷ []) e
      ∙ (sym (map-append before_second_pass (take at old) (get_or old at Kept ∷ [])) ∙ ap (map before_second_pass) (sym (take_more old at Kept (omega (arith, many_old, in_list)))))))

  marks : (d : Decision) (es : List Decision) → is_kept d ≡ is_kept (get_or old at Kept) → map is_kept es ≡ map is_kept after_old → map is_kept (d ∷ es) ≡ map is_kept (drop at old)
  marks d es e rest = rw here_old (cc (e, rest))

  tested_here : IsTestedWithin n s h.left (c ∷ after_list) (get_or old at Kept ∷ after_old)
  tested_here = rw (← here, ← here_old) h.tested

  -- one that doesn't stay
  pub step-skip : is_kept (get_or old at Kept) ≡ false → IsWitnessingWithin n s list old (new ++ get_or old at Kept ∷ []) (at + 1) before ws
  step-skip lacks =
      let d = get_or old at Kept in
      elim (left-or-second d lacks) [
        | inl out_ ↦ record {
          left = h.left;
          kept = h.kept;
          many = length_push new d ∙ ap (λ (k : ℕ). k + 1) h.many;
          same = more d refl;
          start = h.start;
          few = let few_ = h.few in omega (arith, few_);
          fewer = h.fewer;
          tested = skip-tested n s h.left c after_list d after_old out_ tested_here;
          second = λ es rest one. rw (pushed d es) (h.second (d ∷ es) (marks d es refl rest) (rw here (skip-second n s h.left c after_list d es out_ one)));
          untested = λ es rest one. rw (pushed d es) (h.untested (d ∷ es) (marks d es refl rest) (rw here (skip-untested n s h.left h.kept c after_list d es out_ one)));
          witnesses = λ es vs rest one. rw (pushed d es) (h.witnesses (d ∷ es) vs (marks d es refl rest) (rw here (skip-witnesses n h.kept c after_list d es vs lacks one)));
        }
        | inr second ↦
            let told : IsTestedWithin n s h.left (c ∷ after_list) (SecondPass ∷ after_old) = rw second at tested_here in
            let same_kept : is_kept SecondPass ≡ is_kept (get_or old at Kept) = ap is_kept (sym second) in
            rw second (record {
              left = h.left ++ c ∷ [];
              kept = h.kept;
              many = length_push new SecondPass ∙ ap (λ (k : ℕ). k + 1) h.many;
              same = more SecondPass (ap before_second_pass (sym second));
              start = h.start;
              few = let few_ = h.few in omega (arith, few_);
              fewer = λ w all. h.fewer w (keeps-push h.left c w all).0;
              tested = told.2;
              second = λ es rest one.
                  let same : those is_kept after_list after_old ≡ those is_kept after_list es = ap (λ (v : List Bool). marked v after_list) (sym rest) in
                  rw (pushed SecondPass es) (h.second (SecondPass ∷ es) (marks SecondPass es same_kept rest) (rw here (rw same at told.0, rw same at told.1, one)));
              untested = λ es rest one. rw (pushed SecondPass es) (h.untested (SecondPass ∷ es) (marks SecondPass es same_kept rest) (rw here one));
              witnesses = λ es vs rest one. rw (pushed SecondPass es) (h.witnesses (SecondPass ∷ es) vs (marks SecondPass es same_kept rest) (rw here one));
            })
      ]

  -- one that stays, with what its decision says
  step-stay : (d : Decision) (next : Option Prefix) (all_ : List (List ℕ)) → is_kept (get_or old at Kept) ≡ true → is_kept d ≡ true → before_second_pass d ≡ before_second_pass (get_or old at Kept) → s ≤ 65536 → IsNext s before c next
      → IsTestedWithin n s (h.left ++ c ∷ []) after_list after_old
      → ((es : List Decision) → those is_kept after_list after_old ≡ those is_kept after_list es → IsSecondPassedWithin n s (h.left ++ c ∷ []) after_list es → IsSecondPassedWithin n s h.left (c ∷ after_list) (d ∷ es))
      → ((es : List Decision) → those is_kept after_list after_old ≡ those is_kept after_list es → TellsUntested n s (h.left ++ c ∷ []) (h.kept ++ c ∷ []) after_list es → TellsUntested n s h.left h.kept (c ∷ after_list) (d ∷ es))
      → ((es : List Decision) (vs : List (List ℕ)) → map is_kept es ≡ map is_kept after_old → those is_kept after_list after_old ≡ those is_kept after_list es → AreWitnessesWithin n (h.kept ++ c ∷ []) after_list es vs
      → AreWitnessesWithin n [] list (new ++ d ∷ es) (all_ ++ vs))
      → IsWitnessingWithin n s list old (new ++ d ∷ []) (at + 1) next all_
  step-stay d next all_ stays stays_ view limit is tested says_second says_untested says_witnesses =
      let same_kept : is_kept d ≡ is_kept (get_or old at Kept) = stays_ ∙ sym stays in
      record {
        left = h.left ++ c ∷ [];
        kept = h.kept ++ c ∷ [];
        many = length_push new d ∙ ap (λ (k : ℕ). k + 1) h.many;
        same = more d view;
        start = start-next n s h.kept [] c before next limit h.start is;
        few = let few_ = h.few in let long = length_push h.kept c in omega (arith, few_, long);
        fewer = λ w all. let parts = keeps-push h.left c w all in push-keeps h.kept c w (h.fewer w parts.0) parts.1;
        tested = tested;
        second = λ es rest one. rw (pushed d es) (h.second (d ∷ es) (marks d es same_kept rest) (rw here (says_second es (ap (λ (v : List Bool). marked v after_list) (sym rest)) one)));
        untested = λ es rest one. rw (pushed d es) (h.untested (d ∷ es) (marks d es same_kept rest) (rw here (says_untested es (ap (λ (v : List Bool). marked v after_list) (sym rest)) one)));
        witnesses = λ es vs rest one. rw (pushed d es) (says_witnesses es vs rest (ap (λ (v : List Bool). marked v after_list) (sym rest)) one);
      }

  module _ (is_kept_ : get_or old at Kept ≡ Kept) where
    told_kept : IsTestedWithin n s h.left (c ∷ after_list) (Kept ∷ after_old)
    told_kept = rw is_kept_ at tested_here

    pub step-breakable : IsBreakable before (those is_kept after_list after_old) c
    step-breakable = found-breakable n s h.kept (those is_kept after_list after_old) c h.left h.fewer told_kept.1 before h.start

    pub step-found : (t : List ℕ) (next : Option Prefix) → s ≤ 65536 → IsFoundOf s before (those is_kept after_list after_old) c (Some t) → IsNext s before c next
        → IsWitnessingWithin n s list old (new ++ Kept ∷ []) (at + 1) next (ws ++ t ∷ [])
    step-found t next limit found is =
        let f = found-least n s h.kept (those is_kept after_list after_old) c before t h.start found in
        step-stay Kept next (ws ++ t ∷ []) (ap is_kept is_kept_) refl (ap before_second_pass (sym is_kept_)) limit is told_kept.2
        (λ es same one. (λ implies. absurd (told_kept.1 (rw (← same) at implies)), one))
        (λ es same one. (rw same at told_kept.0, rw same at f.1, one))
        (λ es vs rest same one.
        let least : IsLeastMember n (Breaks (h.kept ++ those is_kept after_list es) c) t = rw same at f.0 in
        rw (append_assoc ws (t ∷ []) vs) (h.witnesses (Kept ∷ es) (t ∷ vs) (marks Kept es (ap is_kept (sym is_kept_)) rest) (rw here (least, one))))

    pub step-untested : (next : Option Prefix) → s ≤ 65536 → IsFoundOf s before (those is_kept after_list after_old) c None → IsNext s before c next → IsWitnessingWithin n s list old (new ++ Untested ∷ []) (at + 1) next ws
    step-untested next limit found is =
        let f = found-none n s h.kept (those is_kept after_list after_old) c before h.start found in
        step-stay Untested next ws (ap is_kept is_kept_) refl (ap before_second_pass (sym is_kept_)) limit is told_kept.2
        (λ es same one. (λ implies. absurd (told_kept.1 (rw (← same) at implies)), one))
        (λ es same one. (inr (rw same at f), one))
        (λ es vs rest same one. h.witnesses (Untested ∷ es) vs (marks Untested es (ap is_kept (sym is_kept_)) rest) (rw here one))

  -- one whose test was closed
  pub step-closed : get_or old at Kept ≡ Untested → (next : Option Prefix) → s ≤ 65536 → IsNext s before c next → IsWitnessingWithin n s list old (new ++ Untested ∷ []) (at + 1) next ws
  step-closed is_untested next limit is =
      let told : IsTestedWithin n s h.left (c ∷ after_list) (Untested ∷ after_old) = rw is_untested at tested_here in
      step-stay Untested next ws (ap is_kept is_untested) refl (ap before_second_pass (sym is_untested)) limit is told.1
      (λ es same one. (λ implies. rw same at told.0, one))
      (λ es same one. (inl (rw same at told.0), one))
      (λ es vs rest same one. h.witnesses (Untested ∷ es) vs (marks Untested es (ap is_kept (sym is_untested)) rest) (rw here one))

  pub step-short : length_of before + length (those is_kept after_list after_old) ≤ length list
  step-short =
      let a = start-length n s h.kept before h.start in
      let few = h.few in
      let b = length-marked (map is_kept after_old) after_list in
      let d = length-drop (at + 1) list in
      omega (arith, a, few, b, d, in_list)

pub witnessing-end : (n s : ℕ) (list : List Constraint) (old : List Decision) (at : ℕ) (before : Option Prefix) (witnessed : Witnessed) → length list ≤ at → length old ≡ length list
    → IsWitnessingWithin n s list old witnessed.decisions.items at before witnessed.witnesses.items → IsWitnessedWithin n s list old witnessed
witnessing-end n s list old at before witnessed past many_old h =
    let none : drop at list ≡ [] = drop_all at list past in
    let none_old : map is_kept [] ≡ map is_kept (drop at old) = rw (drop_all at old (omega (arith, many_old, past))) refl in
    record {
      same = h.same ∙ ap (map before_second_pass) (take_all at old (omega (arith, many_old, past)));
      second_pass = rw append-nil at (h.second [] none_old (rw none tt));
      untested = rw append-nil at (h.untested [] none_old (rw none tt));
      witnesses = rw (append-nil witnessed.decisions.items, append-nil witnessed.witnesses.items) at (h.witnesses [] [] none_old (rw none tt));
    }
