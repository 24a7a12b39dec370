-- The first pass within a limit that goes on by one candidate.
use Rattle.std.proofs.Common.{◌≡◌, ◌↔◌, ℕ, ◌+◌, ◌<◌, ◌≤◌, inl, inr, List, [], ◌∷◌, ◌++◌, Bool, true, false, length, map, take, drop, get_or, refl, sym, ap, ◌∙◌, arith, add-one, append_assoc, drop-cons}
use Rattle.std.proofs.lemmas.Bool.{cases_lt}
use Rattle.std.proofs.lemmas.List.{append-nil, drop_all, get_or-map, get_or_push, length-map, length_push, map-append, take-append-le, take-map, take-take, take_all, take_more}
use Rattle.dfa_core.specs.Automaton.{Automaton, IsEverything}
use Rattle.dfa_core.specs.Languages.{HasNoMember}
use Rattle.dfa_core.specs.Traces.{IsTrace}
use Rattle.dfa_minimise.specs.Wide.{IsWide}
use Rattle.template_core.specs.declared.constraint.Constraint.{Constraint}
use Rattle.reduce_model.proofs.FirstPasses.{before-has, before-lacks, fresh-tested, is-kept, left_before, length-marked, narrow-push, none-implies, not-strongest}
use Rattle.list_dfa.proofs.Listing.{every-automaton, take-nil, empty-narrow}
use Rattle.reduce_model.proofs.KeptPrefixes.{AreKeptUpTo, IsPrefixUpTo, kept-end, kept-later}
use Rattle.list_dfa.proofs.Keeping.{anything, keeps-push, push-keeps}
use Rattle.dfa_minimise.proofs.Widths.{over-wide, wide-over}
use Rattle.reduce_model.proofs.Sifts.{length-take_le}
use Rattle.reduce_model.proofs.Writes.{fixed-at, marked-split}
use Rattle.reduce_model.specs.Deciding.{is_kept, is_left, marked}
use Rattle.list_dfa.specs.Extending.{AcceptsBroken, AcceptsKept, Extends}
use Rattle.reduce_model.specs.Keeping.{KeepsAll}
use Rattle.reduce_model.specs.Passes.{IsFirstPassedOf, before_first_pass, before_second_pass}
use Rattle.list_dfa.specs.Lists.{IsAutomatonOf, IsNarrowList}
use Rattle.reduce_model.specs.Reduction.{Implies}
use Rattle.reduce_model.specs.Within.{IsFirstPassedWithin, IsWideList}
use Rattle.reduce_model.specs.declared.decision.Decision.{Decision}
use Rattle.reduce_model.specs.declared.decision.Decision.TheVariants.{Kept, Conflict, Weaker, FirstPass, SecondPass, Beyond, Untested}
use Rattle.reduce_model.specs.declared.first_within.FirstPassed.{FirstPassed}
use Rattle.reduce_model.specs.declared.prefixes.Prefix.{Prefix}

-- so many candidates are gone through: what has joined, and what the others make of it
pub record IsPassingWithin (n s : ℕ) (list : List Constraint) (old new : List Decision) (at : ℕ) (dfa : Automaton) (size wide : ℕ) (prefixes : List Prefix) : Type 0 where
  pub joined : List Constraint
  pub many : length new ≡ at
  pub same : map before_first_pass new ≡ take at old
  pub later : map before_second_pass new ≡ new
  pub automaton : IsAutomatonOf n joined dfa
  pub narrow : IsNarrowList n s joined
  pub rest : (es : List Decision) → IsFirstPassedWithin n s joined (drop at list) es → IsFirstPassedWithin n s [] list (new ++ es)
  pub wide_within : wide ≤ length list
  pub found : wide < length list → wide < at
  pub whole : wide ≡ length list → (joined ≡ left_before at list new) × (size ≡ length joined)
  pub closed : wide < at → IsWideList n s (left_before (wide + 1) list new)
  pub kept : AreKeptUpTo n s list (map is_left new) at prefixes

pub passing-none : (n s : ℕ) (list : List Constraint) (old new : List Decision) (dfa : Automaton) (size wide : ℕ) (prefixes : List Prefix) → 1 ≤ s → IsEverything n dfa → new ≡ [] → size ≡ 0 → wide ≡ length list
    → AreKeptUpTo n s list [] 0 prefixes → IsPassingWithin n s list old new 0 dfa size wide prefixes
passing-none n s list old new dfa size wide prefixes some every empty none all_ kept = rw empty (record {
  joined = [];
  many = refl;
  same = refl;
  later = refl;
  automaton = every-automaton n dfa every;
  narrow = λ k is. empty-narrow n s some (rw (take-nil k) at is);
  rest = λ es h. h;
  wide_within = omega arith;
  found = λ lt. absurd (omega (arith, lt, all_));
  whole = λ e. (refl, none);
  closed = λ lt. absurd (omega (arith, lt));
  kept = kept;
})

-- ---- one decision more

module _ (list : List Constraint) (new : List Decision) (at : ℕ) (d : Decision) (in_list : at < length list) (many : length new ≡ at) where
  long : length (map is_left (new ++ d ∷ [])) ≡ at + 1
  long = length-map (new ++ d ∷ []) is_left ∙ (length_push new d ∙ ap (λ (k : ℕ). k + 1) many)

  pub front-marks : (place : ℕ) → place ≤ at → take place (map is_left (new ++ d ∷ [])) ≡ take place (map is_left new)
  front-marks place le =
      take-map is_left place (new ++ d ∷ []) ∙ (ap (map is_left) (take-append-le place new (d ∷ []) (omega (arith, many, le))) ∙ sym (take-map is_left place new))

  mark-at : get_or (map is_left (new ++ d ∷ [])) at false ≡ is_left d
  mark-at = get_or-map is_left (new ++ d ∷ []) at Kept false (let l = length_push new d in omega (arith, l, many)) ∙ ap is_left (get_or_push new d Kept at many)

  pub front-left : (place : ℕ) → place ≤ at → left_before place list (new ++ d ∷ []) ≡ left_before place list new
  front-left place le = ap (λ (marks : List Bool). marked marks (take place list)) (front-marks place le)

  pub left-lacks : is_left d ≡ false → left_before (at + 1) list (new ++ d ∷ []) ≡ left_before at list new
  left-lacks lacks = before-lacks list (map is_left (new ++ d ∷ [])) at (let l = long in omega (arith, l)) in_list (mark-at ∙ lacks) ∙ front-left at (omega arith)

  pub left-has : is_left d ≡ true → left_before (at + 1) list (new ++ d ∷ []) ≡ left_before at list new ++ get_or list at anything ∷ []
  left-has has =
      before-has list (map is_left (new ++ d ∷ [])) at (let l = long in omega (arith, l)) in_list (mark-at ∙ has) ∙ ap (λ (l : List Constraint). l ++ get_or list at anything ∷ []) (front-left at (omega arith))

-- one that doesn't stand is passed by
passes-by : (n s : ℕ) (joined : List Constraint) (c : Constraint) (list : List Constraint) (d : Decision) (es : List Decision) → d ≡ before_first_pass d → is_kept d ≡ false → IsFirstPassedWithin n s joined list es
    → IsFirstPassedWithin n s joined (c ∷ list) (d ∷ es)
passes-by n s joined c list Conflict es e k h = h
passes-by n s joined c list (Weaker by) es e k h = h
passes-by n s joined c list Beyond es e k h = h
passes-by n s joined c list d es e k h = cc

fixed-twice : (d : Decision) → d ≡ before_first_pass d → before_second_pass d ≡ d
fixed-twice SecondPass e = cc
fixed-twice Untested e = cc
fixed-twice d e = refl

module _ {n s : ℕ} {list : List Constraint} {old new : List Decision} {at : ℕ} {dfa : Automaton} {size wide : ℕ} {prefixes : List Prefix} (in_list : at < length list) (many_old : length old ≡ length list)
    (h : IsPassingWithin n s list old new at dfa size wide prefixes) where
  abbrev c : Constraint
  c = get_or list at anything

  here : drop at list ≡ c ∷ drop (at + 1) list
  here = rw add-one (drop-cons list at anything in_list)

  more : (d : Decision) → before_first_pass d ≡ get_or old at Kept → map before_first_pass (new ++ d ∷ []) ≡ take (at + 1) old
  more d e = map-append before_first_pass new (d ∷ []) ∙ (ap (λ (l : List Decision). l ++ before_first_pass d ∷ []) h.same ∙ (ap (λ (x : Decision). take at old ++ x ∷ []) e ∙ sym (take_more old at Kept (omega (arith, many_old, in_list)))))

  more-later : (d : Decision) → before_second_pass d ≡ d → map before_second_pass (new ++ d ∷ []) ≡ new ++ d ∷ []
  more-later d e = map-append before_second_pass new (d ∷ []) ∙ (ap (λ (l : List Decision). l ++ before_second_pass d ∷ []) h.later ∙ ap (λ (x : Decision). new ++ x ∷ []) e)

  more-kept : (d : Decision) (all_ : List Prefix) → AreKeptUpTo n s list (map is_left new) at all_ → AreKeptUpTo n s list (map is_left (new ++ d ∷ [])) (at + 1) all_
  more-kept d all_ kept = kept-later n s list (map is_left new) (map is_left (new ++ d ∷ [])) at all_ (front-marks list new at d in_list h.many) kept

  more-closed : (d : Decision) → wide < at + 1 → IsWideList n s (left_before (wide + 1) list (new ++ d ∷ []))
  more-closed d lt = elim (cases_lt wide at) [
    | inl before ↦ rw (front-left list new at d in_list h.many (wide + 1) (omega arith)) (h.closed before)
    | inr le ↦ let e : wide ≡ at = omega arith in absurd (let l = h.found (omega (arith, e, in_list)) in omega (arith, l, le))
  ]

  -- a decision with which what has joined stays as it is
  passed : (d : Decision) → is_left d ≡ false → before_first_pass d ≡ get_or old at Kept → before_second_pass d ≡ d → ((es : List Decision) → IsFirstPassedWithin n s h.joined (drop (at + 1) list) es
      → IsFirstPassedWithin n s h.joined (c ∷ drop (at + 1) list) (d ∷ es)) → IsPassingWithin n s list old (new ++ d ∷ []) (at + 1) dfa size wide prefixes
  passed d lacks first later says = record {
    joined = h.joined;
    many = length_push new d ∙ ap (λ (k : ℕ). k + 1) h.many;
    same = more d first;
    later = more-later d later;
    automaton = h.automaton;
    narrow = h.narrow;
    rest = λ es one. rw (append_assoc new (d ∷ []) es) (h.rest (d ∷ es) (rw here (says es one)));
    wide_within = h.wide_within;
    found = λ lt. let l = h.found lt in omega (arith, l);
    whole = λ e. let w = h.whole e in (w.0 ∙ sym (left-lacks list new at d in_list h.many lacks), w.1);
    closed = more-closed d;
    kept = more-kept d prefixes h.kept;
  }

  pub passed-by : map before_first_pass old ≡ old → is_kept (get_or old at Kept) ≡ false → IsPassingWithin n s list old (new ++ get_or old at Kept ∷ []) (at + 1) dfa size wide prefixes
  passed-by pruned lacks =
      let d = get_or old at Kept in
      let fresh : d ≡ before_first_pass d = fixed-at before_first_pass old at (omega (arith, many_old, in_list)) pruned in
      passed d (not-strongest d fresh lacks).1 (sym fresh) (fixed-twice d fresh) (λ es one. passes-by n s h.joined c (drop (at + 1) list) d es fresh lacks one)

  pub passed-is : map before_first_pass old ≡ old → is_kept (get_or old at Kept) ≡ true → get_or old at Kept ≡ Kept
  passed-is pruned kept = is-kept (get_or old at Kept) (fresh-tested before_first_pass refl (get_or old at Kept) (fixed-at before_first_pass old at (omega (arith, many_old, in_list)) pruned)) kept

  pub passing-size : wide ≡ length list → size ≤ length list
  passing-size e =
      let w = h.whole e in
      let counted = w.1 ∙ ap length w.0 in
      let few = length-marked (take at (map is_left new)) (take at list) in
      let front = length-take_le at list in
      omega (arith, counted, few, front)

  -- what has joined with the candidate
  with_candidate : (w : List ℕ) → IsTrace n w → AcceptsKept dfa c w ↔ KeepsAll (h.joined ++ c ∷ []) w
  with_candidate w tw =
      let p = h.automaton.same w tw in (
        λ both. push-keeps h.joined c w (p.0 both.0) both.1,
        λ all. let parts = keeps-push h.joined c w all in (p.1 parts.0, parts.1),
      )

  not-implied : ((w : List ℕ) × IsTrace dfa.symbols w × AcceptsBroken dfa c w) → Implies n h.joined c → ⊥
  not-implied b implies = let tw : IsTrace n b.0 = rw h.automaton.over at b.1 in b.2.1 (implies b.0 tw ((h.automaton.same b.0 tw).0 b.2.0))

  module _ (is : get_or old at Kept ≡ Kept) where
    pub passed-implied : HasNoMember dfa.symbols (AcceptsBroken dfa c) → IsPassingWithin n s list old (new ++ FirstPass ∷ []) (at + 1) dfa size wide prefixes
    passed-implied none = passed FirstPass refl (sym is) refl (λ es one. (
      none-implies n h.joined c (λ w tw both. none w (rw h.automaton.over tw) ((h.automaton.same w tw).1 both.0, both.1)),
      one,
    ))

    -- one that is left, and joins
    pub passed-left : (joined : Automaton) (size_ : ℕ) (all_ : List Prefix) → s ≤ 65536 → Extends s dfa c joined → ((w : List ℕ) × IsTrace dfa.symbols w × AcceptsBroken dfa c w) → (wide ≡ length list → size_ ≡ size + 1)
        → AreKeptUpTo n s list (map is_left new) at all_ → IsPassingWithin n s list old (new ++ Kept ∷ []) (at + 1) joined size_ wide all_
    passed-left joined size_ all_ limit x broken counted kept =
        let narrow : IsWideList n s (h.joined ++ c ∷ []) → ⊥ = λ is_wide. x.narrow (wide-over dfa.symbols n s (AcceptsKept dfa c) (KeepsAll (h.joined ++ c ∷ [])) h.automaton.over with_candidate is_wide) in
        record {
          joined = h.joined ++ c ∷ [];
          many = length_push new Kept ∙ ap (λ (k : ℕ). k + 1) h.many;
          same = more Kept (sym is);
          later = more-later Kept refl;
          automaton = record {
            over = x.over ∙ h.automaton.over;
            same = λ w tw.
                let p = x.same w (rw h.automaton.over tw) in
                let q = with_candidate w tw in (λ accepted. q.0 (p.0 accepted), λ all. p.1 (q.1 all));
            few = let few_ = x.few in omega (arith, few_, limit);
          };
          narrow = narrow-push n s h.joined c h.narrow narrow;
          rest = λ es one. rw (append_assoc new (Kept ∷ []) es) (h.rest (Kept ∷ es) (rw here (not-implied broken, inr (narrow, one))));
          wide_within = h.wide_within;
          found = λ lt. let l = h.found lt in omega (arith, l);
          whole = λ e. let w = h.whole e in (
            ap (λ (l : List Constraint). l ++ c ∷ []) w.0 ∙ sym (left-has list new at Kept in_list h.many refl),
            counted e ∙ (ap (λ (k : ℕ). k + 1) w.1 ∙ sym (length_push h.joined c)),
          );
          closed = more-closed Kept;
          kept = more-kept Kept all_ kept;
        }

    -- one that is left, and doesn't join
    pub passed-wide : (wide_ : ℕ) → (wide ≤ at → wide_ ≡ wide) → (at ≤ wide → wide_ ≡ at) → IsWide dfa.symbols (AcceptsKept dfa c) s → ((w : List ℕ) × IsTrace dfa.symbols w × AcceptsBroken dfa c w)
        → IsPassingWithin n s list old (new ++ Kept ∷ []) (at + 1) dfa size wide_ prefixes
    passed-wide wide_ before from is_wide broken =
        let wide_list : IsWideList n s (h.joined ++ c ∷ []) = over-wide dfa.symbols n s (AcceptsKept dfa c) (KeepsAll (h.joined ++ c ∷ [])) h.automaton.over with_candidate is_wide in
        let less : wide_ < at + 1 = elim (cases_lt at wide) [
          | inl lt ↦ let e = from (omega arith) in omega (arith, e)
          | inr le ↦ let e = before le in omega (arith, e, le)
        ] in
        record {
          joined = h.joined;
          many = length_push new Kept ∙ ap (λ (k : ℕ). k + 1) h.many;
          same = more Kept (sym is);
          later = more-later Kept refl;
          automaton = h.automaton;
          narrow = h.narrow;
          rest = λ es one. rw (append_assoc new (Kept ∷ []) es) (h.rest (Kept ∷ es) (rw here (not-implied broken, inl (wide_list, one))));
          wide_within = omega (arith, less, in_list);
          found = λ lt. less;
          whole = λ e. absurd (omega (arith, e, less, in_list));
          closed = λ lt. elim (cases_lt wide at) [
            | inl past ↦ let e = before (omega arith) in rw e (more-closed Kept (omega arith))
            | inr le ↦
                let e = from le in
                let all_ : wide ≡ length list = elim (cases_lt wide (length list)) [ inl inside ↦ let l = h.found inside in absurd (omega (arith, l, le)) | inr out_ ↦ let w = h.wide_within in omega (arith, w, out_) ] in
                let is_left_ : left_before (at + 1) list (new ++ Kept ∷ []) ≡ h.joined ++ c ∷ [] = left-has list new at Kept in_list h.many refl ∙ ap (λ (l : List Constraint). l ++ c ∷ []) (sym (h.whole all_).0) in
                rw (e, is_left_) wide_list
          ];
          kept = more-kept Kept prefixes h.kept;
        }

  -- what has joined so far, as a prefix
  pub passing-prefix : wide ≡ length list → (prefix : Prefix) → prefix.dfa ≡ dfa → prefix.place ≡ at → prefix.length ≡ size → IsPrefixUpTo n s list (map is_left new) at prefix
  passing-prefix e prefix same_dfa same_place same_length =
      let w = h.whole e in
      record {
        before = omega (arith, same_place);
        is = record {
          within = omega (arith, same_place, in_list);
          automaton = rw (same_place, same_dfa) (rw w.0 at h.automaton);
          counted = rw same_place (same_length ∙ (w.1 ∙ ap length w.0));
          narrow = rw same_place (rw w.0 at h.narrow);
        };
      }

-- ---- the end

pub passing-end : (n s : ℕ) (list : List Constraint) (old : List Decision) (at : ℕ) (dfa : Automaton) (size : ℕ) (passed : FirstPassed) → length list ≤ at → length old ≡ length list
    → IsPassingWithin n s list old passed.decisions.items at dfa size passed.wide passed.prefixes.items → IsFirstPassedOf n s list old passed
passing-end n s list old at dfa size passed past many_old h =
    let new = passed.decisions.items in
    let wide = passed.wide in
    let many = h.many in
    record {
      same = h.same ∙ take_all at old (omega (arith, many_old, past));
      later = h.later;
      first_pass = rw append-nil at (h.rest [] (rw (drop_all at list past) tt));
      prefixes = kept-end n s list (map is_left new) at passed.prefixes.items h.kept;
      closed = λ place rest lt le.
          let front : List Constraint = left_before (wide + 1) list new in
          let cut : left_before place list new ≡ front ++ marked (drop (wide + 1) (take place (map is_left new))) (drop (wide + 1) (take place list)) =
          marked-split (take place (map is_left new)) (take place list) (wide + 1)
          ∙ ap (λ (l : List Constraint). l ++ marked (drop (wide + 1) (take place (map is_left new))) (drop (wide + 1) (take place list)))
          (ap (λ (marks : List Bool). marked marks (take (wide + 1) (take place list))) (take-take (wide + 1) place (map is_left new) (omega arith)) ∙ ap (marked (take (wide + 1) (map is_left new))) (take-take (wide + 1) place list (omega arith))) in
          let back : List Constraint = marked (drop (wide + 1) (take place (map is_left new))) (drop (wide + 1) (take place list)) ++ rest in
          let whole : left_before place list new ++ rest ≡ front ++ back = ap (λ (l : List Constraint). l ++ rest) cut ∙ append_assoc front (marked (drop (wide + 1) (take place (map is_left new))) (drop (wide + 1) (take place list))) rest in
          record {
            size = length front;
            wide = rw (whole, take-append-le (length front) front back (omega arith), take_all (length front) front (omega arith)) (h.closed (omega (arith, lt, le, past)));
          };
    }
