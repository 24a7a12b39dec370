-- The first pass that goes on by one candidate.
use Rattle.std.proofs.Common.{◌≡◌, ◌≢◌, ◌↔◌, ℕ, suc, ◌+◌, ◌<◌, ◌≤◌, inl, inr, List, [], ◌∷◌, ◌++◌, Bool, true, false, length, map, take, drop, get_or, set, refl, sym, ap, ◌∙◌, arith, add-one, drop-cons, get_or-set_same, get_or-set_other}
use Rattle.std.proofs.lemmas.Bool.{cases_lt, cases_eq}
use Rattle.std.proofs.lemmas.List.{append-nil, get_or-map, length-map, length-set, length_push, map-set, take_all, take-append-le, take-set-le}
use Rattle.std.proofs.lemmas.List.Elements.{All-cons, All-nil}
use Rattle.dfa_core.specs.Automaton.{Automaton, IsEverything}
use Rattle.dfa_core.specs.Languages.{HasNoMember}
use Rattle.dfa_core.specs.Traces.{IsTrace}
use Rattle.dfa_minimise.specs.Wide.{IsWide}
use Rattle.template_core.specs.declared.constraint.Constraint.{Constraint}
use Rattle.reduce_model.proofs.Determined.{Has, first_pass_forward, forward_first_pass, left_same_below}
use Rattle.reduce_model.proofs.Lists.{phase-narrow, up-first, up-narrow}
use Rattle.reduce_model.proofs.Marks.{IsForward, forward-more, true_or_false}
use Rattle.list_dfa.proofs.Keeping.{anything, keeps-push, push-keeps}
use Rattle.reduce_model.proofs.Members.{keeps-stable}
use Rattle.dfa_minimise.proofs.Widths.{over-wide, wide-over}
use Rattle.reduce_model.proofs.KeptPrefixes.{AreKeptUpTo, IsPrefixUpTo}
use Rattle.reduce_model.proofs.Sifts.{length-take_le}
use Rattle.list_dfa.proofs.Listing.{empty-narrow, take-nil, every-automaton}
use Rattle.reduce_model.proofs.Writes.{fixed-at, fixed-fixed, map-set_same, marked-next, marked-split, view_same}
use Rattle.reduce_model.specs.Building.{IsFirstOfWide, in_phase, up_to_each}
use Rattle.reduce_model.specs.Deciding.{is_kept, is_left, is_strongest, marked, those}
use Rattle.list_dfa.specs.Extending.{AcceptsBroken, AcceptsKept, Extends}
use Rattle.reduce_model.specs.Keeping.{KeepsAll}
use Rattle.reduce_model.specs.Passes.{IsFirstPassed, IsFirstPrefixAlone, before_first_pass, before_second_pass}
use Rattle.list_dfa.specs.Lists.{IsAutomatonOf, IsNarrowList}
use Rattle.reduce_model.specs.Reduction.{Breaks, Implies, TellsFirstPass}
use Rattle.reduce_model.specs.declared.decision.Decision.{Decision}
use Rattle.reduce_model.specs.declared.decision.Decision.TheVariants.{Kept, Conflict, Weaker, FirstPass, Beyond, Untested}
use Rattle.reduce_model.specs.declared.prefixes.Prefix.{Prefix}

-- ---- what keeps and breaks

pub none-implies : (n : ℕ) (list : List Constraint) (c : Constraint) → HasNoMember n (Breaks list c) → Implies n list c
none-implies n list c none w tw kept = keeps-stable c w (λ broken. none w tw (kept, broken))

-- a narrow list and one more constraint, with which it isn't wide
pub narrow-push : (n s : ℕ) (list : List Constraint) (c : Constraint) → IsNarrowList n s list → (IsWide n (KeepsAll (list ++ c ∷ [])) s → ⊥) → IsNarrowList n s (list ++ c ∷ [])
narrow-push n s list c h none size wide =
    let long = length_push list c in
    elim (cases_lt (length list) size) [
      | inl past ↦ none (rw (take_all size (list ++ c ∷ []) (omega (arith, long))) at wide)
      | inr le ↦ h size (rw (take-append-le size list (c ∷ []) le) at wide)
    ]

-- ---- the pass

-- the constraints before a place that are left
abbrev pub left_before : ℕ → List Constraint → List Decision → List Constraint
left_before at list ds = marked (take at (map is_left ds)) (take at list)

-- the candidates before a place are gone through, the others not yet
pub record IsPassing (n s : ℕ) (list : List Constraint) (old new : List Decision) (at : ℕ) (left : Automaton) (size : ℕ) : Type 0 where
  pub as_many : length new ≡ length list
  pub same : map before_first_pass new ≡ old
  pub later : map before_second_pass new ≡ new
  pub forward : IsForward (Implies n) (Has is_strongest new) list (map is_left new) at
  pub fresh : (place : ℕ) → at ≤ place → place < length list → get_or new place Kept ≡ before_first_pass (get_or new place Kept)
  pub automaton : IsAutomatonOf n (left_before at list new) left
  pub counted : size ≡ length (left_before at list new)
  pub narrow : IsNarrowList n s (left_before at list new)

passes-passes : (d : Decision) → before_second_pass (before_first_pass d) ≡ before_first_pass d
passes-passes Kept = refl
passes-passes d = refl

pub passing-none : (n s : ℕ) (list : List Constraint) (old : List Decision) (left : Automaton) (size : ℕ) → length old ≡ length list → 1 ≤ s → map before_first_pass old ≡ old → IsEverything n left → size ≡ 0
    → IsPassing n s list old old 0 left size
passing-none n s list old left size many some pruned every zero_ = record {
  as_many = many;
  same = pruned;
  later = fixed-fixed before_first_pass before_second_pass old passes-passes pruned;
  forward = λ place lt q. absurd (omega (arith, lt));
  fresh = λ place le lt. fixed-at before_first_pass old place (omega arith) pruned;
  automaton = every-automaton n left every;
  counted = zero_;
  narrow = λ size wide. empty-narrow n s some (rw (take-nil size) at wide);
}

-- a decision that the passes haven't marked and that doesn't stand is not among the strongest
pub not-strongest : (d : Decision) → d ≡ before_first_pass d → is_kept d ≡ false → (is_strongest d ≡ false) × (is_left d ≡ false)
not-strongest Conflict e k = (refl, refl)
not-strongest (Weaker by) e k = (refl, refl)
not-strongest Beyond e k = (refl, refl)
not-strongest d e k = (cc, cc)

strongest-passes : (d : Decision) → is_strongest (before_first_pass d) ≡ is_strongest d
strongest-passes Kept = refl
strongest-passes d = refl

pub is-kept : (d : Decision) → (d ≡ Untested → ⊥) → is_kept d ≡ true → d ≡ Kept
is-kept Kept u e = refl
is-kept Untested u e = absurd (u refl)
is-kept d u e = cc

pub fresh-tested : (f : Decision → Decision) → f Untested ≡ Kept → (d : Decision) → d ≡ f d → d ≡ Untested → ⊥
fresh-tested f k d e u = let no_ : Untested ≡ Kept = sym u ∙ (e ∙ (ap f u ∙ k)) in cc

-- the marked ones before the next place
pub before-lacks : (list : List Constraint) (marks : List Bool) (at : ℕ) → at < length marks → at < length list → get_or marks at false ≡ false
    → marked (take (at + 1) marks) (take (at + 1) list) ≡ marked (take at marks) (take at list)
before-lacks list marks at lm ll lacks =
    let e : marked (get_or marks at false ∷ []) (get_or list at anything ∷ []) ≡ [] = ap (λ (b : Bool). marked (b ∷ []) (get_or list at anything ∷ [])) lacks in
    rw add-one (marked-next marks list at lm ll ∙ (ap (λ (l : List Constraint). marked (take at marks) (take at list) ++ l) e ∙ append-nil (marked (take at marks) (take at list))))

pub before-has : (list : List Constraint) (marks : List Bool) (at : ℕ) → at < length marks → at < length list → get_or marks at false ≡ true
    → marked (take (at + 1) marks) (take (at + 1) list) ≡ marked (take at marks) (take at list) ++ get_or list at anything ∷ []
before-has list marks at lm ll has =
    let e : marked (get_or marks at false ∷ []) (get_or list at anything ∷ []) ≡ get_or list at anything ∷ [] = ap (λ (b : Bool). marked (b ∷ []) (get_or list at anything ∷ [])) has in
    rw add-one (marked-next marks list at lm ll ∙ ap (λ (l : List Constraint). marked (take at marks) (take at list) ++ l) e)

module _ {n s : ℕ} {list : List Constraint} {old new : List Decision} {at : ℕ} {left : Automaton} {size : ℕ} (in_list : at < length list) (h : IsPassing n s list old new at left size) where
  within : at < length new
  within = let many = h.as_many in omega (arith, many, in_list)

  in_marks : at < length (map is_left new)
  in_marks = let many = h.as_many in let long = length-map new is_left in omega (arith, many, long, in_list)

  -- one that doesn't stand is left alone
  pub passing-on : is_kept (get_or new at Kept) ≡ false → IsPassing n s list old new (at + 1) left size
  passing-on lacks =
      let other = not-strongest (get_or new at Kept) (h.fresh at (omega arith) in_list) lacks in
      let mark : get_or (map is_left new) at false ≡ false = get_or-map is_left new at Kept false within ∙ other.1 in
      let same_list : left_before (at + 1) list new ≡ left_before at list new = before-lacks list (map is_left new) at in_marks in_list mark in
      record {
        as_many = h.as_many;
        same = h.same;
        later = h.later;
        forward = forward-more (Implies n) (Has is_strongest new) list (map is_left new) at h.forward
            (λ has. let no_ : get_or (map is_strongest new) at false ≡ false = get_or-map is_strongest new at Kept false within ∙ other.0 in absurd (cc (has, no_)));
        fresh = λ place le lt. h.fresh place (omega arith) lt;
        automaton = rw same_list h.automaton;
        counted = rw same_list h.counted;
        narrow = rw same_list h.narrow;
      }

  -- one that is left joins
  module _ (kept : is_kept (get_or new at Kept) ≡ true) where
    is : get_or new at Kept ≡ Kept
    is = is-kept (get_or new at Kept) (fresh-tested before_first_pass refl (get_or new at Kept) (h.fresh at (omega arith) in_list)) kept

    has_left : get_or (map is_left new) at false ≡ true
    has_left = get_or-map is_left new at Kept false within ∙ ap is_left is

    longer : left_before (at + 1) list new ≡ left_before at list new ++ get_or list at anything ∷ []
    longer = before-has list (map is_left new) at in_marks in_list has_left

    with_candidate : (w : List ℕ) → IsTrace n w → AcceptsKept left (get_or list at anything) w ↔ KeepsAll (left_before at list new ++ get_or list at anything ∷ []) w
    with_candidate w tw =
        let p = h.automaton.same w tw in (
          λ both. push-keeps (left_before at list new) (get_or list at anything) w (p.0 both.0) both.1,
          λ all. let parts = keeps-push (left_before at list new) (get_or list at anything) w all in (p.1 parts.0, parts.1),
        )

    not_implied : ((w : List ℕ) × IsTrace left.symbols w × AcceptsBroken left (get_or list at anything) w) → Implies n (left_before at list new) (get_or list at anything) → ⊥
    not_implied b implies =
        let tw : IsTrace n b.0 = rw h.automaton.over at b.1 in
        b.2.1 (implies b.0 tw ((h.automaton.same b.0 tw).0 b.2.0))

    pub passing-left : (more : Automaton) → s ≤ 65536 → Extends s left (get_or list at anything) more → ((w : List ℕ) × IsTrace left.symbols w × AcceptsBroken left (get_or list at anything) w)
        → IsPassing n s list old new (at + 1) more (size + 1)
    passing-left more limit x broken = record {
      as_many = h.as_many;
      same = h.same;
      later = h.later;
      forward = forward-more (Implies n) (Has is_strongest new) list (map is_left new) at h.forward (λ q. (λ lacks. absurd (cc (has_left, lacks)), λ implies. absurd (not_implied broken implies)));
      fresh = λ place le lt. h.fresh place (omega arith) lt;
      automaton = rw longer (record {
        over = x.over ∙ h.automaton.over;
        same = λ w tw.
            let p = x.same w (rw h.automaton.over tw) in
            let q = with_candidate w tw in (λ is. q.0 (p.0 is), λ all. p.1 (q.1 all));
        few = let few_ = x.few in omega (arith, few_, limit);
      });
      counted = ap (λ (k : ℕ). k + 1) h.counted ∙ (sym (length_push (left_before at list new) (get_or list at anything)) ∙ ap length (sym longer));
      narrow = rw longer (narrow-push n s (left_before at list new) (get_or list at anything) h.narrow (λ wide.
          x.narrow (wide-over left.symbols n s (AcceptsKept left (get_or list at anything)) (KeepsAll (left_before at list new ++ get_or list at anything ∷ [])) h.automaton.over with_candidate wide)));
    }

    -- one that the others imply is marked
    marks_after : map is_left (set new at FirstPass) ≡ set (map is_left new) at false
    marks_after = map-set is_left new at FirstPass

    front_after : (place : ℕ) → place ≤ at → take place (map is_left (set new at FirstPass)) ≡ take place (map is_left new)
    front_after place le = ap (take place) marks_after ∙ take-set-le place (map is_left new) at false le

    strongest_after : map is_strongest (set new at FirstPass) ≡ map is_strongest new
    strongest_after = map-set_same is_strongest new at FirstPass (sym (ap is_strongest is))

    lacks_after : get_or (map is_left (set new at FirstPass)) at false ≡ false
    lacks_after = ap (λ (l : List Bool). get_or l at false) marks_after ∙ get_or-set_same (map is_left new) at false false in_marks

    list_after : left_before (at + 1) list (set new at FirstPass) ≡ left_before at list new
    list_after =
        let long = length-map (set new at FirstPass) is_left in
        let long_set = length-set new at FirstPass in
        let in_after : at < length (map is_left (set new at FirstPass)) = let w = within in omega (arith, long, long_set, w) in
        before-lacks list (map is_left (set new at FirstPass)) at in_after in_list lacks_after ∙ ap (λ (l : List Bool). marked l (take at list)) (front_after at (omega arith))

    pub passing-implied : HasNoMember left.symbols (AcceptsBroken left (get_or list at anything)) → IsPassing n s list old (set new at FirstPass) (at + 1) left size
    passing-implied none = record {
      as_many = length-set new at FirstPass ∙ h.as_many;
      same = map-set_same before_first_pass new at FirstPass (sym (ap before_first_pass is)) ∙ h.same;
      later = map-set before_second_pass new at FirstPass ∙ ap (λ (l : List Decision). set l at FirstPass) h.later;
      forward = λ place lt q. elim (cases_eq place at) [
        | inl e ↦
            let implies : Implies n (left_before at list new) (get_or list at anything) = none-implies n (left_before at list new) (get_or list at anything) (λ w tw both.
            none w (rw h.automaton.over tw) ((h.automaton.same w tw).1 both.0, both.1)) in
            rw (e, front_after at (omega arith)) (λ lacks. implies, λ i. lacks_after)
        | inr ne ↦
            let before : place < at = omega arith in
            let mark : get_or (map is_left (set new at FirstPass)) place false ≡ get_or (map is_left new) place false =
            ap (λ (l : List Bool). get_or l place false) marks_after ∙ get_or-set_other (map is_left new) at place false false ne in
            let strong : get_or (map is_strongest new) place false ≡ true = rw strongest_after at q in
            rw (mark, front_after place (omega arith)) (h.forward place before strong)
      ];
      fresh = λ place le lt.
          let ne : place ≢ at = omega arith in
          let same_ : get_or (set new at FirstPass) place Kept ≡ get_or new place Kept = get_or-set_other new at place FirstPass Kept ne in
          rw same_ (h.fresh place (omega arith) lt);
      automaton = rw list_after h.automaton;
      counted = rw list_after h.counted;
      narrow = rw list_after h.narrow;
    }

    -- one with which the list is wide ends the pass
    module _ (es : List Decision) (many : length es ≡ length list) (strong : map is_strongest es ≡ map is_strongest old) (told : TellsFirstPass n list es)
        (broken : (w : List ℕ) × IsTrace left.symbols w × AcceptsBroken left (get_or list at anything) w) where
      strong_new : map is_strongest new ≡ map is_strongest es
      strong_new = view_same before_first_pass is_strongest new old strongest-passes h.same ∙ sym strong

      same_before : take at (map is_left new) ≡ take at (map is_left es)
      same_before = left_same_below n list new es at h.as_many many strong_new (omega arith) h.forward told

      has_es : get_or (map is_left es) at false ≡ true
      has_es =
          let strong_at : get_or (map is_strongest es) at false ≡ true = ap (λ (l : List Bool). get_or l at false) (sym strong_new) ∙ (get_or-map is_strongest new at Kept false within ∙ ap is_strongest is) in
          let says = first_pass_forward n list es many told at in_list strong_at in
          elim (true_or_false (get_or (map is_left es) at false)) [
            | inl has ↦ has
            | inr lacks ↦
                let implies : Implies n (marked (take at (map is_left new)) (take at list)) (get_or list at anything) = rw same_before (says.0 lacks) in
                absurd (not_implied broken implies)
          ]

      split_es : those is_left list es ≡ left_before at list new ++ get_or list at anything ∷ marked (drop (suc at) (map is_left es)) (drop (suc at) list)
      split_es =
          let long = length-map es is_left in
          let in_es : at < length (map is_left es) = omega (arith, long, many, in_list) in
          let marks : drop at (map is_left es) ≡ true ∷ drop (suc at) (map is_left es) = drop-cons (map is_left es) at false in_es ∙ ap (λ (b : Bool). b ∷ drop (suc at) (map is_left es)) has_es in
          let there : drop at list ≡ get_or list at anything ∷ drop (suc at) list = drop-cons list at anything in_list in
          let front : marked (take at (map is_left es)) (take at list) ≡ left_before at list new = ap (λ (l : List Bool). marked l (take at list)) (sym same_before) in
          let back : marked (drop at (map is_left es)) (drop at list) ≡ get_or list at anything ∷ marked (drop (suc at) (map is_left es)) (drop (suc at) list) = rw (marks, there) refl in
          marked-split (map is_left es) list at ∙ (ap (λ (l : List Constraint). l ++ marked (drop at (map is_left es)) (drop at list)) front ∙ ap (λ (l : List Constraint). left_before at list new ++ l) back)

      pub passing-refused : IsWide left.symbols (AcceptsKept left (get_or list at anything)) s → IsFirstOfWide n s (in_phase 2 (up_to_each [] (those is_left list es))) 2 (size + 1)
      passing-refused wide =
          let wide_list : IsWide n (KeepsAll (left_before at list new ++ get_or list at anything ∷ [])) s =
          over-wide left.symbols n s (AcceptsKept left (get_or list at anything)) (KeepsAll (left_before at list new ++ get_or list at anything ∷ [])) h.automaton.over
          with_candidate wide in
          let first = up-first n s 2 (left_before at list new) (get_or list at anything) (marked (drop (suc at) (map is_left es)) (drop (suc at) list)) h.narrow wide_list in
          rw (split_es, h.counted) first

-- ---- the end

pub passing-all : {n s : ℕ} {list : List Constraint} {old new : List Decision} {at : ℕ} {left : Automaton} {size : ℕ} → length list ≤ at → IsPassing n s list old new at left size → IsFirstPassed n s list old new
passing-all {n = n} {s = s} {list = list} {old = old} {new = new} {at = at} past h =
    let many = h.as_many in
    let long = length-map new is_left in
    let marks : take at (map is_left new) ≡ map is_left new = take_all at (map is_left new) (omega (arith, many, long, past)) in
    let all_ : take at list ≡ list = take_all at list past in
    let narrow : IsNarrowList n s (those is_left list new) = rw marks at (rw all_ at h.narrow) in
    record {
      same = h.same;
      first_pass = forward_first_pass n list new h.as_many (λ place lt q. h.forward place (omega (arith, lt, past)) q);
      later = h.later;
      narrow = phase-narrow n s 2 (up_to_each [] (those is_left list new)) (up-narrow n s [] (those is_left list new) narrow);
    }

pub length-marked : (marks : List Bool) (list : List Constraint) → length (marked marks list) ≤ length list
length-marked [] list = omega arith
length-marked (m ∷ marks) [] = omega arith
length-marked (true ∷ marks) (c ∷ list) = let ih = length-marked marks list in omega (arith, ih)
length-marked (false ∷ marks) (c ∷ list) = let ih = length-marked marks list in omega (arith, ih)

pub passing-size : {n s : ℕ} {list : List Constraint} {old new : List Decision} {at : ℕ} {left : Automaton} {size : ℕ} → IsPassing n s list old new at left size → size ≤ length list
passing-size {n = n} {s = s} {list = list} {old = old} {new = new} {at = at} h =
    let counted = h.counted in
    let few = length-marked (take at (map is_left new)) (take at list) in
    let front = length-take_le at list in
    omega (arith, counted, few, front)

-- ---- the prefixes that are kept

-- what is left so far
pub passing-prefix : {n s : ℕ} {list : List Constraint} {old new : List Decision} (prefix : Prefix) → prefix.place ≤ length list → IsPassing n s list old new prefix.place prefix.dfa prefix.length
    → IsPrefixUpTo n s list (map is_left new) prefix.place prefix
passing-prefix prefix le h = record {
  before = omega arith;
  is = record {
    within = le;
    automaton = h.automaton;
    counted = h.counted;
    narrow = h.narrow;
  };
}

-- a mark of the first pass stands behind them
pub marked-later : (new : List Decision) (at : ℕ) (d : Decision) (place : ℕ) → place ≤ at → take place (map is_left (set new at d)) ≡ take place (map is_left new)
marked-later new at d place le = ap (take place) (map-set is_left new at d) ∙ take-set-le place (map is_left new) at (is_left d) le

-- the one that every trace keeps
pub kept-first : (n s : ℕ) (list : List Constraint) (marks : List Bool) (prefixes : List Prefix) → 1 ≤ s → IsFirstPrefixAlone n prefixes → AreKeptUpTo n s list marks 0 prefixes
kept-first n s list marks prefixes some first =
    let place_ = first.empty.place in
    let none = first.empty.none in
    let is : IsPrefixUpTo n s list marks 0 first.prefix = record {
      before = omega arith;
      is = record {
        within = omega arith;
        automaton = rw place_ (every-automaton n first.prefix.dfa first.empty.every);
        counted = rw (place_, none) refl;
        narrow = rw place_ (λ size wide. empty-narrow n s some (rw (take-nil size) at wide));
      };
    } in
    rw first.alone (record {
      some = omega arith;
      first = λ d. place_;
      are = All-cons (IsPrefixUpTo n s list marks 0) first.prefix [] is (All-nil (IsPrefixUpTo n s list marks 0));
    })
