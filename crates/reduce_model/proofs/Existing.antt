-- That a list of candidates has no reduction can't be.
use Rattle.std.proofs.Common.{◌≡◌, ◌↔◌, ◌⊎◌, ℕ, zero, suc, ◌+◌, ◌<◌, ◌≤◌, inl, inr, List, [], ◌∷◌, ◌++◌, Bool, true, false, Option, None, Some, length, map, take, drop, get_or, set, refl, sym, ap, ◌∙◌, subst, arith, get_or-set_same, get_or-set_other}
use Rattle.std.specs.List.{AllByRecursion}
use Rattle.std.proofs.lemmas.Bool.{cases_eq, cases_lt}
use Rattle.std.proofs.lemmas.List.{drop-set-lt, ext_get_or, get_or-map, get_or_append_left, get_or_push, length-map, length-set, length_push, take-append-le, take_all}
use Rattle.template_core.specs.declared.constraint.Constraint.{Constraint}
use Rattle.reduce_model.proofs.Determined.{Always, Conflicts, ImpliesWith, backward_second_pass, forward_conflicts, forward_first_pass}
use Rattle.reduce_model.proofs.Marks.{IsBackward, IsForward, true_or_false}
use Rattle.list_dfa.proofs.Keeping.{anything}
use Rattle.reduce_model.proofs.Prunes.{above-within}
use Rattle.reduce_model.proofs.Writes.{first_above-unique, weaker-tells}
use Rattle.reduce_model.specs.Deciding.{is_at_limit, is_consistent, is_kept, is_left, is_strongest, marked}
use Rattle.decl_base.specs.declared.refusal.Refusal.TheVariants.{States}
use Rattle.reduce_model.proofs.Lists.{first-unique}
use Rattle.reduce_model.specs.Building.{built_lists}
use Rattle.reduce_model.specs.Reduction.{Implies, IsAbove, IsFirstAbove, IsReduced, RefusesReduction}
use Rattle.reduce_model.specs.declared.decision.Decision.{Decision}
use Rattle.reduce_model.specs.declared.decision.Decision.TheVariants.{Kept, Conflict, Weaker, FirstPass, SecondPass}

-- a fact that can't fail
abbrev pub CantFail : Type 0 → Type 0
CantFail P = (P → ⊥) → ⊥

either : (P : Type 0) → CantFail (P ⊎ (P → ⊥))
either P k = k (inr (λ p. k (inl p)))

-- marks within other marks
abbrev pub Within : List Bool → (ℕ → Bool) → Type 0
Within v q = (place : ℕ) → get_or v place false ≡ true → q place ≡ true

-- ---- forward

record MarksTo (F : List Constraint → Constraint → Type 0) (q : ℕ → Bool) (list : List Constraint) (bound : ℕ) : Type 0 where
  pub v : List Bool
  pub long : length v ≡ bound
  pub forward : IsForward F (λ place. q place ≡ true) list v bound
  pub within : Within v q

past-end : (v : List Bool) (place : ℕ) → length v ≤ place → get_or v place false ≡ false
past-end [] place le = refl
past-end (a ∷ v) zero le = absurd (omega (arith, le))
past-end (a ∷ v) (suc place) le = past-end v place (omega (arith, le))

-- what is said of each place up to one more that is put behind
pushed-each : {A : Type 0} (P : ℕ → A → Type 0) (xs : List A) (x d : A) (i : ℕ) → length xs ≡ i → ((place : ℕ) → place < i → P place (get_or xs place d)) → P i x
    → (place : ℕ) → place < suc i → P place (get_or (xs ++ x ∷ []) place d)
pushed-each P xs x d i long each here place lt = elim (cases_lt place i) [
  | inl before ↦ rw (get_or_append_left xs (x ∷ []) d place (omega (arith, long, before))) (each place before)
  | inr le ↦
      let e : place ≡ i = omega arith in
      rw (e, get_or_push xs x d i long) here
]

push : (F : List Constraint → Constraint → Type 0) (q : ℕ → Bool) (list : List Constraint) (i : ℕ) (h : MarksTo F q list i) (x : Bool) → (x ≡ true → q i ≡ true)
    → (q i ≡ true → x ≡ false ↔ F (marked h.v (take i list)) (get_or list i anything)) → MarksTo F q list (suc i)
push F q list i h x inside says =
    let long = h.long in
    record {
      v = h.v ++ x ∷ [];
      long = length_push h.v x ∙ omega arith;
      forward = pushed-each (λ place mark. q place ≡ true → mark ≡ false ↔ F (marked (take place (h.v ++ x ∷ [])) (take place list)) (get_or list place anything)) h.v x false i long
          (λ place before holds. rw (take-append-le place h.v (x ∷ []) (omega arith)) (h.forward place before holds))
          (λ holds. let e : take i (h.v ++ x ∷ []) ≡ h.v = take-append-le i h.v (x ∷ []) (omega arith) ∙ take_all i h.v (omega arith) in rw e (says holds));
      within = λ place has. elim (cases_lt place i) [
        | inl before ↦ h.within place (sym (get_or_append_left h.v (x ∷ []) false place (omega arith)) ∙ has)
        | inr le ↦ elim (cases_eq place i) [
          | inl e ↦ let there : get_or (h.v ++ x ∷ []) i false ≡ true = rw e at has in rw e (inside (sym (get_or_push h.v x false i long) ∙ there))
          | inr ne ↦ let past_ = past-end (h.v ++ x ∷ []) place (let l = length_push h.v x in omega (arith, l)) in absurd (cc (past_, has))
        ]
      ];
    }

forward-exists : (F : List Constraint → Constraint → Type 0) (q : ℕ → Bool) (list : List Constraint) (i : ℕ) → CantFail (MarksTo F q list i)
forward-exists F q list zero k = k (record {
  v = [];
  long = refl;
  forward = λ place lt holds. absurd (omega (arith, lt));
  within = λ place has. cc;
})
forward-exists F q list (suc i) k = forward-exists F q list i (λ h. elim (true_or_false (q i)) [
  | inl has ↦ either (F (marked h.v (take i list)) (get_or list i anything)) (λ d. elim d [
    | inl f ↦ k (push F q list i h false (λ e. cc) (λ holds. (λ e. f, λ g. refl)))
    | inr nf ↦ k (push F q list i h true (λ e. has) (λ holds. (λ e. cc, λ g. absurd (nf g))))
  ])
  | inr lacks ↦ k (push F q list i h false (λ e. cc) (λ holds. absurd (cc (holds, lacks))))
])

-- ---- backward

record MarksFrom (F : ℕ → List Constraint → Constraint → Type 0) (q : ℕ → Bool) (list : List Constraint) (bound : ℕ) : Type 0 where
  pub v : List Bool
  pub long : length v ≡ length list
  pub backward : IsBackward F (λ place. q place ≡ true) list v bound
  pub within : Within v q

write : (F : ℕ → List Constraint → Constraint → Type 0) (q : ℕ → Bool) (list : List Constraint) (i : ℕ) (h : MarksFrom F q list (suc i)) (x : Bool) → i < length list → (x ≡ true → q i ≡ true)
    → (q i ≡ true → x ≡ false ↔ F i (marked (drop (suc i) h.v) (drop (suc i) list)) (get_or list i anything)) → MarksFrom F q list i
write F q list i h x lt inside says =
    let long = h.long in
    let in_v : i < length h.v = omega arith in
    record {
      v = set h.v i x;
      long = length-set h.v i x ∙ long;
      backward = λ place le in_list holds. elim (cases_eq place i) [
        | inl e ↦
            let e1 : get_or (set h.v i x) i false ≡ x = get_or-set_same h.v i x false in_v in
            let e2 : drop (suc i) (set h.v i x) ≡ drop (suc i) h.v = drop-set-lt (suc i) h.v i x (omega arith) in
            rw (e, e1, e2) (says (rw e at holds))
        | inr ne ↦
            let e1 : get_or (set h.v i x) place false ≡ get_or h.v place false = get_or-set_other h.v i place x false ne in
            let e2 : drop (suc place) (set h.v i x) ≡ drop (suc place) h.v = drop-set-lt (suc place) h.v i x (omega arith) in
            rw (e1, e2) (h.backward place (omega arith) in_list holds)
      ];
      within = λ place has. elim (cases_eq place i) [
        | inl e ↦ let there : get_or (set h.v i x) i false ≡ true = rw e at has in rw e (inside (sym (get_or-set_same h.v i x false in_v) ∙ there))
        | inr ne ↦ h.within place (sym (get_or-set_other h.v i place x false ne) ∙ has)
      ];
    }

none-marked : List Constraint → List Bool
none-marked [] = []
none-marked (c ∷ list) = false ∷ none-marked list

length-none : (list : List Constraint) → length (none-marked list) ≡ length list
unfolding none-marked
length-none [] = refl
length-none (c ∷ list) = ap suc (length-none list)

get_or-none : (list : List Constraint) (place : ℕ) → get_or (none-marked list) place false ≡ false
unfolding none-marked
get_or-none [] place = refl
get_or-none (c ∷ list) zero = refl
get_or-none (c ∷ list) (suc place) = get_or-none list place

backward-exists : (F : ℕ → List Constraint → Constraint → Type 0) (q : ℕ → Bool) (list : List Constraint) (left bound : ℕ) → bound + left ≡ length list → CantFail (MarksFrom F q list bound)
backward-exists F q list zero bound e k = k (record {
  v = none-marked list;
  long = length-none list;
  backward = λ place le lt holds. absurd (omega (arith, e, le, lt));
  within = λ place has. let lacks = get_or-none list place in absurd (cc (lacks, has));
})
backward-exists F q list (suc left) bound e k = backward-exists F q list left (suc bound) (omega arith) (λ h.
    let lt : bound < length list = omega arith in
    elim (true_or_false (q bound)) [
      | inl has ↦ either (F bound (marked (drop (suc bound) h.v) (drop (suc bound) list)) (get_or list bound anything)) (λ d. elim d [
        | inl f ↦ k (write F q list bound h false lt (λ e. cc) (λ holds. (λ e. f, λ g. refl)))
        | inr nf ↦ k (write F q list bound h true lt (λ e. has) (λ holds. (λ e. cc, λ g. absurd (nf g))))
      ])
      | inr lacks ↦ k (write F q list bound h false lt (λ e. cc) (λ holds. absurd (cc (holds, lacks))))
    ])

-- ---- the weaker ones

first-exists : (list : List Constraint) (marks : List Bool) (c : Constraint) (bound : ℕ)
    → CantFail (((by : ℕ) × IsFirstAbove list marks c by) ⊎ ((place : ℕ) → place < bound → IsAbove list marks c place → ⊥))
first-exists list marks c zero k = k (inr (λ place lt is. omega (arith, lt)))
first-exists list marks c (suc bound) k = first-exists list marks c bound (λ d. elim d [
  | inl found ↦ k (inl found)
  | inr none ↦ either (IsAbove list marks c bound) (λ e. elim e [
    | inl is ↦ k (inl (
      bound,
      record {
        above = is;
        first = λ earlier lt there. none earlier lt there;
      },
    ))
    | inr not_ ↦ k (inr (λ place lt is. elim (cases_eq place bound) [
      | inl same ↦ not_ (rw same at is)
      | inr ne ↦ none place (omega arith) is
    ]))
  ])
])

record WeakerTo (list : List Constraint) (marks : List Bool) (bound : ℕ) : Type 0 where
  pub ws : List (Option ℕ)
  pub long : length ws ≡ bound
  pub says : (place : ℕ) → place < bound → (by : ℕ) → get_or ws place None ≡ Some by ↔ IsFirstAbove list marks (get_or list place anything) by

add : (list : List Constraint) (marks : List Bool) (i : ℕ) (h : WeakerTo list marks i) (o : Option ℕ) → ((by : ℕ) → o ≡ Some by ↔ IsFirstAbove list marks (get_or list i anything) by) → WeakerTo list marks (suc i)
add list marks i h o says =
    let long = h.long in
    record {
      ws = h.ws ++ o ∷ [];
      long = length_push h.ws o ∙ omega arith;
      says = pushed-each (λ place found. (by : ℕ) → found ≡ Some by ↔ IsFirstAbove list marks (get_or list place anything) by) h.ws o None i long h.says says;
    }

weaker-exists : (list : List Constraint) (marks : List Bool) (i : ℕ) → CantFail (WeakerTo list marks i)
weaker-exists list marks zero k = k (record {
  ws = [];
  long = refl;
  says = λ place lt by. absurd (omega (arith, lt));
})
weaker-exists list marks (suc i) k = weaker-exists list marks i (λ h. first-exists list marks (get_or list i anything) (length list) (λ d. elim d [
  | inl found ↦ k (add list marks i h (Some found.0) (λ by. (
    λ e. let same : found.0 ≡ by = cc in rw same at found.1,
    λ f. ap Some (first_above-unique list marks (get_or list i anything) found.0 by found.1 f),
  )))
  | inr none ↦ k (add list marks i h None (λ by. (λ e. cc, λ f. absurd (none by (above-within list marks (get_or list i anything) by f.above) f.above))))
]))

-- ---- the decisions of marks

decide_left : Bool → Bool → Decision
decide_left true true = Kept
decide_left true false = SecondPass
decide_left false kept = FirstPass

decide : Bool → Option ℕ → Bool → Bool → Decision
decide false w left kept = Conflict
decide true (Some by) left kept = Weaker by
decide true None left kept = decide_left left kept

decisions_of : List Constraint → List Bool → List (Option ℕ) → List Bool → List Bool → ℕ → List Decision
decisions_of [] c w l k place = []
decisions_of (x ∷ list) c w l k place = decide (get_or c place false) (get_or w place None) (get_or l place false) (get_or k place false) ∷ decisions_of list c w l k (suc place)

length-decisions_of : (list : List Constraint) (c : List Bool) (w : List (Option ℕ)) (l k : List Bool) (start : ℕ) → length (decisions_of list c w l k start) ≡ length list
unfolding decisions_of
length-decisions_of [] c w l k start = refl
length-decisions_of (x ∷ list) c w l k start = ap suc (length-decisions_of list c w l k (suc start))

get_or-decisions_of : (list : List Constraint) (c : List Bool) (w : List (Option ℕ)) (l k : List Bool) (start place at : ℕ) → start + place ≡ at → place < length list
    → get_or (decisions_of list c w l k start) place Kept ≡ decide (get_or c at false) (get_or w at None) (get_or l at false) (get_or k at false)
unfolding decisions_of
get_or-decisions_of [] c w l k start place at e lt = absurd (omega (arith, lt))
get_or-decisions_of (x ∷ list) c w l k start zero at e lt = let same : start ≡ at = omega arith in rw same refl
get_or-decisions_of (x ∷ list) c w l k start (suc place) at e lt = get_or-decisions_of list c w l k (suc start) place at (omega arith) (omega (arith, lt))

limit-decide : (a : Bool) (w : Option ℕ) (l k : Bool) → is_at_limit (decide a w l k) ≡ false
unfolding decide decide_left
limit-decide false w l k = refl
limit-decide true (Some by) l k = refl
limit-decide true None true true = refl
limit-decide true None true false = refl
limit-decide true None false k = refl

none-decisions_of : (list : List Constraint) (c : List Bool) (w : List (Option ℕ)) (l k : List Bool) (start : ℕ) → AllByRecursion (λ (d : Decision). is_at_limit d ≡ false) (decisions_of list c w l k start)
unfolding decisions_of
none-decisions_of [] c w l k start = tt
none-decisions_of (x ∷ list) c w l k start = (limit-decide (get_or c start false) (get_or w start None) (get_or l start false) (get_or k start false), none-decisions_of list c w l k (suc start))

strongest_mark : Bool → Option ℕ → Bool
strongest_mark false w = false
strongest_mark true (Some by) = false
strongest_mark true None = true

true-left : (test : Decision → Bool) → test Kept ≡ true → test SecondPass ≡ true → test FirstPass ≡ true → (l k : Bool) → test (decide_left l k) ≡ true
unfolding decide_left
true-left test kept second first true true = kept
true-left test kept second first true false = second
true-left test kept second first false k = first

consistent-decide : (a : Bool) (w : Option ℕ) (l k : Bool) → is_consistent (decide a w l k) ≡ a
unfolding decide
consistent-decide false w l k = refl
consistent-decide true (Some by) l k = refl
consistent-decide true None l k = true-left is_consistent refl refl refl l k

strongest-decide : (a : Bool) (w : Option ℕ) (l k : Bool) → is_strongest (decide a w l k) ≡ strongest_mark a w
unfolding decide strongest_mark
strongest-decide false w l k = refl
strongest-decide true (Some by) l k = refl
strongest-decide true None l k = true-left is_strongest refl refl refl l k

left-left : (l k : Bool) → is_left (decide_left l k) ≡ l
unfolding decide_left
left-left true true = refl
left-left true false = refl
left-left false k = refl

left-decide : (a : Bool) (w : Option ℕ) (l k : Bool) → (l ≡ true → strongest_mark a w ≡ true) → is_left (decide a w l k) ≡ l
unfolding decide strongest_mark
left-decide false w true k h = absurd (let e = h refl in cc)
left-decide false w false k h = refl
left-decide true (Some by) true k h = absurd (let e = h refl in cc)
left-decide true (Some by) false k h = refl
left-decide true None l k h = left-left l k

kept-left : (l k : Bool) → (k ≡ true → l ≡ true) → is_kept (decide_left l k) ≡ k
unfolding decide_left
kept-left true true h = refl
kept-left true false h = refl
kept-left false true h = absurd (let e = h refl in cc)
kept-left false false h = refl

kept-decide : (a : Bool) (w : Option ℕ) (l k : Bool) → (l ≡ true → strongest_mark a w ≡ true) → (k ≡ true → l ≡ true) → is_kept (decide a w l k) ≡ k
unfolding decide strongest_mark
kept-decide false w l true h g = absurd (let e = h (g refl) in cc)
kept-decide false w l false h g = refl
kept-decide true (Some by) l true h g = absurd (let e = h (g refl) in cc)
kept-decide true (Some by) l false h g = refl
kept-decide true None l k h g = kept-left l k g

weaker-left : (l k : Bool) (by : ℕ) → decide_left l k ≡ Weaker by → ⊥
unfolding decide_left
weaker-left true true by e = cc
weaker-left true false by e = cc
weaker-left false k by e = cc

weaker-decide : (a : Bool) (w : Option ℕ) (l k : Bool) (by : ℕ) → a ≡ true → decide a w l k ≡ Weaker by ↔ w ≡ Some by
unfolding decide
weaker-decide false w l k by e = absurd (cc e)
weaker-decide true (Some other) l k by e = (λ i. let same : other ≡ by = cc in ap Some same, λ i. let same : other ≡ by = cc in ap Weaker same)
weaker-decide true None l k by e = (λ i. absurd (weaker-left l k by i), λ i. cc)

module _ (n : ℕ) (list : List Constraint) (hc : MarksTo (Conflicts n) (λ place. true) list (length list)) (hw : WeakerTo list hc.v (length list))
    (hl : MarksTo (Implies n) (λ place. strongest_mark (get_or hc.v place false) (get_or hw.ws place None)) list (length list))
    (hk : MarksFrom (ImpliesWith n list hl.v) (λ place. get_or hl.v place false) list 0) where
  ds : List Decision
  ds = decisions_of list hc.v hw.ws hl.v hk.v 0

  many : length ds ≡ length list
  unfolding ds
  many = length-decisions_of list hc.v hw.ws hl.v hk.v 0

  none : AllByRecursion (λ (d : Decision). is_at_limit d ≡ false) ds
  unfolding ds
  none = none-decisions_of list hc.v hw.ws hl.v hk.v 0

  at : (place : ℕ) → place < length list → get_or ds place Kept ≡ decide (get_or hc.v place false) (get_or hw.ws place None) (get_or hl.v place false) (get_or hk.v place false)
  unfolding ds
  at place lt = get_or-decisions_of list hc.v hw.ws hl.v hk.v 0 place place (omega arith) lt

  view : (test : Decision → Bool) (v : List Bool) → length v ≡ length list
      → ((place : ℕ) → place < length list → test (decide (get_or hc.v place false) (get_or hw.ws place None) (get_or hl.v place false) (get_or hk.v place false)) ≡ get_or v place false) → map test ds ≡ v
  view test v long h =
      let m = many in
      let lm = length-map ds test in
      ext_get_or false (map test ds) v (lm ∙ (m ∙ sym long)) (λ place lt.
      let inside : place < length list = omega (arith, lm, m, lt) in
      get_or-map test ds place Kept false (omega (arith, lm, lt)) ∙ (ap test (at place inside) ∙ h place inside))

  consistent_view : map is_consistent ds ≡ hc.v
  consistent_view = view is_consistent hc.v hc.long (λ place lt. consistent-decide (get_or hc.v place false) (get_or hw.ws place None) (get_or hl.v place false) (get_or hk.v place false))

  left_view : map is_left ds ≡ hl.v
  left_view = view is_left hl.v hl.long (λ place lt. left-decide (get_or hc.v place false) (get_or hw.ws place None) (get_or hl.v place false) (get_or hk.v place false) (hl.within place))

  kept_view : map is_kept ds ≡ hk.v
  kept_view = view is_kept hk.v hk.long (λ place lt. kept-decide (get_or hc.v place false) (get_or hw.ws place None) (get_or hl.v place false) (get_or hk.v place false) (hl.within place) (hk.within place))

  is_reduced : IsReduced n list ds
  is_reduced = record {
    as_many = many;
    none_at_limit = none;
    conflicts = forward_conflicts n list ds many none (subst (λ (v : List Bool). IsForward (Conflicts n) Always list v (length list)) (sym consistent_view) (λ place lt q. hc.forward place lt refl));
    weaker = weaker-tells list ds many (λ place lt by consistent.
        let has : get_or hc.v place false ≡ true =
        sym (consistent-decide (get_or hc.v place false) (get_or hw.ws place None) (get_or hl.v place false) (get_or hk.v place false)) ∙ (ap is_consistent (sym (at place lt)) ∙ consistent) in
        let one = weaker-decide (get_or hc.v place false) (get_or hw.ws place None) (get_or hl.v place false) (get_or hk.v place false) by has in
        let two = hw.says place lt by in
        rw (at place lt, consistent_view) (λ e. two.0 (one.0 e), λ f. one.1 (two.1 f)));
    first_pass = forward_first_pass n list ds many (λ place lt q.
        let m = many in
        let holds : strongest_mark (get_or hc.v place false) (get_or hw.ws place None) ≡ true =
        sym (strongest-decide (get_or hc.v place false) (get_or hw.ws place None) (get_or hl.v place false) (get_or hk.v place false))
        ∙ (ap is_strongest (sym (at place lt)) ∙ (sym (get_or-map is_strongest ds place Kept false (omega (arith, m, lt))) ∙ q)) in
        rw left_view (hl.forward place lt holds));
    second_pass = backward_second_pass n list ds many (λ place le lt q.
        let holds : get_or hl.v place false ≡ true = rw left_view at q in
        rw (left_view, kept_view) (hk.backward place le lt holds));
  }

-- it can't be that a list of candidates has no reduction
pub exists : (n : ℕ) (list : List Constraint) → CantFail ((decisions : List Decision) × IsReduced n list decisions)
exists n list k =
    forward-exists (Conflicts n) (λ place. true) list (length list) (λ hc.
    weaker-exists list hc.v (length list) (λ hw.
    forward-exists (Implies n) (λ place. strongest_mark (get_or hc.v place false) (get_or hw.ws place None)) list (length list) (λ hl.
    backward-exists (ImpliesWith n list hl.v) (λ place. get_or hl.v place false) list (length list) 0 (omega arith) (λ hk. k (ds n list hc hw hl hk, is_reduced n list hc hw hl hk)))))

pub refusal_unique : (n s : ℕ) (list : List Constraint) (p q a b : ℕ) → RefusesReduction n s list (States p a) → RefusesReduction n s list (States q b) → (p ≡ q) × (a ≡ b)
refusal_unique n s list p q a b h g =
    let same : CantFail ((p ≡ q) × (a ≡ b)) = λ k. exists n list (λ r. k (first-unique n s (built_lists list r.0) p q a b (h r.0 r.1) (g r.0 r.1))) in
    (elim (cases_eq p q) [ inl e ↦ e | inr ne ↦ absurd (same (λ both. ne both.0)) ], elim (cases_eq a b) [ inl e ↦ e | inr ne ↦ absurd (same (λ both. ne both.1)) ])
