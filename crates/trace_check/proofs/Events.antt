-- Constraints of two activities, by the places of their events.
use Rattle.std.proofs.Common.{◌≡◌, ◌≢◌, ◌⊎◌, ◌↔◌, ℕ, suc, ◌+◌, ◌-◌, ◌<◌, ◌≤◌, List, [], ◌∷◌, Bool, true, false, ◌&&◌, ◌||◌, cond, min, drop, get_or, nat_eq, length, count_by, Option, None, Some, refl, sym, ap, ◌∙◌, subst, arith, ⊎_elim, inl, inr}
use Rattle.std.proofs.lemmas.Bool.{true≢false, cases_lt, or_cases, or_left, or_right}
use Rattle.std.proofs.lemmas.Option.{slice_get_within}
use Rattle.std.specs.Option.{is_some}
use Rattle.template_core.proofs.ByPlaces.{fulfilled-iff}
use Rattle.template_core.proofs.KeepsTest.{keeps-is}
use Rattle.template_core.proofs.Places.{count_places-same}
use Rattle.template_core.proofs.Made.{made-in}
use Rattle.template_core.specs.Constraints.{arity, IsWellMade, IsWellMadeIn}
use Rattle.template_core.specs.Events.{one_if, count_places, at_head, at_place}
use Rattle.template_core.specs.Groups.{group_of, activities_of}
use Rattle.template_core.specs.Places.{EventIs, SomeIs, LaterIs, EarlierIs, PreviousIs, AtEach, AlternatesLater as AlternatesLaterAt, AlternatesEarlier as AlternatesEarlierAt}
use Rattle.template_core.specs.Repertoire.{each_of, is_activated, is_fulfilled, keeps}
use Rattle.template_core.specs.declared.group.Group.{Group}
use Rattle.template_core.specs.declared.group.Group.TheVariants.{Existence}
use Rattle.template_core.specs.declared.kind.Kind.{Kind}
use Rattle.template_core.specs.declared.kind.Kind.TheVariants.{Init, End, Participation, AtMostOne, ChainSuccession, AlternateSuccession, Succession, CoExistence, ChainResponse, AlternateResponse, Response, ChainPrecedence, AlternatePrecedence, Precedence, RespondedExistence, NotCoExistence, NotSuccession, NotChainSuccession, Exactly, AtLeast, AtMost, NotRespondedExistence, NotResponse, NotPrecedence, NotChainResponse, NotChainPrecedence}
use Rattle.trace_check.specs.Checking.{first_place}
use Rattle.trace_check.specs.Demands.{Demanded, IsTest, demands_of}
use Rattle.trace_check.specs.Sides.{IsSide, IsJoined}
use Rattle.trace_check.specs.Standing.{places_from, IsFirstFailing}
use Rattle.trace_check.specs.Tallies.{earliest, tally_of}
use Rattle.trace_check.specs.declared.demand.Demand.{Demand}
use Rattle.trace_check.specs.declared.side.Side.{Side}
use Rattle.trace_check.specs.declared.tally.Tally.{Tally}
use Rattle.trace_check.proofs.Counting.{stands, stands-iff, count_fulfilled, count_activated, count_places-none, count_places-split, first_failing}
use Rattle.trace_check.proofs.Standing.{stand}

-- ---- the first place that passes one test and fails another, counted from n

abbrev FirstOf : (ℕ → Bool) → (ℕ → Bool) → ℕ → Option ℕ → Type 0
FirstOf act ful n None = (i : ℕ) → act i ≡ true → ful i ≡ true
FirstOf act ful n (Some x) = (i : ℕ) × (x ≡ n + i) × (act i ≡ true) × (ful i ≡ false) × ((j : ℕ) → j < i → act j ≡ true → ful j ≡ true)

first-same : (p q ful : ℕ → Bool) (n : ℕ) (o : Option ℕ) → ((i : ℕ) → q i ≡ p i) → FirstOf p ful n o → FirstOf q ful n o
first-same p q ful n None same h = λ i e. h i (sym (same i) ∙ e)
first-same p q ful n (Some x) same h = (h.0, h.1, same h.0 ∙ h.2, h.3, λ j lt e. h.4 j lt (sym (same j) ∙ e))

first-joined : (p q ful : ℕ → Bool) (n : ℕ) (o r : Option ℕ) → FirstOf p ful n o → FirstOf q ful n r → FirstOf (λ i. p i || q i) ful n (earliest o r)
first-joined p q ful n None None h g = λ i e. ⊎_elim (h i) (g i) (or_cases (p i) (q i) e)
first-joined p q ful n None (Some y) h g = (g.0, g.1, or_right (p g.0) (q g.0) g.2, g.3, λ j lt e. ⊎_elim (h j) (g.4 j lt) (or_cases (p j) (q j) e))
first-joined p q ful n (Some x) None h g = (h.0, h.1, or_left (p h.0) (q h.0) h.2, h.3, λ j lt e. ⊎_elim (h.4 j lt) (g j) (or_cases (p j) (q j) e))
first-joined p q ful n (Some x) (Some y) h g = ⊎_elim other own (cases_lt y x)
  where
    own : x ≤ y → FirstOf (λ i. p i || q i) ful n (Some (min x y))
    own le = (h.0, omega (arith, h.1), or_left (p h.0) (q h.0) h.2, h.3, λ j lt e. ⊎_elim (h.4 j lt) (g.4 j (omega (arith, h.1, g.1))) (or_cases (p j) (q j) e))

    other : y < x → FirstOf (λ i. p i || q i) ful n (Some (min x y))
    other less = (g.0, omega (arith, g.1), or_right (p g.0) (q g.0) g.2, g.3, λ j lt e. ⊎_elim (h.4 j (omega (arith, h.1, g.1))) (g.4 j lt) (or_cases (p j) (q j) e))

first-of : (c n : ℕ) (t own : List ℕ) → own ≡ places_from c n t → (ful : ℕ → Bool) (o : Option ℕ) → IsFirstFailing (λ x. ful (x - n)) own (length own) o → FirstOf (stands c t) ful n o
first-of c n t own are ful None h = λ i e.
    let here = stand c n t own are in
    let w = here.all i ((stands-iff c t i).0 e) in
    ap ful {x = i} {y = get_or own w.0 0 - n} (omega (arith, w.2)) ∙ h w.0 w.1
first-of c n t own are ful (Some x) h =
    let here = stand c n t own are in
    let low : n ≤ x = omega (arith, here.above h.0 0 h.1, h.2) in
    let at : EventIs c t (x - n) = subst (λ m. EventIs c t (m - n)) h.2 (here.inside h.0 h.1) in (
      x - n,
      omega arith,
      (stands-iff c t (x - n)).1 at,
      h.3,
      λ j lt e.
          let w = here.all j ((stands-iff c t j).0 e) in
          let up : w.0 < h.0 =
          ⊎_elim (λ l. l)
          (λ ge. ⊎_elim (λ l. absurd (omega (arith, here.ascends h.0 w.0 0 l w.1, w.2, h.2)))
          (λ le. absurd (omega (arith, ap (λ m. get_or own m 0) {x = w.0} {y = h.0} (omega arith), w.2, h.2))) (cases_lt h.0 w.0)) (cases_lt w.0 h.0) in
          ap ful {x = j} {y = get_or own w.0 0 - n} (omega (arith, w.2)) ∙ h.4 w.0 up,
    )

-- ---- what one side says

record Means (w : Bool) (c n : ℕ) (t : List ℕ) (ful : ℕ → Bool) (side : Side) : Type 0 where
  activated : side.activated ≡ count_places (λ i. w && stands c t i) (suc (length t))
  fulfilled : side.fulfilled ≡ count_places (λ i. (w && stands c t i) && ful i) (suc (length t))
  first : FirstOf (λ i. w && stands c t i) ful n side.broken

abbrev TellsOf : Option Demand → ℕ → ℕ → List ℕ → (ℕ → Bool) → Type 0
TellsOf None c d t ful = Unit {0}
TellsOf (Some demand) c d t ful = (i : ℕ) → EventIs c t i → ful i ≡ true ↔ Demanded demand c d t i

and_true : (x : Bool) → (x && true) ≡ x
and_true true = refl
and_true false = refl

side-means : (demand : Option Demand) (c d n : ℕ) (t own other : List ℕ) (ful : ℕ → Bool) (side : Side) → c ≢ d → own ≡ places_from c n t → other ≡ places_from d n t
    → IsSide demand own other side → TellsOf demand c d t ful → Means (is_some demand) c n t ful side
side-means None c d n t own other ful side differ own_are other_are is tells =
    subst (Means false c n t ful) (sym is)
    (record {
      activated = sym (count_places-none (λ i. false && stands c t i) (suc (length t)) (λ k. refl));
      fulfilled = sym (count_places-none (λ i. (false && stands c t i) && ful i) (suc (length t)) (λ k. refl));
      first = λ i e. absurd (true≢false (sym e));
    })
side-means (Some demand) c d n t own other ful side differ own_are other_are is tells =
    let test : ℕ → Bool = λ x. ful (x - n) in
    let told : IsTest demand own other test = record {
      a = c;
      b = d;
      start = n;
      trace = t;
      apart = differ;
      own_are = own_are;
      other_are = other_are;
      tells = λ i at. subst (λ m. ful m ≡ true ↔ Demanded demand c d t i) {x = i} {y = n + i - n} (omega arith) (tells i at);
    } in record {
      activated = is.activated ∙ ap length own_are ∙ sym (count_activated c n t) ∙ count_places-same (λ i. stands c t i && true) (stands c t) (suc (length t)) (λ k lt. and_true (stands c t k));
      fulfilled = is.fulfilled test told ∙ ap (count_by test) own_are ∙ sym (count_fulfilled c n t ful);
      first = first-of c n t own own_are ful side.broken (is.broken test told);
    }

-- ---- both sides together

one_or : (x y : Bool) → (x ≡ true → y ≡ false) → one_if (x || y) ≡ one_if x + one_if y
one_or true true h = absurd (true≢false (h refl))
one_or true false h = omega arith
one_or false y h = omega arith

one_or_and : (x y f : Bool) → (x ≡ true → y ≡ false) → one_if ((x || y) && f) ≡ one_if (x && f) + one_if (y && f)
one_or_and true true f h = absurd (true≢false (h refl))
one_or_and true false f h = omega arith
one_or_and false y f h = omega arith

some_same : (x y : ℕ) → Some x ≡ Some y → x ≡ y
some_same x y e = cc

weak : (w v x y : Bool) → (x ≡ true → y ≡ false) → (w && x) ≡ true → (v && y) ≡ false
weak true true x y h e = h e
weak true false x y h e = refl
weak false v x y h e = absurd (true≢false (sym e))

abbrev tally_by : ℕ → ℕ → Option ℕ → Tally
tally_by x y o = record { activated = x; fulfilled = y; broken = o }

same_tally : (p q r s : ℕ) (o u : Option ℕ) → p ≡ q → r ≡ s → o ≡ u → tally_by p r o ≡ tally_by q s u
same_tally p q r s o u e f g = cc

module _ (kind : Kind) (a b n : ℕ) (t : List ℕ) (w v : Bool) (differ : a ≢ b) (act-is : (i : ℕ) → is_activated nat_eq kind a b t i ≡ ((w && stands a t i) || (v && stands b t i))) where
  abbrev act : ℕ → Bool
  act i = is_activated nat_eq kind a b t i

  abbrev ful : ℕ → Bool
  ful i = is_fulfilled nat_eq kind a b t i

  apart : (i : ℕ) → stands a t i ≡ true → stands b t i ≡ false
  apart i e = go (stands b t i) refl
    where
      go : (u : Bool) → stands b t i ≡ u → stands b t i ≡ false
      go false f = f
      go true f = absurd (differ (some_same a b (sym ((stands-iff a t i).0 e) ∙ (stands-iff b t i).0 f)))

  inside : (i : ℕ) → act i ≡ true → i ≤ length t
  inside i e = ⊎_elim (λ l. of a (stands a t i) w refl l) (λ r. of b (stands b t i) v refl r) (or_cases (w && stands a t i) (v && stands b t i) (sym (act-is i) ∙ e))
    where
      of : (c : ℕ) (x u : Bool) → stands c t i ≡ x → (u && x) ≡ true → i ≤ length t
      of c true u f e = omega (arith, slice_get_within t i c ((stands-iff c t i).0 f))
      of c false true f e = absurd (true≢false (sym e))
      of c false false f e = absurd (true≢false (sym e))

  first-is : (o : Option ℕ) → FirstOf act ful n o → o ≡ cond (keeps nat_eq kind a b t) None (Some (n + first_place nat_eq kind a b t))
  first-is None h =
      ap (λ u. cond u None (Some (n + first_place nat_eq kind a b t))) (keeps-is nat_eq kind a b t true (λ yes i le e. h i e, λ kept. refl))
  first-is (Some x) h =
      ap Some (h.1 ∙ ap (λ m. n + m) (sym (first_failing act ful 0 (suc (length t)) h.0 (omega arith) (omega (arith, inside h.0 h.2)) h.2 h.3 h.4)))
      ∙ ap (λ u. cond u None (Some (n + first_place nat_eq kind a b t)))
      (keeps-is nat_eq kind a b t false (λ no. absurd (true≢false (sym no)), λ kept. absurd (true≢false (sym (kept h.0 (inside h.0 h.2) h.2) ∙ h.3))))

  joined : (first second : Side) → Means w a n t ful first → Means v b n t ful second → (tally : Tally)
      → tally ≡ record { activated = first.activated + second.activated; fulfilled = first.fulfilled + second.fulfilled; broken = earliest first.broken second.broken }
      → tally ≡ tally_of kind a b n t
  joined first second one two tally is =
      let x : first.activated + second.activated ≡ count_places act (suc (length t)) =
      omega (
        arith,
        one.activated,
        two.activated,
        count_places-split act (λ i. w && stands a t i) (λ i. v && stands b t i) (suc (length t))
            (λ i. ap one_if (act-is i) ∙ one_or (w && stands a t i) (v && stands b t i) (weak w v (stands a t i) (stands b t i) (apart i))),
      ) in
      let y : first.fulfilled + second.fulfilled ≡ count_places (λ i. act i && ful i) (suc (length t)) =
      omega (
        arith,
        one.fulfilled,
        two.fulfilled,
        count_places-split (λ i. act i && ful i) (λ i. (w && stands a t i) && ful i) (λ i. (v && stands b t i) && ful i) (suc (length t))
            (λ i. ap (λ u. one_if (u && ful i)) (act-is i) ∙ one_or_and (w && stands a t i) (v && stands b t i) (ful i) (weak w v (stands a t i) (stands b t i) (apart i))),
      ) in
      let z : earliest first.broken second.broken ≡ cond (keeps nat_eq kind a b t) None (Some (n + first_place nat_eq kind a b t)) =
      first-is (earliest first.broken second.broken)
      (first-same (λ i. (w && stands a t i) || (v && stands b t i)) act ful n (earliest first.broken second.broken) act-is
      (first-joined (λ i. w && stands a t i) (λ i. v && stands b t i) ful n first.broken second.broken one.first two.first)) in
      is ∙ same_tally _ _ _ _ _ _ x y z

-- ---- by kind

or_false : (x : Bool) → (x || false) ≡ x
or_false true = refl
or_false false = refl

each_of-stands : (a b : ℕ) (t : List ℕ) (i : ℕ) → at_place (each_of nat_eq a b) t i ≡ (stands a t i || stands b t i)
each_of-stands a b t i = go (drop i t)
  where
    go : (s : List ℕ) → at_head (λ event (after : List ℕ). nat_eq event a || nat_eq event b) s ≡ (at_head (λ event (after : List ℕ). nat_eq event a) s || at_head (λ event (after : List ℕ). nat_eq event b) s)
    go [] = refl
    go (e ∷ s) = refl

activated-by : (kind : Kind) (a b : ℕ) (t : List ℕ) → arity kind ≡ 2 → (i : ℕ)
    → is_activated nat_eq kind a b t i ≡ ((is_some (demands_of kind).first && stands a t i) || (is_some (demands_of kind).second && stands b t i))
activated-by ChainResponse a b t two i = sym (or_false (stands a t i))
activated-by AlternateResponse a b t two i = sym (or_false (stands a t i))
activated-by Response a b t two i = sym (or_false (stands a t i))
activated-by RespondedExistence a b t two i = sym (or_false (stands a t i))
activated-by NotRespondedExistence a b t two i = sym (or_false (stands a t i))
activated-by NotResponse a b t two i = sym (or_false (stands a t i))
activated-by NotChainResponse a b t two i = sym (or_false (stands a t i))
activated-by ChainPrecedence a b t two i = refl
activated-by AlternatePrecedence a b t two i = refl
activated-by Precedence a b t two i = refl
activated-by NotPrecedence a b t two i = refl
activated-by NotChainPrecedence a b t two i = refl
activated-by Init a b t two i = absurd (omega (arith, two))
activated-by End a b t two i = absurd (omega (arith, two))
activated-by Participation a b t two i = absurd (omega (arith, two))
activated-by AtMostOne a b t two i = absurd (omega (arith, two))
activated-by (Exactly n) a b t two i = absurd (omega (arith, two))
activated-by (AtLeast n) a b t two i = absurd (omega (arith, two))
activated-by (AtMost n) a b t two i = absurd (omega (arith, two))
activated-by kind a b t two i = each_of-stands a b t i

-- what is fulfilled at the events of each of two activities, at those of one and of the other
of_each : (a b : ℕ) (t : List ℕ) (P Q : ℕ → Type 0) (ful : ℕ → Bool) → a ≢ b → ((i : ℕ) → EventIs a t i ⊎ EventIs b t i → ful i ≡ true ↔ AtEach a b P Q t i)
    → ((i : ℕ) → EventIs a t i → ful i ≡ true ↔ P i) × ((i : ℕ) → EventIs b t i → ful i ≡ true ↔ Q i)
of_each a b t P Q ful differ says = (
  λ i at. let h = says i (inl at) in (λ e. (h.0 e).0 at, λ p. h.1 (λ is. p, λ is. absurd (differ (some_same a b (sym at ∙ is))))),
  λ i at. let h = says i (inr at) in (λ e. (h.0 e).1 at, λ p. h.1 (λ is. absurd (differ (some_same a b (sym is ∙ at))), λ is. p)),
)

both-tell : (kind : Kind) (a b : ℕ) (t : List ℕ) → IsWellMade kind a b
    → TellsOf (demands_of kind).first a b t (λ i. is_fulfilled nat_eq kind a b t i) × TellsOf (demands_of kind).second b a t (λ i. is_fulfilled nat_eq kind a b t i)
both-tell ChainSuccession a b t made = of_each a b t (λ i. EventIs b t (i + 1)) (PreviousIs a t) (is_fulfilled nat_eq ChainSuccession a b t) made (λ i at. fulfilled-iff ChainSuccession a b t i made at)
both-tell AlternateSuccession a b t made = of_each a b t (AlternatesLaterAt a b t) (AlternatesEarlierAt a b t) (is_fulfilled nat_eq AlternateSuccession a b t) made (λ i at. fulfilled-iff AlternateSuccession a b t i made at)
both-tell Succession a b t made = of_each a b t (LaterIs b t) (EarlierIs a t) (is_fulfilled nat_eq Succession a b t) made (λ i at. fulfilled-iff Succession a b t i made at)
both-tell CoExistence a b t made = of_each a b t (λ i. SomeIs b t) (λ i. SomeIs a t) (is_fulfilled nat_eq CoExistence a b t) made (λ i at. fulfilled-iff CoExistence a b t i made at)
both-tell NotCoExistence a b t made = of_each a b t (λ i. ¬ SomeIs b t) (λ i. ¬ SomeIs a t) (is_fulfilled nat_eq NotCoExistence a b t) made (λ i at. fulfilled-iff NotCoExistence a b t i made at)
both-tell NotSuccession a b t made = of_each a b t (λ i. ¬ LaterIs b t i) (λ i. ¬ EarlierIs a t i) (is_fulfilled nat_eq NotSuccession a b t) made (λ i at. fulfilled-iff NotSuccession a b t i made at)
both-tell NotChainSuccession a b t made = of_each a b t (λ i. ¬ EventIs b t (i + 1)) (λ i. ¬ PreviousIs a t i) (is_fulfilled nat_eq NotChainSuccession a b t) made (λ i at. fulfilled-iff NotChainSuccession a b t i made at)
both-tell Init a b t made = (tt, tt)
both-tell End a b t made = (tt, tt)
both-tell Participation a b t made = (tt, tt)
both-tell AtMostOne a b t made = (tt, tt)
both-tell (Exactly n) a b t made = (tt, tt)
both-tell (AtLeast n) a b t made = (tt, tt)
both-tell (AtMost n) a b t made = (tt, tt)
both-tell ChainPrecedence a b t made = (tt, λ i at. fulfilled-iff ChainPrecedence a b t i made at)
both-tell AlternatePrecedence a b t made = (tt, λ i at. fulfilled-iff AlternatePrecedence a b t i made at)
both-tell Precedence a b t made = (tt, λ i at. fulfilled-iff Precedence a b t i made at)
both-tell NotPrecedence a b t made = (tt, λ i at. fulfilled-iff NotPrecedence a b t i made at)
both-tell NotChainPrecedence a b t made = (tt, λ i at. fulfilled-iff NotChainPrecedence a b t i made at)
both-tell kind a b t made = (λ i at. fulfilled-iff kind a b t i made at, tt)

-- two activities differ
pub two-differ : (kind : Kind) (a b : ℕ) → arity kind ≡ 2 → IsWellMade kind a b → a ≢ b
two-differ kind a b two made = differ (group_of kind) two (made-in kind a b made)
  where
    differ : (group : Group) → activities_of group ≡ 2 → IsWellMadeIn group a b → a ≢ b
    differ Existence two made = absurd (omega (arith, two))
    differ group two made = made

pub joined-tally : (kind : Kind) (a b n : ℕ) (t firsts seconds : List ℕ) (tally : Tally) → arity kind ≡ 2 → IsWellMade kind a b → firsts ≡ places_from a n t → seconds ≡ places_from b n t
    → IsJoined kind firsts seconds tally → tally ≡ tally_of kind a b n t
joined-tally kind a b n t firsts seconds tally two made firsts_are seconds_are is =
    let differ = two-differ kind a b two made in
    let ful : ℕ → Bool = λ i. is_fulfilled nat_eq kind a b t i in
    let tell = both-tell kind a b t made in
    joined kind a b n t (is_some (demands_of kind).first) (is_some (demands_of kind).second) differ (activated-by kind a b t two) is.first is.second
    (side-means (demands_of kind).first a b n t firsts seconds ful is.first differ firsts_are seconds_are is.first_is tell.0)
    (side-means (demands_of kind).second b a n t seconds firsts ful is.second (λ e. differ (sym e)) seconds_are firsts_are is.second_is tell.1)
    tally is.tally_is

-- no place holds both
pub places-apart : (a b n : ℕ) (t firsts seconds : List ℕ) → a ≢ b → firsts ≡ places_from a n t → seconds ≡ places_from b n t → (i j : ℕ) → i < length firsts → j < length seconds
    → get_or firsts i 0 ≢ get_or seconds j 0
places-apart a b n t firsts seconds differ firsts_are seconds_are i j in_first in_second same =
    differ (some_same a b (sym ((stand a n t firsts firsts_are).inside i in_first) ∙ subst (λ m. EventIs b t (m - n)) (sym same) ((stand b n t seconds seconds_are).inside j in_second)))
