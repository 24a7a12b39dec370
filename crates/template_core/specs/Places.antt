-- The repertoire and the counters in words of places: i, j and k are places of the whole trace.
use Rattle.std.specs.Prelude.{◌≡◌, ◌↔◌, ◌⊎◌, ℕ, ◌+◌, ◌-◌, ◌<◌, ◌≤◌, List, Bool, true, Some, length, slice_get}
use Rattle.template_core.specs.Events.{count_places}
use Rattle.template_core.specs.Groups.{group_of, activation_of}
use Rattle.template_core.specs.declared.group.Group.{Group}
use Rattle.template_core.specs.declared.group.Group.TheVariants.{Existence, Relation, Mutual, Negative}
use Rattle.template_core.specs.declared.kind.Kind.{Kind}
use Rattle.template_core.specs.declared.kind.Kind.TheVariants.{Init, End, Participation, AtMostOne, ChainSuccession, AlternateSuccession, Succession, CoExistence, ChainResponse, AlternateResponse, Response, ChainPrecedence, AlternatePrecedence, Precedence, RespondedExistence, NotCoExistence, NotSuccession, NotChainSuccession, Exactly, AtLeast, AtMost, NotRespondedExistence, NotResponse, NotPrecedence, NotChainResponse, NotChainPrecedence}

module _ {A : Type 0} where
  -- event i is there and is a
  abbrev pub EventIs : A → List A → ℕ → Type 0
  EventIs a trace i = slice_get trace i ≡ Some a

  -- event i - 1 is there and is a
  abbrev pub PreviousIs : A → List A → ℕ → Type 0
  PreviousIs a trace i = (0 < i) × EventIs a trace (i - 1)

  -- some event is a
  abbrev pub SomeIs : A → List A → Type 0
  SomeIs a trace = (j : ℕ) × EventIs a trace j

  -- some j above i is b; some j below i is a
  abbrev pub LaterIs : A → List A → ℕ → Type 0
  LaterIs b trace i = (j : ℕ) × (i < j) × EventIs b trace j

  abbrev pub EarlierIs : A → List A → ℕ → Type 0
  EarlierIs a trace i = (j : ℕ) × (j < i) × EventIs a trace j

  -- no event strictly between the two places is a
  abbrev pub NoneBetween : A → List A → ℕ → ℕ → Type 0
  NoneBetween a trace low high = (k : ℕ) → low < k → k < high → ¬ EventIs a trace k

  -- some event strictly between the two places is a
  abbrev pub SomeBetween : A → List A → ℕ → ℕ → Type 0
  SomeBetween a trace low high = (k : ℕ) × (low < k) × (k < high) × EventIs a trace k

  -- some j above i is b, and no k between i and j is a; some j below i is a, and no k between j and i is b
  abbrev pub AlternatesLater : A → A → List A → ℕ → Type 0
  AlternatesLater a b trace i = (j : ℕ) × (i < j) × EventIs b trace j × NoneBetween a trace i j

  abbrev pub AlternatesEarlier : A → A → List A → ℕ → Type 0
  AlternatesEarlier a b trace i = (j : ℕ) × (j < i) × EventIs a trace j × NoneBetween b trace j i

  -- one fact where event i is a, and another where it is b
  abbrev pub AtEach : A → A → (ℕ → Type 0) → (ℕ → Type 0) → List A → ℕ → Type 0
  AtEach a b P Q trace i = (EventIs a trace i → P i) × (EventIs b trace i → Q i)

  -- the number of a trace's events at whose places P holds
  abbrev pub CountsPlaces : (ℕ → Type 0) → List A → ℕ → Type 0
  CountsPlaces P trace n =
      (test : ℕ → Bool) × ((i : ℕ) → i < length trace → test i ≡ true ↔ P i) × (n ≡ count_places test (length trace))

  -- the place is activated: templates of one activity, relation templates, mutual and negative templates
  abbrev pub ActivatedIn : Group → A → A → List A → ℕ → Type 0
  ActivatedIn Existence a b trace i = i ≡ length trace
  ActivatedIn (Relation activation) a b trace i = EventIs (activation_of activation a b) trace i
  ActivatedIn Mutual a b trace i = EventIs a trace i ⊎ EventIs b trace i
  ActivatedIn Negative a b trace i = EventIs a trace i ⊎ EventIs b trace i

  abbrev pub ActivatedAt : Kind → A → A → List A → ℕ → Type 0
  ActivatedAt kind a b trace i = ActivatedIn (group_of kind) a b trace i

  -- the activated place is fulfilled
  abbrev pub FulfilledAt : Kind → A → A → List A → ℕ → Type 0
  FulfilledAt Init a b trace i = (0 < length trace) × EventIs a trace 0
  FulfilledAt End a b trace i = (0 < length trace) × EventIs a trace (length trace - 1)
  FulfilledAt Participation a b trace i = SomeIs a trace
  FulfilledAt AtMostOne a b trace i = (j k : ℕ) → EventIs a trace j → EventIs a trace k → j ≡ k
  FulfilledAt ChainSuccession a b trace i = AtEach a b (λ i. EventIs b trace (i + 1)) (PreviousIs a trace) trace i
  FulfilledAt AlternateSuccession a b trace i = AtEach a b (AlternatesLater a b trace) (AlternatesEarlier a b trace) trace i
  FulfilledAt Succession a b trace i = AtEach a b (LaterIs b trace) (EarlierIs a trace) trace i
  FulfilledAt CoExistence a b trace i = AtEach a b (λ i. SomeIs b trace) (λ i. SomeIs a trace) trace i
  FulfilledAt ChainResponse a b trace i = EventIs b trace (i + 1)
  FulfilledAt AlternateResponse a b trace i = AlternatesLater a b trace i
  FulfilledAt Response a b trace i = LaterIs b trace i
  FulfilledAt ChainPrecedence a b trace i = PreviousIs a trace i
  FulfilledAt AlternatePrecedence a b trace i = AlternatesEarlier a b trace i
  FulfilledAt Precedence a b trace i = EarlierIs a trace i
  FulfilledAt RespondedExistence a b trace i = SomeIs b trace
  FulfilledAt NotCoExistence a b trace i = AtEach a b (λ i. ¬ SomeIs b trace) (λ i. ¬ SomeIs a trace) trace i
  FulfilledAt NotSuccession a b trace i = AtEach a b (λ i. ¬ LaterIs b trace i) (λ i. ¬ EarlierIs a trace i) trace i
  FulfilledAt NotChainSuccession a b trace i = AtEach a b (λ i. ¬ EventIs b trace (i + 1)) (λ i. ¬ PreviousIs a trace i) trace i
  FulfilledAt (Exactly n) a b trace i = CountsPlaces (EventIs a trace) trace n
  FulfilledAt (AtLeast n) a b trace i = (k : ℕ) × CountsPlaces (EventIs a trace) trace k × (n ≤ k)
  FulfilledAt (AtMost n) a b trace i = (k : ℕ) × CountsPlaces (EventIs a trace) trace k × (k ≤ n)
  FulfilledAt NotRespondedExistence a b trace i = ¬ SomeIs b trace
  FulfilledAt NotResponse a b trace i = ¬ LaterIs b trace i
  FulfilledAt NotPrecedence a b trace i = ¬ EarlierIs a trace i
  FulfilledAt NotChainResponse a b trace i = ¬ EventIs b trace (i + 1)
  FulfilledAt NotChainPrecedence a b trace i = ¬ PreviousIs a trace i

  -- the a's that the counters of an ordered pair count
  abbrev pub WithoutAt : A → A → List A → ℕ → Type 0
  WithoutAt a b trace i = EventIs a trace i × (¬ SomeIs b trace)

  abbrev pub NoLaterAt : A → A → List A → ℕ → Type 0
  NoLaterAt a b trace i = EventIs a trace i × (¬ LaterIs b trace i)

  abbrev pub NoEarlierAt : A → A → List A → ℕ → Type 0
  NoEarlierAt a b trace i = EventIs a trace i × (¬ EarlierIs b trace i)

  abbrev pub NextAt : A → A → List A → ℕ → Type 0
  NextAt a b trace i = EventIs a trace i × EventIs b trace (i + 1)

  abbrev pub PreviousAt : A → A → List A → ℕ → Type 0
  PreviousAt a b trace i = EventIs a trace i × PreviousIs b trace i

  -- some later event is b, and an a stands before the nearest; some earlier event is b, and an a stands after the nearest
  abbrev pub RepeatsLater : A → A → List A → ℕ → Type 0
  RepeatsLater a b trace i = (j : ℕ) × (i < j) × EventIs b trace j × NoneBetween b trace i j × SomeBetween a trace i j

  abbrev pub RepeatsEarlier : A → A → List A → ℕ → Type 0
  RepeatsEarlier a b trace i = (j : ℕ) × (j < i) × EventIs b trace j × NoneBetween b trace j i × SomeBetween a trace j i

  abbrev pub RepeatedLaterAt : A → A → List A → ℕ → Type 0
  RepeatedLaterAt a b trace i = EventIs a trace i × (RepeatsLater a b trace i)

  abbrev pub RepeatedEarlierAt : A → A → List A → ℕ → Type 0
  RepeatedEarlierAt a b trace i = EventIs a trace i × (RepeatsEarlier a b trace i)

  -- two different events are a
  abbrev pub TwoAre : A → List A → Type 0
  TwoAre a trace = (j : ℕ) × (k : ℕ) × (j < k) × EventIs a trace j × EventIs a trace k
