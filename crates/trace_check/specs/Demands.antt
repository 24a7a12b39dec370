-- What an event asks of the other activity's events where it activates a constraint of two activities.
use Rattle.std.specs.Prelude.{◌≡◌, ◌≢◌, ◌↔◌, ℕ, ◌+◌, List, Bool, true, Option, None, Some}
use Rattle.template_core.specs.Places.{EventIs, PreviousIs, SomeIs, LaterIs, EarlierIs, AlternatesLater as AlternatesLaterAt, AlternatesEarlier as AlternatesEarlierAt}
use Rattle.template_core.specs.declared.kind.Kind.{Kind}
use Rattle.template_core.specs.declared.kind.Kind.TheVariants.{Init, End, Participation, AtMostOne, ChainSuccession, AlternateSuccession, Succession, CoExistence, ChainResponse, AlternateResponse, Response, ChainPrecedence, AlternatePrecedence, Precedence, RespondedExistence, NotCoExistence, NotSuccession, NotChainSuccession, Exactly, AtLeast, AtMost, NotRespondedExistence, NotResponse, NotPrecedence, NotChainResponse, NotChainPrecedence}
use Rattle.trace_check.specs.Standing.{places_from}
use Rattle.trace_check.specs.declared.demand.Demand.{Demand}
use Rattle.trace_check.specs.declared.demand.Demands.{Demands}
use Rattle.trace_check.specs.declared.demand.Demand.TheVariants.{Present, Later, Earlier, Next, Previous, AlternatesLater, AlternatesEarlier, Absent, NoneLater, NoneEarlier, NotNext, NotPrevious}

abbrev pub asks : Option Demand → Option Demand → Demands
asks first second = record { first = first; second = second }

-- what an event of the first activity asks for, where it activates a constraint of the kind, and what one of the second does
abbrev pub demands_of : Kind → Demands
demands_of Init = asks None None
demands_of End = asks None None
demands_of Participation = asks None None
demands_of AtMostOne = asks None None
demands_of ChainSuccession = asks (Some Next) (Some Previous)
demands_of AlternateSuccession = asks (Some AlternatesLater) (Some AlternatesEarlier)
demands_of Succession = asks (Some Later) (Some Earlier)
demands_of CoExistence = asks (Some Present) (Some Present)
demands_of ChainResponse = asks (Some Next) None
demands_of AlternateResponse = asks (Some AlternatesLater) None
demands_of Response = asks (Some Later) None
demands_of ChainPrecedence = asks None (Some Previous)
demands_of AlternatePrecedence = asks None (Some AlternatesEarlier)
demands_of Precedence = asks None (Some Earlier)
demands_of RespondedExistence = asks (Some Present) None
demands_of NotCoExistence = asks (Some Absent) (Some Absent)
demands_of NotSuccession = asks (Some NoneLater) (Some NoneEarlier)
demands_of NotChainSuccession = asks (Some NotNext) (Some NotPrevious)
demands_of (Exactly n) = asks None None
demands_of (AtLeast n) = asks None None
demands_of (AtMost n) = asks None None
demands_of NotRespondedExistence = asks (Some Absent) None
demands_of NotResponse = asks (Some NoneLater) None
demands_of NotPrecedence = asks None (Some NoneEarlier)
demands_of NotChainResponse = asks (Some NotNext) None
demands_of NotChainPrecedence = asks None (Some NotPrevious)

-- what the event at place i of a trace, an a, asks of the b's
abbrev pub Demanded : Demand → ℕ → ℕ → List ℕ → ℕ → Type 0
Demanded Present a b trace i = SomeIs b trace
Demanded Later a b trace i = LaterIs b trace i
Demanded Earlier a b trace i = EarlierIs b trace i
Demanded Next a b trace i = EventIs b trace (i + 1)
Demanded Previous a b trace i = PreviousIs b trace i
Demanded AlternatesLater a b trace i = AlternatesLaterAt a b trace i
Demanded AlternatesEarlier a b trace i = AlternatesEarlierAt b a trace i
Demanded Absent a b trace i = ¬ SomeIs b trace
Demanded NoneLater a b trace i = ¬ LaterIs b trace i
Demanded NoneEarlier a b trace i = ¬ EarlierIs b trace i
Demanded NotNext a b trace i = ¬ EventIs b trace (i + 1)
Demanded NotPrevious a b trace i = ¬ PreviousIs b trace i

-- own and other are where the events of two activities stand in a trace, and the test tells of each own one whether it has what it asks for
pub record IsTest (demand : Demand) (own other : List ℕ) (test : ℕ → Bool) : Type 0 where
  pub a : ℕ
  pub b : ℕ
  pub start : ℕ
  pub trace : List ℕ
  pub apart : a ≢ b
  pub own_are : own ≡ places_from a start trace
  pub other_are : other ≡ places_from b start trace
  pub tells : (i : ℕ) → EventIs a trace i → test (start + i) ≡ true ↔ Demanded demand a b trace i
