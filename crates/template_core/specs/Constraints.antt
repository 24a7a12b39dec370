-- Which activities a constraint may have.
use Rattle.std.specs.Prelude.{◌≡◌, ◌≢◌, ℕ, ◌+◌, ◌-◌, ◌<◌, ◌≤◌, ⊤}
use Rattle.template_core.specs.Groups.{group_of, activities_of}
use Rattle.template_core.specs.declared.group.Group.{Group}
use Rattle.template_core.specs.declared.group.Group.TheVariants.{Existence, Relation, Mutual, Negative}
use Rattle.template_core.specs.declared.constraint.Constraint.{Constraint}
use Rattle.template_core.specs.declared.kind.Kind.{Kind}
use Rattle.template_core.specs.declared.kind.Kind.TheVariants.{Init, End, Participation, AtMostOne, ChainSuccession, AlternateSuccession, Succession, CoExistence, ChainResponse, AlternateResponse, Response, ChainPrecedence, AlternatePrecedence, Precedence, RespondedExistence, NotCoExistence, NotSuccession, NotChainSuccession, Exactly, AtLeast, AtMost, NotRespondedExistence, NotResponse, NotPrecedence, NotChainResponse, NotChainPrecedence}

-- the number of a template's activities
abbrev pub arity : Kind → ℕ
arity kind = activities_of (group_of kind)

-- the numbers of the templates
abbrev pub number_of : Kind → ℕ
number_of Init = 1
number_of End = 2
number_of Participation = 3
number_of AtMostOne = 4
number_of ChainSuccession = 5
number_of AlternateSuccession = 6
number_of Succession = 7
number_of CoExistence = 8
number_of ChainResponse = 9
number_of AlternateResponse = 10
number_of Response = 11
number_of ChainPrecedence = 12
number_of AlternatePrecedence = 13
number_of Precedence = 14
number_of RespondedExistence = 15
number_of NotCoExistence = 16
number_of NotSuccession = 17
number_of NotChainSuccession = 18
number_of (Exactly n) = 18 + n
number_of (AtLeast n) = 37 - n
number_of (AtMost n) = 36 + n
number_of NotRespondedExistence = 46
number_of NotResponse = 47
number_of NotPrecedence = 48
number_of NotChainResponse = 49
number_of NotChainPrecedence = 50

-- the number of events in the name of a counted template is 1 to 9
abbrev pub IsTemplate : Kind → Type 0
IsTemplate (Exactly n) = (1 ≤ n) × (n ≤ 9)
IsTemplate (AtLeast n) = (1 ≤ n) × (n ≤ 9)
IsTemplate (AtMost n) = (1 ≤ n) × (n ≤ 9)
IsTemplate kind = ⊤

-- a template of two activities has two different ones; of a template of one activity both numbers are that one
abbrev pub IsWellMadeIn : Group → ℕ → ℕ → Type 0
IsWellMadeIn Existence a b = a ≡ b
IsWellMadeIn (Relation activation) a b = a ≢ b
IsWellMadeIn Mutual a b = a ≢ b
IsWellMadeIn Negative a b = a ≢ b

-- and the number of a counted template is one of its numbers
abbrev pub IsWellMade : Kind → ℕ → ℕ → Type 0
IsWellMade (Exactly n) a b = (a ≡ b) × IsTemplate (Exactly n)
IsWellMade (AtLeast n) a b = (a ≡ b) × IsTemplate (AtLeast n)
IsWellMade (AtMost n) a b = (a ≡ b) × IsTemplate (AtMost n)
IsWellMade kind a b = IsWellMadeIn (group_of kind) a b

-- a constraint over n activities
pub record IsWellMadeFor (n : ℕ) (c : Constraint) : Type 0 where
  pub first : c.first < n
  pub second : c.second < n
  pub made : IsWellMade c.kind c.first c.second
