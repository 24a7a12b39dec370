-- The hierarchy: which constraint is stronger than which. It is a list of what stands directly below what, and its closure.
use Rattle.std.specs.Prelude.{◌≡◌, ◌⊎◌, ℕ, ◌+◌, ◌-◌, List, [], ◌∷◌, ◌&&◌, ◌==◌, if◌then◌else◌, nat_lt}
use Rattle.std.specs.List.{Contains}
use Rattle.template_core.specs.declared.constraint.Constraint.{Constraint}
use Rattle.template_core.specs.declared.kind.Kind.{Kind}
use Rattle.template_core.specs.declared.kind.Kind.TheVariants.{Init, End, Participation, AtMostOne, ChainSuccession, AlternateSuccession, Succession, CoExistence, ChainResponse, AlternateResponse, Response, ChainPrecedence, AlternatePrecedence, Precedence, RespondedExistence, NotCoExistence, NotSuccession, NotChainSuccession, Exactly, AtLeast, AtMost, NotRespondedExistence, NotResponse, NotPrecedence, NotChainResponse, NotChainPrecedence}

-- a template with two activities put in
abbrev pub of : Kind → ℕ → ℕ → Constraint
of kind a b = record { kind = kind; first = a; second = b }

-- the list: the constraints directly below a template's over a and b
abbrev pub listed_below : Kind → ℕ → ℕ → List Constraint
listed_below Init a b = of Participation a b ∷ []
listed_below End a b = of Participation a b ∷ []
listed_below Participation a b = []
listed_below AtMostOne a b = of (AtMost 2) a b ∷ []
listed_below ChainSuccession a b = of AlternateSuccession a b ∷ of ChainResponse a b ∷ of ChainPrecedence a b ∷ []
listed_below AlternateSuccession a b = of Succession a b ∷ of AlternateResponse a b ∷ of AlternatePrecedence a b ∷ []
listed_below Succession a b = of CoExistence a b ∷ of CoExistence b a ∷ of Response a b ∷ of Precedence a b ∷ []
listed_below CoExistence a b = of RespondedExistence a b ∷ of RespondedExistence b a ∷ []
listed_below ChainResponse a b = of AlternateResponse a b ∷ []
listed_below AlternateResponse a b = of Response a b ∷ []
listed_below Response a b = of RespondedExistence a b ∷ []
listed_below ChainPrecedence a b = of AlternatePrecedence a b ∷ []
listed_below AlternatePrecedence a b = of Precedence a b ∷ []
listed_below Precedence a b = of RespondedExistence b a ∷ []
listed_below RespondedExistence a b = []
listed_below NotCoExistence a b =
    of NotSuccession a b ∷ of NotSuccession b a ∷ of NotRespondedExistence a b ∷ of NotRespondedExistence b a ∷ []
listed_below NotSuccession a b = of NotChainSuccession a b ∷ of NotResponse a b ∷ of NotPrecedence a b ∷ []
listed_below NotChainSuccession a b = of NotChainResponse a b ∷ of NotChainPrecedence a b ∷ []
listed_below (Exactly n) a b = of (AtLeast n) a b ∷ of (AtMost n) a b ∷ []
listed_below (AtLeast n) a b = if n == 1 then of Participation a b ∷ [] else (if nat_lt 1 n then of (AtLeast (n - 1)) a b ∷ [] else [])
listed_below (AtMost n) a b = if n == 1 then of AtMostOne a b ∷ [] else (if nat_lt 1 n && nat_lt n 9 then of (AtMost (n + 1)) a b ∷ [] else [])
listed_below NotRespondedExistence a b = of NotResponse a b ∷ of NotPrecedence b a ∷ []
listed_below NotResponse a b = of NotChainResponse a b ∷ []
listed_below NotPrecedence a b = of NotChainPrecedence a b ∷ []
listed_below NotChainResponse a b = []
listed_below NotChainPrecedence a b = []

-- c stands directly above d in the list
abbrev pub IsListed : Constraint → Constraint → Type 0
IsListed c d = Contains (listed_below c.kind c.first c.second) d

-- c is stronger than d: one step down the list leads from c to d, or one step and then more
pub data IsStronger : Constraint → Constraint → Type 0 where
  directly : {c d : Constraint} → IsListed c d → IsStronger c d
  through : {c d e : Constraint} → IsListed c d → IsStronger d e → IsStronger c e

-- a constraint is over a and b, in the one order or the other
abbrev pub IsOver : ℕ → ℕ → Constraint → Type 0
IsOver a b d = ((a ≡ d.first) × (b ≡ d.second)) ⊎ ((a ≡ d.second) × (b ≡ d.first))
