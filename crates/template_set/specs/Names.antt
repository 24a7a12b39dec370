-- The names of the templates.
use Rattle.std.specs.Prelude.{ℕ, ◌+◌, List, [], ◌∷◌, ◌++◌, codes}
use Rattle.template_core.specs.declared.kind.Kind.{Kind}
use Rattle.template_core.specs.declared.kind.Kind.TheVariants.{Init, End, Participation, AtMostOne, ChainSuccession, AlternateSuccession, Succession, CoExistence, ChainResponse, AlternateResponse, Response, ChainPrecedence, AlternatePrecedence, Precedence, RespondedExistence, NotCoExistence, NotSuccession, NotChainSuccession, Exactly, AtLeast, AtMost, NotRespondedExistence, NotResponse, NotPrecedence, NotChainResponse, NotChainPrecedence}

-- the digit of a number below ten
abbrev pub digit : ℕ → List ℕ
digit n = (48 + n) ∷ []

abbrev pub name_of : Kind → List ℕ
name_of Init = codes "Init"
name_of End = codes "End"
name_of Participation = codes "Participation"
name_of AtMostOne = codes "AtMostOne"
name_of ChainSuccession = codes "ChainSuccession"
name_of AlternateSuccession = codes "AlternateSuccession"
name_of Succession = codes "Succession"
name_of CoExistence = codes "CoExistence"
name_of ChainResponse = codes "ChainResponse"
name_of AlternateResponse = codes "AlternateResponse"
name_of Response = codes "Response"
name_of ChainPrecedence = codes "ChainPrecedence"
name_of AlternatePrecedence = codes "AlternatePrecedence"
name_of Precedence = codes "Precedence"
name_of RespondedExistence = codes "RespondedExistence"
name_of NotCoExistence = codes "NotCoExistence"
name_of NotSuccession = codes "NotSuccession"
name_of NotChainSuccession = codes "NotChainSuccession"
name_of (Exactly n) = codes "Exactly" ++ digit n
name_of (AtLeast n) = codes "AtLeast" ++ digit n
name_of (AtMost n) = codes "AtMost" ++ digit n
name_of NotRespondedExistence = codes "NotRespondedExistence"
name_of NotResponse = codes "NotResponse"
name_of NotPrecedence = codes "NotPrecedence"
name_of NotChainResponse = codes "NotChainResponse"
name_of NotChainPrecedence = codes "NotChainPrecedence"

-- in the order of their numbers
abbrev pub all_kinds : List Kind
all_kinds =
    Init ∷ End ∷ Participation ∷ AtMostOne ∷ ChainSuccession ∷ AlternateSuccession ∷ Succession ∷ CoExistence ∷ ChainResponse ∷ AlternateResponse ∷ Response ∷ ChainPrecedence ∷ AlternatePrecedence ∷ Precedence ∷ RespondedExistence ∷ NotCoExistence ∷ NotSuccession ∷ NotChainSuccession
    ∷ Exactly 1 ∷ Exactly 2 ∷ Exactly 3 ∷ Exactly 4 ∷ Exactly 5 ∷ Exactly 6 ∷ Exactly 7 ∷ Exactly 8 ∷ Exactly 9
    ∷ AtLeast 9 ∷ AtLeast 8 ∷ AtLeast 7 ∷ AtLeast 6 ∷ AtLeast 5 ∷ AtLeast 4 ∷ AtLeast 3 ∷ AtLeast 2 ∷ AtLeast 1
    ∷ AtMost 1 ∷ AtMost 2 ∷ AtMost 3 ∷ AtMost 4 ∷ AtMost 5 ∷ AtMost 6 ∷ AtMost 7 ∷ AtMost 8 ∷ AtMost 9
    ∷ NotRespondedExistence ∷ NotResponse ∷ NotPrecedence ∷ NotChainResponse ∷ NotChainPrecedence ∷ []
