-- Languages: sets of traces over the symbols below a number n, each told by what its members are.
use Rattle.std.specs.Prelude.{ℕ, List, Option, MatchOption}
use Rattle.dfa_core.specs.Shortlex.{IsBefore}
use Rattle.dfa_core.specs.Traces.{IsTrace}

-- no trace is a member
abbrev pub HasNoMember : ℕ → (List ℕ → Type 0) → Type 0
HasNoMember n Member = (w : List ℕ) → IsTrace n w → Member w → ⊥

-- the least member: it is one, and none stands before it
pub record IsLeastMember (n : ℕ) (Member : List ℕ → Type 0) (t : List ℕ) : Type 0 where
  pub over : IsTrace n t
  pub member : Member t
  pub none_before : (w : List ℕ) → IsTrace n w → Member w → IsBefore w t → ⊥

-- the least member, and None where there is none
abbrev pub IsLeastIfAny : ℕ → (List ℕ → Type 0) → Option (List ℕ) → Type 0
IsLeastIfAny n Member found = MatchOption found (HasNoMember n Member) (IsLeastMember n Member)
