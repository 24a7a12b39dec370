-- A list of constraints as it is carried, and one more that may join it.
use Rattle.std.specs.Prelude.{◌≡◌, ◌⊎◌, ℕ, ◌+◌, List, []}
use Rattle.dfa_core.specs.Automaton.{Automaton, IsEverything}
use Rattle.dfa_core.specs.Languages.{HasNoMember, IsLeastMember}
use Rattle.dfa_core.specs.Traces.{IsTrace}
use Rattle.dfa_minimise.specs.Wide.{IsWide}
use Rattle.template_core.specs.declared.constraint.Constraint.{Constraint}
use Rattle.reduce_model.specs.declared.decision.Decision.{Decision}
use Rattle.reduce_model.specs.declared.decision.Decision.TheVariants.{Kept, Conflict, Beyond}
use Rattle.reduce_model.specs.declared.kept.KeptList.{KeptList}
use Rattle.reduce_model.specs.declared.kept.Tried.{Tried}
use Rattle.reduce_model.specs.declared.kept.Tried.TheVariants.{Implied, Left, TooWide}
use Rattle.list_dfa.specs.Extending.{AcceptsKept, AcceptsBroken, Extends}

-- the list of no constraint
pub record IsEmptyKept (n : ℕ) (kept : KeptList) : Type 0 where
  pub every : IsEverything n kept.dfa
  pub none : kept.length ≡ 0
  pub empty : kept.example ≡ []

-- a candidate has joined, and the list isn't wide for s
pub record JoinsKept (s : ℕ) (old : KeptList) (c : Constraint) (new : KeptList) : Type 0 where
  pub extends : Extends s old.dfa c new.dfa
  pub example : IsLeastMember old.dfa.symbols (AcceptsKept old.dfa c) new.example
  pub new_length : new.length ≡ old.length + 1

-- some trace keeps the list with the candidate, and the list with it is wide for s
pub record IsTooWide (s : ℕ) (a : Automaton) (c : Constraint) : Type 0 where
  pub by : List ℕ
  pub example : IsLeastMember a.symbols (AcceptsKept a c) by
  pub wide : IsWide a.symbols (AcceptsKept a c) s

-- a candidate that the list implies has joined: what is carried stays as it is
pub record JoinsImplied (old : KeptList) (c : Constraint) (new : KeptList) : Type 0 where
  pub implied : HasNoMember old.dfa.symbols (AcceptsBroken old.dfa c)
  pub same_dfa : new.dfa ≡ old.dfa
  pub same_example : new.example ≡ old.example
  pub new_length : new.length ≡ old.length + 1

-- what comes of the list with a candidate, and of the candidate
abbrev pub IsTakenIn : ℕ → KeptList → Constraint → KeptList → Decision → Type 0
IsTakenIn s old c new Kept = JoinsImplied old c new ⊎ JoinsKept s old c new
IsTakenIn s old c new Beyond = (new ≡ old) × IsTooWide s old.dfa c
IsTakenIn s old c new Conflict = (new ≡ old) × HasNoMember old.dfa.symbols (AcceptsKept old.dfa c)
IsTakenIn s old c new decision = ⊥

-- whether the list implies the candidate, and what comes of the list with it where not
abbrev pub IsTried : ℕ → Automaton → Constraint → Tried → Type 0
IsTried s a c Implied = HasNoMember a.symbols (AcceptsBroken a c)
IsTried s a c (Left extended) = Extends s a c extended × ((w : List ℕ) × IsTrace a.symbols w × AcceptsBroken a c w)
IsTried s a c TooWide = IsWide a.symbols (AcceptsKept a c) s × ((w : List ℕ) × IsTrace a.symbols w × AcceptsBroken a c w)
