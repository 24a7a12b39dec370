-- Standings: what a trace says of the traces that begin with it. Languages are told by what their members are.
use Rattle.std.specs.Prelude.{◌≡◌, ℕ, List, ◌++◌, ⊤}
use Rattle.decl_base.specs.declared.refusal.Refusal.{Refusal}
use Rattle.decl_base.specs.declared.refusal.Refusal.TheVariants.{States, Memory}
use Rattle.dfa_core.specs.Traces.{IsTrace}
use Rattle.list_dfa.specs.Lists.{IsFirstPrefix}
use Rattle.template_core.specs.declared.constraint.Constraint.{Constraint}
use Rattle.live_monitor.specs.declared.standing.Standing.{Standing}
use Rattle.live_monitor.specs.declared.standing.Standing.TheVariants.{Kept, KeptNow, BrokenNow, Broken}

-- every trace over the symbols below n that begins with t is a member
abbrev pub EveryIsMember : ℕ → (List ℕ → Type 0) → List ℕ → Type 0
EveryIsMember n Member t = (w : List ℕ) → IsTrace n w → Member (t ++ w)

-- none is
abbrev pub NoneIsMember : ℕ → (List ℕ → Type 0) → List ℕ → Type 0
NoneIsMember n Member t = (w : List ℕ) → IsTrace n w → Member (t ++ w) → ⊥

-- The standing of a trace. Where neither every trace that begins with it nor none is a member, it is told by the trace itself.
abbrev pub IsStanding : ℕ → (List ℕ → Type 0) → List ℕ → Standing → Type 0
IsStanding n Member t Kept = EveryIsMember n Member t
IsStanding n Member t KeptNow = Member t × (EveryIsMember n Member t → ⊥)
IsStanding n Member t BrokenNow = (Member t → ⊥) × (NoneIsMember n Member t → ⊥)
IsStanding n Member t Broken = NoneIsMember n Member t

-- why no monitor is made: the shortest prefix of the list that tells more traces apart than s, or want of memory
abbrev pub RefusesMonitor : ℕ → ℕ → List Constraint → Refusal → Type 0
RefusesMonitor n s list (States phase built) = (phase ≡ 5) × IsFirstPrefix n s list built
RefusesMonitor n s list Memory = ⊤
RefusesMonitor n s list refusal = ⊥
