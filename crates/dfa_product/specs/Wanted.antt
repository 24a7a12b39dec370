-- Which traces of an automaton are wanted.
use Rattle.std.specs.Prelude.{◌≡◌, ℕ, ◌*◌, ◌<◌, ◌^◌, List, false}
use Rattle.dfa_core.specs.Automaton.{Automaton, Accepts, state_count}
use Rattle.template_core.specs.Tables.{IsTable, keeps_by}
use Rattle.dfa_product.specs.declared.wanted.Want.{Want}
use Rattle.dfa_product.specs.declared.wanted.Want.TheVariants.{Accepted, Beside}

-- all traces that the automaton accepts, or those of them that a table doesn't accept
abbrev pub IsWanted : Automaton → Want → List ℕ → Type 0
IsWanted a Accepted w = Accepts a w
IsWanted a (Beside t c) w = Accepts a w × (keeps_by t c w ≡ false)

-- all traces that the first automaton accepts and the second doesn't
abbrev pub IsOutside : Automaton → Automaton → List ℕ → Type 0
IsOutside first second w = Accepts first w × (Accepts second w → ⊥)

-- a table is whole, and the pairs of its states with the automaton's fit
abbrev pub FitsStates : Automaton → Want → Type 0
FitsStates a Accepted = Unit {0}
FitsStates a (Beside t c) = IsTable t × (state_count a * t.states < 2 ^ 32)
