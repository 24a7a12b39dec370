-- The automaton of Response: the state after an event, and which states accept.
use Rattle.std.proofs.Common.{arith}
use Rattle.std.specs.Prelude.{◌==◌, ℕ, Bool, ◌-◌}
use Rattle.template_core.specs.Automaton.{TemplateMeaning}
use Rattle.template_core.specs.declared.class.Class.TheVariants.{First, Second, Other}
use Rattle.template_core.specs.declared.class.Class.{Class}

-- 0: no a waits for a b; 1: some a does
abbrev pub next_after : ℕ → Class → ℕ
next_after state First = 1
next_after state Second = 0
next_after state Other = state

abbrev pub accepts : ℕ → Bool
accepts state = state == 0

abbrev pub meaning : TemplateMeaning
meaning = record { fulfilled_by = λ counts. counts.first.occurrences - counts.onward.no_later; states = 2; some_states = omega arith; next = next_after; accepts = accepts }
