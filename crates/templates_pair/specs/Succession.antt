-- The automaton of Succession: the state after an event, and which states accept.
use Rattle.std.proofs.Common.{arith}
use Rattle.std.specs.Prelude.{◌==◌, ℕ, Bool, ◌||◌, cond, ◌+◌, ◌-◌}
use Rattle.template_core.specs.declared.class.Class.{Class}
use Rattle.template_core.specs.Automaton.{TemplateMeaning}
use Rattle.template_core.specs.declared.class.Class.TheVariants.{First, Second, Other}

-- 0: no a has come; 1: some a waits for a b; 2: a b has come before any a; 3: some a has come, and none waits
abbrev pub next_after : ℕ → Class → ℕ
next_after state First = cond (state == 2) 2 1
next_after state Second = cond ((state == 0) || (state == 2)) 2 3
next_after state Other = state

abbrev pub accepts : ℕ → Bool
accepts state = (state == 0) || (state == 3)

abbrev pub meaning : TemplateMeaning
meaning = record { fulfilled_by = λ counts. (counts.first.occurrences - counts.onward.no_later) + (counts.second.occurrences - counts.back.no_earlier); states = 4; some_states = omega arith; next = next_after; accepts = accepts }
