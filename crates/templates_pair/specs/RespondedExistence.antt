-- The automaton of RespondedExistence: the state after an event, and which states accept.
use Rattle.std.proofs.Common.{arith}
use Rattle.std.specs.Prelude.{◌==◌, ℕ, Bool, not, cond, ◌-◌}
use Rattle.template_core.specs.declared.class.Class.{Class}
use Rattle.template_core.specs.Automaton.{TemplateMeaning}
use Rattle.template_core.specs.declared.class.Class.TheVariants.{First, Second, Other}

-- 0: neither has come; 1: an a and no b; 2: a b
abbrev pub next_after : ℕ → Class → ℕ
next_after state First = cond (state == 2) 2 1
next_after state Second = 2
next_after state Other = state

abbrev pub accepts : ℕ → Bool
accepts state = not (state == 1)

abbrev pub meaning : TemplateMeaning
meaning = record { fulfilled_by = λ counts. counts.first.occurrences - counts.onward.without; states = 3; some_states = omega arith; next = next_after; accepts = accepts }
