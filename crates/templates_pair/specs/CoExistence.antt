-- The automaton of CoExistence: the state after an event, and which states accept.
use Rattle.std.proofs.Common.{arith}
use Rattle.std.specs.Prelude.{◌==◌, ℕ, Bool, ◌||◌, cond, nat_lt, ◌+◌, ◌-◌}
use Rattle.template_core.specs.declared.class.Class.{Class}
use Rattle.template_core.specs.Automaton.{TemplateMeaning}
use Rattle.template_core.specs.declared.class.Class.TheVariants.{First, Second, Other}

-- 0: neither has come; 1: a has; 2: b has; 3: both have
abbrev pub next_after : ℕ → Class → ℕ
next_after state First = cond (nat_lt state 2) 1 3
next_after state Second = cond ((state == 0) || (state == 2)) 2 3
next_after state Other = state

abbrev pub accepts : ℕ → Bool
accepts state = (state == 0) || (state == 3)

abbrev pub meaning : TemplateMeaning
meaning = record { fulfilled_by = λ counts. (counts.first.occurrences - counts.onward.without) + (counts.second.occurrences - counts.back.without); states = 4; some_states = omega arith; next = next_after; accepts = accepts }
