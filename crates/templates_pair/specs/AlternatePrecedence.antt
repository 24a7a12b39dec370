-- The automaton of AlternatePrecedence: the state after an event, and which states accept.
use Rattle.std.proofs.Common.{arith}
use Rattle.std.specs.Prelude.{◌==◌, ℕ, Bool, not, cond, ◌-◌}
use Rattle.template_core.specs.declared.class.Class.{Class}
use Rattle.template_core.specs.Automaton.{TemplateMeaning}
use Rattle.template_core.specs.declared.class.Class.TheVariants.{First, Second, Other}

-- 0: no a since the last b; 1: one; 2: a b has come with no a since the last b
abbrev pub next_after : ℕ → Class → ℕ
next_after state First = cond (state == 2) 2 1
next_after state Second = cond (state == 1) 0 2
next_after state Other = state

abbrev pub accepts : ℕ → Bool
accepts state = not (state == 2)

abbrev pub meaning : TemplateMeaning
meaning = record { fulfilled_by = λ counts. counts.second.occurrences - counts.back.no_earlier - counts.back.rep_earlier; states = 3; some_states = omega arith; next = next_after; accepts = accepts }
