-- The automaton of AlternateResponse: the state after an event, and which states accept.
use Rattle.std.proofs.Common.{arith}
use Rattle.std.specs.Prelude.{◌==◌, ℕ, Bool, cond, ◌-◌}
use Rattle.template_core.specs.declared.class.Class.{Class}
use Rattle.template_core.specs.Automaton.{TemplateMeaning}
use Rattle.template_core.specs.declared.class.Class.TheVariants.{First, Second, Other}

-- 0: no a waits for a b; 1: one does; 2: an a has come after another
abbrev pub next_after : ℕ → Class → ℕ
next_after state First = cond (state == 0) 1 2
next_after state Second = cond (state == 2) 2 0
next_after state Other = state

abbrev pub accepts : ℕ → Bool
accepts state = state == 0

abbrev pub meaning : TemplateMeaning
meaning = record { fulfilled_by = λ counts. (counts.first.occurrences - counts.onward.no_later) - counts.onward.rep_later; states = 3; some_states = omega arith; next = next_after; accepts = accepts }
