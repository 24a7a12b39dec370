use Rattle.std.proofs.Common.{◌/◌, ◌%◌}
use Rattle.dfa_core.specs.Automaton.{step_column}
use Rattle.chain_make.specs.Copies.{AreValues}
use Rattle.chain_make.proofs.copy.rows_of.Given as goal

abbrev pub invariant-loop-place : goal.invariant-loop-place
invariant-loop-place l = AreValues l.place (λ k. step_column l.dfa (k / l.dfa.width) (k % l.dfa.width)) l.rows.items
