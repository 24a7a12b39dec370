use Rattle.std.proofs.Common.{◌≡◌, ◌<◌, ℕ}
use Rattle.dfa_core.specs.Automaton.{step}
use Rattle.live_monitor.proofs.watched_list.stays.Given as goal

abbrev pub invariant-loop-symbol : goal.invariant-loop-symbol
invariant-loop-symbol l = (x : ℕ) → x < l.symbol → step l.dfa l.state x ≡ l.state
