use Rattle.std.proofs.Common.{ℕ, ◌<◌, List, get_or}
use Rattle.chain_cert.specs.Traces.{IsTrace}
use Rattle.chain_cert.proofs.forms.are_over.Given as goal

abbrev pub invariant-loop-trace : goal.invariant-loop-trace
invariant-loop-trace l = (k : ℕ) (d : List ℕ) → k < l.trace-index → IsTrace l.symbols (get_or l.traces k d)
