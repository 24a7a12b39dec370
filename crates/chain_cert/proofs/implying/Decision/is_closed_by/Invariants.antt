use Rattle.std.proofs.Common.{ℕ, ◌<◌, List, get_or}
use Rattle.chain_cert.specs.Checks.{step_pair}
use Rattle.chain_cert.specs.Forms.{Holds}
use Rattle.chain_cert.specs.Links.{last}
use Rattle.chain_cert.proofs.implying.Decision.is_closed_by.Given as goal

abbrev pub invariant-loop-pair : goal.invariant-loop-pair
invariant-loop-pair l = (k : ℕ) (d : List ℕ) → k < l.pair-index → Holds l.self.pairs.now (step_pair (last l.self.links.now) l.self.table.now l.self.dropped.now.constraint l.symbol (get_or l.self.pairs.now k d))
