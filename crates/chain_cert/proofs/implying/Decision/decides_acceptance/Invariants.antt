use Rattle.std.proofs.Common.{◌≡◌, ℕ, ◌<◌, List, get_or, true, not}
use Rattle.template_core.specs.Tables.{accepts_at}
use Rattle.chain_cert.specs.Forms.{left, middle}
use Rattle.chain_cert.specs.Links.{is_accepting, last}
use Rattle.chain_cert.proofs.implying.Decision.decides_acceptance.Given as goal

abbrev pub invariant-loop-pair : goal.invariant-loop-pair
invariant-loop-pair l =
    (k : ℕ) (d : List ℕ) → k < l.pair-index → is_accepting (last l.self.links.now) (left (get_or l.self.pairs.now k d)) ≡ true
    → accepts_at l.self.table.now (middle (get_or l.self.pairs.now k d)) ≡ not l.self.dropped.now.conflict
