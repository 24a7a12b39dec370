use Rattle.std.proofs.Common.{◌≡◌, ℕ, ◌<◌, List, get_or, true}
use Rattle.template_core.specs.Tables.{accepts_at}
use Rattle.chain_cert.specs.Forms.{left, middle, right}
use Rattle.chain_cert.specs.Links.{before, is_accepting}
use Rattle.chain_cert.proofs.linking.Relation.accepts_where_both.Given as goal

abbrev pub invariant-loop-triple : goal.invariant-loop-triple
invariant-loop-triple l =
    (k : ℕ) (d : List ℕ) → k < l.triple-index → is_accepting (before l.self.links.now l.self.place) (left (get_or l.triple-items k d)) ≡ true
    → accepts_at l.self.table.now (middle (get_or l.triple-items k d)) ≡ true → is_accepting l.self.link.now (right (get_or l.triple-items k d)) ≡ true
