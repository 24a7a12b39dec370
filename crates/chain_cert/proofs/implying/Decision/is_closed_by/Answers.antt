use Rattle.std.proofs.Common.{List, ℕ, refl, sym, ◌∙◌}
use Rattle.std.proofs.lemmas.Bool.{false≢true}
use Rattle.chain_cert.proofs.Each.{each-here, each-more}
use Rattle.chain_cert.specs.Checks.{step_pair}
use Rattle.chain_cert.specs.Forms.{Holds}
use Rattle.chain_cert.specs.Links.{last}
use Rattle.chain_cert.proofs.implying.Decision.is_closed_by.Goals as goal

pub returns-then-not-holds_stepped : goal.returns-then-not-holds_stepped
returns-then-not-holds_stepped c =
    let P : List ℕ → Type 0 = λ pair. Holds c.args.self.now.pairs.now (step_pair (last c.args.self.now.links.now) c.args.self.now.table.now c.args.self.now.dropped.now.constraint c.args.symbol pair) in (
      λ e. absurd (false≢true e),
      λ closed. sym c.if-not-holds_stepped.true ∙ c.holds_stepped.ensures.1 (each-here P c.args.self.now.pairs.now c.args.self.now.pairs.now refl c.loop-pair.pair-index _ c.loop-pair-test.true closed.each),
    )

pub loop-pair-preserved : goal.loop-pair-preserved
loop-pair-preserved c =
    let P : List ℕ → Type 0 = λ pair. Holds c.args.self.now.pairs.now (step_pair (last c.args.self.now.links.now) c.args.self.now.table.now c.args.self.now.dropped.now.constraint c.args.symbol pair) in
    each-more P c.args.self.now.pairs.now c.args.self.now.pairs.now refl c.loop-pair.pair-index _ c.loop-pair-test.true c.loop-pair.invariant (c.holds_stepped.ensures.0 c.if-not-holds_stepped.false)
