use Rattle.std.proofs.Common.{List, ℕ, sym, ◌∙◌, refl}
use Rattle.std.proofs.lemmas.Bool.{false≢true}
use Rattle.chain_cert.proofs.Each.{each-all, each-here, each-more}
use Rattle.chain_cert.specs.Checks.{step_triple}
use Rattle.chain_cert.specs.Forms.{Holds}
use Rattle.chain_cert.specs.Links.{before}
use Rattle.chain_cert.proofs.linking.Relation.is_closed_by.Goals as goal

pub returns-then-not-holds_stepped : goal.returns-then-not-holds_stepped
returns-then-not-holds_stepped c =
    let P : List ℕ → Type 0 = λ triple. Holds c.args.self.now.link.now.pairs (step_triple (before c.args.self.now.links.now c.args.self.now.place) c.args.self.now.table.now c.args.self.now.constraint.now c.args.self.now.link.now c.args.symbol triple) in (
      λ e. absurd (false≢true e),
      λ closed. sym c.if-not-holds_stepped.true
          ∙ c.holds_stepped.ensures.1 (each-here P c.args.self.now.link.now.pairs c.pairs-triple-items.result.now c.pairs-triple-items.ensures.value c.loop-triple.triple-index _ c.loop-triple-test.true closed.each),
    )

pub loop-triple-preserved : goal.loop-triple-preserved
loop-triple-preserved c =
    let P : List ℕ → Type 0 = λ triple. Holds c.args.self.now.link.now.pairs (step_triple (before c.args.self.now.links.now c.args.self.now.place) c.args.self.now.table.now c.args.self.now.constraint.now c.args.self.now.link.now c.args.symbol triple) in
    each-more P c.args.self.now.link.now.pairs c.pairs-triple-items.result.now c.pairs-triple-items.ensures.value c.loop-triple.triple-index _ c.loop-triple-test.true c.loop-triple.invariant
    (c.holds_stepped.ensures.0 c.if-not-holds_stepped.false)

pub returns : goal.returns
returns c =
    let P : List ℕ → Type 0 = λ triple. Holds c.args.self.now.link.now.pairs (step_triple (before c.args.self.now.links.now c.args.self.now.place) c.args.self.now.table.now c.args.self.now.constraint.now c.args.self.now.link.now c.args.symbol triple) in (
      λ yes. record {
        each = each-all P c.args.self.now.link.now.pairs c.pairs-triple-items.result.now c.pairs-triple-items.ensures.value c.loop-triple.triple-index c.loop-triple-test.false c.loop-triple.invariant;
      },
      λ closed. refl,
    )
