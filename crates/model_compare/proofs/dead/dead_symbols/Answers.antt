use Rattle.std.proofs.Common.{◌≡◌, ℕ, ◌+◌, ◌<◌, arith}
use Rattle.model_compare.specs.Unused.{IsUnused}
use Rattle.model_compare.proofs.Sinks.{leads-unused, none-unused, unused-leads}
use Rattle.model_compare.proofs.Those.{below-more, below-skip, those-none, those-same}
use Rattle.model_compare.proofs.dead.dead_symbols.Goals.{then-leads_to+in_ok-push, else-leads_to}
use Rattle.model_compare.proofs.dead.dead_symbols.Goals as goal

pub returns-in_default-clause-ok : goal.returns-in_default-clause-ok
returns-in_default-clause-ok c =
    let a = c.args.dfa.now in
    rw c.new-dead.ensures.items (those-none (λ x. (x + 1 < a.symbols) × IsUnused a x) (λ x p.
    let lt = p.0 in
    let within : x < a.symbols = omega (arith, lt) in none-unused a c.requires.least c.requires.in_order c.in_default.ensures x within p.1))

pub loop-symbol-preserved : goal.loop-symbol-preserved
loop-symbol-preserved c =
    let a = c.args.dfa.now in
    let x = c.loop-symbol.symbol in
    let dead = c.loop-symbol.dead.items in
    let sink = c.in-Some.ensures in
    let count = c.symbols-symbol-end.ensures in
    let inside = c.loop-symbol-test.true in
    let within : x < a.symbols = omega (arith, count, inside) in
    elim c.if-leads_to.branch [
      | then-leads_to+in_ok-push w ↦
          rw (w.dead-is, w.in_ok-push.ensures.items) (below-more (IsUnused a) x dead c.loop-symbol.invariant (unused-leads a c.requires.least c.in-Some.sink x sink.1 (c.leads_to.ensures.0 w.if-leads_to.true)))
      | else-leads_to w ↦
          rw w.dead-is (below-skip (IsUnused a) x dead c.loop-symbol.invariant (λ unused.
          let yes_ = c.leads_to.ensures.1 (leads-unused a c.requires.least c.requires.in_order c.in-Some.sink x sink.0 sink.1 unused within) in
          let no_ = w.if-leads_to.false in absurd (cc (yes_, no_))))
    ]

pub returns-clause-ok : goal.returns-clause-ok
returns-clause-ok c =
    let a = c.args.dfa.now in
    let x_end = c.loop-symbol.symbol in
    let some = c.requires.some_symbols in
    let count = c.symbols-symbol-end.ensures in
    let le = c.loop-symbol.auto.symbol-end in
    let ge = c.loop-symbol-test.false in
    let last : x_end + 1 ≡ a.symbols = omega (arith, some, count, le, ge) in
    those-same (λ x. (x < x_end) × IsUnused a x) (λ x. (x + 1 < a.symbols) × IsUnused a x) c.loop-symbol.dead.items (λ x. (
      λ p. (let lt = p.0 in (omega (arith, lt, last), p.1)),
      λ p. (let lt = p.0 in (omega (arith, lt, last), p.1)),
    )) c.loop-symbol.invariant
