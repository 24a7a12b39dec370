use Rattle.std.proofs.Common.{ℕ, zero, suc, ◌<◌, [], ◌∷◌, nat_eq, ◌∙◌, arith, lit<}
use Rattle.template_core.specs.Counts.{traces_with}
use Rattle.scoring.proofs.tests.aa_twice.Goals as goal

each : (rank : ℕ) → rank < 1 → 0 < traces_with nat_eq rank ((0 ∷ 0 ∷ []) ∷ (0 ∷ 0 ∷ []) ∷ [])
each zero h = lit< tt
each (suc n) h = absurd (omega arith)

pub returns-clause-events : goal.returns-clause-events
returns-clause-events c =
    let count = c.feed_trace-2.ensures.activities ∙ c.feed_trace.ensures.activities ∙ c.in_ok-kb.ensures.activities in
    (_, c.feed_trace-2.ensures.stands _ (c.feed_trace.ensures.stands _ c.in_ok-kb.ensures.stands), λ rank h. each rank (omega (arith, count)))
