use Rattle.std.proofs.Common.{ℕ, List, IfOk, subst}
use Rattle.std.proofs.lemmas.Result.{IfOk-weaker}
use Rattle.dfa_core.specs.Automaton.{Accepts}
use Rattle.dfa_core.specs.Languages.{IsLeastIfAny}
use Rattle.dfa_core.specs.Shortlex.{IsBefore}
use Rattle.dfa_product.proofs.AfterRuns.{found-after}
use Rattle.dfa_product.proofs.after.first_after.Goals as goal

pub returns-clause-ok : goal.returns-clause-ok
returns-clause-ok c =
    let a = c.args.dfa.now in
    let found = IfOk-weaker c.first_accepted.result _ _ (found-after a c.events-events.result.now) c.first_accepted.ensures.ok in
    subst (λ (t : List ℕ). IfOk c.first_accepted.result (IsLeastIfAny a.symbols (λ w. Accepts a w × IsBefore t w))) c.events-events.ensures found
