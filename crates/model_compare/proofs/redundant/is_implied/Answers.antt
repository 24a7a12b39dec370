use Rattle.std.proofs.Common.{◌≡◌, List, is_some, subst, ◌∙◌}
use Rattle.template_core.specs.declared.constraint.Constraint.{Constraint}
use Rattle.model_compare.specs.Analysis.{others}
use Rattle.model_compare.specs.Narrow.{IsNarrowAutomaton}
use Rattle.model_compare.specs.Unused.{IsTold}
use Rattle.model_compare.proofs.Implied.{not_back, told}
use Rattle.model_compare.proofs.redundant.is_implied.Goals as goal

pub returns-clause-ok : goal.returns-clause-ok
returns-clause-ok c =
    let n = c.args.symbols in
    let s = c.args.states in
    let list = c.args.list.now in
    let place = c.args.place in
    let broken = c.in_ok-broken.broken in
    let rest : c.deref.result.now ≡ others place list = c.deref.ensures.value ∙ c.in_ok-others.ensures.ok in
    let narrow = subst (λ (l : List Constraint). IsNarrowAutomaton n s l c.in_ok-dfa.dfa) rest c.in_ok-dfa.ensures.ok in
    subst (IsTold n s list place) (not_back (is_some broken) c.is_none.result c.is_none.ensures) (told n s list place c.in_ok-dfa.dfa broken narrow c.requires.place c.in_ok-broken.ensures.ok)
