use Rattle.std.proofs.Common.{ap, ◌∙◌, arith}
use Rattle.std.proofs.lemmas.List.{get_or_read}
use Rattle.std.proofs.lemmas.Result.{IfOk-weaker}
use Rattle.dfa_core.proofs.Searches.{on-more, few-search}
use Rattle.dfa_core.proofs.search.Search.follow.Goals as goal

pub number_of-requires-clause-few : goal.number_of-requires-clause-few
number_of-requires-clause-few g c =
    let le = few-search (g.S.System.steps c.args.system.now) _ _ _ c.requires.on.order in
    omega (arith, c.requires.on.fits, le, c.args.self.now.states.ok.0)

pub returns-clause-ok : goal.returns-clause-ok
returns-clause-ok g c =
    let a = g.S.System.steps c.args.system.now in
    let old = c.args.self.now in
    let read = get_or_read old.states.items c.args.at c.index.result.now c.requires.at c.index.ensures 0 in
    IfOk-weaker c.number_of.result _ _ (λ number m. on-more a old c.number_of.new.self c.args.place c.args.at c.args.symbol c.step-state.result number c.requires.on c.requires.place c.requires.at c.requires.symbol
    (c.step-state.ensures.value ∙ ap (λ q. a.next q c.args.symbol) read) c.step-state.ensures.bound m) c.number_of.ensures.ok
