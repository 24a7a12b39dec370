use Rattle.std.proofs.Common.{◌<◌, sym, subst, arith}
use Rattle.std.proofs.lemmas.List.{get_or_read}
use Rattle.std.proofs.lemmas.Result.{IfOk-weaker}
use Rattle.dfa_core.specs.Automaton.{steps_of}
use Rattle.chain_make.specs.Searching.{found_of}
use Rattle.chain_make.specs.declared.search.Found.{Found}
use Rattle.chain_make.proofs.Searches.{beside-below, follows-at, found-below}
use Rattle.chain_make.proofs.search.Search.follow.Goals as goal

pub step-state-requires-clause-state : goal.step-state-requires-clause-state
step-state-requires-clause-state g c =
    let s = g.S.System.steps c.args.system.now in
    let old = c.args.self.now in
    let read = get_or_read old.found.items c.args.at c.index-found.result.now c.requires.at c.index-found.ensures (found_of 0 0) in
    subst (λ (f : Found). f.state < s.states) (sym read) (found-below s (steps_of c.args.dfa.now) old.beside.items old.found.items c.requires.search c.args.at c.requires.at)

pub step-beside-requires-clause-state : goal.step-beside-requires-clause-state
step-beside-requires-clause-state g c =
    let s = g.S.System.steps c.args.system.now in
    let old = c.args.self.now in
    let read = get_or_read old.found.items c.args.at c.index-found.result.now c.requires.at c.index-found.ensures (found_of 0 0) in
    subst (λ (f : Found). f.beside < (steps_of c.args.dfa.now).states) (sym read) (beside-below s (steps_of c.args.dfa.now) old.beside.items old.found.items c.requires.search c.args.at c.requires.at)

pub add-requires : goal.add-requires
add-requires g c = omega (arith, c.step-state.ensures.bound, c.requires.search.as_many, c.args.self.now.beside.ok.0)

pub returns-clause-ok : goal.returns-clause-ok
returns-clause-ok g c =
    let s = g.S.System.steps c.args.system.now in
    let old = c.args.self.now in
    let read = get_or_read old.found.items c.args.at c.index-found.result.now c.requires.at c.index-found.ensures (found_of 0 0) in
    let symbol : c.args.symbol < s.symbols = omega (arith, c.requires.symbol, c.requires.same_symbols) in
    IfOk-weaker c.add.result _ _ (λ done a. follows-at s (steps_of c.args.dfa.now) old c.add.new.self c.args.at c.args.symbol c.index-found.result.now c.step-state.result c.step-beside.result c.requires.one c.requires.search c.requires.at symbol read
    c.step-state.ensures.value c.step-beside.ensures.value c.step-state.ensures.bound c.step-beside.ensures.bound a) c.add.ensures.ok
