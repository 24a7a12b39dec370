use Rattle.std.proofs.Common.{arith}
use Rattle.dfa_core.specs.Automaton.{steps_of}
use Rattle.chain_make.proofs.Searches.{beside-all, few-found, followed-none, followed-row, followed-step, search-start}
use Rattle.chain_make.proofs.search.states_beside.Goals as goal

pub rows-init : goal.rows-init
rows-init g c =
    let s = g.S.System.steps c.args.system.now in
    record {
      followed = followed-none s (steps_of c.args.dfa.now) c.in_ok-search.search (search-start s (steps_of c.args.dfa.now) c.in_ok-search.search.beside.items c.in_ok-search.search.found.items
          (rw c.start.ensures.value at c.start.ensures.bound) (rw c.start-2.ensures.value at c.start-2.ensures.bound) (rw (c.states.ensures, c.start.ensures.value, c.start-2.ensures.value) at c.in_ok-search.ensures.beside)
          (rw (c.start.ensures.value, c.start-2.ensures.value) at c.in_ok-search.ensures.found));
      in_found = omega arith;
    }

pub steps-init : goal.steps-init
steps-init g c = record {
  followed = c.rows.invariant.followed;
  in_found = omega (arith, c.rows-test.true, c.len.ensures, c.rows.search.found.ok.0);
}

pub steps-preserved : goal.steps-preserved
steps-preserved g c =
    let s = g.S.System.steps c.args.system.now in
    let i = c.steps.invariant in
    let f = c.in_ok-follow.ensures.ok in
    record {
      followed = followed-step s (steps_of c.args.dfa.now) c.steps.search c.follow.new.self c.rows.at c.steps.symbol i.in_found i.followed f;
      in_found = omega (arith, i.in_found, f.grows);
    }

pub rows-preserved : goal.rows-preserved
rows-preserved g c =
    let s = g.S.System.steps c.args.system.now in
    let i = c.steps.invariant in
    record {
      followed = followed-row s (steps_of c.args.dfa.now) c.steps.search c.rows.at c.steps.symbol (omega (arith, c.steps-test.false, c.symbols-symbol-end.ensures, c.requires.same_symbols)) i.followed;
      in_found = omega (arith, i.in_found);
    }

pub rows-smaller : goal.rows-smaller
rows-smaller g c =
    let le = few-found (g.S.System.steps c.args.system.now) (steps_of c.args.dfa.now) c.rows.search c.rows.invariant.followed.search_is in
    omega (arith, le, c.rows-test.true, c.len.ensures, c.rows.search.found.ok.0)

pub returns-clause-ok : goal.returns-clause-ok
returns-clause-ok g c =
    beside-all (g.S.System.steps c.args.system.now) (steps_of c.args.dfa.now) c.rows.search c.rows.at (omega (arith, c.rows-test.false, c.len.ensures, c.rows.search.found.ok.0)) c.rows.invariant.followed
