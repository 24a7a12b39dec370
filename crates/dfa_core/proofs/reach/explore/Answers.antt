use Rattle.std.proofs.Common.{◌≡◌, ◌*◌, ℕ, length, ap, ◌∙◌, arith}
use Rattle.std.proofs.lemmas.List.{length_push}
use Rattle.dfa_core.proofs.Searches.{entries-more, explored-all, few-search}
use Rattle.dfa_core.proofs.reach.explore.Goals as goal

pub steps-preserved : goal.steps-preserved
steps-preserved g c =
    let a = g.S.System.steps c.args.system.now in
    let i = c.steps.invariant in
    let next = c.steps.next.items in
    let number = c.in_ok-number.number in
    let place : c.len-in-steps.result ≡ length next = omega (arith, c.len-in-steps.ensures, c.steps.next.ok.0) in
    let s = rw place at c.in_ok-number.ensures.ok in
    rw (c.in_ok-push.ensures.items, length_push next number) (record {
      on = s.on;
      entries = entries-more a c.steps.search c.follow.new.self next c.rows.at c.steps.symbol number s i.in_states (omega (arith, c.symbols-symbols.ensures)) i.row i.entries;
      row = omega (arith, i.row);
      in_states = omega (arith, s.grows, i.in_states);
    })

pub rows-smaller : goal.rows-smaller
rows-smaller g c =
    let le = few-search (g.S.System.steps c.args.system.now) _ _ _ c.rows.invariant.on.order in
    omega (arith, le, c.rows-test.true, c.len.ensures, c.rows.search.states.ok.0)

pub returns-clause-ok : goal.returns-clause-ok
returns-clause-ok g c =
    let a = g.S.System.steps c.args.system.now in
    let i = c.rows.invariant in
    let same : c.rows.at ≡ length c.rows.search.states.items = omega (arith, c.rows-test.false, c.len.ensures, c.rows.search.states.ok.0, i.in_states) in
    explored-all a c.rows.search _ i.on (i.rows ∙ ap (λ (n : ℕ). n * a.symbols) same) i.entries
