use Rattle.std.proofs.Common.{◌≡◌, ◌+◌, ◌*◌, ◌<◌, ℕ, length, sym, true, false, ap, ◌∙◌, get_or, arith}
use Rattle.std.proofs.lemmas.List.{get_or_read}
use Rattle.dfa_core.proofs.Paths.{first-found, none-found, to}
use Rattle.dfa_core.proofs.Places.{place_fits}
use Rattle.dfa_core.proofs.Searches.{none-more, few-search}
use Rattle.dfa_core.proofs.reach.first_found.Goals.{else-number-count-via-then-number-count+else-accepting-2, else-number-count-via-else-number-count}
use Rattle.dfa_core.proofs.reach.first_found.Goals as goal

pub trace_to-requires-clause-there : goal.trace_to-requires-clause-there
trace_to-requires-clause-there g c =
    let s = c.in_ok-number.ensures.ok in
    omega (arith, s.bound, s.on.order.found_length, c.follow.new.self.found.ok.0)

pub trace_to-requires-clause-earlier : goal.trace_to-requires-clause-earlier
trace_to-requires-clause-earlier g c =
    let s = c.in_ok-number.ensures.ok in
    rw c.symbols-symbols.ensures (λ t p l. s.on.order.found_earlier t p (omega (arith, l, s.on.order.found_length, c.follow.new.self.found.ok.0)))

pub returns-then-accepting-2-clause-ok : goal.returns-then-accepting-2-clause-ok
unfolding to
returns-then-accepting-2-clause-ok g c =
    let a = g.S.System.steps c.args.system.now in
    let i = c.steps.invariant in
    let old = c.steps.search in
    let new = c.follow.new.self in
    let number = c.in_ok-number.number in
    let s = c.in_ok-number.ensures.ok in
    let last : number ≡ length old.states.items = omega (arith, c.if-number-count.true, c.len-count.ensures, old.states.ok.0) in
    let read = get_or_read new.states.items c.len-count.result c.index.result.now (omega (arith, s.bound, c.if-number-count.true)) c.index.ensures 0 in
    let ok : a.accepting (get_or new.states.items number 0) ≡ true =
    ap (λ k. a.accepting (get_or new.states.items k 0)) c.if-number-count.true ∙ (ap a.accepting (sym read) ∙ (sym c.accepting-then-number-count.ensures ∙ c.if-accepting-2.true)) in
    rw (c.in_ok-trace_to.ensures.ok, c.symbols-symbols.ensures)
    (first-found a new.states.items new.found.items (c.steps.place + 1) s.on.order number s.bound ok
    (λ k l. let lk : k < length old.states.items = omega (arith, l, last) in ap a.accepting (s.stay k lk) ∙ i.none k lk))

pub overflow_add-place : goal.overflow_add-place
overflow_add-place g c =
    let i = c.steps.invariant in
    let le = few-search (g.S.System.steps c.args.system.now) _ _ _ i.on.order in
    let fits = place_fits c.rows.at c.steps.symbol (length c.steps.search.states.items) (g.S.System.steps c.args.system.now).symbols i.in_states (omega (arith, c.symbols-symbols.ensures))
    (omega (arith, i.on.fits, le)) (omega (arith, c.symbols-symbols.type_inv, c.symbols-symbols.ensures)) in
    omega (arith, fits, i.row)

pub steps-preserved : goal.steps-preserved
steps-preserved g c =
    let a = g.S.System.steps c.args.system.now in
    let i = c.steps.invariant in
    let old = c.steps.search in
    let new = c.follow.new.self in
    let number = c.in_ok-number.number in
    let s = c.in_ok-number.ensures.ok in
    let fresh : number ≡ length old.states.items → a.accepting (get_or new.states.items number 0) ≡ false = λ e. elim c.else-number-count.branch [
      | else-number-count-via-then-number-count+else-accepting-2 w ↦
          let read = get_or_read new.states.items c.len-count.result w.index.result.now (omega (arith, s.bound, w.if-number-count.true)) w.index.ensures 0 in
          ap (λ k. a.accepting (get_or new.states.items k 0)) w.if-number-count.true ∙ (ap a.accepting (sym read) ∙ (sym w.accepting-then-number-count.ensures ∙ w.if-accepting-2.false))
      | else-number-count-via-else-number-count w ↦ absurd (omega (arith, e, w.if-number-count.false, c.len-count.ensures, old.states.ok.0))
    ] in
    record {
      on = s.on;
      none = none-more a old new c.steps.place c.rows.at c.steps.symbol number s i.none fresh;
      row = omega (arith, i.row);
      in_states = omega (arith, s.grows, i.in_states);
    }

pub rows-smaller : goal.rows-smaller
rows-smaller g c =
    let le = few-search (g.S.System.steps c.args.system.now) _ _ _ c.rows.invariant.on.order in
    omega (arith, le, c.rows-test.true, c.len.ensures, c.rows.search.states.ok.0)

pub returns-clause-ok : goal.returns-clause-ok
returns-clause-ok g c =
    let a = g.S.System.steps c.args.system.now in
    let i = c.rows.invariant in
    let same : c.rows.at ≡ length c.rows.search.states.items = omega (arith, c.rows-test.false, c.len.ensures, c.rows.search.states.ok.0, i.in_states) in
    none-found a _ _ _ i.on.order (i.rows ∙ ap (λ (n : ℕ). n * a.symbols) same) i.none
