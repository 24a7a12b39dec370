use Rattle.std.proofs.Common.{◌≡◌, ◌∷◌, ◌++◌, [], Ok, refl, sym, subst, arith}
use Rattle.decl_outside.specs.Sink.{HoldsFront, WritesAll}
use Rattle.std.proofs.lemmas.Result.{err_from_is_err_and}
use Rattle.live_monitor.specs.Stands.{StandsFor, constraints_of, symbols_of}
use Rattle.monitor_lines.specs.Cases.{event_of, symbol_count}
use Rattle.monitor_lines.specs.Stepping.{PutsLine, PutsNext}
use Rattle.monitor_lines.proofs.Steps.{IsBetween, IsBetween-handed, IsBetween-more, IsBetween-none, IsKept-none, all_over, next_cause, nothing_printed, part_handed, prints_all, text_after}
use Rattle.monitor_lines.proofs.watching.watch.Goals as goal

pub returns-in_err-lines-clause-cause : goal.returns-in_err-lines-clause-cause
returns-in_err-lines-clause-cause g c =
    let p = err_from_is_err_and c.from_residual.result c.from_residual.ensures.1 in
    rw (p.1, p.2, c.in_err-lines.ensures.err) (nothing_printed c.args.limits.now c.args.names.now.names c.args.list.now (g.I.Inputs.state c.args.inputs.now).left (g.O.Sink.state c.args.out.now))

pub lines-init : goal.lines-init
lines-init g c =
    let same = sym c.new-cases.ensures.monitor in (
      [],
      [],
      subst (λ l. IsBetween c.args.limits.now c.args.names.now.names c.args.list.now (g.I.Inputs.state c.args.inputs.now) (g.I.Inputs.state c.args.inputs.now) (g.O.Sink.state c.args.out.now) (g.O.Sink.state c.args.out.now)
          c.in_ok-lines.lines c.new-cases.result l [] []) (sym c.new-texts.ensures)
          (IsBetween-none c.args.limits.now c.args.names.now.names c.args.list.now _ _ c.in_ok-lines.lines c.new-cases.result c.requires.open c.requires.out_takes c.in_ok-lines.ensures.ok
          (IsKept-none c.args.limits.now c.args.names.now.names c.args.list.now c.new-cases.result c.new-cases.ensures.found c.new-cases.ensures.texts
          (subst (λ m. StandsFor m []) same c.requires.stands)
          (subst (λ m. symbols_of m ≡ symbol_count c.args.names.now.names) same c.requires.symbols)
          (subst (λ m. constraints_of m ≡ c.args.list.now) same c.requires.constraints))),
    )

pub returns-in_err-settle-clause-out_faults : goal.returns-in_err-settle-clause-out_faults
returns-in_err-settle-clause-out_faults g c = omega (arith, c.lines.invariant.2.printed.later, c.in_err-settle.ensures.later)

pub returns-in_err-settle-clause-cause : goal.returns-in_err-settle-clause-cause
returns-in_err-settle-clause-cause g c =
    let h = c.lines.invariant.2 in
    let p = err_from_is_err_and c.from_residual-in_err-settle.result c.from_residual-in_err-settle.ensures.1 in
    rw (p.1, p.2, c.in_err-settle.ensures.err) (
      omega (arith, h.printed.later, c.in_err-settle.ensures.rose),
      part_handed c.args.limits.now c.args.names.now.names c.args.list.now (g.I.Inputs.state c.args.inputs.now) (g.I.Inputs.state c.lines.inputs) (g.O.Sink.state c.args.out.now) (g.O.Sink.state c.lines.out) (g.O.Sink.state c.settle.new.out) c.lines.lines c.lines.cases c.lines.texts.waiting.items c.lines.invariant.0 c.lines.invariant.1 h c.in_err-settle.ensures.front,
    )

pub lines-preserved : goal.lines-preserved
lines-preserved g c =
    let h = IsBetween-handed c.args.limits.now c.args.names.now.names c.args.list.now (g.I.Inputs.state c.args.inputs.now) (g.I.Inputs.state c.lines.inputs) (g.O.Sink.state c.args.out.now) (g.O.Sink.state c.lines.out) (g.O.Sink.state c.settle.new.out) c.lines.lines c.lines.cases c.lines.texts.waiting.items c.lines.invariant.0 c.lines.invariant.1 c.lines.invariant.2 c.settle.new.texts.waiting.items c.in_ok-settle.ensures.ok in
    let put : PutsLine c.args.limits.now c.args.names.now.names c.lines.lines c.put_next.new.lines (g.I.Inputs.state c.lines.inputs) (g.I.Inputs.state c.put_next.new.inputs) c.lines.cases c.put_next.new.cases
    c.settle.new.texts.waiting.items c.put_next.new.texts.waiting.items
    = subst (PutsNext c.args.limits.now c.args.names.now.names c.lines.lines c.put_next.new.lines (g.I.Inputs.state c.lines.inputs) (g.I.Inputs.state c.put_next.new.inputs) c.lines.cases c.put_next.new.cases
    c.settle.new.texts.waiting.items c.put_next.new.texts.waiting.items) c.in-Ok-true.field-0-test c.in-Ok-true.ensures.ok in
    let text = text_after c.args.limits.now c.args.names.now.names c.args.list.now (g.I.Inputs.state c.args.inputs.now) (g.I.Inputs.state c.lines.inputs) (g.I.Inputs.state c.put_next.new.inputs) (g.O.Sink.state c.args.out.now) (g.O.Sink.state c.settle.new.out)
    c.lines.lines c.put_next.new.lines c.lines.cases c.put_next.new.cases c.settle.new.texts.waiting.items c.lines.invariant.0 c.lines.invariant.1 put.line put.id h put.gives put.takes put.line.number put.text refl put.tells in (
      c.lines.invariant.0 ++ event_of put.line.bytes ∷ [],
      c.lines.invariant.1 ++ put.text ∷ [],
      subst (λ l. IsBetween c.args.limits.now c.args.names.now.names c.args.list.now (g.I.Inputs.state c.args.inputs.now) (g.I.Inputs.state c.put_next.new.inputs) (g.O.Sink.state c.args.out.now) (g.O.Sink.state c.settle.new.out)
          c.put_next.new.lines c.put_next.new.cases l (c.lines.invariant.0 ++ event_of put.line.bytes ∷ []) (c.lines.invariant.1 ++ put.text ∷ [])) (sym put.waits)
          (IsBetween-more c.args.limits.now c.args.names.now.names c.args.list.now (g.I.Inputs.state c.args.inputs.now) (g.I.Inputs.state c.lines.inputs) (g.I.Inputs.state c.put_next.new.inputs) (g.O.Sink.state c.args.out.now) (g.O.Sink.state c.settle.new.out)
          c.lines.lines c.put_next.new.lines c.lines.cases c.put_next.new.cases c.settle.new.texts.waiting.items c.lines.invariant.0 c.lines.invariant.1 put.line put.id h put.gives put.takes put.text c.put_next.ensures.keeps put.live put.limit text),
    )

pub returns-in_err-hand_over-in-Ok-false-clause-cause : goal.returns-in_err-hand_over-in-Ok-false-clause-cause
returns-in_err-hand_over-in-Ok-false-clause-cause g c =
    let h = IsBetween-handed c.args.limits.now c.args.names.now.names c.args.list.now (g.I.Inputs.state c.args.inputs.now) (g.I.Inputs.state c.lines.inputs) (g.O.Sink.state c.args.out.now) (g.O.Sink.state c.lines.out) (g.O.Sink.state c.settle.new.out) c.lines.lines c.lines.cases c.lines.texts.waiting.items c.lines.invariant.0 c.lines.invariant.1 c.lines.invariant.2 c.settle.new.texts.waiting.items c.in_ok-settle.ensures.ok in
    let none = subst (PutsNext c.args.limits.now c.args.names.now.names c.lines.lines c.put_next.new.lines (g.I.Inputs.state c.lines.inputs) (g.I.Inputs.state c.put_next.new.inputs) c.lines.cases c.put_next.new.cases
    c.settle.new.texts.waiting.items c.put_next.new.texts.waiting.items) c.in-Ok-false.field-0-test c.in-Ok-false.ensures.ok in
    let waits = none.1 in
    let front = subst (HoldsFront (g.O.Sink.state c.settle.new.out) (g.O.Sink.state c.hand_over.new.out)) waits c.in_err-hand_over-in-Ok-false.ensures.writes.front in
    let p = err_from_is_err_and c.from_residual-in_err-hand_over-in-Ok-false.result c.from_residual-in_err-hand_over-in-Ok-false.ensures.1 in
    rw (p.1, p.2, c.in_err-hand_over-in-Ok-false.ensures.err) (
      omega (arith, h.printed.later, c.in_err-hand_over-in-Ok-false.ensures.writes.cause),
      part_handed c.args.limits.now c.args.names.now.names c.args.list.now (g.I.Inputs.state c.args.inputs.now) (g.I.Inputs.state c.lines.inputs) (g.O.Sink.state c.args.out.now) (g.O.Sink.state c.settle.new.out) (g.O.Sink.state c.hand_over.new.out) c.lines.lines c.lines.cases c.settle.new.texts.waiting.items c.lines.invariant.0 c.lines.invariant.1 h front,
    )

pub returns-in_err-hand_over-in-Err-clause-cause : goal.returns-in_err-hand_over-in-Err-clause-cause
returns-in_err-hand_over-in-Err-clause-cause g c =
    let h = IsBetween-handed c.args.limits.now c.args.names.now.names c.args.list.now (g.I.Inputs.state c.args.inputs.now) (g.I.Inputs.state c.lines.inputs) (g.O.Sink.state c.args.out.now) (g.O.Sink.state c.lines.out) (g.O.Sink.state c.settle.new.out) c.lines.lines c.lines.cases c.lines.texts.waiting.items c.lines.invariant.0 c.lines.invariant.1 c.lines.invariant.2 c.settle.new.texts.waiting.items c.in_ok-settle.ensures.ok in
    let waits = c.in-Err.ensures.refused in
    let front = subst (HoldsFront (g.O.Sink.state c.settle.new.out) (g.O.Sink.state c.hand_over-in-Err.new.out)) waits c.in_err-hand_over-in-Err.ensures.writes.front in
    let p = err_from_is_err_and c.from_residual-in_err-hand_over-in-Err.result c.from_residual-in_err-hand_over-in-Err.ensures.1 in
    rw (p.1, p.2, c.in_err-hand_over-in-Err.ensures.err) (
      omega (arith, h.printed.later, c.in_err-hand_over-in-Err.ensures.writes.cause),
      part_handed c.args.limits.now c.args.names.now.names c.args.list.now (g.I.Inputs.state c.args.inputs.now) (g.I.Inputs.state c.lines.inputs) (g.O.Sink.state c.args.out.now) (g.O.Sink.state c.settle.new.out) (g.O.Sink.state c.hand_over-in-Err.new.out) c.lines.lines c.lines.cases c.settle.new.texts.waiting.items c.lines.invariant.0 c.lines.invariant.1 h front,
    )

pub returns-in-Ok-false-clause-all : goal.returns-in-Ok-false-clause-all
returns-in-Ok-false-clause-all g c =
    let h = IsBetween-handed c.args.limits.now c.args.names.now.names c.args.list.now (g.I.Inputs.state c.args.inputs.now) (g.I.Inputs.state c.lines.inputs) (g.O.Sink.state c.args.out.now) (g.O.Sink.state c.lines.out) (g.O.Sink.state c.settle.new.out) c.lines.lines c.lines.cases c.lines.texts.waiting.items c.lines.invariant.0 c.lines.invariant.1 c.lines.invariant.2 c.settle.new.texts.waiting.items c.in_ok-settle.ensures.ok in
    let none = subst (PutsNext c.args.limits.now c.args.names.now.names c.lines.lines c.put_next.new.lines (g.I.Inputs.state c.lines.inputs) (g.I.Inputs.state c.put_next.new.inputs) c.lines.cases c.put_next.new.cases
    c.settle.new.texts.waiting.items c.put_next.new.texts.waiting.items) c.in-Ok-false.field-0-test c.in-Ok-false.ensures.ok in
    let writes = subst (λ l. WritesAll (g.O.Sink.state c.settle.new.out) (g.O.Sink.state c.hand_over.new.out) l (Ok c.in_ok-hand_over-in-Ok-false.field-0)) none.1 c.in_ok-hand_over-in-Ok-false.ensures.writes in
    let whole = IsBetween-handed c.args.limits.now c.args.names.now.names c.args.list.now (g.I.Inputs.state c.args.inputs.now) (g.I.Inputs.state c.lines.inputs) (g.O.Sink.state c.args.out.now) (g.O.Sink.state c.settle.new.out) (g.O.Sink.state c.hand_over.new.out) c.lines.lines c.lines.cases c.settle.new.texts.waiting.items c.lines.invariant.0 c.lines.invariant.1 h [] (all_over (g.O.Sink.state c.settle.new.out) (g.O.Sink.state c.hand_over.new.out) c.settle.new.texts.waiting.items c.in_ok-hand_over-in-Ok-false.field-0 writes) in
    prints_all c.args.limits.now c.args.names.now.names c.args.list.now (g.I.Inputs.state c.args.inputs.now) (g.I.Inputs.state c.lines.inputs) (g.I.Inputs.state c.put_next.new.inputs) (g.O.Sink.state c.args.out.now) (g.O.Sink.state c.hand_over.new.out)
    c.lines.lines c.put_next.new.lines c.lines.cases c.lines.invariant.0 c.lines.invariant.1 whole none.0

pub returns-in-Err-clause-cause : goal.returns-in-Err-clause-cause
returns-in-Err-clause-cause g c =
    let h = IsBetween-handed c.args.limits.now c.args.names.now.names c.args.list.now (g.I.Inputs.state c.args.inputs.now) (g.I.Inputs.state c.lines.inputs) (g.O.Sink.state c.args.out.now) (g.O.Sink.state c.lines.out) (g.O.Sink.state c.settle.new.out) c.lines.lines c.lines.cases c.lines.texts.waiting.items c.lines.invariant.0 c.lines.invariant.1 c.lines.invariant.2 c.settle.new.texts.waiting.items c.in_ok-settle.ensures.ok in
    let writes = subst (λ l. WritesAll (g.O.Sink.state c.settle.new.out) (g.O.Sink.state c.hand_over-in-Err.new.out) l (Ok c.in_ok-hand_over-in-Err.field-0)) c.in-Err.ensures.refused c.in_ok-hand_over-in-Err.ensures.writes in
    let whole = IsBetween-handed c.args.limits.now c.args.names.now.names c.args.list.now (g.I.Inputs.state c.args.inputs.now) (g.I.Inputs.state c.lines.inputs) (g.O.Sink.state c.args.out.now) (g.O.Sink.state c.settle.new.out) (g.O.Sink.state c.hand_over-in-Err.new.out) c.lines.lines c.lines.cases c.settle.new.texts.waiting.items c.lines.invariant.0 c.lines.invariant.1 h [] (all_over (g.O.Sink.state c.settle.new.out) (g.O.Sink.state c.hand_over-in-Err.new.out) c.settle.new.texts.waiting.items c.in_ok-hand_over-in-Err.field-0 writes) in
    next_cause c.args.limits.now c.args.names.now.names c.args.list.now (g.I.Inputs.state c.args.inputs.now) (g.I.Inputs.state c.lines.inputs) (g.I.Inputs.state c.put_next.new.inputs) (g.O.Sink.state c.args.out.now) (g.O.Sink.state c.hand_over-in-Err.new.out)
    c.lines.lines c.put_next.new.lines c.lines.cases c.lines.invariant.0 c.lines.invariant.1 whole c.in-Err.refusal c.in-Err.ensures.cause
