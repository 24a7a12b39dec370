use Rattle.std.proofs.Common.{◌∙◌, refl, ap, sym, length, arith}
use Rattle.std.specs.Str.{is_utf8}
use Rattle.std.proofs.lemmas.Result.{err_from_is_err_and}
use Rattle.std.proofs.lemmas.Str.{is_utf8-from_IsUtf8}
use Rattle.event_log.proofs.Appearing.{place-with_name}
use Rattle.strings_log.proofs.Texts.{not_utf8}
use Rattle.monitor_lines.proofs.Begun.{TakesLine-of, no_case, symbol-below, tab-found, tab-missed}
use Rattle.monitor_lines.proofs.cases.Cases.take.Goals as goal

pub returns-in-Err-clause-cause : goal.returns-in-Err-clause-cause
returns-in-Err-clause-cause c = (c.number-number.ensures, ap is_utf8 (sym c.bytes.ensures) ∙ not_utf8 c.bytes.result.now c.in-Err.ensures.cases.0)

pub returns-in_default-clause-cause : goal.returns-in_default-clause-cause
returns-in_default-clause-cause c = (
  c.number-number.ensures,
  ap is_utf8 (sym c.bytes.ensures) ∙ is_utf8-from_IsUtf8 c.bytes.result.now c.in-Ok.ensures.cases.1,
  tab-missed c.in-Ok.text.now c.args.line.now.bytes c.in_default.ensures.cases (c.in-Ok.ensures.cases.0 ∙ c.bytes.ensures),
)

pub returns-then-number-limits-clause-cause : goal.returns-then-number-limits-clause-cause
returns-then-number-limits-clause-cause c =
    let tab = tab-found c.in-Ok.text.now c.args.line.now.bytes c.in-Some.case c.in-Some.name c.in-Some.ensures.cases (c.in-Ok.ensures.cases.0 ∙ c.bytes.ensures) in
    (refl, ap is_utf8 (sym c.bytes.ensures) ∙ is_utf8-from_IsUtf8 c.bytes.result.now c.in-Ok.ensures.cases.1, tab.0, omega (arith, c.if-number-limits.true, c.number-number.ensures))

pub returns-in_err-id-clause-cause : goal.returns-in_err-id-clause-cause
returns-in_err-id-clause-cause c =
    let tab = tab-found c.in-Ok.text.now c.args.line.now.bytes c.in-Some.case c.in-Some.name c.in-Some.ensures.cases (c.in-Ok.ensures.cases.0 ∙ c.bytes.ensures) in
    let p = err_from_is_err_and c.from_residual.result c.from_residual.ensures.1 in
    rw (p.1, p.2) (no_case c.args.limits.now c.args.self.now.found c.args.line.now c.in-Some.case.now _ c.requires.limit
    (ap is_utf8 (sym c.bytes.ensures) ∙ is_utf8-from_IsUtf8 c.bytes.result.now c.in-Ok.ensures.cases.1) tab.0 tab.1
    (omega (arith, c.if-number-limits.false, c.number-number.ensures)) c.in_err-id.ensures.cause)

pub event-requires-clause-begun : goal.event-requires-clause-begun
event-requires-clause-begun c =
    let has = c.in_ok-id.ensures.ok in
    omega (arith, c.in_ok-id.ensures.id, (place-with_name c.args.self.now.found.names c.in-Some.case.now).0, ap (λ n. length n.names) has.found, has.ready.count)

pub event-requires-clause-known : goal.event-requires-clause-known
event-requires-clause-known c =
    let has = c.in_ok-id.ensures.ok in
    omega (arith, c.symbol_of.ensures, symbol-below c.args.names.now.names c.in-Some.name.now, has.symbols, c.requires.symbols)

pub returns-clause-ok : goal.returns-clause-ok
returns-clause-ok c =
    let tab = tab-found c.in-Ok.text.now c.args.line.now.bytes c.in-Some.case c.in-Some.name c.in-Some.ensures.cases (c.in-Ok.ensures.cases.0 ∙ c.bytes.ensures) in
    TakesLine-of c.args.limits.now c.args.names.now.names c.args.self.now c.number_of.new.self _ c.args.line.now c.in-Some.case.now c.in-Some.name.now c.in_ok-id.id c.symbol_of.result tab c.in_ok-id.ensures.ok
    (ap is_utf8 (sym c.bytes.ensures) ∙ is_utf8-from_IsUtf8 c.bytes.result.now c.in-Ok.ensures.cases.1) (omega (arith, c.if-number-limits.false, c.number-number.ensures)) c.in_ok-id.ensures.id c.symbol_of.ensures
    refl refl c.event.ensures.cases c.event.ensures.symbols c.event.ensures.constraints c.event.ensures.monitor c.event.ensures.stands
