use Rattle.std.proofs.Common.{arith, ap, sym, ◌∙◌}
use Rattle.std.proofs.lemmas.Option.{slice_get_past}
use Rattle.report_text.specs.OpenTraces.{name_or_null}
use Rattle.report_text.proofs.open_traces.name_or_null.Goals as goal

pub returns-else-symbol-len : goal.returns-else-symbol-len
returns-else-symbol-len c = c.from.ensures ∙ ap name_or_null (sym (slice_get_past c.args.names.now.names c.args.symbol (omega (arith, c.if-symbol-len.false, c.len.ensures))))
