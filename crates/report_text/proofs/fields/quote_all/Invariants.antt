use Rattle.std.proofs.Common.{◌≡◌, map, take, string_bytes}
use Rattle.report_text.specs.Fields.{quoted}
use Rattle.report_text.proofs.fields.quote_all.Given as goal

abbrev pub invariant-loop-id : goal.invariant-loop-id
invariant-loop-id l = map string_bytes l.texts.items ≡ map quoted (take l.id l.names.names)
