use Rattle.std.proofs.Common.{sym, ◌∙◌}
use Rattle.std.specs.Str.{bytes_eq}
use Rattle.event_log.proofs.Naming.{position-none}
use Rattle.trace_check.proofs.index.number_in.Goals as goal

pub returns-in-None : goal.returns-in-None
returns-in-None c = c.len.ensures ∙ position-none (bytes_eq c.args.name.now) c.args.names.now.names (sym c.in-None.is ∙ c.find.ensures)
