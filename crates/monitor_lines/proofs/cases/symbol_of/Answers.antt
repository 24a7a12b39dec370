use Rattle.std.proofs.Common.{◌∙◌}
use Rattle.std.specs.Str.{bytes_eq}
use Rattle.event_log.proofs.Naming.{position-none}
use Rattle.monitor_lines.proofs.cases.symbol_of.Goals as goal

pub returns-in-None : goal.returns-in-None
returns-in-None c = c.len.ensures ∙ position-none (bytes_eq c.args.name.now) c.args.names.now.names c.in-None.ensures
