use Rattle.std.proofs.Common.{sym, ◌∙◌}
use Rattle.std.specs.Str.{bytes_eq}
use Rattle.event_log.proofs.Naming.{position-none}
use Rattle.event_log.proofs.alphabet.Alphabet.place.Goals as goal

pub returns-in-None : goal.returns-in-None
returns-in-None c = c.len.ensures ∙ position-none (bytes_eq c.args.name.now) c.args.self.now.names (sym c.in-None.is ∙ c.find.ensures)
