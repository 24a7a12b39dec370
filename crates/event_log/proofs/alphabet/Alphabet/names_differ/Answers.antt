use Rattle.std.proofs.Common.{subst}
use Rattle.event_log.specs.Alphabet.{Names}
use Rattle.event_log.specs.Logs.{StandOnce}
use Rattle.event_log.proofs.Appearing.{distinct-once}
use Rattle.event_log.proofs.alphabet.Alphabet.names_differ.Goals as goal

pub returns : goal.returns
returns c = let P = λ (now : Names). StandOnce now.names in subst P c.self.view_is (distinct-once c.self.inside.names.keys c.len-count.ensures.unique)
