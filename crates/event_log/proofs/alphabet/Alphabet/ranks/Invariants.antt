use Rattle.std.proofs.Common.{◌≡◌, map, take}
use Rattle.event_log.specs.Logs.{place_of, in_byte_order}
use Rattle.event_log.proofs.alphabet.Alphabet.ranks.Given as goal

abbrev pub invariant-loop-id : goal.invariant-loop-id
invariant-loop-id l = l.ranks.items ≡ map (place_of (in_byte_order l.self.names)) (take l.id l.self.names)
