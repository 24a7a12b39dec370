use Rattle.std.proofs.Common.{◌≡◌, map, take, string_bytes}
use Rattle.event_log.specs.Logs.{in_byte_order}
use Rattle.event_log.proofs.alphabet.Alphabet.sorted.Given as goal

abbrev pub invariant-loop-id : goal.invariant-loop-id
invariant-loop-id l = map string_bytes l.set.keys ≡ in_byte_order (take l.id l.self.names)
