use Rattle.std.proofs.Common.{◌≡◌, map, fold, length, string_bytes}
use Rattle.event_log.specs.Logs.{with_name, first_seen}
use Rattle.event_log.proofs.alphabet.set_of.Given as goal

abbrev pub invariant-loop-name : goal.invariant-loop-name
invariant-loop-name l = fold with_name (map string_bytes l.set.keys) (map string_bytes l.names.keys) ≡ first_seen (map string_bytes l.fn.names.keys)

abbrev pub decreases-loop-name : goal.decreases-loop-name
decreases-loop-name l = length l.names.keys
