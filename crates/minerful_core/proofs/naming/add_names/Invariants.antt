use Rattle.std.proofs.Common.{◌≡◌, fold, take}
use Rattle.event_log.specs.Logs.{with_name}
use Rattle.minerful_core.proofs.naming.add_names.Given as goal

abbrev pub invariant-loop-id : goal.invariant-loop-id
invariant-loop-id l = l.names ≡ record { names = fold with_name l.fn.names.names (take l.id l.more.names); limit = l.fn.names.limit }
