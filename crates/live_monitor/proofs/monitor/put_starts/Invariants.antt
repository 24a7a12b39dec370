use Rattle.std.proofs.Common.{◌≡◌, ◌≤◌, ◌+◌, ◌++◌, map, take, vec_len, vec_capacity}
use Rattle.live_monitor.proofs.monitor.put_starts.Given as goal

abbrev pub invariant-loop-one : goal.invariant-loop-one
invariant-loop-one l = record {
  items : l.table_states.items ≡ l.fn.table_states.items ++ map (λ one. one.table.start) (take l.one-index l.watched);
  long : vec_len l.table_states ≡ vec_len l.fn.table_states + l.one-index;
  room : vec_capacity l.fn.table_states ≤ vec_capacity l.table_states;
}
