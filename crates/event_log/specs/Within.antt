-- Names and a log of their numbers within limits.
use Rattle.std.specs.Prelude.{◌≡◌, ◌<◌, ◌≤◌, ◌^◌, length}
use Rattle.decl_base.specs.declared.limits.Limits.{Limits}
use Rattle.event_log.specs.Alphabet.{Names}
use Rattle.event_log.specs.Log.{Traces}
use Rattle.event_log.specs.Logs.{events_of}

-- traces and names can be counted by 32 bits
pub record CanCount (limits : Limits) : Type 0 where
  pub traces : limits.traces < 2 ^ 32
  pub activities : limits.activities < 2 ^ 32

-- the names and the log have these limits, and are within them
pub record IsWithin (limits : Limits) (names : Names) (log : Traces) : Type 0 where
  pub name_limit : names.limit ≡ limits.activities
  pub trace_limit : log.trace_limit ≡ limits.traces
  pub event_limit : log.event_limit ≡ limits.events
  pub name_count : length names.names ≤ limits.activities
  pub trace_count : length log.traces ≤ limits.traces
  pub event_count : length (events_of log.traces) ≤ limits.events
