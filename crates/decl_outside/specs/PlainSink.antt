-- What a sink in memory that never fails is to a caller.
use Rattle.std.specs.Prelude.{false, Some}
use Rattle.decl_outside.specs.Sink.{SinkState}
use Rattle.decl_outside.specs.declared.plain_sink.PlainSink.{PlainSink}

abbrev pub state_of : PlainSink → SinkState
state_of p = record {
  faults = 0;
  held = Some p.bytes.items;
  takes_any_length = false;
  room = p.room;
}
