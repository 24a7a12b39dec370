use Rattle.std.proofs.Common.{take, length, sym, ap, subst, arith, length-append}
use Rattle.event_log.specs.Logs.{events_of}
use Rattle.trace_check.specs.Index.{lists, IsIndex}
use Rattle.trace_check.proofs.Blocks.{events-next, events-fit}
use Rattle.trace_check.proofs.Indexing.{index-more}
use Rattle.trace_check.proofs.index.places_of.Goals as goal

pub add_places-requires : goal.add_places-requires
add_places-requires c = omega (arith, c.loop-number.invariant.start, c.loop-number.invariant.all, events-fit c.args.log.now.traces c.loop-number.number c.trace-trace.result.now c.trace-trace.ensures)

pub overflow_add-start : goal.overflow_add-start
overflow_add-start c = omega (arith, c.loop-number.invariant.start, c.loop-number.invariant.all, events-fit c.args.log.now.traces c.loop-number.number c.trace-trace.result.now c.trace-trace.ensures)

pub loop-number-preserved : goal.loop-number-preserved
loop-number-preserved c =
    let log = c.args.log.now.traces in
    let k = c.loop-number.number in
    let t = c.trace-trace.result.now in
    let more = events-next log k t c.trace-trace.ensures in record {
      start = omega (arith, c.loop-number.invariant.start, ap length more, length-append (events_of (take k log)) t);
      index = subst (λ events. IsIndex c.args.count events (lists c.add_places.new.index.items)) (sym more)
          (index-more c.args.count (events_of (take k log)) t c.loop-number.start (lists c.loop-number.index.items) (lists c.add_places.new.index.items) c.loop-number.invariant.start c.loop-number.invariant.index
          c.in_ok-add_places.ensures.ok);
      all = c.loop-number.invariant.all;
    }
