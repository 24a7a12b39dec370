use Rattle.std.proofs.Common.{length, ap, ◌∙◌, arith}
use Rattle.std.proofs.lemmas.List.{length_push, length-append}
use Rattle.event_log.specs.Logs.{events_of}
use Rattle.event_log.proofs.Appearing.{events_of-push}
use Rattle.strings_log.proofs.feeding.KbTraceSink.take.Goals as goal

pub add_activities-requires-clause-few : goal.add_activities-requires-clause-few
add_activities-requires-clause-few c = omega (arith, c.requires.4.few_activities, c.requires.3.0.activities)

pub add_activities-requires-clause-fewer : goal.add_activities-requires-clause-fewer
add_activities-requires-clause-fewer c = omega (arith, c.requires.4.no_fewer, c.requires.3.1.activities)

pub add_activities-requires-clause-between : goal.add_activities-requires-clause-between
add_activities-requires-clause-between c = (c.requires.2, c.requires.3.1.stands)

pub feed_trace-requires-clause-known : goal.feed_trace-requires-clause-known
feed_trace-requires-clause-known c = λ i inside. omega (arith, c.requires.4.known i 0 inside, c.in_ok-add_activities.ensures.activities)

pub feed_trace-requires-clause-events : goal.feed_trace-requires-clause-events
feed_trace-requires-clause-events c =
    omega (arith, c.in_ok-add_activities.ensures.events, c.requires.3.1.events, c.requires.4.few_events, c.requires.3.0.events)

pub feed_trace-requires-clause-traces : goal.feed_trace-requires-clause-traces
feed_trace-requires-clause-traces c =
    omega (arith, c.in_ok-add_activities.ensures.traces, c.requires.3.1.count, c.requires.4.few_traces, c.requires.3.0.traces)

pub returns-clause-ok : goal.returns-clause-ok
returns-clause-ok c = λ limits before traces held room. (
  held.0,
  record {
    activities = c.feed_trace.ensures.activities ∙ c.in_ok-add_activities.ensures.activities;
    count = omega (arith, c.feed_trace.ensures.traces, c.in_ok-add_activities.ensures.traces, held.1.count, length_push traces c.args.trace.now);
    events = omega (
      arith,
      c.feed_trace.ensures.events,
      c.in_ok-add_activities.ensures.events,
      held.1.events,
      ap length (events_of-push traces c.args.trace.now),
      length-append (events_of traces) c.args.trace.now,
    );
    stands = c.feed_trace.ensures.stands traces (c.in_ok-add_activities.ensures.stands traces held.1.stands);
  },
)
