use Rattle.std.proofs.Common.{◌+◌, ◌^◌, take, length, sym, ap, ap₂, ◌∙◌, arith, length-append}
use Rattle.event_log.specs.Logs.{events_of}
use Rattle.trace_check.specs.Tallies.{with_tally}
use Rattle.trace_check.specs.declared.checked.Checked.{Checked}
use Rattle.trace_check.specs.declared.tally.Tally.{Tally}
use Rattle.trace_check.proofs.Blocks.{block, remains, events-next, events-fit}
use Rattle.trace_check.proofs.Grows.{activated-fits, fulfilled-fits, row-next}
use Rattle.trace_check.proofs.rows.row_of.Goals as goal

pub overflow_add-end : goal.overflow_add-end
overflow_add-end c = omega (arith, c.loop-number.invariant.start, c.loop-number.invariant.all, events-fit c.args.log.now.traces c.loop-number.number c.trace-trace.result.now c.trace-trace.ensures)

pub tally_of-tally-requires-clause-fits : goal.tally_of-tally-requires-clause-fits
tally_of-tally-requires-clause-fits c = omega (arith, c.loop-number.invariant.start, c.loop-number.invariant.all, events-fit c.args.log.now.traces c.loop-number.number c.trace-trace.result.now c.trace-trace.ensures)

pub tally_of-tally-requires-clause-firsts : goal.tally_of-tally-requires-clause-firsts
tally_of-tally-requires-clause-firsts c =
    let h = c.loop-number.invariant in
    let e = c.places_before-first_end in
    block c.args.constraint.now.first c.loop-number.start c.args.firsts.now c.loop-number.first e.result c.args.log.now.traces c.loop-number.number c.trace-trace.result.now c.trace-trace.ensures h.first_within h.first_left
    e.ensures.least e.ensures.most e.ensures.before e.ensures.behind

pub tally_of-tally-requires-clause-seconds : goal.tally_of-tally-requires-clause-seconds
tally_of-tally-requires-clause-seconds c =
    let h = c.loop-number.invariant in
    let e = c.places_before-second_end in
    block c.args.constraint.now.second c.loop-number.start c.args.seconds.now c.loop-number.second e.result c.args.log.now.traces c.loop-number.number c.trace-trace.result.now c.trace-trace.ensures h.second_within h.second_left
    e.ensures.least e.ensures.most e.ensures.before e.ensures.behind

pub with_tally-row-requires-clause-activated : goal.with_tally-row-requires-clause-activated
with_tally-row-requires-clause-activated c =
    let con = c.args.constraint.now in
    omega (
      arith,
      activated-fits con.kind con.first con.second c.loop-number.start (2 ^ 64) c.args.log.now.traces c.loop-number.number c.trace-trace.result.now c.trace-trace.ensures (omega arith) c.loop-number.invariant.all,
      ap (λ (r : Checked). r.activated) c.loop-number.invariant.row,
      ap (λ (r : Tally). r.activated) c.tally_of-tally.ensures,
    )

pub with_tally-row-requires-clause-fulfilled : goal.with_tally-row-requires-clause-fulfilled
with_tally-row-requires-clause-fulfilled c =
    let con = c.args.constraint.now in
    omega (
      arith,
      fulfilled-fits con.kind con.first con.second c.loop-number.start (2 ^ 64) c.args.log.now.traces c.loop-number.number c.trace-trace.result.now c.trace-trace.ensures (omega arith) c.loop-number.invariant.all,
      ap (λ (r : Checked). r.fulfilled) c.loop-number.invariant.row,
      ap (λ (r : Tally). r.fulfilled) c.tally_of-tally.ensures,
    )

pub loop-number-preserved : goal.loop-number-preserved
loop-number-preserved c =
    let con = c.args.constraint.now in
    let log = c.args.log.now.traces in
    let k = c.loop-number.number in
    let t = c.trace-trace.result.now in
    let start = c.loop-number.start in
    let e = c.places_before-first_end in
    let f = c.places_before-second_end in record {
      start = omega (arith, c.loop-number.invariant.start, ap length (events-next log k t c.trace-trace.ensures), length-append (events_of (take k log)) t);
      first_within = e.ensures.most;
      second_within = f.ensures.most;
      first_left = remains con.first start c.args.firsts.now c.loop-number.first e.result log k t c.trace-trace.ensures c.loop-number.invariant.first_within c.loop-number.invariant.first_left
          e.ensures.least e.ensures.most e.ensures.before e.ensures.behind;
      second_left = remains con.second start c.args.seconds.now c.loop-number.second f.result log k t c.trace-trace.ensures c.loop-number.invariant.second_within c.loop-number.invariant.second_left
          f.ensures.least f.ensures.most f.ensures.before f.ensures.behind;
      row = c.with_tally-row.ensures
          ∙ ap₂ (with_tally (k + 1) start) c.tally_of-tally.ensures c.loop-number.invariant.row
          ∙ sym (row-next con.kind con.first con.second start (2 ^ 64) log k t c.trace-trace.ensures (omega arith) c.loop-number.invariant.all);
      all = c.loop-number.invariant.all;
    }
