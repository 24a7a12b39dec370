use Rattle.std.proofs.Common.{◌≡◌, ◌∙◌, Ok, map, refl, ap, sym}
use Rattle.csv.specs.Records.{fields_of}
use Rattle.event_log.specs.Logs.{named}
use Rattle.csv_log.specs.CsvLog.{activities_of, csv_log, event_of}
use Rattle.csv_log.proofs.Firsts.{ok_then}
use Rattle.csv_log.proofs.Reading.{add_refused, handed_on, has_read_header, has_read_more, is_whole, names_are, no_record, no_such_column, row_refused}
use Rattle.csv_log.proofs.read.read_csv.Goals as goal

pub returns-then-not-branch-clause-err : goal.returns-then-not-branch-clause-err
returns-then-not-branch-clause-err c =
    no_record c.args.columns.now c.args.limits.now c.args.bytes.now _ c.records_of-reader.result c.next_record.new.reader _ (fields_of c.next_record.new.row) c.without_mark.ensures
    c.records_of-reader.ensures c.in_ok-next_record.ensures.ok c.if-not-branch.true

pub returns-in_err-places-clause-err : goal.returns-in_err-places-clause-err
returns-in_err-places-clause-err c =
    handed_on (csv_log c.args.columns.now c.args.limits.now c.args.bytes.now) c.from_residual-in_err-places.result c.in_err-places.field-0.0 c.from_residual-in_err-places.ensures.1
    (no_such_column c.args.columns.now c.args.limits.now c.args.bytes.now _ c.records_of-reader.result c.next_record.new.reader _ (fields_of c.next_record.new.row) c.without_mark.ensures
    c.records_of-reader.ensures c.in_ok-next_record.ensures.ok c.if-not-branch.false
    c.in_err-places.field-0.0 c.in_err-places.ensures.err)

pub loop-collected-init : goal.loop-collected-init
loop-collected-init c =
    has_read_header c.args.columns.now c.args.limits.now c.args.bytes.now _ c.records_of-reader.result c.next_record.new.reader _ (fields_of c.next_record.new.row) c.without_mark.ensures
    c.records_of-reader.ensures c.in_ok-next_record.ensures.ok c.if-not-branch.false
    c.in_ok-places.places c.new-collected.result c.in_ok-places.ensures.ok c.in_ok-places.ensures.present c.new-collected.ensures

pub returns-in_err-fields-clause-err : goal.returns-in_err-fields-clause-err
returns-in_err-fields-clause-err c =
    let h = c.loop-collected.invariant in
    let fault = c.in_err-fields.ensures.err h.header c.args.columns.now h.placed refl in
    handed_on (csv_log c.args.columns.now c.args.limits.now c.args.bytes.now) c.from_residual-in_err-fields.result c.in_err-fields.field-0.0 c.from_residual-in_err-fields.ensures.1
    (row_refused c.args.columns.now c.args.limits.now c.args.bytes.now c.in_ok-places.places c.loop-collected.reader c.next_record-in-loop-collected.new.reader c.loop-collected.collected h _
    (fields_of c.next_record-in-loop-collected.new.row) c.in_ok-next_record-2.ensures.ok c.if-branch.true
    c.in_err-fields.field-0.0 c.next_number.result c.next_number.ensures fault)

pub loop-collected-preserved : goal.loop-collected-preserved
loop-collected-preserved c =
    let h = c.loop-collected.invariant in
    let said = c.in_ok-fields.ensures.ok h.header c.args.columns.now h.placed refl in
    has_read_more c.args.columns.now c.args.limits.now c.args.bytes.now c.in_ok-places.places c.loop-collected.reader c.next_record-in-loop-collected.new.reader c.loop-collected.collected h _
    (fields_of c.next_record-in-loop-collected.new.row) c.in_ok-next_record-2.ensures.ok c.if-branch.true
    c.in_ok-fields.fields said.0 c.next_number.result c.next_number.ensures said.1 c.add.new.self c.in_ok-add.ensures.ok

pub returns-in_err-add-clause-err : goal.returns-in_err-add-clause-err
returns-in_err-add-clause-err c =
    let h = c.loop-collected.invariant in
    let said = c.in_ok-fields.ensures.ok h.header c.args.columns.now h.placed refl in
    handed_on (csv_log c.args.columns.now c.args.limits.now c.args.bytes.now) c.from_residual-in_err-add.result c.in_err-add.field-0.0 c.from_residual-in_err-add.ensures.1
    (add_refused c.args.columns.now c.args.limits.now c.args.bytes.now c.in_ok-places.places c.loop-collected.reader c.next_record-in-loop-collected.new.reader c.loop-collected.collected h _
    (fields_of c.next_record-in-loop-collected.new.row) c.in_ok-next_record-2.ensures.ok c.if-branch.true
    c.in_ok-fields.fields said.0 c.next_number.result c.next_number.ensures said.1 c.in_err-add.field-0.0 c.in_err-add.ensures.err)

pub returns-clause-log : goal.returns-clause-log
returns-clause-log c =
    let h = c.loop-collected.invariant in
    let events = map (event_of c.args.columns.now h.header) h.rows in
    let outcome = is_whole c.args.columns.now c.args.limits.now c.args.bytes.now c.in_ok-places.places c.loop-collected.reader c.next_record-in-loop-collected.new.reader c.loop-collected.collected h _
    (fields_of c.next_record-in-loop-collected.new.row) c.in_ok-next_record-2.ensures.ok c.if-branch.false in
    ok_then c.finish.result _ (λ read. csv_log c.args.columns.now c.args.limits.now c.args.bytes.now ≡ Ok (named read.0.names read.1.traces)) c.finish.ensures.ok
    (λ read is. outcome ∙ ap Ok (sym (is events h.collects).traces))

pub returns-clause-names : goal.returns-clause-names
returns-clause-names c =
    let h = c.loop-collected.invariant in
    let events = map (event_of c.args.columns.now h.header) h.rows in
    let names = names_are c.args.columns.now c.args.limits.now c.args.bytes.now c.in_ok-places.places c.loop-collected.reader c.next_record-in-loop-collected.new.reader c.loop-collected.collected h _
    (fields_of c.next_record-in-loop-collected.new.row) c.in_ok-next_record-2.ensures.ok c.if-branch.false in
    ok_then c.finish.result _ (λ read. read.0.names ≡ activities_of c.args.columns.now c.args.bytes.now) c.finish.ensures.ok
    (λ read is. (is events h.collects).names ∙ names)
