use Rattle.csv.specs.Records.{fields_of}
use Rattle.csv_log.proofs.Walks.{goes_on}
use Rattle.csv_log.proofs.records.next_record.Goals as goal

pub returns-clause-ok : goal.returns-clause-ok
returns-clause-ok c = λ text rows reading.
    goes_on c.args.reader.now c.read_byte_record.new.self text rows (fields_of c.read_byte_record.new.row) c.in-Ok.found reading
    (c.in-Ok.ensures.reads reading.plain reading.ready) (c.in-Ok.ensures.ready reading.plain) c.in-Ok.ensures.flexible
