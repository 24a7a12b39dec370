use Rattle.csv.specs.Records.{fields_of}
use Rattle.csv_log.proofs.Fields.{there, inside, missing}
use Rattle.csv_log.proofs.row.field_at.Goals as goal

pub returns-clause-some : goal.returns-clause-some
returns-clause-some c = there (fields_of c.args.row.now) c.args.place c.get.result c.get.ensures.value

pub returns-clause-inside : goal.returns-clause-inside
returns-clause-inside c = inside (fields_of c.args.row.now) c.args.place c.get.result c.get.ensures.value

pub returns-clause-none : goal.returns-clause-none
returns-clause-none c = missing (fields_of c.args.row.now) c.args.place c.get.result c.get.ensures.value
