use Rattle.std.proofs.Common.{arith, length}
use Rattle.csv_log.proofs.Digits.{within_18}
use Rattle.csv_log.proofs.number.read_size.Goals as goal

pub returns-clause-within : goal.returns-clause-within
returns-clause-within c = within_18 (length c.args.digits.now) c.number_of.result (omega arith) c.number_of.ensures.within
