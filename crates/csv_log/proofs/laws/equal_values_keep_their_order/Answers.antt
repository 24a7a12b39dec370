use Rattle.csv_log.specs.CsvLog.{is_before}
use Rattle.csv_log.proofs.Orders.{is_before_weak}
use Rattle.csv_log.proofs.Sorts.{filter-stably_sorted}
use Rattle.csv_log.proofs.laws.equal_values_keep_their_order.Goals as goal

pub returns : goal.returns
returns c = λ order_as events event. filter-stably_sorted (is_before order_as) (is_before_weak order_as) event events
