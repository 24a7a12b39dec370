use Rattle.csv_log.specs.CsvLog.{is_before}
use Rattle.csv_log.specs.Sorting.{stably_sorted}
use Rattle.csv_log.proofs.Orders.{is_before_weak}
use Rattle.csv_log.proofs.Sorts.{Rises-stably_sorted, sorted-from_rises}
use Rattle.csv_log.proofs.laws.values_ascend.Goals as goal

pub returns : goal.returns
returns c = λ order_as events k d low inside.
    sorted-from_rises (is_before order_as) (stably_sorted (is_before order_as) events) (Rises-stably_sorted (is_before order_as) (is_before_weak order_as) events) k d inside
