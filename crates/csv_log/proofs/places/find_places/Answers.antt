use Rattle.std.proofs.Common.{◌≡◌, ◌∙◌, ◌+◌, List, ℕ, Some, position, Bool, not, ap}
use Rattle.decl_base.specs.declared.refusal.Refusal.TheVariants as refusal
use Rattle.decl_base.specs.declared.refusal.Refusal.{Refusal}
use Rattle.event_log.specs.Logs.{has_name}
use Rattle.csv_log.specs.CsvLog.{wanted}
use Rattle.csv.specs.Records.{fields_of}
use Rattle.csv_log.proofs.Firsts.{third_of, err_then}
use Rattle.csv_log.proofs.places.find_places.Goals as goal

pub returns-in_err-order-clause-err : goal.returns-in_err-order-clause-err
returns-in_err-order-clause-err c =
    let missing : List ℕ → Bool = λ name. not (has_name (fields_of c.args.header.now) name) in
    let err = c.in_err-order.ensures.err in
    let where_is = third_of missing c.args.columns.now.case c.args.columns.now.activity c.args.columns.now.order (ap not c.in_ok-case.ensures.present) (ap not c.in_ok-activity.ensures.present) err.0 in
    err_then _ _ (λ e. (i : ℕ) × (position missing (wanted c.args.columns.now) ≡ Some i) × (e ≡ refusal.Header (i + 1))) c.from_residual-in_err-order.ensures.1 (λ (e : Refusal) gives. (2, where_is, gives ∙ err.1))
