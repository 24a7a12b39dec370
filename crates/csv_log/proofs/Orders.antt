-- The order of what is kept of events.
use Rattle.std.proofs.Common.{◌≡◌, ◌==◌, ◌&&◌, not, ℕ, pos, nat_cmp, arith, [], unwrap_or}
use Rattle.std.proofs.lemmas.Bool.Decides.{nat_tests}
use Rattle.std.specs.List.Sorted.{ties}
use Rattle.std.specs.Cmp.{IsStrictWeakOrder, nat_cmp_total, then_total, on_total}
use Rattle.std.specs.Cmp.Lexicographic.{nat_list_cmp_total}
use Rattle.std.specs.Ordering.{is_lt}
use Rattle.std.proofs.lemmas.Cmp.{int_cmp_total}
use Rattle.std.proofs.lemmas.List.Sorted.{ranks_by}
use Rattle.log_columns.specs.declared.OrderAs.{OrderAs}
use Rattle.log_columns.specs.declared.OrderAs.TheVariants as by
use Rattle.csv_log.specs.CsvLog.{Event, is_before}
use Rattle.csv_log.specs.Number.{number_of}
use Rattle.csv_log.specs.declared.kept.Kept.{Kept}
use Rattle.csv_log.specs.declared.keys.Keys.{Keys}
use Rattle.csv_log.specs.Kept.{is_earlier_case, is_less, is_of_case, number_at, text_at}

pub is_less_weak : (keys : Keys) → IsStrictWeakOrder (is_less keys)
is_less_weak keys =
    ranks_by (then_total (on_total (λ (kept : Kept). text_at keys kept.place) nat_list_cmp_total) (on_total (λ (kept : Kept). number_at keys kept.place) int_cmp_total)) (λ (kept : Kept). kept)

-- some event of the case
abbrev pub of_case : ℕ → Kept
of_case case = record { case = case; activity = 0; place = 0 }

tied : (m n : ℕ) → (not (is_lt (nat_cmp m n)) && not (is_lt (nat_cmp n m))) ≡ (n == m)
tied m n = grind (arith, nat_tests)

pub ties_of_case : (case : ℕ) (kept : Kept) → ties is_earlier_case (of_case case) kept ≡ is_of_case case kept
ties_of_case case kept = tied case kept.case

pub is_earlier_case_weak : IsStrictWeakOrder is_earlier_case
is_earlier_case_weak = ranks_by nat_cmp_total (λ (kept : Kept). kept.case)

pub is_before_weak : (order_as : OrderAs) → IsStrictWeakOrder (is_before order_as)
is_before_weak by.Text = ranks_by (on_total (λ (event : Event). unwrap_or event.value []) nat_list_cmp_total) (λ (event : Event). event)
is_before_weak by.Number =
    ranks_by (on_total (λ (event : Event). unwrap_or (number_of (unwrap_or event.value [])) (pos 0)) int_cmp_total) (λ (event : Event). event)
