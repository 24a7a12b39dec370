-- The automaton of AtMostOne accepts the traces that keep it.
use Rattle.std.proofs.Common.{◌≡◌, ℕ, suc, ◌+◌, ◌-◌, ◌&&◌, length, sum_by, count_by, min, sym, arith, nat_lt, List, Bool, true, false, cond, eqb, nat_eq, ◌∙◌}
use Rattle.template_core.specs.Recognition.{Recognises, TellsFulfilled}
use Rattle.template_core.proofs.Wholes.{whole_fulfilled}
use Rattle.template_core.proofs.Traces.{count_by-not}
use Rattle.template_core.specs.Counters.{occurrences}
use Rattle.std.proofs.lemmas.Bool.Decides.{nat_tests}
use Rattle.template_core.specs.Events.{one_if, count_places}
use Rattle.template_core.specs.declared.class.Class.TheVariants.{First, Second, Other}
use Rattle.template_core.specs.declared.kind.Kind.TheVariants.{AtMostOne}
use Rattle.templates_unary.specs.AtMostOne.{next_after, accepts, meaning}
use Rattle.templates_unary.specs.CountedLaw.{kept_by}

step : (n : ℕ) (v w : Bool) → min (n + one_if v) 2 ≡ next_after (min n 2) (cond v First (cond w Second Other))
step n true w = grind (arith, nat_tests)
step n false true = grind (arith, nat_tests)
step n false false = grind (arith, nat_tests)

accepts-says : (n : ℕ) → accepts (min n 2) ≡ nat_lt n 2
accepts-says n = grind (arith, nat_tests)

pub kept : Recognises meaning AtMostOne
kept a b trace made = kept_by next_after 2 step accepts (λ k. nat_lt k 2) accepts-says a b trace

-- the traces with less than two are all but those with more than one
fulfilled_told : (a : ℕ) (log : List (List ℕ))
    → length log - count_by (λ trace. nat_lt 1 (occurrences nat_eq a trace)) log
    ≡ sum_by (λ trace. count_places (λ place. eqb place (length trace) && nat_lt (occurrences nat_eq a trace) 2) (suc (length trace))) log
fulfilled_told a log =
    sym (count_by-not (λ trace. nat_lt (occurrences nat_eq a trace) 2) (λ trace. nat_lt 1 (occurrences nat_eq a trace)) (λ t. either (occurrences nat_eq a t)) log)
    ∙ whole_fulfilled (λ trace. nat_lt (occurrences nat_eq a trace) 2) log
  where
    either : (n : ℕ) → one_if (nat_lt n 2) + one_if (nat_lt 1 n) ≡ 1
    either n = grind (arith, nat_tests)

-- the counters tell the fulfilled places
pub told : TellsFulfilled meaning AtMostOne
told a b log made = fulfilled_told a log
