-- The automaton of CoExistence accepts the traces that keep it.
use Rattle.std.proofs.Common.{◌≡◌, ℕ, ◌+◌, List, [], ◌∷◌, ◌++◌, Bool, true, false, ◌||◌, not, cond, eqb, nat_eq, refl, sym, ap, ◌∙◌, arith}
use Rattle.std.proofs.lemmas.Bool.Decides.{nat_tests}
use Rattle.template_core.specs.Recognition.{Recognises, TellsFulfilled}
use Rattle.template_core.specs.Events.{occurs}
use Rattle.template_core.specs.Tests.{has}
use Rattle.template_core.specs.Counters.{occurrences, without}
use Rattle.template_core.specs.Repertoire.{each_of, at_first}
use Rattle.template_core.specs.declared.kind.Kind.TheVariants.{CoExistence}
use Rattle.template_core.proofs.Counters.{occurs-snoc}
use Rattle.template_core.proofs.Gains.{without-is, occurs-count}
use Rattle.template_core.proofs.Parts.{at_first-failing, each_of_not_failing}
use Rattle.template_core.specs.Automaton.{class_of}
use Rattle.template_core.specs.declared.class.Class.TheVariants.{First, Second, Other}
use Rattle.template_core.proofs.Runs.{law, apart, by_class}
use Rattle.templates_pair.specs.CoExistence.{next_after, accepts, meaning}

abbrev said : Bool → Bool → ℕ
said first second = cond first (cond second 3 1) (cond second 2 0)

abbrev Says : Bool → Bool → Bool → Bool → Type 0
Says p q v w = said (p || v) (q || w) ≡ next_after (said p q) (cond v First (cond w Second Other))

step : (p q v w : Bool) → (v ≡ true → w ≡ false) → Says p q v w
step true true = by_class (Says true true) refl refl refl
step true false = by_class (Says true false) refl refl refl
step false true = by_class (Says false true) refl refl refl
step false false = by_class (Says false false) refl refl refl

accepts-said : (p q : Bool) (n m : ℕ) → eqb n 0 ≡ not p → eqb m 0 ≡ not q → accepts (said p q) ≡ eqb (cond q 0 n + cond p 0 m) 0
accepts-said true true n m e f = refl
accepts-said true false n m e f = grind (arith, nat_tests)
accepts-said false true n m e f = grind (arith, nat_tests)
accepts-said false false n m e f = grind (arith, nat_tests)

pub kept : Recognises meaning CoExistence
kept a b trace differ =
    law next_after accepts 0 a b (each_of nat_eq a b) (at_first nat_eq a (has nat_eq b) (has nat_eq a)) says at_start each_event trace
    (accepts-said (occurs nat_eq a trace) (occurs nat_eq b trace) (occurrences nat_eq a trace) (occurrences nat_eq b trace) (occurs-count nat_eq a trace) (occurs-count nat_eq b trace)
    ∙ ap (λ n. eqb n 0) (sym (at_first-failing nat_eq a b (apart a b differ) (has nat_eq b) (has nat_eq a) trace ∙ both)))
  where
    both : without nat_eq a b trace + without nat_eq b a trace ≡ cond (occurs nat_eq b trace) 0 (occurrences nat_eq a trace) + cond (occurs nat_eq a trace) 0 (occurrences nat_eq b trace)
    both = omega (arith, without-is nat_eq a b (apart a b differ) trace, without-is nat_eq b a (apart b a (λ e. differ (sym e))) trace)

    says : List ℕ → ℕ
    says t = said (occurs nat_eq a t) (occurs nat_eq b t)

    at_start : says [] ≡ 0
    at_start = refl

    each_event : (t : List ℕ) (x : ℕ) → says (t ++ x ∷ []) ≡ next_after (says t) (class_of a b x)
    each_event t x =
        ap (λ v. said v (occurs nat_eq b (t ++ x ∷ []))) (occurs-snoc nat_eq a t x)
        ∙ ap (said (occurs nat_eq a t || eqb x a)) (occurs-snoc nat_eq b t x)
        ∙ step (occurs nat_eq a t) (occurs nat_eq b t) (eqb x a) (eqb x b) (apart a b differ x)

-- the counters tell the fulfilled places
pub told : TellsFulfilled meaning CoExistence
told a b log differ = each_of_not_failing nat_eq a b (apart a b differ) (has nat_eq b) (has nat_eq a) log
