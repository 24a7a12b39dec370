-- The automaton of NotCoExistence accepts the traces that keep it.
use Rattle.std.proofs.Common.{◌≡◌, ◌≢◌, ℕ, ◌+◌, List, [], ◌∷◌, ◌++◌, Bool, true, false, ◌||◌, not, cond, eqb, nat_eq, refl, sym, ap, ◌∙◌, arith}
use Rattle.std.proofs.lemmas.Bool.Decides.{nat_tests}
use Rattle.template_core.specs.Recognition.{Recognises, TellsFulfilled}
use Rattle.template_core.specs.Events.{occurs}
use Rattle.template_core.specs.Tests.{failing, has}
use Rattle.template_core.specs.Counters.{occurrences}
use Rattle.template_core.specs.Repertoire.{each_of, at_first, none}
use Rattle.template_core.specs.declared.kind.Kind.TheVariants.{NotCoExistence}
use Rattle.template_core.proofs.Counters.{occurs-snoc, passing-same, passing-failing}
use Rattle.template_core.proofs.Gains.{without-is, occurs-count}
use Rattle.template_core.proofs.Parts.{at_first-failing, at_first_sum}
use Rattle.template_core.specs.Automaton.{run, class_of}
use Rattle.template_core.specs.declared.class.Class.TheVariants.{First, Second, Other}
use Rattle.template_core.proofs.Runs.{run_is, keeps_by, apart, by_class}
use Rattle.templates_neg.specs.NotCoExistence.{next_after, accepts, meaning}

abbrev said : Bool → Bool → ℕ
said first second = cond first (cond second 3 1) (cond second 2 0)

abbrev Says : Bool → Bool → Bool → Bool → Type 0
Says p q v w = said (p || v) (q || w) ≡ next_after (said p q) (cond v First (cond w Second Other))

step : (p q v w : Bool) → (v ≡ true → w ≡ false) → Says p q v w
step true true = by_class (Says true true) refl refl refl
step true false = by_class (Says true false) refl refl refl
step false true = by_class (Says false true) refl refl refl
step false false = by_class (Says false false) refl refl refl

-- the a's with a b, which are broken, are none where either is missing
broken-with : (a b : ℕ) (t : List ℕ) → a ≢ b → failing nat_eq a (none nat_eq (has nat_eq b)) t ≡ cond (occurs nat_eq b t) (occurrences nat_eq a t) 0
broken-with a b t differ =
    passing-same nat_eq a (λ before event after. not (not (has nat_eq b before event after))) (has nat_eq b) t (λ before event after. twice (has nat_eq b before event after))
    ∙ join (occurs nat_eq b t) _ _ _ (passing-failing nat_eq a (has nat_eq b) t) (without-is nat_eq a b (apart a b differ) t)
  where
    twice : (v : Bool) → not (not v) ≡ v
    twice true = refl
    twice false = refl

    join : (o : Bool) (p n c : ℕ) → p + n ≡ c → n ≡ cond o 0 c → p ≡ cond o c 0
    join true p n c e f = omega arith
    join false p n c e f = omega arith

accepts-said : (p q : Bool) (n m : ℕ) → eqb n 0 ≡ not p → eqb m 0 ≡ not q → accepts (said p q) ≡ eqb (cond q n 0 + cond p m 0) 0
accepts-said true true n m e f = grind (arith, nat_tests)
accepts-said true false n m e f = grind (arith, nat_tests)
accepts-said false true n m e f = grind (arith, nat_tests)
accepts-said false false n m e f = refl

pub kept : Recognises meaning NotCoExistence
kept a b trace differ =
    keeps_by (each_of nat_eq a b) (at_first nat_eq a (none nat_eq (has nat_eq b)) (none nat_eq (has nat_eq a))) trace (accepts (run next_after 0 a b trace))
    (ap accepts (run_is next_after 0 a b says refl each_event trace)
    ∙ accepts-said (occurs nat_eq a trace) (occurs nat_eq b trace) (occurrences nat_eq a trace) (occurrences nat_eq b trace) (occurs-count nat_eq a trace) (occurs-count nat_eq b trace)
    ∙ ap (λ n. eqb n 0) (sym (at_first-failing nat_eq a b (apart a b differ) (none nat_eq (has nat_eq b)) (none nat_eq (has nat_eq a)) trace ∙ both)))
  where
    both : failing nat_eq a (none nat_eq (has nat_eq b)) trace + failing nat_eq b (none nat_eq (has nat_eq a)) trace
        ≡ cond (occurs nat_eq b trace) (occurrences nat_eq a trace) 0 + cond (occurs nat_eq a trace) (occurrences nat_eq b trace) 0
    both = omega (arith, broken-with a b trace differ, broken-with b a trace (λ e. differ (sym e)))

    says : List ℕ → ℕ
    says t = said (occurs nat_eq a t) (occurs nat_eq b t)

    each_event : (t : List ℕ) (x : ℕ) → says (t ++ x ∷ []) ≡ next_after (says t) (class_of a b x)
    each_event t x =
        ap (λ v. said v (occurs nat_eq b (t ++ x ∷ []))) (occurs-snoc nat_eq a t x)
        ∙ ap (said (occurs nat_eq a t || eqb x a)) (occurs-snoc nat_eq b t x)
        ∙ step (occurs nat_eq a t) (occurs nat_eq b t) (eqb x a) (eqb x b) (apart a b differ x)

-- the counters tell the fulfilled places
pub told : TellsFulfilled meaning NotCoExistence
told a b log differ = at_first_sum nat_eq a b (apart a b differ) (none nat_eq (has nat_eq b)) (none nat_eq (has nat_eq a)) log
