-- The automaton of ChainPrecedence accepts the traces that keep it.
use Rattle.std.proofs.Common.{◌≡◌, ℕ, ◌+◌, List, [], ◌∷◌, ◌++◌, Bool, true, false, ◌&&◌, not, cond, eqb, nat_eq, ap, ◌∙◌, arith}
use Rattle.std.proofs.lemmas.Bool.Decides.{nat_tests}
use Rattle.template_core.proofs.Broken.{said, accepts-said}
use Rattle.template_core.specs.Recognition.{Recognises, TellsFulfilled}
use Rattle.template_core.proofs.Parts.{each_passing}
use Rattle.template_core.specs.Events.{one_if, is_last}
use Rattle.template_core.specs.Tests.{failing, has_previous}
use Rattle.template_core.specs.Repertoire.{each}
use Rattle.template_core.specs.declared.kind.Kind.TheVariants.{ChainPrecedence}
use Rattle.template_core.proofs.Places.{count_events-nil}
use Rattle.template_core.proofs.Counters.{failing-snoc, is_last-snoc}
use Rattle.template_core.specs.Automaton.{run, class_of}
use Rattle.template_core.specs.declared.class.Class.TheVariants.{First, Second, Other}
use Rattle.template_core.proofs.Runs.{run_is, keeps_by, apart, by_class}
use Rattle.templates_pair.specs.ChainPrecedence.{next_after, accepts, meaning}

abbrev Says : ℕ → Bool → Bool → Bool → Type 0
Says n l v w = said (n + one_if (w && not l)) v ≡ next_after (said n l) (cond v First (cond w Second Other))

step : (n : ℕ) (l v w : Bool) → (v ≡ true → w ≡ false) → Says n l v w
step n true = by_class (Says n true) (grind (arith, nat_tests)) (grind (arith, nat_tests)) (grind (arith, nat_tests))
step n false = by_class (Says n false) (grind (arith, nat_tests)) (grind (arith, nat_tests)) (grind (arith, nat_tests))

pub kept : Recognises meaning ChainPrecedence
kept a b trace differ =
    keeps_by (each nat_eq b) (has_previous nat_eq a) trace (accepts (run next_after 0 a b trace))
    (ap accepts (run_is next_after 0 a b says at_start each_event trace) ∙ accepts-said (broken trace) (is_last nat_eq a trace))
  where
    broken : List ℕ → ℕ
    broken t = failing nat_eq b (has_previous nat_eq a) t

    says : List ℕ → ℕ
    says t = said (broken t) (is_last nat_eq a t)

    at_start : says [] ≡ 0
    at_start = ap (λ n. said n false) (count_events-nil (λ before event after. nat_eq event b && not (has_previous nat_eq a before event after)))

    each_event : (t : List ℕ) (x : ℕ) → says (t ++ x ∷ []) ≡ next_after (says t) (class_of a b x)
    each_event t x =
        ap (λ n. said n (is_last nat_eq a (t ++ x ∷ []))) (failing-snoc nat_eq b (has_previous nat_eq a) t x)
        ∙ ap (said (broken t + one_if (eqb x b && not (is_last nat_eq a t)))) (is_last-snoc nat_eq a t x)
        ∙ step (broken t) (is_last nat_eq a t) (eqb x a) (eqb x b) (apart a b differ x)

-- the counters tell the fulfilled places
pub told : TellsFulfilled meaning ChainPrecedence
told a b log differ = each_passing nat_eq b (has_previous nat_eq a) log
