-- The automaton of NotSuccession accepts the traces that keep it.
use Rattle.std.proofs.Common.{◌≡◌, ℕ, ◌+◌, List, [], ◌∷◌, ◌++◌, Bool, true, false, ◌&&◌, ◌||◌, not, cond, eqb, nat_eq, refl, sym, ap, ◌∙◌, arith}
use Rattle.std.proofs.lemmas.Bool.{eqb-true}
use Rattle.std.proofs.lemmas.Bool.Decides.{nat_tests}
use Rattle.template_core.proofs.Broken.{said, accepts-said}
use Rattle.template_core.specs.Recognition.{Recognises, TellsFulfilled}
use Rattle.template_core.specs.Events.{one_if, occurs}
use Rattle.template_core.specs.Tests.{passing, failing, has_later, has_earlier}
use Rattle.template_core.specs.Counters.{occurrences, no_later}
use Rattle.template_core.specs.Repertoire.{each_of, at_first, none}
use Rattle.template_core.specs.declared.kind.Kind.TheVariants.{NotSuccession}
use Rattle.template_core.proofs.Places.{count_events-nil}
use Rattle.template_core.proofs.Counters.{occurs-snoc}
use Rattle.template_core.proofs.Pairs.{failing-le}
use Rattle.template_core.proofs.Gains.{occurs-count, later-snoc, earlier-snoc}
use Rattle.template_core.proofs.Parts.{at_first-failing, failing-none, at_first_sum}
use Rattle.template_core.specs.Automaton.{class_of}
use Rattle.template_core.specs.declared.class.Class.TheVariants.{First, Second, Other}
use Rattle.template_core.proofs.Runs.{law, apart, by_class}
use Rattle.templates_neg.specs.NotSuccession.{next_after, accepts, meaning}

abbrev Says : ℕ → ℕ → Bool → Bool → Bool → Type 0
Says n m o v w = (o ≡ false → m ≡ 0) → said (n + (cond w m 0 + one_if (w && o))) (o || v) ≡ next_after (said n o) (cond v First (cond w Second Other))

step : (n m : ℕ) (o v w : Bool) → (v ≡ true → w ≡ false) → Says n m o v w
step n m true = by_class (Says n m true) (λ k. grind (arith, nat_tests)) (λ k. grind (arith, nat_tests)) (λ k. grind (arith, nat_tests))
step n m false = by_class (Says n m false) (λ k. grind (arith, nat_tests)) (λ k. let none = k refl in grind (arith, nat_tests)) (λ k. grind (arith, nat_tests))

pub kept : Recognises meaning NotSuccession
kept a b trace differ =
    law next_after accepts 0 a b (each_of nat_eq a b) (at_first nat_eq a (none nat_eq (has_later nat_eq b)) (none nat_eq (has_earlier nat_eq a))) says at_start each_event trace
    (accepts-said (broken trace) (occurs nat_eq a trace) ∙ ap (λ n. eqb n 0) (sym (at_first-failing nat_eq a b (apart a b differ) (none nat_eq (has_later nat_eq b)) (none nat_eq (has_earlier nat_eq a)) trace ∙ both)))
  where
    broken : List ℕ → ℕ
    broken t = passing nat_eq a (has_later nat_eq b) t + passing nat_eq b (has_earlier nat_eq a) t

    both : failing nat_eq a (none nat_eq (has_later nat_eq b)) trace + failing nat_eq b (none nat_eq (has_earlier nat_eq a)) trace ≡ broken trace
    both = omega (arith, failing-none nat_eq a (has_later nat_eq b) trace, failing-none nat_eq b (has_earlier nat_eq a) trace)

    says : List ℕ → ℕ
    says t = said (broken t) (occurs nat_eq a t)

    at_start : says [] ≡ 0
    at_start =
        ap (λ n. said (n + passing nat_eq b (has_earlier nat_eq a) []) false) (count_events-nil (λ before event after. nat_eq event a && has_later nat_eq b before event after))
        ∙ ap (λ n. said (0 + n) false) (count_events-nil (λ before event after. nat_eq event b && has_earlier nat_eq a before event after))

    nothing : (t : List ℕ) → occurs nat_eq a t ≡ false → no_later nat_eq a b t ≡ 0
    nothing t h = omega (arith, failing-le nat_eq a (has_later nat_eq b) t, eqb-true (occurrences nat_eq a t) 0 (occurs-count nat_eq a t ∙ ap not h))

    each_event : (t : List ℕ) (x : ℕ) → says (t ++ x ∷ []) ≡ next_after (says t) (class_of a b x)
    each_event t x =
        ap (λ n. said n (occurs nat_eq a (t ++ x ∷ []))) more
        ∙ ap (said (broken t + (cond (eqb x b) (no_later nat_eq a b t) 0 + one_if (eqb x b && occurs nat_eq a t)))) (occurs-snoc nat_eq a t x)
        ∙ step (broken t) (no_later nat_eq a b t) (occurs nat_eq a t) (eqb x a) (eqb x b) (apart a b differ x) (nothing t)
      where
        more : broken (t ++ x ∷ []) ≡ broken t + (cond (eqb x b) (no_later nat_eq a b t) 0 + one_if (eqb x b && occurs nat_eq a t))
        more = omega (arith, later-snoc nat_eq a b t x, earlier-snoc nat_eq b a t x)

-- the counters tell the fulfilled places
pub told : TellsFulfilled meaning NotSuccession
told a b log differ = at_first_sum nat_eq a b (apart a b differ) (none nat_eq (has_later nat_eq b)) (none nat_eq (has_earlier nat_eq a)) log
