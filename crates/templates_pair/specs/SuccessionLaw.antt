-- The automaton of Succession accepts the traces that keep it.
use Rattle.std.proofs.Common.{◌≡◌, ℕ, ◌+◌, List, [], ◌∷◌, ◌++◌, Bool, true, false, ◌&&◌, ◌||◌, not, cond, eqb, nat_eq, refl, sym, ap, ◌∙◌, arith}
use Rattle.std.proofs.lemmas.Bool.{eqb-true}
use Rattle.std.proofs.lemmas.Bool.Decides.{nat_tests}
use Rattle.template_core.specs.Recognition.{Recognises, TellsFulfilled}
use Rattle.template_core.specs.Events.{one_if, occurs}
use Rattle.template_core.specs.Tests.{has_later, has_earlier}
use Rattle.template_core.specs.Counters.{occurrences, no_later, no_earlier}
use Rattle.template_core.specs.Repertoire.{each_of, at_first}
use Rattle.template_core.specs.declared.kind.Kind.TheVariants.{Succession}
use Rattle.template_core.proofs.Places.{count_events-nil}
use Rattle.template_core.proofs.Counters.{occurs-snoc, no_earlier-snoc, no_later-snoc}
use Rattle.template_core.proofs.Pairs.{failing-le}
use Rattle.template_core.proofs.Gains.{occurs-count}
use Rattle.template_core.proofs.Parts.{at_first-failing, each_of_not_failing}
use Rattle.template_core.specs.Automaton.{class_of}
use Rattle.template_core.specs.declared.class.Class.TheVariants.{First, Second, Other}
use Rattle.template_core.proofs.Runs.{law, apart, by_class}
use Rattle.templates_pair.specs.Succession.{next_after, accepts, meaning}

abbrev said : ℕ → ℕ → Bool → ℕ
said waiting broken came = cond (eqb broken 0) (cond (eqb waiting 0) (cond came 3 0) 1) 2

abbrev Says : ℕ → ℕ → Bool → Bool → Bool → Type 0
Says n k o v w = (o ≡ false → n ≡ 0) → said (cond w 0 n + one_if v) (k + one_if (w && not o)) (o || v) ≡ next_after (said n k o) (cond v First (cond w Second Other))

step : (n k : ℕ) (o v w : Bool) → (v ≡ true → w ≡ false) → Says n k o v w
step n k true = by_class (Says n k true) (λ z. grind (arith, nat_tests)) (λ z. grind (arith, nat_tests)) (λ z. grind (arith, nat_tests))
step n k false = by_class (Says n k false) (λ z. let none = z refl in grind (arith, nat_tests)) (λ z. let none = z refl in grind (arith, nat_tests)) (λ z. let none = z refl in grind (arith, nat_tests))

accepts-said : (n k : ℕ) (o : Bool) → accepts (said n k o) ≡ eqb (n + k) 0
accepts-said n k true = grind (arith, nat_tests)
accepts-said n k false = grind (arith, nat_tests)

pub kept : Recognises meaning Succession
kept a b trace differ =
    law next_after accepts 0 a b (each_of nat_eq a b) (at_first nat_eq a (has_later nat_eq b) (has_earlier nat_eq a)) says at_start each_event trace
    (accepts-said (no_later nat_eq a b trace) (no_earlier nat_eq b a trace) (occurs nat_eq a trace)
    ∙ ap (λ n. eqb n 0) (sym (at_first-failing nat_eq a b (apart a b differ) (has_later nat_eq b) (has_earlier nat_eq a) trace)))
  where
    says : List ℕ → ℕ
    says t = said (no_later nat_eq a b t) (no_earlier nat_eq b a t) (occurs nat_eq a t)

    at_start : says [] ≡ 0
    at_start =
        ap (λ n. said n (no_earlier nat_eq b a []) false) (count_events-nil (λ before event after. nat_eq event a && not (has_later nat_eq b before event after)))
        ∙ ap (λ n. said 0 n false) (count_events-nil (λ before event after. nat_eq event b && not (has_earlier nat_eq a before event after)))

    nothing : (t : List ℕ) → occurs nat_eq a t ≡ false → no_later nat_eq a b t ≡ 0
    nothing t h = omega (arith, failing-le nat_eq a (has_later nat_eq b) t, eqb-true (occurrences nat_eq a t) 0 (occurs-count nat_eq a t ∙ ap not h))

    each_event : (t : List ℕ) (x : ℕ) → says (t ++ x ∷ []) ≡ next_after (says t) (class_of a b x)
    each_event t x =
        ap (λ n. said n (no_earlier nat_eq b a (t ++ x ∷ [])) (occurs nat_eq a (t ++ x ∷ []))) (no_later-snoc nat_eq a b t x)
        ∙ ap (λ n. said (cond (eqb x b) 0 (no_later nat_eq a b t) + one_if (eqb x a)) n (occurs nat_eq a (t ++ x ∷ []))) (no_earlier-snoc nat_eq b a t x)
        ∙ ap (said (cond (eqb x b) 0 (no_later nat_eq a b t) + one_if (eqb x a)) (no_earlier nat_eq b a t + one_if (eqb x b && not (occurs nat_eq a t)))) (occurs-snoc nat_eq a t x)
        ∙ step (no_later nat_eq a b t) (no_earlier nat_eq b a t) (occurs nat_eq a t) (eqb x a) (eqb x b) (apart a b differ x) (nothing t)

-- the counters tell the fulfilled places
pub told : TellsFulfilled meaning Succession
told a b log differ = each_of_not_failing nat_eq a b (apart a b differ) (has_later nat_eq b) (has_earlier nat_eq a) log
