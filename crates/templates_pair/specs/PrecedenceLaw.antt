-- The automaton of Precedence accepts the traces that keep it.
use Rattle.std.proofs.Common.{◌≡◌, ℕ, ◌+◌, List, [], ◌∷◌, ◌++◌, Bool, true, false, ◌&&◌, ◌||◌, not, cond, eqb, nat_eq, ap, ◌∙◌, arith}
use Rattle.std.proofs.lemmas.Bool.Decides.{nat_tests}
use Rattle.template_core.proofs.Broken.{said, accepts-said}
use Rattle.template_core.specs.Recognition.{Recognises, TellsFulfilled}
use Rattle.template_core.proofs.Parts.{each_not_failing}
use Rattle.template_core.specs.Events.{one_if, occurs}
use Rattle.template_core.specs.Tests.{has_earlier}
use Rattle.template_core.specs.Counters.{no_earlier}
use Rattle.template_core.specs.Repertoire.{each}
use Rattle.template_core.specs.declared.kind.Kind.TheVariants.{Precedence}
use Rattle.template_core.proofs.Places.{count_events-nil}
use Rattle.template_core.proofs.Counters.{occurs-snoc, no_earlier-snoc}
use Rattle.template_core.specs.Automaton.{class_of}
use Rattle.template_core.specs.declared.class.Class.TheVariants.{First, Second, Other}
use Rattle.template_core.proofs.Runs.{law, apart, by_class}
use Rattle.templates_pair.specs.Precedence.{next_after, accepts, meaning}

abbrev Says : ℕ → Bool → Bool → Bool → Type 0
Says n o v w = said (n + one_if (w && not o)) (o || v) ≡ next_after (said n o) (cond v First (cond w Second Other))

step : (n : ℕ) (o v w : Bool) → (v ≡ true → w ≡ false) → Says n o v w
step n true = by_class (Says n true) (grind (arith, nat_tests)) (grind (arith, nat_tests)) (grind (arith, nat_tests))
step n false = by_class (Says n false) (grind (arith, nat_tests)) (grind (arith, nat_tests)) (grind (arith, nat_tests))

pub kept : Recognises meaning Precedence
kept a b trace differ =
    law next_after accepts 0 a b (each nat_eq b) (has_earlier nat_eq a) says at_start each_event trace
    (accepts-said (no_earlier nat_eq b a trace) (occurs nat_eq a trace))
  where
    says : List ℕ → ℕ
    says t = said (no_earlier nat_eq b a t) (occurs nat_eq a t)

    at_start : says [] ≡ 0
    at_start = ap (λ n. said n false) (count_events-nil (λ before event after. nat_eq event b && not (has_earlier nat_eq a before event after)))

    each_event : (t : List ℕ) (x : ℕ) → says (t ++ x ∷ []) ≡ next_after (says t) (class_of a b x)
    each_event t x =
        ap (λ n. said n (occurs nat_eq a (t ++ x ∷ []))) (no_earlier-snoc nat_eq b a t x)
        ∙ ap (said (no_earlier nat_eq b a t + one_if (eqb x b && not (occurs nat_eq a t)))) (occurs-snoc nat_eq a t x)
        ∙ step (no_earlier nat_eq b a t) (occurs nat_eq a t) (eqb x a) (eqb x b) (apart a b differ x)

-- the counters tell the fulfilled places
pub told : TellsFulfilled meaning Precedence
told a b log differ = each_not_failing nat_eq b (has_earlier nat_eq a) log
