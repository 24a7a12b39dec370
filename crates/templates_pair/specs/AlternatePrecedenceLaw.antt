-- The automaton of AlternatePrecedence accepts the traces that keep it.
use Rattle.std.proofs.Common.{◌≡◌, ℕ, ◌+◌, List, [], ◌∷◌, ◌++◌, Bool, true, false, ◌&&◌, ◌||◌, not, cond, eqb, nat_eq, refl, ap, ◌∙◌, arith}
use Rattle.std.proofs.lemmas.Bool.Decides.{nat_tests}
use Rattle.template_core.proofs.Broken.{said, accepts-said}
use Rattle.template_core.specs.Recognition.{Recognises, TellsFulfilled}
use Rattle.template_core.proofs.Parts.{each_alternating_earlier}
use Rattle.template_core.specs.Events.{one_if, occurs, after_last}
use Rattle.template_core.specs.Tests.{failing}
use Rattle.template_core.specs.Repertoire.{each, alternates_earlier}
use Rattle.template_core.specs.declared.kind.Kind.TheVariants.{AlternatePrecedence}
use Rattle.template_core.proofs.Places.{count_events-nil}
use Rattle.template_core.proofs.Counters.{failing-snoc, occurs-snoc, occurs-after_last}
use Rattle.template_core.specs.Automaton.{class_of}
use Rattle.template_core.specs.declared.class.Class.TheVariants.{First, Second, Other}
use Rattle.template_core.proofs.Runs.{law, apart, by_class}
use Rattle.templates_pair.specs.AlternatePrecedence.{next_after, accepts, meaning}

abbrev Says : ℕ → Bool → Bool → Bool → Type 0
Says n o v w = said (n + one_if (w && not o)) (cond v true (cond w false o)) ≡ next_after (said n o) (cond v First (cond w Second Other))

step : (n : ℕ) (o v w : Bool) → (v ≡ true → w ≡ false) → Says n o v w
step n true = by_class (Says n true) (grind (arith, nat_tests)) (grind (arith, nat_tests)) (grind (arith, nat_tests))
step n false = by_class (Says n false) (grind (arith, nat_tests)) (grind (arith, nat_tests)) (grind (arith, nat_tests))

pub kept : Recognises meaning AlternatePrecedence
kept a b trace differ =
    law next_after accepts 0 a b (each nat_eq b) (alternates_earlier nat_eq a b) says at_start each_event trace
    (accepts-said (broken trace) (ready trace))
  where
    broken : List ℕ → ℕ
    broken t = failing nat_eq b (alternates_earlier nat_eq a b) t

    ready : List ℕ → Bool
    ready t = occurs nat_eq a t && not (occurs nat_eq b (after_last nat_eq a t))

    says : List ℕ → ℕ
    says t = said (broken t) (ready t)

    at_start : says [] ≡ 0
    at_start = ap (λ n. said n false) (count_events-nil (λ before event after. nat_eq event b && not (alternates_earlier nat_eq a b before event after)))

    cases : (o r v w : Bool) → ((o || v) && not (cond v false (r || w))) ≡ cond v true (cond w false (o && not r))
    cases true r true w = refl
    cases false r true w = refl
    cases true true false true = refl
    cases true false false true = refl
    cases true true false false = refl
    cases true false false false = refl
    cases false r false true = refl
    cases false r false false = refl

    ready-snoc : (t : List ℕ) (x : ℕ) → ready (t ++ x ∷ []) ≡ cond (eqb x a) true (cond (eqb x b) false (ready t))
    ready-snoc t x =
        ap (λ v. v && not (occurs nat_eq b (after_last nat_eq a (t ++ x ∷ [])))) (occurs-snoc nat_eq a t x)
        ∙ ap (λ v. (occurs nat_eq a t || eqb x a) && not v) (occurs-after_last nat_eq b a t x)
        ∙ cases (occurs nat_eq a t) (occurs nat_eq b (after_last nat_eq a t)) (eqb x a) (eqb x b)

    each_event : (t : List ℕ) (x : ℕ) → says (t ++ x ∷ []) ≡ next_after (says t) (class_of a b x)
    each_event t x =
        ap (λ n. said n (ready (t ++ x ∷ []))) (failing-snoc nat_eq b (alternates_earlier nat_eq a b) t x)
        ∙ ap (said (broken t + one_if (eqb x b && not (ready t)))) (ready-snoc t x)
        ∙ step (broken t) (ready t) (eqb x a) (eqb x b) (apart a b differ x)

-- the counters tell the fulfilled places
pub told : TellsFulfilled meaning AlternatePrecedence
told a b log differ = each_alternating_earlier nat_eq a b log
