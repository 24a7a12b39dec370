-- The automaton of NotChainSuccession accepts the traces that keep it.
use Rattle.std.proofs.Common.{◌≡◌, ℕ, ◌+◌, List, [], ◌∷◌, ◌++◌, Bool, true, false, ◌&&◌, cond, eqb, nat_eq, sym, ap, ◌∙◌, arith}
use Rattle.std.proofs.lemmas.Bool.Decides.{nat_tests}
use Rattle.template_core.proofs.Broken.{said, accepts-said}
use Rattle.template_core.specs.Recognition.{Recognises, TellsFulfilled}
use Rattle.template_core.specs.Events.{one_if, is_last}
use Rattle.template_core.specs.Tests.{failing, has_next, has_previous}
use Rattle.template_core.specs.Counters.{next, previous}
use Rattle.template_core.specs.Repertoire.{each_of, at_first, none}
use Rattle.template_core.specs.declared.kind.Kind.TheVariants.{NotChainSuccession}
use Rattle.template_core.proofs.Places.{count_events-nil}
use Rattle.template_core.proofs.Counters.{is_last-snoc, next-snoc, previous-snoc}
use Rattle.template_core.proofs.Parts.{at_first-failing, failing-none, each_not_chained}
use Rattle.template_core.specs.Automaton.{class_of}
use Rattle.template_core.specs.declared.class.Class.TheVariants.{First, Second, Other}
use Rattle.template_core.proofs.Runs.{law, apart, by_class}
use Rattle.templates_neg.specs.NotChainSuccession.{next_after, accepts, meaning}

abbrev Says : ℕ → Bool → Bool → Bool → Type 0
Says n l v w = said (n + (one_if (l && w) + one_if (w && l))) v ≡ next_after (said n l) (cond v First (cond w Second Other))

step : (n : ℕ) (l v w : Bool) → (v ≡ true → w ≡ false) → Says n l v w
step n true = by_class (Says n true) (grind (arith, nat_tests)) (grind (arith, nat_tests)) (grind (arith, nat_tests))
step n false = by_class (Says n false) (grind (arith, nat_tests)) (grind (arith, nat_tests)) (grind (arith, nat_tests))

pub kept : Recognises meaning NotChainSuccession
kept a b trace differ =
    law next_after accepts 0 a b (each_of nat_eq a b) (at_first nat_eq a (none nat_eq (has_next nat_eq b)) (none nat_eq (has_previous nat_eq a))) says at_start each_event trace
    (accepts-said (broken trace) (is_last nat_eq a trace) ∙ ap (λ n. eqb n 0) (sym (at_first-failing nat_eq a b (apart a b differ) (none nat_eq (has_next nat_eq b)) (none nat_eq (has_previous nat_eq a)) trace ∙ both)))
  where
    broken : List ℕ → ℕ
    broken t = next nat_eq a b t + previous nat_eq b a t

    both : failing nat_eq a (none nat_eq (has_next nat_eq b)) trace + failing nat_eq b (none nat_eq (has_previous nat_eq a)) trace ≡ broken trace
    both = omega (arith, failing-none nat_eq a (has_next nat_eq b) trace, failing-none nat_eq b (has_previous nat_eq a) trace)

    says : List ℕ → ℕ
    says t = said (broken t) (is_last nat_eq a t)

    at_start : says [] ≡ 0
    at_start =
        ap (λ n. said (n + previous nat_eq b a []) false) (count_events-nil (λ before event after. nat_eq event a && has_next nat_eq b before event after))
        ∙ ap (λ n. said (0 + n) false) (count_events-nil (λ before event after. nat_eq event b && has_previous nat_eq a before event after))

    each_event : (t : List ℕ) (x : ℕ) → says (t ++ x ∷ []) ≡ next_after (says t) (class_of a b x)
    each_event t x =
        ap (λ n. said n (is_last nat_eq a (t ++ x ∷ []))) more
        ∙ ap (said (broken t + (one_if (is_last nat_eq a t && eqb x b) + one_if (eqb x b && is_last nat_eq a t)))) (is_last-snoc nat_eq a t x)
        ∙ step (broken t) (is_last nat_eq a t) (eqb x a) (eqb x b) (apart a b differ x)
      where
        more : broken (t ++ x ∷ []) ≡ broken t + (one_if (is_last nat_eq a t && eqb x b) + one_if (eqb x b && is_last nat_eq a t))
        more = omega (arith, next-snoc nat_eq a b t x, previous-snoc nat_eq b a t x)

-- the counters tell the fulfilled places
pub told : TellsFulfilled meaning NotChainSuccession
told a b log differ = each_not_chained nat_eq a b (apart a b differ) log
