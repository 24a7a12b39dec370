-- The automaton of ChainSuccession accepts the traces that keep it.
use Rattle.std.proofs.Common.{◌≡◌, ℕ, ◌+◌, ◌-◌, ◌≤◌, List, [], ◌∷◌, ◌++◌, Bool, true, false, ◌&&◌, not, cond, eqb, nat_eq, sym, ap, ◌∙◌, arith}
use Rattle.std.proofs.lemmas.Bool.Decides.{nat_tests}
use Rattle.template_core.proofs.Chains.{unfollowed-snoc, last-unfollowed}
use Rattle.template_core.specs.Recognition.{Recognises, TellsFulfilled}
use Rattle.template_core.specs.Events.{one_if, is_last}
use Rattle.template_core.specs.Tests.{failing, has_next, has_previous}
use Rattle.template_core.specs.Repertoire.{each_of, at_first}
use Rattle.template_core.specs.declared.kind.Kind.TheVariants.{ChainSuccession}
use Rattle.template_core.proofs.Places.{count_events-nil}
use Rattle.template_core.proofs.Counters.{failing-snoc, is_last-snoc}
use Rattle.template_core.proofs.Parts.{at_first-failing, at_first_sum}
use Rattle.template_core.specs.Automaton.{class_of}
use Rattle.template_core.specs.declared.class.Class.TheVariants.{First, Second, Other}
use Rattle.template_core.proofs.Runs.{law, apart, by_class}
use Rattle.templates_pair.specs.ChainSuccession.{next_after, accepts, meaning}

abbrev said : ℕ → ℕ → Bool → ℕ
said firsts seconds last = cond (eqb ((firsts - one_if last) + seconds) 0) (one_if last) 2

abbrev Says : ℕ → ℕ → Bool → Bool → Bool → Type 0
Says n k l v w = one_if l ≤ n → said ((n + one_if v) - one_if (l && w)) (k + one_if (w && not l)) v ≡ next_after (said n k l) (cond v First (cond w Second Other))

step : (n k : ℕ) (l v w : Bool) → (v ≡ true → w ≡ false) → Says n k l v w
step n k true = by_class (Says n k true) (λ z. grind (arith, nat_tests)) (λ z. grind (arith, nat_tests)) (λ z. grind (arith, nat_tests))
step n k false = by_class (Says n k false) (λ z. grind (arith, nat_tests)) (λ z. grind (arith, nat_tests)) (λ z. grind (arith, nat_tests))

accepts-said : (n k : ℕ) (l : Bool) → one_if l ≤ n → accepts (said n k l) ≡ eqb (n + k) 0
accepts-said n k true z = grind (arith, nat_tests)
accepts-said n k false z = grind (arith, nat_tests)

pub kept : Recognises meaning ChainSuccession
kept a b trace differ =
    law next_after accepts 0 a b (each_of nat_eq a b) (at_first nat_eq a (has_next nat_eq b) (has_previous nat_eq a)) says at_start each_event trace
    (accepts-said (firsts trace) (seconds trace) (is_last nat_eq a trace) (last-unfollowed a b trace)
    ∙ ap (λ n. eqb n 0) (sym (at_first-failing nat_eq a b (apart a b differ) (has_next nat_eq b) (has_previous nat_eq a) trace)))
  where
    firsts : List ℕ → ℕ
    firsts t = failing nat_eq a (has_next nat_eq b) t

    seconds : List ℕ → ℕ
    seconds t = failing nat_eq b (has_previous nat_eq a) t

    says : List ℕ → ℕ
    says t = said (firsts t) (seconds t) (is_last nat_eq a t)

    at_start : says [] ≡ 0
    at_start =
        ap (λ n. said n (seconds []) false) (count_events-nil (λ before event after. nat_eq event a && not (has_next nat_eq b before event after)))
        ∙ ap (λ n. said 0 n false) (count_events-nil (λ before event after. nat_eq event b && not (has_previous nat_eq a before event after)))

    each_event : (t : List ℕ) (x : ℕ) → says (t ++ x ∷ []) ≡ next_after (says t) (class_of a b x)
    each_event t x =
        ap (λ n. said n (seconds (t ++ x ∷ [])) (is_last nat_eq a (t ++ x ∷ []))) (unfollowed-snoc a b t x)
        ∙ ap (λ n. said ((firsts t + one_if (eqb x a)) - one_if (is_last nat_eq a t && eqb x b)) n (is_last nat_eq a (t ++ x ∷ []))) (failing-snoc nat_eq b (has_previous nat_eq a) t x)
        ∙ ap (said ((firsts t + one_if (eqb x a)) - one_if (is_last nat_eq a t && eqb x b)) (seconds t + one_if (eqb x b && not (is_last nat_eq a t)))) (is_last-snoc nat_eq a t x)
        ∙ step (firsts t) (seconds t) (is_last nat_eq a t) (eqb x a) (eqb x b) (apart a b differ x) (last-unfollowed a b t)

-- the counters tell the fulfilled places
pub told : TellsFulfilled meaning ChainSuccession
told a b log differ = at_first_sum nat_eq a b (apart a b differ) (has_next nat_eq b) (has_previous nat_eq a) log
