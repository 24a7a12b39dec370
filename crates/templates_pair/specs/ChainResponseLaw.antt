-- The automaton of ChainResponse accepts the traces that keep it.
use Rattle.std.proofs.Common.{◌≡◌, ℕ, ◌+◌, ◌-◌, ◌≤◌, List, [], ◌∷◌, ◌++◌, Bool, true, false, ◌&&◌, not, cond, eqb, nat_eq, ap, ◌∙◌, arith}
use Rattle.std.proofs.lemmas.Bool.Decides.{nat_tests}
use Rattle.template_core.proofs.Chains.{unfollowed-snoc, last-unfollowed}
use Rattle.template_core.specs.Recognition.{Recognises, TellsFulfilled}
use Rattle.template_core.proofs.Parts.{each_passing}
use Rattle.template_core.specs.Events.{one_if, is_last}
use Rattle.template_core.specs.Tests.{failing, has_next}
use Rattle.template_core.specs.Repertoire.{each}
use Rattle.template_core.specs.declared.kind.Kind.TheVariants.{ChainResponse}
use Rattle.template_core.proofs.Places.{count_events-nil}
use Rattle.template_core.proofs.Counters.{is_last-snoc}
use Rattle.template_core.specs.Automaton.{class_of}
use Rattle.template_core.specs.declared.class.Class.TheVariants.{First, Second, Other}
use Rattle.template_core.proofs.Runs.{law, apart, by_class}
use Rattle.templates_pair.specs.ChainResponse.{next_after, accepts, meaning}

abbrev said : ℕ → Bool → ℕ
said broken last = cond (eqb (broken - one_if last) 0) (one_if last) 2

abbrev Says : ℕ → Bool → Bool → Bool → Type 0
Says n l v w = one_if l ≤ n → said ((n + one_if v) - one_if (l && w)) v ≡ next_after (said n l) (cond v First (cond w Second Other))

step : (n : ℕ) (l v w : Bool) → (v ≡ true → w ≡ false) → Says n l v w
step n true = by_class (Says n true) (λ k. grind (arith, nat_tests)) (λ k. grind (arith, nat_tests)) (λ k. grind (arith, nat_tests))
step n false = by_class (Says n false) (λ k. grind (arith, nat_tests)) (λ k. grind (arith, nat_tests)) (λ k. grind (arith, nat_tests))

accepts-said : (n : ℕ) (l : Bool) → one_if l ≤ n → accepts (said n l) ≡ eqb n 0
accepts-said n true k = grind (arith, nat_tests)
accepts-said n false k = grind (arith, nat_tests)

pub kept : Recognises meaning ChainResponse
kept a b trace differ =
    law next_after accepts 0 a b (each nat_eq a) (has_next nat_eq b) says at_start each_event trace
    (accepts-said (broken trace) (is_last nat_eq a trace) (last-unfollowed a b trace))
  where
    broken : List ℕ → ℕ
    broken t = failing nat_eq a (has_next nat_eq b) t

    says : List ℕ → ℕ
    says t = said (broken t) (is_last nat_eq a t)

    at_start : says [] ≡ 0
    at_start = ap (λ n. said n false) (count_events-nil (λ before event after. nat_eq event a && not (has_next nat_eq b before event after)))

    each_event : (t : List ℕ) (x : ℕ) → says (t ++ x ∷ []) ≡ next_after (says t) (class_of a b x)
    each_event t x =
        ap (λ n. said n (is_last nat_eq a (t ++ x ∷ []))) (unfollowed-snoc a b t x)
        ∙ ap (said ((broken t + one_if (eqb x a)) - one_if (is_last nat_eq a t && eqb x b))) (is_last-snoc nat_eq a t x)
        ∙ step (broken t) (is_last nat_eq a t) (eqb x a) (eqb x b) (apart a b differ x) (last-unfollowed a b t)

-- the counters tell the fulfilled places
pub told : TellsFulfilled meaning ChainResponse
told a b log differ = each_passing nat_eq a (has_next nat_eq b) log
