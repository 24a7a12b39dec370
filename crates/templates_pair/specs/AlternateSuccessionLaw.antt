-- The automaton of AlternateSuccession accepts the traces that keep it.
use Rattle.std.proofs.Common.{◌≡◌, ℕ, ◌+◌, ◌-◌, List, [], ◌∷◌, ◌++◌, Bool, true, false, ◌&&◌, ◌||◌, not, cond, eqb, ltb, nat_eq, refl, sym, ap, ◌∙◌, arith}
use Rattle.std.proofs.lemmas.Bool.{false≢true}
use Rattle.std.proofs.lemmas.Bool.Decides.{nat_tests}
use Rattle.template_core.specs.Recognition.{Recognises, TellsFulfilled}
use Rattle.template_core.specs.Events.{one_if, occurs, after_last}
use Rattle.template_core.specs.Tests.{failing, has_later, repeats_later}
use Rattle.template_core.specs.Counters.{no_later, rep_later}
use Rattle.template_core.specs.Repertoire.{each_of, at_first, alternates_earlier, alternates_later}
use Rattle.template_core.specs.declared.kind.Kind.TheVariants.{AlternateSuccession}
use Rattle.template_core.proofs.Places.{snoc_induction, count_events-nil}
use Rattle.template_core.proofs.Counters.{failing-snoc, occurs-snoc, occurs-after_last, no_later-snoc}
use Rattle.template_core.proofs.Pairs.{rep_later-snoc}
use Rattle.template_core.proofs.Parts.{at_first-failing, failing-alternates_later, each_of_alternating}
use Rattle.template_core.specs.Automaton.{class_of}
use Rattle.template_core.specs.declared.class.Class.TheVariants.{First, Second, Other}
use Rattle.template_core.proofs.Runs.{law, apart}
use Rattle.templates_pair.specs.AlternateSuccession.{next_after, accepts, meaning}

abbrev said : ℕ → ℕ → ℕ → ℕ
said waiting repeated broken = cond (eqb (repeated + broken) 0) (cond (eqb waiting 0) 0 (cond (eqb waiting 1) 1 2)) 2

step : (n r k : ℕ) (v w : Bool) → (v ≡ true → w ≡ false)
    → said (cond w 0 n + one_if v) (r + cond w (n - 1) 0) (k + one_if (w && not (ltb 0 n))) ≡ next_after (said n r k) (cond v First (cond w Second Other))
step n r k true true h = absurd (false≢true (sym (h refl)))
step n r k true false h = grind (arith, nat_tests)
step n r k false true h = grind (arith, nat_tests)
step n r k false false h = grind (arith, nat_tests)

accepts-said : (n r k : ℕ) → accepts (said n r k) ≡ eqb ((n + r) + k) 0
accepts-said n r k = grind (arith, nat_tests)

pub kept : Recognises meaning AlternateSuccession
kept a b trace differ =
    law next_after accepts 0 a b (each_of nat_eq a b) (at_first nat_eq a (alternates_later nat_eq a b) (alternates_earlier nat_eq a b)) says at_start each_event trace
    (accepts-said (no_later nat_eq a b trace) (rep_later nat_eq a b trace) (broken trace)
    ∙ ap (λ n. eqb n 0) (sym (at_first-failing nat_eq a b (apart a b differ) (alternates_later nat_eq a b) (alternates_earlier nat_eq a b) trace ∙ both)))
  where
    broken : List ℕ → ℕ
    broken t = failing nat_eq b (alternates_earlier nat_eq a b) t

    both : failing nat_eq a (alternates_later nat_eq a b) trace + broken trace ≡ (no_later nat_eq a b trace + rep_later nat_eq a b trace) + broken trace
    both = omega (arith, failing-alternates_later nat_eq a b trace)

    ready : List ℕ → Bool
    ready t = occurs nat_eq a t && not (occurs nat_eq b (after_last nat_eq a t))

    says : List ℕ → ℕ
    says t = said (no_later nat_eq a b t) (rep_later nat_eq a b t) (broken t)

    at_start : says [] ≡ 0
    at_start =
        ap (λ n. said n (rep_later nat_eq a b []) (broken [])) (count_events-nil (λ before event after. nat_eq event a && not (has_later nat_eq b before event after)))
        ∙ ap (λ n. said 0 n (broken [])) (count_events-nil (λ before event after. nat_eq event a && repeats_later nat_eq a b before event after))
        ∙ ap (said 0 0) (count_events-nil (λ before event after. nat_eq event b && not (alternates_earlier nat_eq a b before event after)))

    cases : (o r v w : Bool) (n : ℕ) → (v ≡ true → w ≡ false) → (o && not r) ≡ ltb 0 n → ((o || v) && not (cond v false (r || w))) ≡ ltb 0 (cond w 0 n + one_if v)
    cases o r true true n q h = absurd (false≢true (sym (q refl)))
    cases true r true false n q h = grind (arith, nat_tests)
    cases false r true false n q h = grind (arith, nat_tests)
    cases true true false true n q h = grind (arith, nat_tests)
    cases true false false true n q h = grind (arith, nat_tests)
    cases true true false false n q h = grind (arith, nat_tests)
    cases true false false false n q h = grind (arith, nat_tests)
    cases false r false true n q h = grind (arith, nat_tests)
    cases false r false false n q h = grind (arith, nat_tests)

    -- no b stands after the last a exactly where some a waits
    ready-waits : (t : List ℕ) → ready t ≡ ltb 0 (no_later nat_eq a b t)
    ready-waits t = snoc_induction (λ t. ready t ≡ ltb 0 (no_later nat_eq a b t)) (ap (ltb 0) (sym (count_events-nil (λ before event after. nat_eq event a && not (has_later nat_eq b before event after))))) more t
      where
        more : (t : List ℕ) (x : ℕ) → ready t ≡ ltb 0 (no_later nat_eq a b t) → ready (t ++ x ∷ []) ≡ ltb 0 (no_later nat_eq a b (t ++ x ∷ []))
        more t x h =
            ap (λ v. v && not (occurs nat_eq b (after_last nat_eq a (t ++ x ∷ [])))) (occurs-snoc nat_eq a t x)
            ∙ ap (λ v. (occurs nat_eq a t || eqb x a) && not v) (occurs-after_last nat_eq b a t x)
            ∙ cases (occurs nat_eq a t) (occurs nat_eq b (after_last nat_eq a t)) (eqb x a) (eqb x b) (no_later nat_eq a b t) (apart a b differ x) h
            ∙ ap (ltb 0) (sym (no_later-snoc nat_eq a b t x))

    each_event : (t : List ℕ) (x : ℕ) → says (t ++ x ∷ []) ≡ next_after (says t) (class_of a b x)
    each_event t x =
        ap (λ n. said n (rep_later nat_eq a b (t ++ x ∷ [])) (broken (t ++ x ∷ []))) (no_later-snoc nat_eq a b t x)
        ∙ ap (λ n. said (cond (eqb x b) 0 (no_later nat_eq a b t) + one_if (eqb x a)) n (broken (t ++ x ∷ []))) (rep_later-snoc nat_eq a b (apart a b differ) t x)
        ∙ ap (said (cond (eqb x b) 0 (no_later nat_eq a b t) + one_if (eqb x a)) (rep_later nat_eq a b t + cond (eqb x b) (no_later nat_eq a b t - 1) 0))
        (failing-snoc nat_eq b (alternates_earlier nat_eq a b) t x ∙ ap (λ v. broken t + one_if (eqb x b && not v)) (ready-waits t))
        ∙ step (no_later nat_eq a b t) (rep_later nat_eq a b t) (broken t) (eqb x a) (eqb x b) (apart a b differ x)

-- the counters tell the fulfilled places
pub told : TellsFulfilled meaning AlternateSuccession
told a b log differ = each_of_alternating nat_eq a b (apart a b differ) log
