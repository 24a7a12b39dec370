-- The automaton of AlternateResponse accepts the traces that keep it.
use Rattle.std.proofs.Common.{◌≡◌, ℕ, ◌+◌, ◌-◌, List, [], ◌∷◌, ◌++◌, Bool, true, false, ◌&&◌, not, cond, eqb, nat_eq, sym, ap, ◌∙◌, arith}
use Rattle.std.proofs.lemmas.Bool.Decides.{nat_tests}
use Rattle.template_core.specs.Recognition.{Recognises, TellsFulfilled}
use Rattle.template_core.specs.Events.{one_if}
use Rattle.template_core.specs.Tests.{has_later, repeats_later}
use Rattle.template_core.specs.Counters.{no_later, rep_later}
use Rattle.template_core.specs.Repertoire.{alternates_later, each}
use Rattle.template_core.specs.declared.kind.Kind.TheVariants.{AlternateResponse}
use Rattle.template_core.proofs.Places.{count_events-nil}
use Rattle.template_core.proofs.Counters.{no_later-snoc}
use Rattle.template_core.proofs.Pairs.{rep_later-snoc}
use Rattle.template_core.proofs.Parts.{failing-alternates_later, each_alternating_later}
use Rattle.template_core.specs.Automaton.{run, class_of}
use Rattle.template_core.specs.declared.class.Class.TheVariants.{First, Second, Other}
use Rattle.template_core.proofs.Runs.{run_is, keeps_by, apart, by_class}
use Rattle.templates_pair.specs.AlternateResponse.{next_after, accepts, meaning}

abbrev said : ℕ → ℕ → ℕ
said waiting repeated = cond (eqb repeated 0) (cond (eqb waiting 0) 0 (cond (eqb waiting 1) 1 2)) 2

abbrev Says : ℕ → ℕ → Bool → Bool → Type 0
Says n r v w = said (cond w 0 n + one_if v) (r + cond w (n - 1) 0) ≡ next_after (said n r) (cond v First (cond w Second Other))

step : (n r : ℕ) (v w : Bool) → (v ≡ true → w ≡ false) → Says n r v w
step n r = by_class (Says n r) (grind (arith, nat_tests)) (grind (arith, nat_tests)) (grind (arith, nat_tests))

accepts-said : (n r : ℕ) → accepts (said n r) ≡ eqb (n + r) 0
accepts-said n r = grind (arith, nat_tests)

pub kept : Recognises meaning AlternateResponse
kept a b trace differ =
    keeps_by (each nat_eq a) (alternates_later nat_eq a b) trace (accepts (run next_after 0 a b trace))
    (ap accepts (run_is next_after 0 a b says at_start each_event trace)
    ∙ accepts-said (no_later nat_eq a b trace) (rep_later nat_eq a b trace)
    ∙ ap (λ n. eqb n 0) (sym (failing-alternates_later nat_eq a b trace)))
  where
    says : List ℕ → ℕ
    says t = said (no_later nat_eq a b t) (rep_later nat_eq a b t)

    at_start : said (no_later nat_eq a b []) (rep_later nat_eq a b []) ≡ 0
    at_start =
        ap (λ n. said n (rep_later nat_eq a b [])) (count_events-nil (λ before event after. nat_eq event a && not (has_later nat_eq b before event after)))
        ∙ ap (said 0) (count_events-nil (λ before event after. nat_eq event a && repeats_later nat_eq a b before event after))

    each_event : (t : List ℕ) (x : ℕ)
        → said (no_later nat_eq a b (t ++ x ∷ [])) (rep_later nat_eq a b (t ++ x ∷ [])) ≡ next_after (said (no_later nat_eq a b t) (rep_later nat_eq a b t)) (class_of a b x)
    each_event t x =
        ap (λ n. said n (rep_later nat_eq a b (t ++ x ∷ []))) (no_later-snoc nat_eq a b t x)
        ∙ ap (said (cond (eqb x b) 0 (no_later nat_eq a b t) + one_if (eqb x a))) (rep_later-snoc nat_eq a b (apart a b differ) t x)
        ∙ step (no_later nat_eq a b t) (rep_later nat_eq a b t) (eqb x a) (eqb x b) (apart a b differ x)

-- the counters tell the fulfilled places
pub told : TellsFulfilled meaning AlternateResponse
told a b log differ = each_alternating_later nat_eq a b log
