-- The automaton of Response accepts the traces that keep it.
use Rattle.std.proofs.Common.{◌≡◌, ℕ, ◌+◌, List, [], ◌∷◌, ◌++◌, Bool, true, false, cond, eqb, nat_eq, refl, ap, ◌∙◌, arith}
use Rattle.std.proofs.lemmas.Bool.Decides.{nat_tests}
use Rattle.template_core.specs.Recognition.{Recognises, TellsFulfilled}
use Rattle.template_core.proofs.Parts.{each_not_failing}
use Rattle.template_core.specs.Events.{one_if}
use Rattle.template_core.specs.Counters.{no_later}
use Rattle.template_core.specs.Tests.{has_later}
use Rattle.template_core.specs.Repertoire.{each}
use Rattle.template_core.specs.declared.kind.Kind.TheVariants.{Response}
use Rattle.template_core.proofs.Places.{count_events-nil}
use Rattle.template_core.proofs.Counters.{no_later-snoc}
use Rattle.template_core.specs.Automaton.{run, class_of}
use Rattle.template_core.specs.declared.class.Class.TheVariants.{First, Second, Other}
use Rattle.template_core.proofs.Runs.{run_is, keeps_by, apart, by_class}
use Rattle.templates_pair.specs.Response.{next_after, accepts, meaning}

abbrev said : ℕ → ℕ
said waiting = cond (eqb waiting 0) 0 1

abbrev Says : ℕ → Bool → Bool → Type 0
Says n v w = said (cond w 0 n + one_if v) ≡ next_after (said n) (cond v First (cond w Second Other))

step : (n : ℕ) (v w : Bool) → (v ≡ true → w ≡ false) → Says n v w
step n = by_class (Says n) (grind (arith, nat_tests)) refl (grind (arith, nat_tests))

accepts-said : (n : ℕ) → accepts (said n) ≡ eqb n 0
accepts-said n = grind (arith, nat_tests)

pub kept : Recognises meaning Response
kept a b trace differ =
    keeps_by (each nat_eq a) (has_later nat_eq b) trace (accepts (run next_after 0 a b trace))
    (ap accepts (run_is next_after 0 a b (λ t. said (no_later nat_eq a b t)) at_start each_event trace) ∙ accepts-said (no_later nat_eq a b trace))
  where
    at_start : said (no_later nat_eq a b []) ≡ 0
    at_start = rw (count_events-nil {A = ℕ}) refl

    each_event : (t : List ℕ) (x : ℕ) → said (no_later nat_eq a b (t ++ x ∷ [])) ≡ next_after (said (no_later nat_eq a b t)) (class_of a b x)
    each_event t x = ap said (no_later-snoc nat_eq a b t x) ∙ step (no_later nat_eq a b t) (eqb x a) (eqb x b) (apart a b differ x)

-- the counters tell the fulfilled places
pub told : TellsFulfilled meaning Response
told a b log differ = each_not_failing nat_eq a (has_later nat_eq b) log
