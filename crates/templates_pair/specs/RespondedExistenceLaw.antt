-- The automaton of RespondedExistence accepts the traces that keep it.
use Rattle.std.proofs.Common.{◌≡◌, ℕ, List, [], ◌∷◌, ◌++◌, Bool, true, false, ◌||◌, not, cond, eqb, nat_eq, refl, sym, ap, ◌∙◌}
use Rattle.std.proofs.lemmas.Bool.{false≢true}
use Rattle.template_core.specs.Recognition.{Recognises, TellsFulfilled}
use Rattle.template_core.proofs.Parts.{each_not_failing}
use Rattle.template_core.specs.Events.{one_if, occurs}
use Rattle.template_core.specs.Tests.{has}
use Rattle.template_core.specs.Counters.{occurrences}
use Rattle.template_core.specs.Repertoire.{each}
use Rattle.template_core.specs.declared.kind.Kind.TheVariants.{RespondedExistence}
use Rattle.template_core.proofs.Counters.{occurs-snoc}
use Rattle.template_core.proofs.Gains.{without-is, occurs-count}
use Rattle.template_core.specs.Automaton.{class_of}
use Rattle.template_core.specs.declared.class.Class.TheVariants.{First, Second, Other}
use Rattle.template_core.proofs.Runs.{law, apart}
use Rattle.templates_pair.specs.RespondedExistence.{next_after, accepts, meaning}

abbrev said : Bool → Bool → ℕ
said first second = cond second 2 (one_if first)

step : (p q v w : Bool) → (v ≡ true → w ≡ false) → said (p || v) (q || w) ≡ next_after (said p q) (cond v First (cond w Second Other))
step p q true true h = absurd (false≢true (sym (h refl)))
step true true true false h = refl
step true false true false h = refl
step false true true false h = refl
step false false true false h = refl
step p true false true h = refl
step true false false true h = refl
step false false false true h = refl
step true true false false h = refl
step true false false false h = refl
step false true false false h = refl
step false false false false h = refl

accepts-said : (p q : Bool) (n : ℕ) → eqb n 0 ≡ not p → accepts (said p q) ≡ eqb (cond q 0 n) 0
accepts-said p true n e = refl
accepts-said true false n e = sym e
accepts-said false false n e = sym e

pub kept : Recognises meaning RespondedExistence
kept a b trace differ =
    law next_after accepts 0 a b (each nat_eq a) (has nat_eq b) says at_start each_event trace
    (accepts-said (occurs nat_eq a trace) (occurs nat_eq b trace) (occurrences nat_eq a trace) (occurs-count nat_eq a trace)
    ∙ ap (λ n. eqb n 0) (sym (without-is nat_eq a b (apart a b differ) trace)))
  where
    says : List ℕ → ℕ
    says t = said (occurs nat_eq a t) (occurs nat_eq b t)

    at_start : says [] ≡ 0
    at_start = refl

    each_event : (t : List ℕ) (x : ℕ) → says (t ++ x ∷ []) ≡ next_after (says t) (class_of a b x)
    each_event t x =
        ap (λ v. said v (occurs nat_eq b (t ++ x ∷ []))) (occurs-snoc nat_eq a t x)
        ∙ ap (said (occurs nat_eq a t || eqb x a)) (occurs-snoc nat_eq b t x)
        ∙ step (occurs nat_eq a t) (occurs nat_eq b t) (eqb x a) (eqb x b) (apart a b differ x)

-- the counters tell the fulfilled places
pub told : TellsFulfilled meaning RespondedExistence
told a b log differ = each_not_failing nat_eq a (has nat_eq b) log
