-- The automaton of Participation accepts the traces that keep it.
use Rattle.std.proofs.Common.{◌≡◌, ℕ, List, [], ◌∷◌, ◌++◌, Bool, true, false, ◌||◌, cond, eqb, nat_eq, refl, ap, ◌∙◌}
use Rattle.template_core.specs.Recognition.{Recognises, TellsFulfilled}
use Rattle.template_core.proofs.Counters.{occurs-snoc}
use Rattle.template_core.proofs.Runs.{run_is}
use Rattle.template_core.proofs.Wholes.{keeps_whole, whole_fulfilled}
use Rattle.template_core.specs.Automaton.{run, class_of}
use Rattle.template_core.specs.Events.{one_if, occurs}
use Rattle.template_core.specs.declared.class.Class.TheVariants.{First, Second, Other}
use Rattle.template_core.specs.declared.kind.Kind.TheVariants.{Participation}
use Rattle.templates_unary.specs.Participation.{next_after, accepts, meaning}

step : (p v w : Bool) → one_if (p || v) ≡ next_after (one_if p) (cond v First (cond w Second Other))
step true true w = refl
step false true w = refl
step p false true = also p
  where
    also : (p : Bool) → one_if (p || false) ≡ one_if p
    also true = refl
    also false = refl
step true false false = refl
step false false false = refl

accepts-says : (p : Bool) → accepts (one_if p) ≡ p
accepts-says true = refl
accepts-says false = refl

pub kept : Recognises meaning Participation
kept a b trace made =
    keeps_whole trace (accepts (run next_after 0 a b trace)) (occurs nat_eq a trace)
    (ap accepts (run_is next_after 0 a b says refl each_event trace) ∙ accepts-says (occurs nat_eq a trace))
  where
    says : List ℕ → ℕ
    says t = one_if (occurs nat_eq a t)

    each_event : (t : List ℕ) (x : ℕ) → says (t ++ x ∷ []) ≡ next_after (says t) (class_of a b x)
    each_event t x = ap one_if (occurs-snoc nat_eq a t x) ∙ step (occurs nat_eq a t) (eqb x a) (eqb x b)

-- the counters tell the fulfilled places
pub told : TellsFulfilled meaning Participation
told a b log made = whole_fulfilled (occurs nat_eq a) log
