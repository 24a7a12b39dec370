-- The automaton of End accepts the traces that keep it.
use Rattle.std.proofs.Common.{◌≡◌, ℕ, List, [], ◌∷◌, ◌++◌, Bool, true, false, cond, eqb, nat_eq, refl, ap, ◌∙◌}
use Rattle.template_core.specs.Recognition.{Recognises, TellsFulfilled}
use Rattle.template_core.proofs.Counters.{is_last-snoc}
use Rattle.template_core.proofs.Runs.{run_is}
use Rattle.template_core.proofs.Wholes.{keeps_whole, whole_fulfilled}
use Rattle.template_core.specs.Automaton.{run, class_of}
use Rattle.template_core.specs.Events.{one_if, is_last}
use Rattle.template_core.specs.declared.class.Class.TheVariants.{First, Second, Other}
use Rattle.template_core.specs.declared.kind.Kind.TheVariants.{End}
use Rattle.templates_unary.specs.End.{next_after, accepts, meaning}

step : (n : ℕ) (v w : Bool) → one_if v ≡ next_after n (cond v First (cond w Second Other))
step n true w = refl
step n false true = refl
step n false false = refl

accepts-says : (p : Bool) → accepts (one_if p) ≡ p
accepts-says true = refl
accepts-says false = refl

pub kept : Recognises meaning End
kept a b trace made =
    keeps_whole trace (accepts (run next_after 0 a b trace)) (is_last nat_eq a trace)
    (ap accepts (run_is next_after 0 a b says refl each_event trace) ∙ accepts-says (is_last nat_eq a trace))
  where
    says : List ℕ → ℕ
    says t = one_if (is_last nat_eq a t)

    each_event : (t : List ℕ) (x : ℕ) → says (t ++ x ∷ []) ≡ next_after (says t) (class_of a b x)
    each_event t x = ap one_if (is_last-snoc nat_eq a t x) ∙ step (says t) (eqb x a) (eqb x b)

-- the counters tell the fulfilled places
pub told : TellsFulfilled meaning End
told a b log made = whole_fulfilled (is_last nat_eq a) log
