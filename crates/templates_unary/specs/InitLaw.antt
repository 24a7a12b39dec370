-- The automaton of Init accepts the traces that keep it.
use Rattle.std.proofs.Common.{◌≡◌, ℕ, List, [], ◌∷◌, ◌++◌, Bool, true, false, cond, eqb, nat_eq, refl, ap, ◌∙◌}
use Rattle.template_core.specs.Recognition.{Recognises, TellsFulfilled}
use Rattle.template_core.proofs.Runs.{run_is}
use Rattle.template_core.proofs.Wholes.{keeps_whole, whole_fulfilled}
use Rattle.template_core.specs.Automaton.{run, class_of}
use Rattle.template_core.specs.Events.{is_first}
use Rattle.template_core.specs.declared.class.Class.TheVariants.{First, Second, Other}
use Rattle.template_core.specs.declared.kind.Kind.TheVariants.{Init}
use Rattle.templates_unary.specs.Init.{next_after, accepts, meaning}

-- the state, by whether the first event is a
abbrev said : Bool → ℕ
said v = cond v 1 2

first : (v w : Bool) → said v ≡ next_after 0 (cond v First (cond w Second Other))
first true w = refl
first false true = refl
first false false = refl

stays : (p v w : Bool) → said p ≡ next_after (said p) (cond v First (cond w Second Other))
stays true true w = refl
stays true false true = refl
stays true false false = refl
stays false true w = refl
stays false false true = refl
stays false false false = refl

accepts-said : (p : Bool) → accepts (said p) ≡ p
accepts-said true = refl
accepts-said false = refl

pub kept : Recognises meaning Init
kept a b trace made =
    keeps_whole trace (accepts (run next_after 0 a b trace)) (is_first nat_eq a trace) (ap accepts (run_is next_after 0 a b says refl each_event trace) ∙ accepts-says trace)
  where
    says : List ℕ → ℕ
    says [] = 0
    says (x ∷ t) = said (eqb x a)

    accepts-says : (t : List ℕ) → accepts (says t) ≡ is_first nat_eq a t
    accepts-says [] = refl
    accepts-says (x ∷ t) = accepts-said (eqb x a)

    each_event : (t : List ℕ) (x : ℕ) → says (t ++ x ∷ []) ≡ next_after (says t) (class_of a b x)
    each_event [] x = first (eqb x a) (eqb x b)
    each_event (y ∷ t) x = stays (eqb y a) (eqb x a) (eqb x b)

-- the counters tell the fulfilled places
pub told : TellsFulfilled meaning Init
told a b log made = whole_fulfilled (is_first nat_eq a) log
