-- The repertoire: at which places of a trace a constraint is activated, and where it is fulfilled.
-- A trace of n events has the places 0 to n - 1, which are its events, and the place n, which stands for the whole trace.
use Rattle.std.specs.Prelude.{◌≡◌, ℕ, suc, ◌≤◌, List, Bool, true, ◌&&◌, ◌||◌, not, if◌then◌else◌, ◌==◌, length, filter, sum_by, nat_lt, nat_le}
use Rattle.std.specs.List.{range_with_len}
use Rattle.template_core.specs.Counters.{occurrences}
use Rattle.template_core.specs.Events.{count_places, all_places, at_place, occurs, is_first, is_last, before_first, after_last}
use Rattle.template_core.specs.Tests.{has, has_later, has_earlier, has_next, has_previous}
use Rattle.template_core.specs.Groups.{group_of, activation_of}
use Rattle.template_core.specs.declared.group.Group.{Group}
use Rattle.template_core.specs.declared.group.Group.TheVariants.{Existence, Relation, Mutual, Negative}
use Rattle.template_core.specs.declared.kind.Kind.{Kind}
use Rattle.template_core.specs.declared.kind.Kind.TheVariants.{Init, End, Participation, AtMostOne, ChainSuccession, AlternateSuccession, Succession, CoExistence, ChainResponse, AlternateResponse, Response, ChainPrecedence, AlternatePrecedence, Precedence, RespondedExistence, NotCoExistence, NotSuccession, NotChainSuccession, Exactly, AtLeast, AtMost, NotRespondedExistence, NotResponse, NotPrecedence, NotChainResponse, NotChainPrecedence}

module _ {A : Type 0} (same : A → A → Bool) where
  -- the event is a; the event is a or b
  abbrev pub each : A → List A → A → List A → Bool
  each a before event after = same event a

  abbrev pub each_of : A → A → List A → A → List A → Bool
  each_of a b before event after = same event a || same event b

  -- one test at a, and another at each other event
  abbrev pub at_first : A → (List A → A → List A → Bool) → (List A → A → List A → Bool) → List A → A → List A → Bool
  at_first a p q before event after = if same event a then p before event after else q before event after

  abbrev pub none : (List A → A → List A → Bool) → List A → A → List A → Bool
  none p before event after = not (p before event after)

  -- some later event is b, and no a stands before the nearest; some earlier event is a, and no b stands after the nearest
  abbrev pub alternates_later : A → A → List A → A → List A → Bool
  alternates_later a b before event after = occurs same b after && not (occurs same a (before_first same b after))

  abbrev pub alternates_earlier : A → A → List A → A → List A → Bool
  alternates_earlier a b before event after = occurs same a before && not (occurs same b (after_last same a before))

  -- a template of one activity is activated at the place of the whole trace; a relation template at each event that is its activation;
  -- a mutual or a negative template at each event that is one of its two activities
  abbrev pub is_activated_in : Group → A → A → List A → ℕ → Bool
  is_activated_in Existence a b trace place = place == length trace
  is_activated_in (Relation activation) a b trace place = at_place (each (activation_of activation a b)) trace place
  is_activated_in Mutual a b trace place = at_place (each_of a b) trace place
  is_activated_in Negative a b trace place = at_place (each_of a b) trace place

  abbrev pub is_activated : Kind → A → A → List A → ℕ → Bool
  is_activated kind a b trace place = is_activated_in (group_of kind) a b trace place

  -- where such a place is fulfilled: the trace begins with a; ends with a; has an a; has no two; the others by the event and those around it,
  -- but the counted ones, where the trace has exactly n a's, at least n, or at most n
  abbrev pub is_fulfilled : Kind → A → A → List A → ℕ → Bool
  is_fulfilled Init a b trace place = is_first same a trace
  is_fulfilled End a b trace place = is_last same a trace
  is_fulfilled Participation a b trace place = occurs same a trace
  is_fulfilled AtMostOne a b trace place = nat_lt (occurrences same a trace) 2
  is_fulfilled ChainSuccession a b trace place = at_place (at_first a (has_next same b) (has_previous same a)) trace place
  is_fulfilled AlternateSuccession a b trace place = at_place (at_first a (alternates_later a b) (alternates_earlier a b)) trace place
  is_fulfilled Succession a b trace place = at_place (at_first a (has_later same b) (has_earlier same a)) trace place
  is_fulfilled CoExistence a b trace place = at_place (at_first a (has same b) (has same a)) trace place
  is_fulfilled ChainResponse a b trace place = at_place (has_next same b) trace place
  is_fulfilled AlternateResponse a b trace place = at_place (alternates_later a b) trace place
  is_fulfilled Response a b trace place = at_place (has_later same b) trace place
  is_fulfilled ChainPrecedence a b trace place = at_place (has_previous same a) trace place
  is_fulfilled AlternatePrecedence a b trace place = at_place (alternates_earlier a b) trace place
  is_fulfilled Precedence a b trace place = at_place (has_earlier same a) trace place
  is_fulfilled RespondedExistence a b trace place = at_place (has same b) trace place
  is_fulfilled NotCoExistence a b trace place = at_place (at_first a (none (has same b)) (none (has same a))) trace place
  is_fulfilled NotSuccession a b trace place = at_place (at_first a (none (has_later same b)) (none (has_earlier same a))) trace place
  is_fulfilled NotChainSuccession a b trace place = at_place (at_first a (none (has_next same b)) (none (has_previous same a))) trace place
  is_fulfilled (Exactly n) a b trace place = occurrences same a trace == n
  is_fulfilled (AtLeast n) a b trace place = nat_le n (occurrences same a trace)
  is_fulfilled (AtMost n) a b trace place = nat_le (occurrences same a trace) n
  is_fulfilled NotRespondedExistence a b trace place = at_place (none (has same b)) trace place
  is_fulfilled NotResponse a b trace place = at_place (none (has_later same b)) trace place
  is_fulfilled NotPrecedence a b trace place = at_place (none (has_earlier same a)) trace place
  is_fulfilled NotChainResponse a b trace place = at_place (none (has_next same b)) trace place
  is_fulfilled NotChainPrecedence a b trace place = at_place (none (has_previous same a)) trace place

  -- a trace keeps a constraint where each activated place is fulfilled
  abbrev pub Keeps : Kind → A → A → List A → Type 0
  Keeps kind a b trace =
      (place : ℕ) → place ≤ length trace → is_activated kind a b trace place ≡ true → is_fulfilled kind a b trace place ≡ true

  -- the same as a test
  abbrev pub keeps : Kind → A → A → List A → Bool
  keeps kind a b trace =
      all_places (λ place. not (is_activated kind a b trace place) || is_fulfilled kind a b trace place) (suc (length trace))

  -- the activated places of a trace, and those that are fulfilled too
  abbrev pub activated_places : Kind → A → A → List A → List ℕ
  activated_places kind a b trace = filter (is_activated kind a b trace) (range_with_len 0 (suc (length trace)))

  abbrev pub fulfilled_places : Kind → A → A → List A → List ℕ
  fulfilled_places kind a b trace = filter (is_fulfilled kind a b trace) (activated_places kind a b trace)

  -- how many places of the traces of a log are activated, and how many are activated and fulfilled
  abbrev pub activated : Kind → A → A → List (List A) → ℕ
  activated kind a b log = sum_by (λ trace. count_places (is_activated kind a b trace) (suc (length trace))) log

  abbrev pub fulfilled : Kind → A → A → List (List A) → ℕ
  fulfilled kind a b log =
      sum_by (λ trace. count_places (λ place. is_activated kind a b trace place && is_fulfilled kind a b trace place) (suc (length trace))) log
