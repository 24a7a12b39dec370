-- Events that stand case by case, cut into traces.
use Rattle.std.proofs.Common.{◌≡◌, ℕ, zero, suc, ◌+◌, ◌<◌, ◌≤◌, ◌==◌, Bool, true, false, cond, List, [], ◌∷◌, ◌++◌, All, length, map, get_or, filter, take, drop, refl, sym, ap, ◌∙◌, subst, arith, append_assoc, append-nil, nat_cmp, length-append, length-take, take-append-drop}
use Rattle.std.proofs.lemmas.Bool.Decides.{nat_tests}
use Rattle.std.proofs.lemmas.List.{take_more, map-append, length-map}
use Rattle.std.proofs.lemmas.List.Elements.{All-head, All-drop}
use Rattle.std.proofs.lemmas.List.FromFn.{length-map-range_with_len}
use Rattle.std.specs.List.{AllByRecursion, prefix_len, range_with_len}
use Rattle.std.specs.Ordering.{is_lt}
use Rattle.decl_base.specs.declared.limits.Limits.{Limits}
use Rattle.event_log.specs.Log.{Traces, with_event, with_last}
use Rattle.event_log.specs.Logs.{events_of}
use Rattle.event_log.proofs.Appearing.{events_of-push}
use Rattle.csv_log.specs.declared.kept.Kept.{Kept}
use Rattle.csv_log.specs.Kept.{is_earlier_case, is_of_case}
use Rattle.csv_log.proofs.Sorts.{AreAtLeast, Rises}

abbrev pub activities : List Kept → List ℕ
activities = map (λ kept. kept.activity)

with_last-push : (traces : List (List ℕ)) (trace : List ℕ) (id : ℕ) → with_last (traces ++ trace ∷ []) id ≡ traces ++ (trace ++ id ∷ []) ∷ []
with_last-push [] trace id = refl
with_last-push (first ∷ []) trace id = refl
with_last-push (first ∷ second ∷ traces) trace id = ap (λ l. first ∷ l) (with_last-push (second ∷ traces) trace id)

-- an event more in the last trace
pub trace_more : (now log : Traces) (events : List Kept) (i : ℕ) (d : Kept) (id : ℕ) → now ≡ record log { traces = log.traces ++ activities (take i events) ∷ [] }
    → i < length events → id ≡ (get_or events i d).activity → with_event now id ≡ record log { traces = log.traces ++ activities (take (i + 1) events) ∷ [] }
trace_more now log events i d id is inside same =
    ap (λ s. with_event s id) is
    ∙ ap (λ (l : List (List ℕ)). record log { traces = l }) (with_last-push log.traces (activities (take i events)) id
    ∙ ap (λ (l : List ℕ). log.traces ++ l ∷ []) (ap (λ n. activities (take i events) ++ n ∷ []) same
    ∙ sym (map-append (λ (kept : Kept). kept.activity) (take i events) (get_or events i d ∷ [])) ∙ ap activities (sym (take_more events i d inside))))

range-push : (a n : ℕ) → range_with_len a (n + 1) ≡ range_with_len a n ++ (a + n) ∷ []
range-push a zero = ap (λ (m : ℕ). m ∷ []) (omega arith)
range-push a (suc n) =
    let one : suc n + 1 ≡ suc (n + 1) = omega arith in
    rw one (ap (λ l. a ∷ l) (range-push (a + 1) n ∙ ap (λ (m : ℕ). range_with_len (a + 1) n ++ m ∷ []) (omega arith)))

-- of no earlier case
abbrev pub AreFrom : ℕ → List Kept → Type 0
AreFrom case events = AllByRecursion (λ kept. case ≤ kept.case) events

no_earlier : (a b : ℕ) → is_lt (nat_cmp a b) ≡ false → b ≤ a
no_earlier a b h = grind (arith, nat_tests)

-- how many of the first events are of this case
abbrev pub run_of : ℕ → List Kept → ℕ
run_of case events = prefix_len (is_of_case case) events

rest_from : (first : Kept) (events : List Kept) → AreAtLeast is_earlier_case first events → AreFrom first.case events
rest_from first [] h = tt
rest_from first (event ∷ events) h = (no_earlier event.case first.case h.0, rest_from first events h.1)

AreFrom-le : (low high : ℕ) (events : List Kept) → low ≤ high → AreFrom high events → AreFrom low events
AreFrom-le low high [] le h = tt
AreFrom-le low high (event ∷ events) le h = (omega (arith, h.0), AreFrom-le low high events le h.1)

of_it : (a b : ℕ) → (a == b) ≡ true → a ≡ b
of_it a b h = grind (arith, nat_tests)

of_another : (a b : ℕ) → b < a → (a == b) ≡ false
of_another a b h = grind (arith, nat_tests)

of_a_later : (a b : ℕ) → (a == b) ≡ false → b ≤ a → b < a
of_a_later a b h k = grind (arith, nat_tests)

none_of : (case : ℕ) (events : List Kept) → AreFrom (suc case) events → filter (is_of_case case) events ≡ []
none_of case [] h = refl
none_of case (event ∷ events) h = rw (of_another event.case case h.0) (none_of case events h.1)

-- the events of the first case stand first
pub run-is : (case : ℕ) (events : List Kept) → Rises is_earlier_case events → AreFrom case events → take (run_of case events) events ≡ filter (is_of_case case) events
run-is case [] rises from = refl
run-is case (event ∷ events) rises from = go (event.case == case) refl (run-is case events rises.1 from.1)
  where
    go : (b : Bool) → (event.case == case) ≡ b → take (run_of case events) events ≡ filter (is_of_case case) events
        → take (cond b (1 + run_of case events) 0) (event ∷ events) ≡ cond b (event ∷ filter (is_of_case case) events) (filter (is_of_case case) events)
    go true e more = let one : 1 + run_of case events ≡ suc (run_of case events) = omega arith in rw one (ap (λ l. event ∷ l) more)
    go false e more = sym (none_of case events (AreFrom-le (suc case) event.case events (of_a_later event.case case e from.0) (rest_from event events rises.0)))

-- the others are of later cases
pub later-from : (case : ℕ) (events : List Kept) → Rises is_earlier_case events → AreFrom case events
    → Rises is_earlier_case (drop (run_of case events) events) × AreFrom (suc case) (drop (run_of case events) events)
later-from case [] rises from = (tt, tt)
later-from case (event ∷ events) rises from = go (event.case == case) refl (later-from case events rises.1 from.1)
  where
    go : (b : Bool) → (event.case == case) ≡ b → Rises is_earlier_case (drop (run_of case events) events) × AreFrom (suc case) (drop (run_of case events) events)
        → Rises is_earlier_case (drop (cond b (1 + run_of case events) 0) (event ∷ events))
        × AreFrom (suc case) (drop (cond b (1 + run_of case events) 0) (event ∷ events))
    go true e more = let one : 1 + run_of case events ≡ suc (run_of case events) = omega arith in rw one more
    go false e more =
        let later = of_a_later event.case case e from.0 in
        (rises, (later, AreFrom-le (suc case) event.case events later (rest_from event events rises.0)))

-- and among them is each event of a later case
pub filter-later : (case later : ℕ) (events : List Kept) → case < later → filter (is_of_case later) (drop (run_of case events) events) ≡ filter (is_of_case later) events
filter-later case later [] above = refl
filter-later case later (event ∷ events) above = go (event.case == case) refl (filter-later case later events above)
  where
    not_it : (event.case == case) ≡ true → (event.case == later) ≡ false
    not_it e = let same = of_it event.case case e in grind (arith, nat_tests)

    go : (b : Bool) → (event.case == case) ≡ b → filter (is_of_case later) (drop (run_of case events) events) ≡ filter (is_of_case later) events
        → filter (is_of_case later) (drop (cond b (1 + run_of case events) 0) (event ∷ events))
        ≡ cond (event.case == later) (event ∷ filter (is_of_case later) events) (filter (is_of_case later) events)
    go true e more =
        let one : 1 + run_of case events ≡ suc (run_of case events) = omega arith in
        rw one (more ∙ ap (λ b. cond b (event ∷ filter (is_of_case later) events) (filter (is_of_case later) events)) (sym (not_it e)))
    go false e more = refl

none_left : (cases : ℕ) (events : List Kept) → AreFrom cases events → All (λ kept. kept.case < cases) events → events ≡ []
none_left cases [] from inside = refl
none_left cases (event ∷ events) from inside = absurd (omega (arith, from.0, All-head (λ (kept : Kept). kept.case < cases) event events inside))

shorter : (n : ℕ) (events : List Kept) → length (take n events) ≤ length events
shorter n events = omega (arith, length-take n events)

-- ---- the traces of the cases before one

abbrev pub trace_of_case : List Kept → ℕ → List ℕ
trace_of_case events case = activities (filter (is_of_case case) events)

pub record AreGrouped (limits : Limits) (events : List Kept) (cases case : ℕ) (rest : List Kept) (log : Traces) : Type 0 where
  pub traces : log.traces ≡ map (trace_of_case events) (range_with_len 0 case)
  pub in_order : events_of log.traces ++ activities rest ≡ activities events
  pub left : (later : ℕ) → case ≤ later → filter (is_of_case later) rest ≡ filter (is_of_case later) events
  pub rises : Rises is_earlier_case rest
  pub from : AreFrom case rest
  pub inside : All (λ kept. kept.case < cases) rest
  pub trace_limit : log.trace_limit ≡ limits.traces
  pub event_limit : log.event_limit ≡ limits.events

from_zero : (events : List Kept) → AreFrom 0 events
from_zero [] = tt
from_zero (event ∷ events) = (omega arith, from_zero events)

pub grouped-none : (limits : Limits) (events : List Kept) (cases : ℕ) (log : Traces) → Rises is_earlier_case events → All (λ kept. kept.case < cases) events
    → log ≡ record { traces = []; trace_limit = limits.traces; event_limit = limits.events } → AreGrouped limits events cases 0 events log
grouped-none limits events cases log rises inside is = record {
  traces = ap (λ s. s.traces) is;
  in_order = ap (λ s. events_of s.traces ++ activities events) is;
  left = λ later h. refl;
  rises = rises;
  from = from_zero events;
  inside = inside;
  trace_limit = ap (λ s. s.trace_limit) is;
  event_limit = ap (λ s. s.event_limit) is;
}

module _ (limits : Limits) (events : List Kept) (cases case : ℕ) (rest : List Kept) (log : Traces) (h : AreGrouped limits events cases case rest log) where
  pub few_traces : case < cases → cases ≤ limits.traces → length log.traces < log.trace_limit
  few_traces more few =
      let size : length log.traces ≡ case = ap length h.traces ∙ length-map-range_with_len (trace_of_case events) 0 case in
      omega (arith, h.trace_limit)

  count : length (events_of log.traces) + length rest ≡ length events
  count =
      ap (λ n. length (events_of log.traces) + n) (sym (length-map rest (λ (kept : Kept). kept.activity))) ∙ sym (length-append (events_of log.traces) (activities rest))
      ∙ ap length h.in_order ∙ length-map events (λ (kept : Kept). kept.activity)

  pub few_events : (n : ℕ) → length events ≤ limits.events → length (events_of log.traces) + length (take n rest) ≤ log.event_limit
  few_events n few = omega (arith, h.event_limit, count, shorter n rest)

  pub grouped-more : (next : Traces) → next ≡ record log { traces = log.traces ++ activities (take (run_of case rest) rest) ∷ [] }
      → AreGrouped limits events cases (case + 1) (drop (run_of case rest) rest) next
  grouped-more next is =
      let one : case + 1 ≡ suc case = omega arith in
      let behind = later-from case rest h.rises h.from in
      let run = run-is case rest h.rises h.from ∙ h.left case (omega arith) in
      record {
        traces =
            ap (λ s. s.traces) is ∙ ap (λ l. l ++ activities (take (run_of case rest) rest) ∷ []) h.traces
            ∙ ap (λ l. map (trace_of_case events) (range_with_len 0 case) ++ activities l ∷ []) run
            ∙ sym (ap (map (trace_of_case events)) (range-push 0 case ∙ ap (λ (m : ℕ). range_with_len 0 case ++ m ∷ []) (omega arith)) ∙ map-append (trace_of_case events) (range_with_len 0 case) (case ∷ []));
        in_order =
            ap (λ s. events_of s.traces ++ activities (drop (run_of case rest) rest)) is
            ∙ ap (λ l. l ++ activities (drop (run_of case rest) rest)) (events_of-push log.traces (activities (take (run_of case rest) rest)))
            ∙ append_assoc (events_of log.traces) (activities (take (run_of case rest) rest)) (activities (drop (run_of case rest) rest))
            ∙ ap (λ l. events_of log.traces ++ l) (sym (map-append (λ (kept : Kept). kept.activity) (take (run_of case rest) rest) (drop (run_of case rest) rest)) ∙ ap activities (take-append-drop (run_of case rest) rest))
            ∙ h.in_order;
        left = λ later above. filter-later case later rest (omega arith) ∙ h.left later (omega arith);
        rises = behind.0;
        from = rw one behind.1;
        inside = All-drop (λ (kept : Kept). kept.case < cases) (run_of case rest) rest h.inside;
        trace_limit = ap (λ s. s.trace_limit) is ∙ h.trace_limit;
        event_limit = ap (λ s. s.event_limit) is ∙ h.event_limit;
      }

  pub grouped-all : case ≡ cases → events_of log.traces ≡ activities events
  grouped-all end =
      let none = none_left cases rest (subst (λ n. AreFrom n rest) end h.from) h.inside in
      sym (append-nil (events_of log.traces)) ∙ ap (λ l. events_of log.traces ++ activities l) (sym none) ∙ h.in_order
