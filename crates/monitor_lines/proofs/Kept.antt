-- What is kept of the cases, event by event.
use Rattle.std.proofs.Common.{◌≡◌, ◌≢◌, inl, inr, ℕ, ◌+◌, ◌<◌, List, [], ◌∷◌, ◌++◌, Bool, true, false, ◌||◌, cond, map, length, get_or, refl, sym, ap, subst, ◌∙◌, arith, append-nil, true≢false, ⊎_elim}
use Rattle.std.specs.Prelude.{filter}
use Rattle.std.specs.Cmp.Lexicographic.{bytes_decides}
use Rattle.std.specs.Str.{bytes_eq}
use Rattle.std.proofs.lemmas.Bool.{cases_eq, cases_lt}
use Rattle.std.proofs.lemmas.List.{get_or_append_left, get_or_push, get_or-set_other, get_or-set_same, length-set, length_push, map-append}
use Rattle.std.proofs.lemmas.List.Elements.{filter-append}
use Rattle.event_log.specs.Logs.{StandOnce, first_seen, has_name, place_of, with_name}
use Rattle.event_log.proofs.Alphabets.{first_seen-has}
use Rattle.event_log.proofs.Appearing.{first_seen-once, first_seen-push, place-with_name, place_of-put}
use Rattle.live_monitor.specs.Stands.{trace_of}
use Rattle.monitor_lines.specs.Cases.{Event, cases_of, trace_in}
use Rattle.monitor_lines.specs.Stepping.{begun, stepped}

abbrev case_in : Event → List ℕ
case_in event = event.case

pub cases_of-push : (events : List Event) (event : Event) → cases_of (events ++ event ∷ []) ≡ with_name (cases_of events) event.case
cases_of-push events event = ap first_seen (map-append case_in events (event ∷ [])) ∙ first_seen-push (map case_in events) event.case

-- ---- the trace of a case with an event more

abbrev is_of : List ℕ → Event → Bool
is_of case event = bytes_eq case event.case

trace_in-push : (names : List (List ℕ)) (events : List Event) (event : Event) (case : List ℕ)
    → trace_in names (events ++ event ∷ []) case ≡ trace_in names events case ++ cond (is_of case event) (place_of names event.name ∷ []) []
trace_in-push names events event case =
    ap (map symbol) (filter-append (is_of case) events (event ∷ []))
    ∙ map-append symbol (filter (is_of case) events) (filter (is_of case) (event ∷ []))
    ∙ ap (λ l. trace_in names events case ++ l) (one (is_of case event))
  where
    symbol : Event → ℕ
    symbol event = place_of names event.name

    one : (b : Bool) → map symbol (cond b (event ∷ []) []) ≡ cond b (place_of names event.name ∷ []) []
    one true = refl
    one false = refl

-- it has the event where that is its own
trace_in-own : (names : List (List ℕ)) (events : List Event) (event : Event) → trace_in names (events ++ event ∷ []) event.case ≡ trace_in names events event.case ++ place_of names event.name ∷ []
trace_in-own names events event =
    trace_in-push names events event event.case
    ∙ ap (λ b. trace_in names events event.case ++ cond b (place_of names event.name ∷ []) []) ((bytes_decides event.case event.case).1 refl)

trace_in-other : (names : List (List ℕ)) (events : List Event) (event : Event) (case : List ℕ) → case ≢ event.case → trace_in names (events ++ event ∷ []) case ≡ trace_in names events case
trace_in-other names events event case apart =
    trace_in-push names events event case ∙ ap (λ b. trace_in names events case ++ cond b (place_of names event.name ∷ []) []) (differs (is_of case event) refl)
    ∙ append-nil (trace_in names events case)
  where
    differs : (b : Bool) → is_of case event ≡ b → b ≡ false
    differs true e = absurd (apart ((bytes_decides case event.case).0 e))
    differs false e = refl

-- a case without an event has an empty trace
trace_in-none : (names : List (List ℕ)) (events : List Event) (case : List ℕ) → has_name (map case_in events) case ≡ false → trace_in names events case ≡ []
trace_in-none names [] case none = refl
trace_in-none names (event ∷ events) case none =
    elim (is_of case event) as (λ v. (v || has_name (map case_in events) case) ≡ false
    → map (λ (e : Event). place_of names e.name) (cond v (event ∷ filter (is_of case) events) (filter (is_of case) events)) ≡ []) [
      | true ↦ λ h. absurd (true≢false h)
      | false ↦ λ h. trace_in-none names events case h
    ] none

-- ---- the traces that are kept

-- each case that was found has its trace
pub record HasTraces (names : List (List ℕ)) (events : List Event) (found traces : List (List ℕ)) : Type 0 where
  pub as_many : length traces ≡ length found
  pub are : (id : ℕ) → id < length found → trace_of traces id ≡ trace_in names events (get_or found id [])

pub HasTraces-none : (names : List (List ℕ)) → HasTraces names [] [] []
HasTraces-none names = record { as_many = refl; are = λ id inside. absurd (omega arith) }

module _ (names : List (List ℕ)) (events : List Event) (event : Event) (found traces : List (List ℕ)) (is : found ≡ cases_of events) (h : HasTraces names events found traces) where
  -- with the event's case, which may be new
  abbrev next : List (List ℕ)
  next = with_name found event.case

  with_case : HasTraces names events next (begun found event.case traces)
  with_case = go (has_name found event.case) refl
    where
      added : has_name found event.case ≡ false → HasTraces names events (found ++ event.case ∷ []) (traces ++ [] ∷ [])
      added new = record {
        as_many = length_push traces [] ∙ ap (λ n. n + 1) h.as_many ∙ sym (length_push found event.case);
        are = λ id inside. ⊎_elim
            (λ before.
            get_or_append_left traces ([] ∷ []) [] id (omega (arith, before, h.as_many)) ∙ h.are id before
            ∙ ap (trace_in names events) (sym (get_or_append_left found (event.case ∷ []) [] id before)))
            (λ behind.
            let at : id ≡ length found = omega (arith, behind, inside, length_push found event.case) in
            get_or_push traces [] [] id (h.as_many ∙ sym at)
            ∙ sym (trace_in-none names events event.case (sym (first_seen-has (map case_in events) event.case) ∙ ap (λ l. has_name l event.case) (sym is) ∙ new))
            ∙ ap (trace_in names events) (sym (get_or_push found event.case [] id (sym at))))
            (cases_lt id (length found));
      }

      go : (b : Bool) → has_name found event.case ≡ b → HasTraces names events (cond b found (found ++ event.case ∷ [])) (cond b traces (traces ++ [] ∷ []))
      go true e = h
      go false e = added e

  once : StandOnce next
  once = subst StandOnce (sym (ap (λ l. with_name l event.case) is ∙ sym (cases_of-push events event))) (first_seen-once (map case_in (events ++ event ∷ [])))

  abbrev id_of : ℕ
  id_of = place_of found event.case

  there : (id_of < length next) × (get_or next id_of [] ≡ event.case)
  there = place-with_name found event.case

  abbrev after : List (List ℕ)
  after = stepped id_of (place_of names event.name) (begun found event.case traces)

  -- the case of the event has it at its end
  own : trace_of after id_of ≡ trace_in names (events ++ event ∷ []) event.case
  own =
      get_or-set_same (begun found event.case traces) id_of (trace_of (begun found event.case traces) id_of ++ place_of names event.name ∷ []) [] (omega (arith, there.0, with_case.as_many))
      ∙ ap (λ l. l ++ place_of names event.name ∷ []) (with_case.are id_of there.0 ∙ ap (trace_in names events) there.1)
      ∙ sym (trace_in-own names events event)

  other : (id : ℕ) → id < length next → id ≢ id_of → trace_of after id ≡ trace_in names (events ++ event ∷ []) (get_or next id [])
  other id inside apart =
      get_or-set_other (begun found event.case traces) id_of id (trace_of (begun found event.case traces) id_of ++ place_of names event.name ∷ []) [] apart
      ∙ with_case.are id inside
      ∙ sym (trace_in-other names events event (get_or next id []) (λ same. apart (sym (once id inside) ∙ ap (place_of next) same ∙ place_of-put found event.case)))

  -- the traces with the event
  pub HasTraces-more : HasTraces names (events ++ event ∷ []) next after
  HasTraces-more = record {
    as_many = length-set (begun found event.case traces) id_of (trace_of (begun found event.case traces) id_of ++ place_of names event.name ∷ []) ∙ with_case.as_many;
    are = λ id inside. elim (cases_eq id id_of) [
      | inl at ↦ ap (trace_of after) at ∙ own ∙ ap (trace_in names (events ++ event ∷ [])) (sym there.1 ∙ ap (λ k. get_or next k []) (sym at))
      | inr apart ↦ other id inside apart
    ];
  }

  -- the trace of the event's case, by the case's number
  pub trace-own : (id : ℕ) → id ≡ place_of found event.case → trace_of (stepped id (place_of names event.name) (begun found event.case traces)) id ≡ trace_in names (events ++ event ∷ []) event.case
  trace-own id at = subst (λ k. trace_of (stepped k (place_of names event.name) (begun found event.case traces)) k ≡ trace_in names (events ++ event ∷ []) event.case) (sym at) own
