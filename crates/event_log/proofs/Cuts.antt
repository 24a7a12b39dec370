-- Events cut at places into traces.
use Rattle.std.proofs.Common.{◌≡◌, ℕ, zero, suc, ◌+◌, ◌-◌, ◌<◌, ◌≤◌, List, [], ◌∷◌, ◌++◌, Some, length, take, drop, map, slice_range, slice_get, get_or, refl, sym, ap, ap₂, subst, ◌∙◌, arith, append-nil, take-append-drop, length-drop}
use Rattle.std.proofs.lemmas.List.{take_rest, drop_all, drop-append-le, take-append-le, drop-drop, drop-map, take-map}
use Rattle.event_log.specs.Logs.{events_of}
use Rattle.event_log.specs.Log.{cut_at, with_last, AscendsTo, StartsAtZero}

pub length-cut_at : (starts events : List ℕ) → length (cut_at starts events) ≡ length starts
length-cut_at [] events = refl
length-cut_at (start ∷ []) events = refl
length-cut_at (start ∷ next ∷ starts) events = ap suc (length-cut_at (next ∷ starts) events)

pub AscendsTo-le : (low : ℕ) (starts : List ℕ) (high : ℕ) → AscendsTo low starts high → low ≤ high
AscendsTo-le low [] high h = h
AscendsTo-le low (start ∷ starts) high h = omega (arith, h.0, AscendsTo-le start starts high h.1)

pub AscendsTo-push : (low : ℕ) (starts : List ℕ) (high : ℕ) → AscendsTo low starts high → AscendsTo low (starts ++ high ∷ []) high
AscendsTo-push low [] high h = (h, omega arith)
AscendsTo-push low (start ∷ starts) high h = (h.0, AscendsTo-push start starts high h.1)

pub AscendsTo-higher : (low : ℕ) (starts : List ℕ) (high more : ℕ) → high ≤ more → AscendsTo low starts high → AscendsTo low starts more
AscendsTo-higher low [] high more grows h = omega (arith, h)
AscendsTo-higher low (start ∷ starts) high more grows h = (h.0, AscendsTo-higher start starts high more grows h.1)

-- a place at the end begins an empty trace
pub cut_at-begin : (starts events : List ℕ) → cut_at (starts ++ length events ∷ []) events ≡ cut_at starts events ++ [] ∷ []
cut_at-begin [] events = ap (λ l. l ∷ []) (drop_all (length events) events (omega arith))
cut_at-begin (start ∷ []) events =
    let rest : slice_range events start (length events) ≡ drop start events = take_rest events start in
    let none : drop (length events) events ≡ [] = drop_all (length events) events (omega arith) in
    ap (λ l. l ∷ drop (length events) events ∷ []) rest ∙ ap (λ l. drop start events ∷ l ∷ []) none
cut_at-begin (start ∷ next ∷ starts) events = ap (λ l. slice_range events start next ∷ l) (cut_at-begin (next ∷ starts) events)

slice_range-append : (events more : List ℕ) (start end : ℕ) → start ≤ end → end ≤ length events → slice_range (events ++ more) start end ≡ slice_range events start end
slice_range-append events more start end ordered within =
    ap (take (end - start)) (drop-append-le start events more (omega arith))
    ∙ take-append-le (end - start) (drop start events) more (omega (arith, length-drop start events))

drop-behind : (events more : List ℕ) → drop (length events) (events ++ more) ≡ more
drop-behind events more = drop-append-le (length events) events more (omega arith) ∙ ap (λ l. l ++ more) (drop_all (length events) events (omega arith))

-- an event more stands in the last trace
pub cut_at-push : (low start : ℕ) (starts events : List ℕ) (id : ℕ) → AscendsTo low (start ∷ starts) (length events)
    → cut_at (start ∷ starts) (events ++ id ∷ []) ≡ with_last (cut_at (start ∷ starts) events) id
cut_at-push low start [] events id h = ap (λ l. l ∷ []) (drop-append-le start events (id ∷ []) h.1)
cut_at-push low start (next ∷ []) events id h =
    ap (λ l. l ∷ drop next (events ++ id ∷ []) ∷ []) (slice_range-append events (id ∷ []) start next h.1.0 h.1.1)
    ∙ ap (λ l. slice_range events start next ∷ l) (cut_at-push start next [] events id h.1)
cut_at-push low start (next ∷ third ∷ starts) events id h =
    ap (λ l. l ∷ cut_at (next ∷ third ∷ starts) (events ++ id ∷ [])) (slice_range-append events (id ∷ []) start next h.1.0 (AscendsTo-le next (third ∷ starts) (length events) h.1.1))
    ∙ ap (λ l. slice_range events start next ∷ l) (cut_at-push start next (third ∷ starts) events id h.1)

-- a place at the end, and a trace behind it
pub cut_at-trace : (low : ℕ) (starts events trace : List ℕ) → AscendsTo low starts (length events) → cut_at (starts ++ length events ∷ []) (events ++ trace) ≡ cut_at starts events ++ trace ∷ []
cut_at-trace low [] events trace h = ap (λ l. l ∷ []) (drop-behind events trace)
cut_at-trace low (start ∷ []) events trace h =
    ap₂ (λ l m. l ∷ m ∷ []) (slice_range-append events trace start (length events) h.1 (omega arith) ∙ take_rest events start) (drop-behind events trace)
cut_at-trace low (start ∷ next ∷ starts) events trace h =
    ap₂ (λ l m. l ∷ m) (slice_range-append events trace start next h.1.0 (AscendsTo-le next starts (length events) h.1.1)) (cut_at-trace start (next ∷ starts) events trace h.1)

-- the events from the first place on, one trace after another
pub events_of-cut_at : (low start : ℕ) (starts events : List ℕ) → AscendsTo low (start ∷ starts) (length events) → events_of (cut_at (start ∷ starts) events) ≡ drop start events
events_of-cut_at low start [] events h = append-nil (drop start events)
events_of-cut_at low start (next ∷ starts) events h =
    ap (λ l. slice_range events start next ++ l) (events_of-cut_at start next starts events h.1)
    ∙ ap (λ l. slice_range events start next ++ l) (sym (drop-drop (next - start) start events ∙ ap (λ n. drop n events) (omega (arith, h.1.0))))
    ∙ take-append-drop (next - start) (drop start events)

-- all events
pub events_of-all : (starts events : List ℕ) → AscendsTo 0 starts (length events) → StartsAtZero starts events → events_of (cut_at starts events) ≡ events
events_of-all [] events h zero_start = sym zero_start
events_of-all (start ∷ starts) events h zero_start = events_of-cut_at 0 start starts events h ∙ ap (λ n. drop n events) zero_start

pub cut_at-map : (f : ℕ → ℕ) (starts events : List ℕ) → cut_at starts (map f events) ≡ map (map f) (cut_at starts events)
cut_at-map f [] events = refl
cut_at-map f (start ∷ []) events = ap (λ l. l ∷ []) (drop-map f start events)
cut_at-map f (start ∷ next ∷ starts) events =
    ap (λ l. l ∷ cut_at (next ∷ starts) (map f events)) (ap (take (next - start)) (drop-map f start events) ∙ take-map f (next - start) (drop start events))
    ∙ ap (λ l. map f (slice_range events start next) ∷ l) (cut_at-map f (next ∷ starts) events)

-- the trace at a place
pub cut_at-get : (starts events : List ℕ) (place : ℕ) → place < length starts
    → slice_get (cut_at starts events) place ≡ Some (slice_range events (get_or starts place 0) (get_or starts (place + 1) (length events)))
cut_at-get [] events place h = absurd (omega arith)
cut_at-get (start ∷ []) events zero h = ap (λ l. Some l) (sym (take_rest events start))
cut_at-get (start ∷ []) events (suc place) h = absurd (omega arith)
cut_at-get (start ∷ next ∷ starts) events zero h = refl
cut_at-get (start ∷ next ∷ starts) events (suc place) h =
    cut_at-get (next ∷ starts) events place (omega arith)
    ∙ ap (λ n. Some (slice_range events (get_or (next ∷ starts) place 0) (get_or (start ∷ next ∷ starts) n (length events)))) {x = suc (place + 1)} {y = suc place + 1} (omega arith)

-- a place is at most the next, and that at most the last
pub AscendsTo-at : (low : ℕ) (starts : List ℕ) (high place : ℕ) → AscendsTo low starts high → place < length starts
    → (get_or starts place 0 ≤ get_or starts (place + 1) high) × (get_or starts (place + 1) high ≤ high)
AscendsTo-at low [] high place h inside = absurd (omega arith)
AscendsTo-at low (start ∷ []) high zero h inside = (h.1, omega arith)
AscendsTo-at low (start ∷ []) high (suc place) h inside = absurd (omega arith)
AscendsTo-at low (start ∷ next ∷ starts) high zero h inside = (h.1.0, AscendsTo-le next starts high h.1.1)
AscendsTo-at low (start ∷ next ∷ starts) high (suc place) h inside =
    subst (λ n. (get_or (next ∷ starts) place 0 ≤ get_or (start ∷ next ∷ starts) n high) × (get_or (start ∷ next ∷ starts) n high ≤ high)) {x = suc (place + 1)} {y = suc place + 1} (omega arith)
    (AscendsTo-at start (next ∷ starts) high place h.1 (omega arith))
