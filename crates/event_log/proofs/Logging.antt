-- What calls do to a log.
use Rattle.std.proofs.Common.{◌≡◌, ℕ, ◌+◌, ◌<◌, ◌≤◌, List, [], ◌∷◌, ◌++◌, length, map, ap₂, sym, ap, ◌∙◌, subst, arith}
use Rattle.event_log.specs.Logs.{events_of}
use Rattle.event_log.specs.Log.{Traces, with_trace, with_event, with_last, cut_at, AscendsTo, StartsAtZero}
use Rattle.event_log.proofs.Cuts.{length-cut_at, cut_at-begin, cut_at-push, cut_at-map, cut_at-trace, events_of-all}

-- a log by its parts
abbrev pub log_by_parts : List ℕ → List ℕ → ℕ → ℕ → Traces
log_by_parts starts events trace_limit event_limit = record { traces = cut_at starts events; trace_limit = trace_limit; event_limit = event_limit }

same : (m n : ℕ) → m ≤ n → n ≤ m → m ≡ n
same m n h k = omega arith

module _ (starts events : List ℕ) (trace_limit event_limit : ℕ) (now : Traces) (is : log_by_parts starts events trace_limit event_limit ≡ now) where
  pub traces_full : length starts ≤ trace_limit → trace_limit ≤ length starts → length now.traces ≡ now.trace_limit
  traces_full within many = ap (λ s. length s.traces) (sym is) ∙ (length-cut_at starts events ∙ same (length starts) trace_limit within many) ∙ ap (λ s. s.trace_limit) is

  pub events_full : AscendsTo 0 starts (length events) → StartsAtZero starts events → length events ≤ event_limit → event_limit ≤ length events
      → length (events_of now.traces) ≡ now.event_limit
  events_full ascends zero_start within many =
      ap (λ s. length (events_of s.traces)) (sym is) ∙ (ap length (events_of-all starts events ascends zero_start) ∙ same (length events) event_limit within many)
      ∙ ap (λ s. s.event_limit) is

  pub begun : (next : List ℕ) (place : ℕ) → next ≡ starts ++ place ∷ [] → place ≡ length events → log_by_parts next events trace_limit event_limit ≡ with_trace now
  begun next place pushed at_end =
      ap (λ l. log_by_parts l events trace_limit event_limit) (pushed ∙ ap (λ n. starts ++ n ∷ []) at_end)
      ∙ ap (λ (l : List (List ℕ)). record { traces = l; trace_limit = trace_limit; event_limit = event_limit }) (cut_at-begin starts events)
      ∙ ap with_trace is

  pub some_start : 0 < length now.traces → 0 < length starts
  some_start h = subst (λ n. 0 < n) (ap (λ s. length s.traces) (sym is) ∙ length-cut_at starts events) h

  pub put_in : (more : List ℕ) (id : ℕ) → more ≡ events ++ id ∷ [] → AscendsTo 0 starts (length events) → 0 < length starts → log_by_parts starts more trace_limit event_limit ≡ with_event now id
  put_in more id pushed ascends some =
      ap (λ l. log_by_parts starts l trace_limit event_limit) pushed
      ∙ ap (λ (l : List (List ℕ)). record { traces = l; trace_limit = trace_limit; event_limit = event_limit }) (last starts ascends some)
      ∙ ap (λ s. with_event s id) is
    where
      last : (starts : List ℕ) → AscendsTo 0 starts (length events) → 0 < length starts → cut_at starts (events ++ id ∷ []) ≡ with_last (cut_at starts events) id
      last [] h some = absurd (omega arith)
      last (start ∷ starts) h some = cut_at-push 0 start starts events id h

  pub starts_few : length now.traces < now.trace_limit → length starts < trace_limit
  starts_few few = omega (arith, few, ap (λ s. length s.traces) is, length-cut_at starts events, ap (λ s. s.trace_limit) is)

  pub events_fit : (count : ℕ) → AscendsTo 0 starts (length events) → StartsAtZero starts events → length (events_of now.traces) + count ≤ now.event_limit → length events + count ≤ event_limit
  events_fit count ascends zero_start fits =
      omega (arith, fits, ap (λ s. length (events_of s.traces)) is, ap length (events_of-all starts events ascends zero_start), ap (λ s. s.event_limit) is)

  pub put_behind : (next more trace : List ℕ) (place : ℕ) → next ≡ starts ++ place ∷ [] → place ≡ length events → more ≡ events ++ trace → AscendsTo 0 starts (length events)
      → log_by_parts next more trace_limit event_limit ≡ record now { traces = now.traces ++ trace ∷ [] }
  put_behind next more trace place pushed at_end grown ascends =
      ap₂ (λ s e. log_by_parts s e trace_limit event_limit) (pushed ∙ ap (λ n. starts ++ n ∷ []) at_end) grown
      ∙ ap (λ (l : List (List ℕ)). record { traces = l; trace_limit = trace_limit; event_limit = event_limit }) (cut_at-trace 0 starts events trace ascends)
      ∙ ap (λ (s : Traces). record s { traces = s.traces ++ trace ∷ [] }) is

pub StartsAtZero-begin : (starts events : List ℕ) (place : ℕ) → place ≡ length events → StartsAtZero starts events → StartsAtZero (starts ++ place ∷ []) events
StartsAtZero-begin [] events place at_end h = at_end ∙ ap length h
StartsAtZero-begin (start ∷ starts) events place at_end h = h

pub StartsAtZero-push : (starts events more : List ℕ) → 0 < length starts → StartsAtZero starts events → StartsAtZero starts more
StartsAtZero-push [] events more some h = absurd (omega arith)
StartsAtZero-push (start ∷ starts) events more some h = h

-- another log of as many events, one for each
pub replaced : (starts events : List ℕ) (trace_limit event_limit : ℕ) (now : Traces) → log_by_parts starts events trace_limit event_limit ≡ now
    → (f : ℕ → ℕ) (next_starts next_events : List ℕ) → next_starts ≡ starts → next_events ≡ map f events
    → log_by_parts next_starts next_events trace_limit event_limit ≡ record now { traces = map (map f) now.traces }
replaced starts events trace_limit event_limit now is f next_starts next_events same_starts mapped =
    ap₂ (λ s e. log_by_parts s e trace_limit event_limit) same_starts mapped
    ∙ ap (λ (l : List (List ℕ)). record { traces = l; trace_limit = trace_limit; event_limit = event_limit }) (cut_at-map f starts events)
    ∙ ap (λ (s : Traces). record s { traces = map (map f) s.traces }) is
