-- The places of an activity's events, trace by trace.
use Rattle.std.proofs.Common.{◌≡◌, ℕ, zero, suc, ◌+◌, ◌-◌, ◌<◌, ◌≤◌, List, [], ◌∷◌, ◌++◌, Bool, true, false, cond, eqb, get_or, slice_get, Some, take, drop, length, refl, sym, ap, ◌∙◌, arith, ⊎_elim, length-append}
use Rattle.std.proofs.lemmas.Bool.{cases_lt}
use Rattle.std.proofs.lemmas.List.{get_or-drop, drop-drop, length-drop, get_or_append_left}
use Rattle.std.proofs.Math.Seq.{drop-append_seam, take-append_seam, get_or-append_right}
use Rattle.std.specs.Prelude.{slice_range}
use Rattle.std.proofs.lemmas.Option.{none-some}
use Rattle.event_log.proofs.Appearing.{events_of-push}
use Rattle.event_log.proofs.Naming.{take-get}
use Rattle.event_log.specs.Logs.{events_of}
use Rattle.trace_check.specs.Standing.{places_from}
use Rattle.trace_check.proofs.Standing.{places-above, places-below}

cond-append : (v : Bool) (n : ℕ) (xs ys : List ℕ) → cond v (n ∷ xs ++ ys) (xs ++ ys) ≡ cond v (n ∷ xs) xs ++ ys
cond-append true n xs ys = refl
cond-append false n xs ys = refl

pub places-append : (c n : ℕ) (s t : List ℕ) → places_from c n (s ++ t) ≡ places_from c n s ++ places_from c (n + length s) t
places-append c n [] t = ap (λ m. places_from c m t) {x = n} {y = n + 0} (omega arith)
places-append c n (e ∷ s) t =
    ap (λ l. cond (eqb e c) (n ∷ l) l) (places-append c (n + 1) s t)
    ∙ cond-append (eqb e c) n (places_from c (n + 1) s) (places_from c (n + 1 + length s) t)
    ∙ ap (λ m. cond (eqb e c) (n ∷ places_from c (n + 1) s) (places_from c (n + 1) s) ++ places_from c m t) {x = n + 1 + length s} {y = n + suc (length s)} (omega arith)

-- the events from a trace on are its own and those behind it
events-left : (log : List (List ℕ)) (k : ℕ) (t : List ℕ) → slice_get log k ≡ Some t → events_of (drop k log) ≡ t ++ events_of (drop (k + 1) log)
events-left [] k t is = absurd (none-some t is)
events-left (u ∷ log) zero t is = let same : u ≡ t = cc in ap (λ v. v ++ events_of log) same
events-left (u ∷ log) (suc k) t is = events-left log k t is ∙ ap (λ m. t ++ events_of (drop m (u ∷ log))) {x = suc (k + 1)} {y = suc k + 1} (omega arith)

-- the part of the places that lies in the next trace
module _ (c start : ℕ) (xs : List ℕ) (i e : ℕ) (log : List (List ℕ)) (number : ℕ) (t : List ℕ) (is : slice_get log number ≡ Some t) (from : i ≤ length xs)
    (left : drop i xs ≡ places_from c start (events_of (drop number log))) (low : i ≤ e) (high : e ≤ length xs) (before : i < e → get_or xs (e - 1) 0 < start + length t)
    (behind : e < length xs → start + length t ≤ get_or xs e 0) where
  abbrev rest : List ℕ
  rest = events_of (drop (number + 1) log)

  abbrev front : List ℕ
  front = places_from c start t

  abbrev back : List ℕ
  back = places_from c (start + length t) rest

  parts : drop i xs ≡ front ++ back
  parts = left ∙ ap (places_from c start) (events-left log number t is) ∙ places-append c start t rest

  sizes : length xs - i ≡ length front + length back
  sizes = sym (length-drop i xs) ∙ ap length parts ∙ length-append front back

  at : (k : ℕ) → get_or xs (i + k) 0 ≡ get_or (front ++ back) k 0
  at k = sym (get_or-drop i xs k 0) ∙ ap (λ l. get_or l k 0) parts

  enough : length front ≤ e - i
  enough =
      ⊎_elim
      (λ lt.
      let inside : e < length xs = omega (arith, sizes) in
      absurd
      (omega (
        arith,
        behind inside,
        ap (λ m. get_or xs m 0) {x = i + (e - i)} {y = e} (omega arith),
        at (e - i),
        get_or_append_left front back 0 (e - i) lt,
        places-below c start t (e - i) 0 lt,
      )))
      (λ ge. ge) (cases_lt (e - i) (length front))

  no_more : e - i ≤ length front
  no_more =
      ⊎_elim
      (λ lt.
      let k : ℕ = e - 1 - i in
      let inside : k - length front < length back = omega (arith, sizes) in
      absurd
      (omega (
        arith,
        before (omega arith),
        ap (λ m. get_or xs m 0) {x = i + k} {y = e - 1} (omega arith),
        at k,
        get_or-append_right front back k 0 (omega arith),
        places-above c (start + length t) rest (k - length front) 0 inside,
      )))
      (λ ge. ge) (cases_lt (length front) (e - i))

  size : e - i ≡ length front
  size = omega (arith, enough, no_more)

  pub block : slice_range xs i e ≡ places_from c start t
  block = ap (λ n. take n (drop i xs)) size ∙ ap (take (length front)) parts ∙ take-append_seam front back

  pub remains : drop e xs ≡ places_from c (start + length t) rest
  remains =
      ap (λ n. drop n xs) {x = e} {y = i + length front} (omega (arith, size, low))
      ∙ sym (drop-drop (length front) i xs) ∙ ap (drop (length front)) parts ∙ drop-append_seam front back

-- ---- traces and their events

pub events-most : (log : List (List ℕ)) (k : ℕ) → length (events_of (take k log)) ≤ length (events_of log)
events-most [] zero = omega arith
events-most [] (suc k) = omega arith
events-most (t ∷ log) zero = omega arith
events-most (t ∷ log) (suc k) = omega (arith, length-append t (events_of (take k log)), length-append t (events_of log), events-most log k)

pub events-next : (log : List (List ℕ)) (k : ℕ) (t : List ℕ) → slice_get log k ≡ Some t → events_of (take (k + 1) log) ≡ events_of (take k log) ++ t
events-next log k t is = ap events_of (take-get log k t is) ∙ events_of-push (take k log) t

-- the events up to the next trace's end are some of them
pub events-fit : (log : List (List ℕ)) (k : ℕ) (t : List ℕ) → slice_get log k ≡ Some t → length (events_of (take k log)) + length t ≤ length (events_of log)
events-fit log k t is = omega (arith, ap length (events-next log k t is), length-append (events_of (take k log)) t, events-most log (k + 1))
