-- Tests of the events before an event and after it, and what one event more does to them.
use Rattle.std.proofs.Common.{◌≡◌, ℕ, zero, suc, ◌+◌, ◌<◌, List, [], ◌∷◌, ◌++◌, Bool, true, false, ◌&&◌, ◌||◌, not, cond, Some, length, take, get_or, slice_get, nat_eq, refl, ap, ◌∙◌, arith}
use Rattle.std.proofs.lemmas.List.{take_more}
use Rattle.template_core.proofs.Counters.{occurs-snoc, occurs-after_last, occurrences-snoc}
use Rattle.template_core.proofs.Places.{count_events-nil}
use Rattle.template_core.specs.Counters.{occurrences}
use Rattle.template_core.specs.Events.{one_if, occurs, is_last, before_first, after_last}

-- the last event
pub last_is : (a x : ℕ) (events : List ℕ) (k : ℕ) → suc k ≡ length events → slice_get events k ≡ Some x → is_last nat_eq a events ≡ nat_eq x a
last_is a x [] k long is = absurd (omega arith)
last_is a x (e ∷ []) zero long is = let same : e ≡ x = cc in ap (λ y. nat_eq y a) same
last_is a x (e ∷ []) (suc k) long is = absurd (omega arith)
last_is a x (e ∷ f ∷ events) zero long is = absurd (omega arith)
last_is a x (e ∷ f ∷ events) (suc k) long is = last_is a x (f ∷ events) k (omega arith) is

-- some event is b, and no a stands before the first
abbrev pub later : ℕ → ℕ → List ℕ → Bool
later a b events = occurs nat_eq b events && not (occurs nat_eq a (before_first nat_eq b events))

-- some event is a, and no b stands after the last
abbrev pub earlier : ℕ → ℕ → List ℕ → Bool
earlier a b events = occurs nat_eq a events && not (occurs nat_eq b (after_last nat_eq a events))

pub earlier_snoc : (a b : ℕ) (events : List ℕ) (x : ℕ) → earlier a b (events ++ x ∷ []) ≡ cond (nat_eq x a) true (cond (nat_eq x b) false (earlier a b events))
earlier_snoc a b events x =
    rw (occurs-snoc nat_eq a events x, occurs-after_last nat_eq b a events x)
    (cases (occurs nat_eq a events) (nat_eq x a) (nat_eq x b) (occurs nat_eq b (after_last nat_eq a events)))
  where
    cases : (o v w r : Bool) → ((o || v) && not (cond v false (r || w))) ≡ cond v true (cond w false (o && not r))
    cases true true w r = refl
    cases false true w r = refl
    cases true false true true = refl
    cases true false true false = refl
    cases true false false true = refl
    cases true false false false = refl
    cases false false true r = refl
    cases false false false r = refl

pub earlier_more : (a b : ℕ) (events : List ℕ) (i : ℕ) → i < length events
    → earlier a b (take (i + 1) events) ≡ cond (nat_eq (get_or events i 0) a) true (cond (nat_eq (get_or events i 0) b) false (earlier a b (take i events)))
earlier_more a b events i lt = ap (earlier a b) (take_more events i 0 lt) ∙ earlier_snoc a b (take i events) (get_or events i 0)

-- how many events are a
pub occurrences_none : (a : ℕ) → occurrences nat_eq a [] ≡ 0
occurrences_none a = count_events-nil (λ before event after. nat_eq event a)

pub occurrences_more : (a : ℕ) (events : List ℕ) (i : ℕ) → i < length events
    → occurrences nat_eq a (take (i + 1) events) ≡ occurrences nat_eq a (take i events) + one_if (nat_eq (get_or events i 0) a)
occurrences_more a events i lt = ap (occurrences nat_eq a) (take_more events i 0 lt) ∙ occurrences-snoc nat_eq a (take i events) (get_or events i 0)
