-- Lists of places, one for each activity, as they grow.
use Rattle.std.proofs.Common.{◌≡◌, ◌≢◌, ℕ, ◌+◌, ◌<◌, ◌≤◌, List, [], ◌∷◌, ◌++◌, cond, eqb, get_or, take, set, length, refl, sym, ap, ◌∙◌, arith, ⊎_elim, append-nil, append_assoc, length-set}
use Rattle.std.proofs.lemmas.Bool.{cases_lt, cases_eq, eq-eqb, ne_eqb}
use Rattle.std.proofs.lemmas.List.{get_or_append_left, get_or-set_same, get_or-set_other, length_push, length-take-le, take_more, map-set, map-append}
use Rattle.std.proofs.Math.Seq.{get_or-append_seam}
use Rattle.std.specs.Global.{Vec}
use Rattle.trace_check.specs.Index.{lists, AddsPlaces, IsIndex}
use Rattle.trace_check.specs.Standing.{places_from}
use Rattle.trace_check.proofs.Blocks.{places-append}

one_place : (c n e : ℕ) → places_from c n (e ∷ []) ≡ cond (eqb e c) (n ∷ []) []
one_place c n e = refl

-- where the next event stands
next-place : (c start i : ℕ) (trace : List ℕ) → i < length trace → places_from c start (take (i + 1) trace) ≡ places_from c start (take i trace) ++ cond (eqb (get_or trace i 0) c) ((start + i) ∷ []) []
next-place c start i trace inside =
    ap (places_from c start) (take_more trace i 0 inside)
    ∙ places-append c start (take i trace) (get_or trace i 0 ∷ [])
    ∙ ap (λ n. places_from c start (take i trace) ++ places_from c (start + n) (get_or trace i 0 ∷ [])) (length-take-le i trace (omega arith))

pub adds-none : (start : ℕ) (trace : List ℕ) (old : List (List ℕ)) → AddsPlaces start (take 0 trace) old old
adds-none start trace old = record { size = refl; places = λ c inside. sym (append-nil (get_or old c [])) }

pub adds-skip : (start : ℕ) (trace : List ℕ) (old now : List (List ℕ)) (i e : ℕ) → i < length trace → get_or trace i 0 ≡ e → length now ≤ e → AddsPlaces start (take i trace) old now → AddsPlaces start (take (i + 1) trace) old now
adds-skip start trace old now i e inside is far h = record {
  size = h.size;
  places = λ c known.
      h.places c known
      ∙ ap (λ l. get_or old c [] ++ l)
      (sym
      (next-place c start i trace inside
      ∙ ap (λ b. places_from c start (take i trace) ++ cond b ((start + i) ∷ []) []) (ne_eqb (get_or trace i 0) c (λ same. absurd (omega (arith, same, is, far, h.size))))
      ∙ append-nil (places_from c start (take i trace))));
}

pub adds-step : (start : ℕ) (trace : List ℕ) (old now next : List (List ℕ)) (i e : ℕ) → i < length trace → get_or trace i 0 ≡ e → e < length now
    → next ≡ set now e (get_or now e [] ++ (start + i) ∷ []) → AddsPlaces start (take i trace) old now → AddsPlaces start (take (i + 1) trace) old next
adds-step start trace old now next i e inside is within pushed h = record {
  size = ap length pushed ∙ length-set now e (get_or now e [] ++ (start + i) ∷ []) ∙ h.size;
  places = λ c known. ap (λ l. get_or l c []) pushed ∙ ⊎_elim (here c known) (other c known) (cases_eq c e);
}
  where
    here : (c : ℕ) → c < length old → c ≡ e → get_or (set now e (get_or now e [] ++ (start + i) ∷ [])) c [] ≡ get_or old c [] ++ places_from c start (take (i + 1) trace)
    here c known same =
        ap (λ k. get_or (set now e (get_or now e [] ++ (start + i) ∷ [])) k []) same
        ∙ get_or-set_same now e (get_or now e [] ++ (start + i) ∷ []) [] within
        ∙ ap (λ k. get_or now k [] ++ (start + i) ∷ []) (sym same)
        ∙ ap (λ l. l ++ (start + i) ∷ []) (h.places c known)
        ∙ append_assoc (get_or old c []) (places_from c start (take i trace)) ((start + i) ∷ [])
        ∙ ap (λ l. get_or old c [] ++ l)
        (sym
        (next-place c start i trace inside
        ∙ ap (λ b. places_from c start (take i trace) ++ cond b ((start + i) ∷ []) []) (eq-eqb (get_or trace i 0) c (is ∙ sym same))))

    other : (c : ℕ) → c < length old → c ≢ e → get_or (set now e (get_or now e [] ++ (start + i) ∷ [])) c [] ≡ get_or old c [] ++ places_from c start (take (i + 1) trace)
    other c known differ =
        get_or-set_other now e c (get_or now e [] ++ (start + i) ∷ []) [] differ
        ∙ h.places c known
        ∙ ap (λ l. get_or old c [] ++ l)
        (sym
        (next-place c start i trace inside
        ∙ ap (λ b. places_from c start (take i trace) ++ cond b ((start + i) ∷ []) []) (ne_eqb (get_or trace i 0) c (λ same. differ (sym same ∙ is)))
        ∙ append-nil (places_from c start (take i trace))))

-- one activity more, with no place
pub empty-more : (k : ℕ) (index : List (List ℕ)) → IsIndex k [] index → IsIndex (k + 1) [] (index ++ [] ∷ [])
empty-more k index h = record {
  size = length_push index [] ∙ ap (λ n. n + 1) h.size;
  places = λ c known.
      ⊎_elim (λ lt. get_or_append_left index ([] ∷ []) [] c (omega (arith, lt, h.size)) ∙ h.places c lt)
      (λ ge. ap (λ n. get_or (index ++ [] ∷ []) n []) {x = c} {y = length index} (omega (arith, ge, h.size)) ∙ get_or-append_seam index [] [] []) (cases_lt c k);
}

-- a trace more
pub index-more : (count : ℕ) (events trace : List ℕ) (start : ℕ) (old new : List (List ℕ)) → start ≡ length events → IsIndex count events old → AddsPlaces start trace old new → IsIndex count (events ++ trace) new
index-more count events trace start old new at h adds = record {
  size = adds.size ∙ h.size;
  places = λ c known.
      adds.places c (omega (arith, h.size))
      ∙ ap (λ l. l ++ places_from c start trace) (h.places c known)
      ∙ ap (λ n. places_from c 0 events ++ places_from c n trace) {x = start} {y = 0 + length events} (omega (arith, at))
      ∙ sym (places-append c 0 events trace);
}

pub lists-push : (index : List (Vec ℕ)) (v : Vec ℕ) → lists (index ++ v ∷ []) ≡ lists index ++ v.items ∷ []
lists-push index v = map-append (λ (places : Vec ℕ). places.items) index (v ∷ [])

pub lists-set : (index : List (Vec ℕ)) (e : ℕ) (v : Vec ℕ) → lists (set index e v) ≡ set (lists index) e v.items
lists-set index e v = map-set (λ (places : Vec ℕ). places.items) index e v
