-- What is collected, with an event more.
use Rattle.std.proofs.Common.{◌≡◌, ℕ, ◌+◌, ◌-◌, ◌<◌, ◌≤◌, true, false, List, [], ◌∷◌, ◌++◌, Some, None, All, length, map, nat_lt, ℤ, take, drop, slice_range, get_or, pos, refl, sym, ap, ap₂, ◌∙◌, subst, arith, length-append}
use Rattle.std.proofs.Math.Seq.{take-length}
use Rattle.std.proofs.lemmas.Bool.Decides.{nat_tests}
use Rattle.std.proofs.Math.Seq.{get_or-append_seam}
use Rattle.std.proofs.lemmas.List.{drop-append-le, get_or_append_left, take-append-le, length-drop, length-map, map-append}
use Rattle.std.proofs.lemmas.List.Elements.{All-get_or, All-head, All-tail, All-push, All-weaker}
use Rattle.decl_base.specs.declared.limits.Limits.{Limits}
use Rattle.decl_base.specs.declared.refusal.Refusal.{Refusal}
use Rattle.decl_base.specs.declared.refusal.Refusal.TheVariants as refusal
use Rattle.event_log.specs.Logs.{place_of, with_name, first_seen}
use Rattle.event_log.proofs.Appearing.{first_seen-push, place-with_name, with_name-keeps, with_name-least, with_name-new}
use Rattle.log_columns.specs.declared.Columns.{Columns}
use Rattle.log_columns.specs.declared.OrderAs.{OrderAs}
use Rattle.log_columns.specs.declared.OrderAs.TheVariants as by
use Rattle.csv_log.specs.declared.collect.Collected.{Collected}
use Rattle.csv_log.specs.declared.kept.Kept.{Kept}
use Rattle.csv_log.specs.declared.keys.Keys.{Keys}
use Rattle.csv_log.specs.declared.keys.Keys.TheVariants as keep
use Rattle.csv_log.specs.declared.keys.Span.{Span}
use Rattle.csv_log.specs.declared.row.Fields.{Fields}
use Rattle.csv_log.specs.CsvLog.{Event, limit_fault}
use Rattle.csv_log.specs.Kept.{AddsEvent, AddsKey, CollectCause, Collects, HaveKeys, IsInside, SaysEvent, Seen, StandsIn, SuitKeys, number_at, number_key, read_back, seen_of, text_at, text_key}

slice_range-append : (texts more : List ℕ) (start end : ℕ) → start ≤ end → end ≤ length texts → slice_range (texts ++ more) start end ≡ slice_range texts start end
slice_range-append texts more start end ordered within =
    ap (take (end - start)) (drop-append-le start texts more (omega arith))
    ∙ take-append-le (end - start) (drop start texts) more (omega (arith, length-drop start texts))

drop-front : (texts more : List ℕ) → drop (length texts) (texts ++ more) ≡ more
drop-front [] more = refl
drop-front (t ∷ texts) more = drop-front texts more

slice_range-back : (texts more : List ℕ) → slice_range (texts ++ more) (length texts) (length texts + length more) ≡ more
slice_range-back texts more =
    let size : length texts + length more - length texts ≡ length more = omega arith in
    ap (take (length texts + length more - length texts)) (drop-front texts more) ∙ ap (λ (n : ℕ). take n more) size ∙ take-length more

-- ---- keys, with one more

no_number : (order_as : OrderAs) → number_key order_as None ≡ pos 0
no_number by.Text = refl
no_number by.Number = refl

no_text : (order_as : OrderAs) → text_key order_as None ≡ []
no_text by.Text = refl
no_text by.Number = refl

-- the keys give back what these fields say
abbrev AreKeptBy : Keys → Fields → Type 0
AreKeptBy keep.Nothing fields = (fields.number ≡ pos 0) × (fields.text.now ≡ [])
AreKeptBy (keep.Numbers numbers) fields = fields.text.now ≡ []
AreKeptBy (keep.Texts bytes spans) fields = fields.number ≡ pos 0

kept_by : (columns : Columns) (event : Event) (fields : Fields) (keys : Keys) → (columns.order ≡ None → event.value ≡ None) → SaysEvent columns.order_as event fields
    → SuitKeys columns keys → AreKeptBy keys fields
kept_by columns event fields keep.Nothing asked says suit = (
  sym (ap (λ (s : Seen). s.number) says) ∙ ap (number_key columns.order_as) (asked suit) ∙ no_number columns.order_as,
  sym (ap (λ (s : Seen). s.text) says) ∙ ap (text_key columns.order_as) (asked suit) ∙ no_text columns.order_as,
)
kept_by columns event fields (keep.Numbers numbers) asked says suit = sym (ap (λ (s : Seen). s.text) says) ∙ ap (λ o. text_key o event.value) suit
kept_by columns event fields (keep.Texts bytes spans) asked says suit = sym (ap (λ (s : Seen). s.number) says) ∙ ap (λ o. number_key o event.value) suit

suits-more : (columns : Columns) (fields : Fields) (old new : Keys) → AddsKey fields old new → SuitKeys columns old → SuitKeys columns new
suits-more columns fields keep.Nothing keep.Nothing adds suit = suit
suits-more columns fields (keep.Numbers old) (keep.Numbers new) adds suit = suit
suits-more columns fields (keep.Texts old before) (keep.Texts new after) adds suit = suit
suits-more columns fields old new adds suit = absurd adds

abbrev span_of : List ℕ → List ℕ → Span
span_of bytes text = record { start = length bytes; end = length bytes + length text }

still_in : (bytes text : List ℕ) (span : Span) → StandsIn (length bytes) span → StandsIn (length (bytes ++ text)) span
still_in bytes text span stands = record { ordered = stands.ordered; inside = omega (arith, stands.inside, length-append bytes text) }

keys-more : (fields : Fields) (n : ℕ) (old new : Keys) → AddsKey fields old new → HaveKeys n old → HaveKeys (n + 1) new
keys-more fields n keep.Nothing keep.Nothing adds have = tt
keys-more fields n (keep.Numbers old) (keep.Numbers new) adds have = ap length adds ∙ length-append old.items (fields.number ∷ []) ∙ ap (λ (m : ℕ). m + 1) have
keys-more fields n (keep.Texts old before) (keep.Texts new after) adds have =
    let text = fields.text.now in
    let last : StandsIn (length (old.items ++ text)) (span_of old.items text) = record { ordered = omega arith; inside = omega (arith, length-append old.items text) } in
    let all = All-push (StandsIn (length (old.items ++ text))) before.items (span_of old.items text)
    (All-weaker (StandsIn (length old.items)) (StandsIn (length (old.items ++ text))) (still_in old.items text) before.items have.1) last in (
      ap length adds.1 ∙ length-append before.items (span_of old.items text ∷ []) ∙ ap (λ (m : ℕ). m + 1) have.0,
      subst (λ (b : List ℕ). All (StandsIn (length b)) after.items) (sym adds.0)
          (subst (λ (l : List Span). All (StandsIn (length (old.items ++ text))) l) (sym adds.1) all),
    )
keys-more fields n old new adds have = absurd adds

number-old : (fields : Fields) (n : ℕ) (old new : Keys) (place : ℕ) → AddsKey fields old new → HaveKeys n old → place < n → number_at new place ≡ number_at old place
number-old fields n keep.Nothing keep.Nothing place adds have inside = refl
number-old fields n (keep.Numbers old) (keep.Numbers new) place adds have inside =
    ap (λ (l : List ℤ). get_or l place (pos 0)) adds ∙ get_or_append_left old.items (fields.number ∷ []) (pos 0) place (omega (arith, have))
number-old fields n (keep.Texts old before) (keep.Texts new after) place adds have inside = refl
number-old fields n old new place adds have inside = absurd adds

abbrev nowhere : Span
nowhere = record { start = 0; end = 0 }

text-old : (fields : Fields) (n : ℕ) (old new : Keys) (place : ℕ) → AddsKey fields old new → HaveKeys n old → place < n → text_at new place ≡ text_at old place
text-old fields n keep.Nothing keep.Nothing place adds have inside = refl
text-old fields n (keep.Numbers old) (keep.Numbers new) place adds have inside = refl
text-old fields n (keep.Texts old before) (keep.Texts new after) place adds have inside =
    let span = get_or before.items place nowhere in
    let stands : StandsIn (length old.items) span = All-get_or (StandsIn (length old.items)) before.items place nowhere (omega (arith, have.0)) have.1 in
    ap₂ (λ (b : List ℕ) (l : List Span). let s = get_or l place nowhere in slice_range b s.start s.end) adds.0 adds.1
    ∙ ap (λ (s : Span). slice_range (old.items ++ fields.text.now) s.start s.end) (get_or_append_left before.items (span_of old.items fields.text.now ∷ []) nowhere place (omega (arith, have.0)))
    ∙ slice_range-append old.items fields.text.now span.start span.end stands.ordered stands.inside
text-old fields n old new place adds have inside = absurd adds

number-new : (fields : Fields) (n : ℕ) (old new : Keys) → AddsKey fields old new → HaveKeys n old → AreKeptBy old fields → number_at new n ≡ fields.number
number-new fields n keep.Nothing keep.Nothing adds have kept = sym kept.0
number-new fields n (keep.Numbers old) (keep.Numbers new) adds have kept =
    ap₂ (λ (l : List ℤ) (m : ℕ). get_or l m (pos 0)) adds (sym have) ∙ get_or-append_seam old.items fields.number [] (pos 0)
number-new fields n (keep.Texts old before) (keep.Texts new after) adds have kept = sym kept
number-new fields n old new adds have kept = absurd adds

text-new : (fields : Fields) (n : ℕ) (old new : Keys) → AddsKey fields old new → HaveKeys n old → AreKeptBy old fields → text_at new n ≡ fields.text.now
text-new fields n keep.Nothing keep.Nothing adds have kept = sym kept.1
text-new fields n (keep.Numbers old) (keep.Numbers new) adds have kept = sym kept
text-new fields n (keep.Texts old before) (keep.Texts new after) adds have kept =
    ap₂ (λ (b : List ℕ) (l : List Span). let s = get_or l n nowhere in slice_range b s.start s.end) adds.0 adds.1
    ∙ ap (λ (m : ℕ). let s = get_or (before.items ++ span_of old.items fields.text.now ∷ []) m nowhere in slice_range (old.items ++ fields.text.now) s.start s.end) (sym have.0)
    ∙ ap (λ (s : Span). slice_range (old.items ++ fields.text.now) s.start s.end) (get_or-append_seam before.items (span_of old.items fields.text.now) [] nowhere)
    ∙ slice_range-back old.items fields.text.now
text-new fields n old new adds have kept = absurd adds

-- ---- events, with one more

module _ (cases activities : List (List ℕ)) (case activity : List ℕ) (fields : Fields) (n : ℕ) (old new : Keys) (adds : AddsKey fields old new) (have : HaveKeys n old) where
  abbrev pub kept_of : Kept
  kept_of = record { case = place_of cases case; activity = place_of activities activity; place = n }

  abbrev again : Kept → Seen
  again = read_back (with_name cases case) (with_name activities activity) new

  abbrev pub seen_now : Seen
  seen_now = record { case = case; activity = activity; number = fields.number; text = fields.text.now }

  reads-new : AreKeptBy old fields → again kept_of ≡ seen_now
  reads-new kept = λ i. record {
    case = (place-with_name cases case).1 i;
    activity = (place-with_name activities activity).1 i;
    number = number-new fields n old new adds have kept i;
    text = text-new fields n old new adds have kept i;
  }

  reads-old : (kept : Kept) → IsInside (length cases) (length activities) n kept → again kept ≡ read_back cases activities old kept
  reads-old kept inside = λ i. record {
    case = with_name-keeps cases case kept.case inside.case i;
    activity = with_name-keeps activities activity kept.activity inside.activity i;
    number = number-old fields n old new kept.place adds have inside.place i;
    text = text-old fields n old new kept.place adds have inside.place i;
  }

  reads-all : (all : List Kept) → All (IsInside (length cases) (length activities) n) all → map again all ≡ map (read_back cases activities old) all
  reads-all [] inside = refl
  reads-all (kept ∷ all) inside =
      ap₂ (λ s l. s ∷ l) (reads-old kept (All-head (IsInside (length cases) (length activities) n) kept all inside))
      (reads-all all (All-tail (IsInside (length cases) (length activities) n) kept all inside))

  pub reads-push : AreKeptBy old fields → (all : List Kept) → All (IsInside (length cases) (length activities) n) all
      → map again (all ++ kept_of ∷ []) ≡ map (read_back cases activities old) all ++ seen_now ∷ []
  reads-push kept all inside = map-append again all (kept_of ∷ []) ∙ ap₂ (λ l s. l ++ s ∷ []) (reads-all all inside) (reads-new kept)

  abbrev InsideAgain : Kept → Type 0
  InsideAgain = IsInside (length (with_name cases case)) (length (with_name activities activity)) (n + 1)

  still : (kept : Kept) → IsInside (length cases) (length activities) n kept → InsideAgain kept
  still kept inside = record {
    case = omega (arith, inside.case, with_name-least cases case);
    activity = omega (arith, inside.activity, with_name-least activities activity);
    place = omega (arith, inside.place);
  }

  inside-new : InsideAgain kept_of
  inside-new = record {
    case = (place-with_name cases case).0;
    activity = (place-with_name activities activity).0;
    place = omega arith;
  }

  pub inside-push : (all : List Kept) → All (IsInside (length cases) (length activities) n) all → All InsideAgain (all ++ kept_of ∷ [])
  inside-push all inside = All-push InsideAgain all kept_of (All-weaker (IsInside (length cases) (length activities) n) InsideAgain still all inside) inside-new

-- as much is kept as there are events
pub collected_count : (columns : Columns) (limits : Limits) (events : List Event) (all : Collected) → Collects columns limits events all → length all.events.items ≡ length events
collected_count columns limits events all h =
    sym (length-map all.events.items (read_back all.cases.names all.activities.names all.keys)) ∙ ap length h.read ∙ length-map events (seen_of columns.order_as)

-- what is said of a refusal that is not want of memory
abbrev pub OfLimit : Refusal → Type 0 → Type 0
OfLimit refusal.Memory P = Unit {0}
OfLimit e P = P

module _ (columns : Columns) (limits : Limits) (events : List Event) (event : Event) (fields : Fields) (old : Collected)
    (h : Collects columns limits events old) (says : SaysEvent columns.order_as event fields) where
  abbrev pub more : List Event
  more = events ++ event ∷ []

  cases-more : first_seen (map (λ e. e.case) more) ≡ with_name old.cases.names fields.case.now
  cases-more =
      ap first_seen (map-append (λ (e : Event). e.case) events (event ∷ [])) ∙ first_seen-push (map (λ e. e.case) events) event.case
      ∙ ap₂ with_name (sym h.cases) (ap (λ s. s.case) says)

  activities-more : first_seen (map (λ e. e.activity) more) ≡ with_name old.activities.names fields.activity.now
  activities-more =
      ap first_seen (map-append (λ (e : Event). e.activity) events (event ∷ [])) ∙ first_seen-push (map (λ e. e.activity) events) event.activity
      ∙ ap₂ with_name (sym h.activities) (ap (λ s. s.activity) says)

  more-count : length more ≡ length old.events.items + 1
  more-count = omega (arith, length-append events (event ∷ []), collected_count columns limits events old h)

  pub collects-more : (columns.order ≡ None → event.value ≡ None) → (new : Collected) → AddsEvent fields limits old new → Collects columns limits more new
  collects-more asked new adds =
      let same_cases = ap (λ n. n.names) adds.cases in
      let same_activities = ap (λ n. n.names) adds.activities in
      let case = fields.case.now in
      let activity = fields.activity.now in
      let n = length old.events.items in
      let suit = kept_by columns event fields old.keys asked says h.suit in
      let reads : map (read_back new.cases.names new.activities.names new.keys) new.events.items ≡ map (seen_of columns.order_as) more =
      ap₂ (λ c a. map (read_back c a new.keys) new.events.items) same_cases same_activities
      ∙ ap (map (read_back (with_name old.cases.names case) (with_name old.activities.names activity) new.keys)) adds.events
      ∙ reads-push old.cases.names old.activities.names case activity fields n old.keys new.keys adds.keys h.keys suit old.events.items h.inside
      ∙ ap₂ (λ l s. l ++ s ∷ []) h.read (sym says) ∙ sym (map-append (seen_of columns.order_as) events (event ∷ [])) in
      let P : List (List ℕ) → List (List ℕ) → ℕ → List Kept → Type 0 = λ c a m l. All (IsInside (length c) (length a) m) l in
      let in_all = inside-push old.cases.names old.activities.names case activity fields n old.keys new.keys adds.keys h.keys old.events.items h.inside in
      let count : length new.events.items ≡ n + 1 = ap length adds.events ∙ length-append old.events.items (_ ∷ []) in
      record {
        cases = same_cases ∙ sym cases-more;
        activities = same_activities ∙ sym activities-more;
        case_limit = ap (λ n. n.limit) adds.cases ∙ h.case_limit;
        activity_limit = ap (λ n. n.limit) adds.activities ∙ h.activity_limit;
        read = reads;
        inside =
            subst (λ c. P c new.activities.names (length new.events.items) new.events.items) (sym same_cases)
            (subst (λ a. P (with_name old.cases.names case) a (length new.events.items) new.events.items) (sym same_activities)
            (subst (λ m. P (with_name old.cases.names case) (with_name old.activities.names activity) m new.events.items) (sym count)
            (subst (λ l. P (with_name old.cases.names case) (with_name old.activities.names activity) (n + 1) l) (sym adds.events) in_all)));
        suit = suits-more columns fields old.keys new.keys adds.keys h.suit;
        keys = subst (λ m. HaveKeys m new.keys) (sym count) (keys-more fields n old.keys new.keys adds.keys h.keys);
        few_events = omega (arith, adds.few_events, more-count);
        few_cases = omega (arith, ap length same_cases, adds.few_cases, h.case_limit);
        few_activities = omega (arith, ap length same_activities, adds.few_activities, h.activity_limit);
      }

  not_above : (m n : ℕ) → n ≤ m → nat_lt m n ≡ false
  not_above m n le = grind (arith, nat_tests)

  above : (m n : ℕ) → m < n → nat_lt m n ≡ true
  above m n lt = grind (arith, nat_tests)

  pub no_limit : (new : Collected) → AddsEvent fields limits old new → limit_fault limits more ≡ None
  no_limit new adds =
      let one = not_above limits.events (length more) (omega (arith, adds.few_events, more-count)) in
      let two = not_above limits.traces (length (first_seen (map (λ e. e.case) more))) (omega (arith, ap length cases-more, adds.few_cases, h.case_limit)) in
      let three = not_above limits.activities (length (first_seen (map (λ e. e.activity) more))) (omega (arith, ap length activities-more, adds.few_activities, h.activity_limit)) in
      rw (one, two, three) refl

  pub limit_refused : (e : Refusal) → CollectCause fields limits old e → OfLimit e (limit_fault limits more ≡ Some e)
  limit_refused (refusal.Events n) cause =
      let one = above limits.events (length more) (omega (arith, cause.1, more-count)) in
      rw one (ap (λ m. Some (refusal.Events m)) (sym cause.0))
  limit_refused (refusal.Traces n) cause =
      let one = not_above limits.events (length more) (omega (arith, cause.0, more-count)) in
      let two = above limits.traces (length (first_seen (map (λ e. e.case) more)))
      (omega (arith, ap length cases-more, with_name-new old.cases.names fields.case.now cause.1.2, cause.1.1, h.case_limit)) in
      rw (one, two) (ap (λ m. Some (refusal.Traces m)) (sym (cause.1.0 ∙ h.case_limit)))
  limit_refused (refusal.Activities n) cause =
      let one = not_above limits.events (length more) (omega (arith, cause.0, more-count)) in
      let two = not_above limits.traces (length (first_seen (map (λ e. e.case) more))) (omega (arith, ap length cases-more, cause.1, h.case_limit)) in
      let three = above limits.activities (length (first_seen (map (λ e. e.activity) more)))
      (omega (arith, ap length activities-more, with_name-new old.activities.names fields.activity.now cause.2.2, cause.2.1, h.activity_limit)) in
      rw (one, two, three) (ap (λ m. Some (refusal.Activities m)) (sym (cause.2.0 ∙ h.activity_limit)))
  limit_refused refusal.Memory cause = tt
  limit_refused e cause = absurd cause
