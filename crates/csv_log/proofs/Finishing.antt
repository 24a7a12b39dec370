-- The log of the numbers, as a log of names.
use Rattle.std.proofs.Common.{◌≡◌, ℕ, zero, suc, ◌+◌, ◌<◌, ◌==◌, ◌||◌, Bool, true, false, cond, List, [], ◌∷◌, ◌++◌, Option, Some, None, All, length, map, filter, get_or, if◌then◌else◌, Less, Equal, Greater, Ordering, refl, sym, ap, ap₂, ◌∙◌, subst, arith, append_assoc, length-append}
use Rattle.std.proofs.lemmas.Bool.Decides.{nat_tests}
use Rattle.std.proofs.lemmas.List.{length-map, map-append}
use Rattle.std.proofs.lemmas.List.Elements.{All-map, All-weaker, All-same, recursion_from_All}
use Rattle.std.proofs.lemmas.List.FromFn.{length-map-range_with_len}
use Rattle.std.proofs.lemmas.List.Sorted.{All-permutation, length_permutation, list_any-IsPermutation}
use Rattle.std.specs.List.{list_any, range_with_len, AllByRecursion}
use Rattle.std.specs.List.Sorted.{IsPermutation}
use Rattle.std.specs.Option.{is_some}
use Rattle.std.specs.Ordering.{is_lt, ordering_then}
use Rattle.std.specs.Cmp.Lexicographic.{bytes_decides}
use Rattle.std.specs.Str.{bytes_eq}
use Rattle.decl_base.specs.declared.limits.Limits.{Limits}
use Rattle.event_log.specs.Log.{Traces}
use Rattle.event_log.specs.Logs.{events_of, has_name, named, StandOnce}
use Rattle.event_log.proofs.Alphabets.{first_seen-has}
use Rattle.event_log.proofs.Appearing.{first_seen-once, one_place}
use Rattle.log_columns.specs.declared.Columns.{Columns}
use Rattle.log_columns.specs.declared.OrderAs.{OrderAs}
use Rattle.log_columns.specs.declared.OrderAs.TheVariants as by
use Rattle.csv_log.specs.declared.collect.Collected.{Collected}
use Rattle.csv_log.specs.declared.kept.Kept.{Kept}
use Rattle.csv_log.specs.declared.keys.Keys.{Keys}
use Rattle.csv_log.specs.CsvLog.{Event, in_order, is_before, log_of_events, trace_of}
use Rattle.csv_log.specs.Kept.{Collects, IsInside, IsLogOf, Seen, is_less, is_of_case, read_back, seen_less, seen_of}
use Rattle.csv_log.specs.Sorting.{insert_sorted, stably_sorted}
use Rattle.csv_log.proofs.Sorts.{map-stably_sorted}

-- ---- the order of what is kept is that of the events

then_equal : (o : Ordering) → is_lt o ≡ is_lt (ordering_then o Equal)
then_equal Less = refl
then_equal Equal = refl
then_equal Greater = refl

pub same_order : (order_as : OrderAs) (a b : Event) → is_before order_as a b ≡ seen_less (seen_of order_as a) (seen_of order_as b)
same_order order_as a b = go order_as a.value b.value
  where
    go : (order_as : OrderAs) (v w : Option (List ℕ))
        → is_before order_as (record { case = a.case; activity = a.activity; value = v }) (record { case = b.case; activity = b.activity; value = w })
        ≡ seen_less (seen_of order_as (record { case = a.case; activity = a.activity; value = v })) (seen_of order_as (record { case = b.case; activity = b.activity; value = w }))
    go by.Text None None = refl
    go by.Text None (Some w) = then_equal _
    go by.Text (Some v) None = then_equal _
    go by.Text (Some v) (Some w) = then_equal _
    go by.Number None None = refl
    go by.Number None (Some w) = refl
    go by.Number (Some v) None = refl
    go by.Number (Some v) (Some w) = refl

-- ---- lists

pub map-map : {A B C : Type 0} (f : A → B) (g : B → C) (xs : List A) → map g (map f xs) ≡ map (λ x. g (f x)) xs
map-map f g [] = refl
map-map f g (x ∷ xs) = ap (λ l. g (f x) ∷ l) (map-map f g xs)

any-map : {A B : Type 0} (p : B → Bool) (f : A → B) (xs : List A) → list_any p (map f xs) ≡ list_any (λ x. p (f x)) xs
any-map p f [] = refl
any-map p f (x ∷ xs) = ap (λ b. p (f x) || b) (any-map p f xs)

map-range : {A : Type 0} (f g : ℕ → A) (a n : ℕ) → ((i : ℕ) → i < a + n → f i ≡ g i) → map f (range_with_len a n) ≡ map g (range_with_len a n)
map-range f g a zero same = refl
map-range f g a (suc n) same = ap₂ (λ x l. x ∷ l) (same a (omega arith)) (map-range f g (a + 1) n (λ i h. same i (omega arith)))

get_or-there : {X : Type 0} (xs : List X) (x : X) (ys : List X) (d : X) → get_or (xs ++ x ∷ ys) (length xs) d ≡ x
get_or-there [] x ys d = refl
get_or-there (z ∷ xs) x ys d = get_or-there xs x ys d

each-place : {X A : Type 0} (f : X → A) (d : X) (before xs : List X) → map (λ i. f (get_or (before ++ xs) i d)) (range_with_len (length before) (length xs)) ≡ map f xs
each-place f d before [] = refl
each-place {X} f d before (x ∷ xs) =
    let more = each-place f d (before ++ x ∷ []) xs in
    let whole = append_assoc before (x ∷ []) xs in
    let next : length before + 1 ≡ length (before ++ x ∷ []) = omega (arith, length-append before (x ∷ [])) in
    ap₂ (λ y l. f y ∷ l) (get_or-there before x xs d)
    (ap₂ (λ (l : List X) (n : ℕ). map (λ i. f (get_or l i d)) (range_with_len n (length xs))) (sym whole) next ∙ more)

All-insert : {X : Type 0} (P : X → Type 0) (less : X → X → Bool) (x : X) (ys : List X) → P x → AllByRecursion P ys → AllByRecursion P (insert_sorted less x ys)
All-insert P less x [] h all = (h, tt)
All-insert P less x (y ∷ ys) h all = go (less y x) (All-insert P less x ys h all.1)
  where
    go : (b : Bool) → AllByRecursion P (insert_sorted less x ys) → AllByRecursion P (cond b (y ∷ insert_sorted less x ys) (x ∷ y ∷ ys))
    go true more = (all.0, more)
    go false more = (h, all)

All-stably_sorted : {X : Type 0} (P : X → Type 0) (less : X → X → Bool) (xs : List X) → AllByRecursion P xs → AllByRecursion P (stably_sorted less xs)
All-stably_sorted P less [] all = tt
All-stably_sorted P less (x ∷ xs) all = All-insert P less x (stably_sorted less xs) all.0 (All-stably_sorted P less xs all.1)

-- ---- one trace

abbrev trace_seen : List ℕ → List Seen → List (List ℕ)
trace_seen case all = map (λ seen. seen.activity) (filter (λ seen. bytes_eq case seen.case) all)

trace_of-seen : (order_as : OrderAs) (case : List ℕ) (events : List Event) → trace_of events case ≡ trace_seen case (map (seen_of order_as) events)
trace_of-seen order_as case [] = refl
trace_of-seen order_as case (event ∷ events) = go (bytes_eq case event.case) (trace_of-seen order_as case events)
  where
    go : (b : Bool) → trace_of events case ≡ trace_seen case (map (seen_of order_as) events)
        → map (λ e. e.activity) (cond b (event ∷ filter (λ e. bytes_eq case e.case) events) (filter (λ e. bytes_eq case e.case) events))
        ≡ map (λ seen. seen.activity) (cond b (seen_of order_as event ∷ filter (λ seen. bytes_eq case seen.case) (map (seen_of order_as) events)) (filter (λ seen. bytes_eq case seen.case) (map (seen_of order_as) events)))
    go true h = ap (λ l. event.activity ∷ l) h
    go false h = h

module _ (cases activities : List (List ℕ)) (keys : Keys) (once : StandOnce cases) where
  abbrev back : Kept → Seen
  back = read_back cases activities keys

  abbrev name : ℕ → List ℕ
  name id = get_or activities id []

  of_case-named : (i : ℕ) (kept : Kept) → i < length cases → kept.case < length cases → is_of_case i kept ≡ bytes_eq (get_or cases i []) (get_or cases kept.case [])
  of_case-named i kept in_i in_kept = go (kept.case == i) refl
    where
      is : (a b : ℕ) → (a == b) ≡ true → a ≡ b
      is a b h = grind (arith, nat_tests)

      is_not : (a b : ℕ) → (a == b) ≡ false → a ≡ b → ⊥
      is_not a b h = λ e. grind (arith, nat_tests)

      go : (b : Bool) → (kept.case == i) ≡ b → b ≡ bytes_eq (get_or cases i []) (get_or cases kept.case [])
      go true e = sym (ap (λ (n : ℕ). bytes_eq (get_or cases i []) (get_or cases n [])) (is kept.case i e) ∙ (bytes_decides (get_or cases i []) (get_or cases i [])).1 refl)
      go false e = other (bytes_eq (get_or cases i []) (get_or cases kept.case [])) refl
        where
          other : (b : Bool) → bytes_eq (get_or cases i []) (get_or cases kept.case []) ≡ b → false ≡ b
          other true same = absurd (is_not kept.case i e (sym (one_place cases i kept.case once in_i in_kept ((bytes_decides _ _).0 same))))
          other false same = refl

  trace_of-kept : (i : ℕ) (all : List Kept) → i < length cases → AllByRecursion (λ kept. kept.case < length cases) all
      → map name (map (λ kept. kept.activity) (filter (is_of_case i) all)) ≡ trace_seen (get_or cases i []) (map back all)
  trace_of-kept i [] in_i inside = refl
  trace_of-kept i (kept ∷ all) in_i inside =
      go (kept.case == i) (trace_of-kept i all in_i inside.1)
      ∙ ap (λ b. map (λ seen. seen.activity) (cond b (back kept ∷ filter (λ seen. bytes_eq (get_or cases i []) seen.case) (map back all)) (filter (λ seen. bytes_eq (get_or cases i []) seen.case) (map back all))))
      (of_case-named i kept in_i inside.0)
    where
      go : (b : Bool) → map name (map (λ kept. kept.activity) (filter (is_of_case i) all)) ≡ trace_seen (get_or cases i []) (map back all)
          → map name (map (λ kept. kept.activity) (cond b (kept ∷ filter (is_of_case i) all) (filter (is_of_case i) all)))
          ≡ map (λ seen. seen.activity) (cond b (back kept ∷ filter (λ seen. bytes_eq (get_or cases i []) seen.case) (map back all)) (filter (λ seen. bytes_eq (get_or cases i []) seen.case) (map back all)))
      go true h = ap (λ l. name kept.activity ∷ l) h
      go false h = h

-- ---- all of it

module _ (columns : Columns) (limits : Limits) (events : List Event) (all : Collected) (h : Collects columns limits events all) where
  abbrev names : List (List ℕ)
  names = all.activities.names

  abbrev inside_case : Kept → Type 0
  inside_case kept = kept.case < length all.cases.names

  once_cases : StandOnce all.cases.names
  once_cases = subst StandOnce (sym h.cases) (first_seen-once (map (λ e. e.case) events))

  abbrev sorted : Bool → List Kept
  sorted ordered = if ordered then stably_sorted (is_less all.keys) all.events.items else all.events.items

  sorted-seen : (order : Option (List ℕ)) → map (read_back all.cases.names names all.keys) (sorted (is_some order)) ≡ map (seen_of columns.order_as) (in_order order columns.order_as events)
  sorted-seen None = h.read
  sorted-seen (Some column) =
      map-stably_sorted (read_back all.cases.names names all.keys) (is_less all.keys) seen_less (λ a b. refl) all.events.items
      ∙ ap (stably_sorted seen_less) h.read
      ∙ sym (map-stably_sorted (seen_of columns.order_as) (is_before columns.order_as) seen_less (same_order columns.order_as) events)

  cases_inside : AllByRecursion inside_case all.events.items
  cases_inside = recursion_from_All inside_case all.events.items
      (All-weaker (IsInside (length all.cases.names) (length names) (length all.events.items)) inside_case (λ kept k. k.case) all.events.items h.inside)

  sorted_inside : (ordered : Bool) → AllByRecursion inside_case (sorted ordered)
  sorted_inside true = All-stably_sorted inside_case (is_less all.keys) all.events.items cases_inside
  sorted_inside false = cases_inside

  abbrev traces_of : Bool → List (List ℕ)
  traces_of ordered = map (λ case. map (λ kept. kept.activity) (filter (is_of_case case) (sorted ordered))) (range_with_len 0 (length all.cases.names))

  named-is : named names (traces_of (is_some columns.order)) ≡ log_of_events columns events
  named-is =
      map-map (λ case. map (λ kept. kept.activity) (filter (is_of_case case) (sorted (is_some columns.order)))) (map (λ id. get_or names id [])) (range_with_len 0 (length all.cases.names))
      ∙ map-range _ (λ i. trace_of (in_order columns.order columns.order_as events) (get_or all.cases.names i [])) 0 (length all.cases.names)
      (λ i inside. trace_of-kept all.cases.names names all.keys once_cases i (sorted (is_some columns.order)) (omega arith) (sorted_inside (is_some columns.order))
      ∙ ap (trace_seen (get_or all.cases.names i [])) (sorted-seen columns.order)
      ∙ sym (trace_of-seen columns.order_as (get_or all.cases.names i []) (in_order columns.order columns.order_as events)))
      ∙ each-place (trace_of (in_order columns.order columns.order_as events)) [] [] all.cases.names
      ∙ ap (map (trace_of (in_order columns.order columns.order_as events))) h.cases

  module _ (log : Traces) (moved : List Kept) (same : IsPermutation all.events.items moved) (flat : events_of log.traces ≡ map (λ kept. kept.activity) moved) where
    activities_inside : All (λ id. id < length names) (events_of log.traces)
    activities_inside =
        All-same (λ (id : ℕ). id < length names) (events_of log.traces) (map (λ kept. kept.activity) moved) flat
        (All-map (λ (id : ℕ). id < length names) (λ (kept : Kept). kept.activity) moved
        (All-permutation (λ (kept : Kept). kept.activity < length names) all.events.items moved same
        (All-weaker (IsInside (length all.cases.names) (length names) (length all.events.items)) (λ (kept : Kept). kept.activity < length names) (λ kept k. k.activity) all.events.items h.inside)))

    events_of-named : (ids : List (List ℕ)) → events_of (named names ids) ≡ map (λ id. get_or names id []) (events_of ids)
    events_of-named [] = refl
    events_of-named (trace ∷ ids) =
        ap (λ l. map (λ id. get_or names id []) trace ++ l) (events_of-named ids) ∙ sym (map-append (λ (id : ℕ). get_or names id []) trace (events_of ids))

    names_used : (name : List ℕ) → has_name (events_of (named names log.traces)) name ≡ has_name names name
    names_used name =
        ap (λ l. has_name l name) (events_of-named log.traces ∙ ap (map (λ id. get_or names id [])) flat ∙ map-map (λ kept. kept.activity) (λ id. get_or names id []) moved)
        ∙ any-map (bytes_eq name) (λ kept. get_or names kept.activity []) moved
        ∙ sym (list_any-IsPermutation (λ (kept : Kept). bytes_eq name (get_or names kept.activity [])) all.events.items moved same)
        ∙ sym (any-map (λ (seen : Seen). bytes_eq name seen.activity) (read_back all.cases.names names all.keys) all.events.items)
        ∙ ap (list_any (λ (seen : Seen). bytes_eq name seen.activity)) h.read
        ∙ any-map (λ (seen : Seen). bytes_eq name seen.activity) (seen_of columns.order_as) events
        ∙ sym (any-map (bytes_eq name) (λ (event : Event). event.activity) events)
        ∙ sym (first_seen-has (map (λ e. e.activity) events) name)
        ∙ ap (λ l. has_name l name) (sym h.activities)

    flat-count : length (events_of log.traces) ≡ length events
    flat-count =
        ap length flat ∙ length-map moved (λ (kept : Kept). kept.activity) ∙ length_permutation all.events.items moved same
        ∙ sym (length-map all.events.items (read_back all.cases.names names all.keys)) ∙ ap length h.read ∙ length-map events (seen_of columns.order_as)

    pub is_log : (ordered : Bool) → ordered ≡ is_some columns.order → log.traces ≡ traces_of ordered
        → (log.trace_limit ≡ limits.traces) × (log.event_limit ≡ limits.events) → IsLogOf columns limits events all.activities log
    is_log ordered asked made kept_limits = record {
      traces = ap (named names) (made ∙ ap traces_of asked) ∙ named-is;
      names = h.activities;
      numbering = record {
        inside = activities_inside;
        once = subst StandOnce (sym h.activities) (first_seen-once (map (λ e. e.activity) events));
        used = names_used;
      };
      within = record {
        name_count = h.few_activities;
        trace_count = omega (arith, ap length made, length-map-range_with_len (λ case. map (λ kept. kept.activity) (filter (is_of_case case) (sorted ordered))) 0 (length all.cases.names), h.few_cases);
        event_count = omega (arith, flat-count, h.few_events);
        name_limit = h.activity_limit;
        trace_limit = kept_limits.0;
        event_limit = kept_limits.1;
      };
    }
