-- Lines of running cases, read and printed one by one.
use Rattle.std.proofs.Common.{inl, inr, ◌==◌, ◌≡◌, ℕ, ◌+◌, ◌-◌, ◌<◌, ◌≤◌, List, [], ◌∷◌, ◌++◌, Bool, true, false, not, Option, None, Some, Ok, IfSome, get_or, length, map, refl, sym, ap, ap₂, subst, ◌∙◌, arith, append-nil, append_assoc, length-append, true≢false, ⊎_elim}
use Rattle.std.specs.Prelude.{slice_get, string_bytes, take}
use Rattle.std.specs.Io.KnownBytes.{append_known, prepend_known}
use Rattle.std.specs.List.{slice_split}
use Rattle.std.specs.Str.{is_utf8}
use Rattle.std.proofs.lemmas.Bool.{cases_lt}
use Rattle.std.proofs.lemmas.List.{get_or_append_left, get_or_push, length-map, length_push, map-append, take-append-le, take_at}
use Rattle.std.proofs.Math.Seq.{take-append-add}
use Rattle.std.proofs.lemmas.Option.{slice_get_within}
use Rattle.decl_base.specs.declared.limits.Limits.{Limits}
use Rattle.decl_base.specs.declared.refusal.Refusal.{Refusal}
use Rattle.decl_base.specs.declared.refusal.Refusal.TheVariants as refusal
use Rattle.decl_outside.specs.Inputs.{InputState, KeepsInput}
use Rattle.decl_outside.specs.Lines.{BeginsLong, FillCause, GivesLine, HasNoneLeft, LinesState, LineValue, Piece, TakesFirst, line_of, pieces, rest_of}
use Rattle.decl_outside.specs.Sink.{HoldsFront, SinkState, WritesAll}
use Rattle.decl_outside.proofs.Writing.{append_known-append_known}
use Rattle.event_log.specs.Logs.{events_of as joined, has_name, place_of, with_name}
use Rattle.event_log.proofs.Appearing.{events_of-push, place-with_name, with_name-new}
use Rattle.live_monitor.specs.Standing.{IsStanding}
use Rattle.live_monitor.specs.Stands.{StandsFor, constraints_of, symbols_of}
use Rattle.live_monitor.specs.declared.standing.Standing.{Standing}
use Rattle.strings_log.proofs.Steps.{keeps_input, last_piece}
use Rattle.strings_log.proofs.Taken.{AreEnded, AreEnded-push, lines_taken}
use Rattle.template_core.specs.Keeping.{KeepsAll}
use Rattle.template_core.specs.declared.constraint.Constraint.{Constraint}
use Rattle.monitor_lines.specs.Cases.{Event, cases_of, event_of, events_in, has_tab, symbol_count}
use Rattle.monitor_lines.specs.Faults.{fault_behind, first_fault}
use Rattle.monitor_lines.specs.LineText.{AreOnes, AreTexts, IsText, line_text, quoted}
use Rattle.monitor_lines.specs.Stepping.{HandsOver, IsReady, LineCause, NextCause, TakesLine, TellsStandings, begun, stepped}
use Rattle.monitor_lines.specs.Watching.{IsSoundFront, Prints, PrintsAll, PrintsBefore, PrintsPart, PrintsSome, PrintsTaken, WatchCause}
use Rattle.monitor_lines.specs.declared.cases.Cases.{Cases}
use Rattle.monitor_lines.proofs.Kept.{HasTraces, HasTraces-more, HasTraces-none, cases_of-push, trace-own}
use Rattle.monitor_lines.proofs.Stops.{Faultless, Faultless-push, first_fault-none, fault-events, fault-long, fault-no_tab, fault-none, fault-not_utf8, fault-traces, get-behind, get-front}

-- ---- the texts of events

AreTexts-none : (names : List (List ℕ)) (list : List Constraint) → AreTexts names list [] []
AreTexts-none names list = record { as_many = refl; are = λ place event at. absurd (cc) }

AreTexts-push : (names : List (List ℕ)) (list : List Constraint) (events : List Event) (event : Event) (texts : List (List ℕ)) (text : List ℕ) → AreTexts names list events texts
    → IsText names list events event text → AreTexts names list (events ++ event ∷ []) (texts ++ text ∷ [])
AreTexts-push names list events event texts text h is = record {
  as_many = length_push texts text ∙ ap (λ n. n + 1) h.as_many ∙ sym (length_push events event);
  are = λ place x at. ⊎_elim (before place x at) (behind place x at) (cases_lt place (length events));
}
  where
    before : (place : ℕ) (x : Event) → slice_get (events ++ event ∷ []) place ≡ Some x → place < length events
        → IsText names list (take place (events ++ event ∷ [])) x (get_or (texts ++ text ∷ []) place [])
    before place x at inside =
        subst (λ l. IsText names list l x (get_or (texts ++ text ∷ []) place [])) (sym (take-append-le place events (event ∷ []) (omega arith)))
        (subst (IsText names list (take place events) x) (sym (get_or_append_left texts (text ∷ []) [] place (omega (arith, inside, h.as_many))))
        (h.are place x (sym (get-front events (event ∷ []) place inside) ∙ at)))

    behind : (place : ℕ) (x : Event) → slice_get (events ++ event ∷ []) place ≡ Some x → length events ≤ place
        → IsText names list (take place (events ++ event ∷ [])) x (get_or (texts ++ text ∷ []) place [])
    behind place x at above =
        let here : place ≡ length events = omega (arith, above, slice_get_within (events ++ event ∷ []) place x at, length_push events event) in
        let same : event ≡ x = some (sym (get-behind events event []) ∙ ap (slice_get (events ++ event ∷ [])) (sym here) ∙ at) in
        subst (λ y. IsText names list (take place (events ++ event ∷ [])) y (get_or (texts ++ text ∷ []) place [])) same
        (subst (λ l. IsText names list l event (get_or (texts ++ text ∷ []) place [])) (sym (take_at events (event ∷ []) place (sym here)))
        (subst (IsText names list events event) (sym (get_or_push texts text [] place (h.as_many ∙ sym here))) is))
      where
        some : {x y : Event} → Some x ≡ Some y → x ≡ y
        some e = cc

-- ---- what holds between two lines

-- what is kept of the cases is that of these events
pub record IsKept (limits : Limits) (names : List (List ℕ)) (list : List Constraint) (events : List Event) (cases : Cases) : Type 0 where
  pub found : cases.found.names ≡ cases_of events
  pub limit : cases.found.limit ≡ limits.traces
  pub within : length cases.found.names ≤ limits.traces
  pub ready : IsReady cases
  pub traces : List (List ℕ)
  pub stands : StandsFor cases.monitor traces
  pub traces_are : HasTraces names events cases.found.names traces
  pub symbols : symbols_of cases.monitor ≡ symbol_count names
  pub constraints : constraints_of cases.monitor ≡ list

-- the sink holds these bytes more, but for those that wait, which stand at their end
pub record IsPrinted (old now : SinkState) (bytes waiting : List ℕ) : Type 0 where
  pub front : List ℕ
  pub split : bytes ≡ front ++ waiting
  pub later : old.faults ≤ now.faults
  pub takes : now.takes_any_length ≡ true
  pub held : now.held ≡ append_known old.held front
  pub room : now.room ≡ old.room - length front

-- where none waits, it holds all of them more
all_held : (old now : SinkState) (bytes waiting : List ℕ) → IsPrinted old now bytes waiting → waiting ≡ [] → now.held ≡ append_known old.held bytes
all_held old now bytes waiting h none = h.held ∙ ap (append_known old.held) (sym (h.split ∙ ap (λ l. h.front ++ l) none ∙ append-nil h.front))

-- some lines of the bytes are read, and these are their events
pub record IsReadTo (limits : Limits) (bytes : List ℕ) (rest : Option (List ℕ)) (has_ended : Bool) (events : List Event) : Type 0 where
  pub done : List Piece
  pub left : List ℕ
  pub rest_is : rest ≡ Some left
  pub split : pieces bytes ≡ done ++ pieces left
  pub events_are : events ≡ events_in done
  pub faultless : Faultless limits done
  pub ended : has_ended ≡ true → pieces left ≡ []
  pub all_ended : has_ended ≡ false → AreEnded done

pub record IsBetween (limits : Limits) (names : List (List ℕ)) (list : List Constraint) (old now : InputState) (old_out out : SinkState) (lines : LinesState) (cases : Cases) (waiting : List ℕ)
    (events : List Event) (texts : List (List ℕ)) : Type 0 where
  pub keeps : KeepsInput old now
  pub live : lines.is_live ≡ true
  pub limit : lines.limit ≡ limits.line_bytes
  pub given : lines.given ≡ length events
  pub few : length events ≤ limits.events
  pub kept : IsKept limits names list events cases
  pub texts_are : AreTexts names list events texts
  pub printed : IsPrinted old_out out (joined texts) waiting
  pub told : IfSome old.left (λ bytes. IsReadTo limits bytes (rest_of lines now) lines.has_ended events)

-- ---- before the first line

append_known-nil : (known : Option (List ℕ)) → known ≡ append_known known []
append_known-nil None = refl
append_known-nil (Some xs) = ap Some (sym (append-nil xs))

IsPrinted-none : (out : SinkState) → out.takes_any_length ≡ true → IsPrinted out out [] []
IsPrinted-none out takes = record { front = []; split = refl; later = omega arith; takes = takes; held = append_known-nil out.held; room = omega arith }

told_none : (limits : Limits) (left : Option (List ℕ)) → IfSome left (λ bytes. IsReadTo limits bytes (prepend_known [] left) false [])
told_none limits None = tt
told_none limits (Some bytes) = record {
  done = [];
  left = bytes;
  rest_is = refl;
  split = refl;
  events_are = refl;
  faultless = λ place inside. absurd (omega arith);
  ended = λ e. absurd (true≢false (sym e));
  all_ended = λ _. tt;
}

abbrev pub ready : ℕ → LinesState
ready limit = record { held = []; given = 0; limit = limit; is_live = true; has_ended = false; line = None }

pub IsBetween-none : (limits : Limits) (names : List (List ℕ)) (list : List Constraint) (state : InputState) (out : SinkState) (lines : LinesState) (cases : Cases) → state.is_open ≡ true
    → out.takes_any_length ≡ true → lines ≡ ready limits.line_bytes → IsKept limits names list [] cases → IsBetween limits names list state state out out lines cases [] [] []
IsBetween-none limits names list state out lines cases is_open takes lines_are kept =
    subst (λ l. IsBetween limits names list state state out out l cases [] [] []) (sym lines_are) (record {
      keeps = record { later = omega arith; stays_open = is_open; asked = refl; names = refl; contents = refl };
      live = refl;
      limit = refl;
      given = refl;
      few = omega arith;
      kept = kept;
      texts_are = AreTexts-none names list;
      printed = IsPrinted-none out takes;
      told = told_none limits state.left;
    })

-- nothing was printed yet
pub nothing_printed : (limits : Limits) (names : List (List ℕ)) (list : List Constraint) (left : Option (List ℕ)) (out : SinkState) → IfSome left (λ bytes. PrintsSome limits names list bytes out out)
nothing_printed limits names list None out = tt
nothing_printed limits names list (Some bytes) out = (
  [],
  record { others = pieces bytes; split = refl; faultless = refl },
  ([], AreTexts-none names list, append_known-nil out.held),
)

pub IsKept-none : (limits : Limits) (names : List (List ℕ)) (list : List Constraint) (cases : Cases) → cases.found ≡ record { names = []; limit = limits.traces } → cases.texts.items ≡ []
    → StandsFor cases.monitor [] → symbols_of cases.monitor ≡ symbol_count names → constraints_of cases.monitor ≡ list → IsKept limits names list [] cases
IsKept-none limits names list cases found texts stands symbols constraints =
    let none : cases.found.names ≡ [] = ap (λ n. n.names) found in record {
      found = none;
      limit = ap (λ n. n.limit) found;
      within = omega (arith, ap length none);
      ready = record {
        within = omega (arith, ap length none);
        texts = ap (map string_bytes) texts ∙ ap (map quoted) (sym none);
        count = sym stands.cases ∙ ap length (sym none);
        monitor = ([], stands);
      };
      traces = [];
      stands = stands;
      traces_are = subst (λ l. HasTraces names [] l []) (sym none) (HasTraces-none names);
      symbols = symbols;
      constraints = constraints;
    }

-- the lines that are read stand first, and none is at fault
front_of : (limits : Limits) (bytes : List ℕ) (rest : Option (List ℕ)) (has_ended : Bool) (events : List Event) (read : IsReadTo limits bytes rest has_ended events)
    → IsSoundFront limits (pieces bytes) read.done
front_of limits bytes rest has_ended events read = record { others = pieces read.left; split = read.split; faultless = first_fault-none limits read.done read.faultless }

-- ---- one line more

-- the number of a line's case is one of the cases'
pub id_begun : (limits : Limits) (names : List (List ℕ)) (cases next : Cases) (line : LineValue) (id : ℕ) → TakesLine limits names cases next line id → id < length next.found.names
id_begun limits names cases next line id takes =
    omega (arith, takes.id_is, (place-with_name cases.found.names (event_of line.bytes).case).0, ap (λ n. length n.names) takes.found)

module _ (limits : Limits) (names : List (List ℕ)) (list : List Constraint) (old now after : InputState) (old_out out : SinkState) (lines next_lines : LinesState) (cases next : Cases)
    (waiting : List ℕ) (events : List Event) (texts : List (List ℕ)) (line : LineValue) (id : ℕ)
    (h : IsBetween limits names list old now old_out out lines cases waiting events texts) (gives : GivesLine lines next_lines now after (Some line))
    (takes : TakesLine limits names cases next line id) where
  abbrev event : Event
  event = event_of line.bytes

  found_is : next.found.names ≡ with_name cases.found.names event.case
  found_is = ap (λ n. n.names) takes.found

  limit_is : next.found.limit ≡ limits.traces
  limit_is = ap (λ n. n.limit) takes.found ∙ h.kept.limit

  cases_are : next.found.names ≡ cases_of (events ++ event ∷ [])
  cases_are = found_is ∙ ap (λ l. with_name l event.case) h.kept.found ∙ sym (cases_of-push events event)

  abbrev traces_after : List (List ℕ)
  traces_after = stepped (place_of cases.found.names event.case) (place_of names event.name) (begun cases.found.names event.case h.kept.traces)

  pub kept_after : IsKept limits names list (events ++ event ∷ []) next
  kept_after = record {
    found = cases_are;
    limit = limit_is;
    within = omega (arith, takes.ready.within, limit_is);
    ready = takes.ready;
    traces = traces_after;
    stands = subst (λ k. StandsFor next.monitor (stepped k (place_of names event.name) (begun cases.found.names event.case h.kept.traces))) takes.id_is (takes.stands h.kept.traces h.kept.stands);
    traces_are = subst (λ l. HasTraces names (events ++ event ∷ []) l traces_after) (sym found_is)
        (HasTraces-more names events event cases.found.names h.kept.traces h.kept.found h.kept.traces_are);
    symbols = takes.symbols ∙ h.kept.symbols;
    constraints = takes.constraints ∙ h.kept.constraints;
  }

  -- the text of the line
  pub text_after : (number : ℕ) (text : List ℕ) → number ≡ line.number → TellsStandings next number id text → IsText names list events event text
  text_after number text number_is tells =
      let told = tells.3 (stepped id (place_of names event.name) (begun cases.found.names event.case h.kept.traces)) (takes.stands h.kept.traces h.kept.stands) in
      let own = trace-own names events event cases.found.names h.kept.traces h.kept.found h.kept.traces_are id takes.id_is in
      let name : get_or next.found.names id [] ≡ event.case =
      ap₂ (λ l k. get_or l k []) found_is takes.id_is ∙ (place-with_name cases.found.names event.case).1 in
      record {
        whole = tells.0;
        each = tells.1;
        whole_is = whole_over tells.0 _ _ own told.0;
        each_is = each_over tells.1 _ _ own told.1;
        text_is = tells.2 ∙ ap₂ (λ n c. line_text n (quoted c) tells.0 tells.1) (omega (arith, number_is, gives.0, h.given)) name;
      }
    where
      whole_over : (whole : Standing) (t u : List ℕ) → t ≡ u → IsStanding (symbols_of next.monitor) (KeepsAll (constraints_of next.monitor)) t whole → IsStanding (symbol_count names) (KeepsAll list) u whole
      whole_over whole t u same is =
          subst (λ n. IsStanding n (KeepsAll list) u whole) (takes.symbols ∙ h.kept.symbols)
          (subst (λ l. IsStanding (symbols_of next.monitor) (KeepsAll l) u whole) (takes.constraints ∙ h.kept.constraints)
          (subst (λ t. IsStanding (symbols_of next.monitor) (KeepsAll (constraints_of next.monitor)) t whole) same is))

      each_over : (each : List Standing) (t u : List ℕ) → t ≡ u → AreOnes (symbols_of next.monitor) (constraints_of next.monitor) t each → AreOnes (symbol_count names) list u each
      each_over each t u same are =
          subst (λ n. AreOnes n list u each) (takes.symbols ∙ h.kept.symbols)
          (subst (λ l. AreOnes (symbols_of next.monitor) l u each) (takes.constraints ∙ h.kept.constraints)
          (subst (λ t. AreOnes (symbols_of next.monitor) (constraints_of next.monitor) t each) same are))

  -- the line isn't at fault behind those before it
  no_fault : (done : List Piece) (piece : Piece) → events ≡ events_in done → length piece.bytes ≤ limits.line_bytes → line.bytes ≡ line_of piece → fault_behind limits done piece ≡ None
  no_fault done piece are short text =
      let grown : events_in (done ++ piece ∷ []) ≡ events ++ event ∷ [] =
      map-append (λ (l : Piece). event_of (line_of l)) done (piece ∷ []) ∙ ap₂ (λ l x. l ++ event_of x ∷ []) (sym are) (sym text) in
      fault-none limits done piece short (ap is_utf8 (sym text) ∙ takes.text) (ap has_tab (sym text) ∙ takes.tab)
      (omega (arith, ap length are, length-map done (λ (l : Piece). event_of (line_of l)), gives.0, h.given, takes.few))
      (omega (arith, takes.ready.within, limit_is, ap length cases_are, ap (λ l. length (cases_of l)) grown))

  told_more : (bytes : List ℕ) → IsReadTo limits bytes (rest_of lines now) lines.has_ended events → IsReadTo limits bytes (rest_of next_lines after) next_lines.has_ended (events ++ event ∷ [])
  told_more bytes read =
      let first_of : TakesFirst limits.line_bytes (Some read.left) (rest_of next_lines after) line.bytes next_lines.has_ended =
      subst (λ b. TakesFirst limits.line_bytes b (rest_of next_lines after) line.bytes next_lines.has_ended) read.rest_is
      (subst (λ n. TakesFirst n (rest_of lines now) (rest_of next_lines after) line.bytes next_lines.has_ended) h.limit gives.3) in
      let first = first_of.2 in
      record {
        done = read.done ++ first.piece ∷ [];
        left = first_of.0;
        rest_is = first_of.1;
        split = read.split ∙ ap (λ l. read.done ++ l) first.first ∙ sym (append_assoc read.done (first.piece ∷ []) (pieces first_of.0));
        events_are = ap₂ (λ l x. l ++ event_of x ∷ []) read.events_are first.text ∙ sym (map-append (λ (l : Piece). event_of (line_of l)) read.done (first.piece ∷ []));
        faultless = Faultless-push limits read.done first.piece read.faultless (no_fault read.done first.piece read.events_are first.within first.text);
        ended = λ e. last_piece (slice_split (λ b. b == 10) read.left) first.piece (pieces first_of.0) first.first (flipped first.piece.is_ended true (sym first.last ∙ e));
        all_ended = λ e. AreEnded-push read.done first.piece (read.all_ended gives.2) (flipped first.piece.is_ended false (sym first.last ∙ e));
      }
    where
      flipped : (b c : Bool) → not b ≡ c → b ≡ not c
      flipped true c h = ap not h
      flipped false c h = ap not h

  told_on : IfSome old.left (λ bytes. IsReadTo limits bytes (rest_of next_lines after) next_lines.has_ended (events ++ event ∷ []))
  told_on = go old.left h.told
    where
      go : (left : Option (List ℕ)) → IfSome left (λ bytes. IsReadTo limits bytes (rest_of lines now) lines.has_ended events)
          → IfSome left (λ bytes. IsReadTo limits bytes (rest_of next_lines after) next_lines.has_ended (events ++ event ∷ []))
      go None read = tt
      go (Some bytes) read = told_more bytes read

  -- its text waits behind the others
  pub IsBetween-more : (text : List ℕ) → KeepsInput now after → next_lines.is_live ≡ true → next_lines.limit ≡ lines.limit → IsText names list events event text
      → IsBetween limits names list old after old_out out next_lines next (waiting ++ text) (events ++ event ∷ []) (texts ++ text ∷ [])
  IsBetween-more text keeps live limit is = record {
    keeps = keeps_input old now after h.keeps keeps;
    live = live;
    limit = limit ∙ h.limit;
    given = omega (arith, gives.1, h.given, length_push events event);
    few = omega (arith, length_push events event, gives.0, h.given, takes.few);
    kept = kept_after;
    texts_are = AreTexts-push names list events event texts text h.texts_are is;
    printed = record {
      front = h.printed.front;
      split = events_of-push texts text ∙ ap (λ l. l ++ text) h.printed.split ∙ append_assoc h.printed.front waiting text;
      later = h.printed.later;
      takes = h.printed.takes;
      held = h.printed.held;
      room = h.printed.room;
    };
    told = told_on;
  }

-- ---- texts that waited

-- what is written whole is handed over
pub all_over : {T E : Type 0} (out next_out : SinkState) (waiting : List ℕ) (v : T) → WritesAll {T = T} {E = E} out next_out waiting (Ok v) → HandsOver out next_out waiting []
all_over out next_out waiting v writes = record {
  moved = waiting;
  split = sym (append-nil waiting);
  later = writes.later;
  takes = writes.takes;
  held = writes.whole;
  room = writes.room;
}

-- or nothing is
pub none_over : (out : SinkState) (waiting : List ℕ) → HandsOver out out waiting waiting
none_over out waiting = record { moved = []; split = refl; later = omega arith; takes = refl; held = append_known-nil out.held; room = omega arith }

module _ (limits : Limits) (names : List (List ℕ)) (list : List Constraint) (old now : InputState) (old_out out next_out : SinkState) (lines : LinesState) (cases : Cases)
    (waiting : List ℕ) (events : List Event) (texts : List (List ℕ)) (h : IsBetween limits names list old now old_out out lines cases waiting events texts) where
  -- some were handed over
  pub IsBetween-handed : (left : List ℕ) → HandsOver out next_out waiting left → IsBetween limits names list old now old_out next_out lines cases left events texts
  IsBetween-handed left over = record {
    keeps = h.keeps;
    live = h.live;
    limit = h.limit;
    given = h.given;
    few = h.few;
    kept = h.kept;
    texts_are = h.texts_are;
    printed = record {
      front = h.printed.front ++ over.moved;
      split = h.printed.split ∙ ap (λ l. h.printed.front ++ l) over.split ∙ sym (append_assoc h.printed.front over.moved left);
      later = omega (arith, h.printed.later, over.later);
      takes = over.takes ∙ h.printed.takes;
      held = over.held ∙ ap (λ k. append_known k over.moved) h.printed.held ∙ append_known-append_known old_out.held h.printed.front over.moved;
      room = omega (arith, over.room, h.printed.room, length-append h.printed.front over.moved);
    };
    told = h.told;
  }

  -- a write failed
  pub part_handed : HoldsFront out next_out waiting → IfSome old.left (λ bytes. PrintsPart limits names list bytes old_out next_out)
  part_handed front = go old.left h.told
    where
      n : ℕ
      n = front.0

      taken : take (length h.printed.front + n) (joined texts) ≡ h.printed.front ++ take n waiting
      taken = ap (take (length h.printed.front + n)) h.printed.split ∙ take-append-add h.printed.front waiting n

      -- a prefix of those that waited, behind those that were handed over, is one of all
      holds : HoldsFront old_out next_out (joined texts)
      holds = (
        length h.printed.front + n,
        omega (arith, front.1, ap length h.printed.split, length-append h.printed.front waiting),
        front.2 ∙ ap (λ k. append_known k (take n waiting)) h.printed.held ∙ append_known-append_known old_out.held h.printed.front (take n waiting) ∙ ap (append_known old_out.held) (sym taken),
        omega (arith, front.3, h.printed.room),
      )

      go : (left : Option (List ℕ)) → IfSome left (λ bytes. IsReadTo limits bytes (rest_of lines now) lines.has_ended events) → IfSome left (λ bytes. PrintsPart limits names list bytes old_out next_out)
      go None read = tt
      go (Some bytes) read = (
        read.done,
        texts,
        front_of limits bytes (rest_of lines now) lines.has_ended events read,
        subst (λ l. AreTexts names list l texts) read.events_are h.texts_are,
        holds,
      )

-- ---- a run that ends

module _ (limits : Limits) (names : List (List ℕ)) (list : List Constraint) (old now after : InputState) (old_out out : SinkState) (lines next_lines : LinesState) (cases : Cases)
    (events : List Event) (texts : List (List ℕ)) (h : IsBetween limits names list old now old_out out lines cases [] events texts) where
  prints : (done : List Piece) → events ≡ events_in done → Prints names list done old_out out
  prints done are = (texts, subst (λ l. AreTexts names list l texts) are h.texts_are, all_held old_out out (joined texts) [] h.printed refl)

  -- memory was out
  pub prints_some : IfSome old.left (λ bytes. PrintsSome limits names list bytes old_out out)
  prints_some = go old.left h.told
    where
      go : (left : Option (List ℕ)) → IfSome left (λ bytes. IsReadTo limits bytes (rest_of lines now) lines.has_ended events) → IfSome left (λ bytes. PrintsSome limits names list bytes old_out out)
      go None read = tt
      go (Some bytes) read = (read.done, front_of limits bytes (rest_of lines now) lines.has_ended events read, prints read.done read.events_are)

  -- no line was left
  pub prints_all : GivesLine lines next_lines now after None → IfSome old.left (λ bytes. PrintsAll limits names list bytes old_out out)
  prints_all gives = go old.left h.told
    where
      nothing : (left : List ℕ) (has_ended : Bool) → rest_of lines now ≡ Some left → (has_ended ≡ true → pieces left ≡ []) → (has_ended ≡ false → HasNoneLeft (rest_of lines now)) → pieces left ≡ []
      nothing left true rest ended none = ended refl
      nothing left false rest ended none = let empty : left ≡ [] = subst HasNoneLeft rest (none refl) in ap pieces empty

      go : (left : Option (List ℕ)) → IfSome left (λ bytes. IsReadTo limits bytes (rest_of lines now) lines.has_ended events) → IfSome left (λ bytes. PrintsAll limits names list bytes old_out out)
      go None read = tt
      go (Some bytes) read =
          let whole : pieces bytes ≡ read.done =
          read.split ∙ ap (λ l. read.done ++ l) (nothing read.left lines.has_ended read.rest_is read.ended (λ e. (gives.2 e).0)) ∙ append-nil read.done in
          subst (λ l. (first_fault limits l ≡ None) × Prints names list l old_out out) (sym whole) (first_fault-none limits read.done read.faultless, prints read.done read.events_are)

  -- the line behind those that were read has this fault
  abbrev IsNextFault : Refusal → List ℕ → Type 0
  IsNextFault r left = (piece : Piece) × (others : List Piece) × (pieces left ≡ piece ∷ others) × ((done : List Piece) → events ≡ events_in done → fault_behind limits done piece ≡ Some r)

  stops : (r : Refusal) → IfSome (rest_of lines now) (IsNextFault r) → IfSome old.left (λ bytes. PrintsBefore limits names list r bytes old_out out)
  stops r found = go old.left h.told
    where
      go : (left : Option (List ℕ)) → IfSome left (λ bytes. IsReadTo limits bytes (rest_of lines now) lines.has_ended events) → IfSome left (λ bytes. PrintsBefore limits names list r bytes old_out out)
      go None read = tt
      go (Some bytes) read =
          let at : IsNextFault r read.left = subst (λ o. IfSome o (IsNextFault r)) read.rest_is found in (
            read.done,
            record {
              line = at.0;
              others = at.1;
              split = read.split ∙ ap (λ l. read.done ++ l) at.2;
              faultless = first_fault-none limits read.done read.faultless;
              fault = at.3 read.done read.events_are;
            },
            prints read.done read.events_are,
          )

  count : (done : List Piece) → events ≡ events_in done → length done ≡ length events
  count done are = omega (arith, ap length are, length-map done (λ (l : Piece). event_of (line_of l)))

  long_next : (rest : Option (List ℕ)) (n : ℕ) → n ≡ lines.given + 1 → IfSome rest (BeginsLong limits.line_bytes) → IfSome rest (IsNextFault (refusal.LineLong n))
  long_next None n is long = tt
  long_next (Some left) n is long = (
    long.piece,
    long.others,
    long.first,
    λ done are. fault-long limits done long.piece long.long ∙ ap (λ k. Some (refusal.LineLong k)) (omega (arith, is, count done are, h.given)),
  )

  taken : (left : Option (List ℕ)) → IfSome left (λ bytes. IsReadTo limits bytes (rest_of lines now) lines.has_ended events) → (lines.has_ended ≡ true → false ≡ true)
      → FillCause lines.limit (lines.given + 1) lines.held next_lines.held now after refusal.ReadFault → IfSome left (λ bytes. PrintsTaken limits names list after.left bytes old_out out)
  taken None read goes_on failed = tt
  taken (Some bytes) read goes_on failed =
      let front = lines_taken bytes read.left next_lines.held after.left read.done (read.all_ended (other lines.has_ended goes_on)) read.split failed.1 (failed.2 ∙ read.rest_is) in (
        front.0,
        front.1,
        subst (IsSoundFront limits (pieces bytes)) (sym front.2) (front_of limits bytes (rest_of lines now) lines.has_ended events read),
        subst (λ l. Prints names list l old_out out) (sym front.2) (prints read.done read.events_are),
      )
    where
      other : (b : Bool) → (b ≡ true → false ≡ true) → b ≡ false
      other true h = sym (h refl)
      other false h = refl

  -- no line came
  pub lines_cause : (r : Refusal) → (lines.has_ended ≡ true → false ≡ true) → FillCause lines.limit (lines.given + 1) lines.held next_lines.held now after r
      → WatchCause limits names list old after old_out out r
  lines_cause refusal.ReadFault goes_on cause = (
    record { rose = omega (arith, h.keeps.later, cause.0.rose); asked = cause.0.asked ∙ h.keeps.asked; failed = cause.0.failed },
    taken old.left h.told goes_on cause,
  )
  lines_cause (refusal.LineLong n) goes_on cause =
      stops (refusal.LineLong n) (long_next (rest_of lines now) n cause.0 (subst (λ k. IfSome (rest_of lines now) (BeginsLong k)) h.limit cause.1.1))
  lines_cause refusal.Memory goes_on cause = prints_some
  lines_cause _ goes_on cause = absurd cause

  module _ (line : LineValue) (gives : GivesLine lines next_lines now after (Some line)) where
    abbrev HasFault : Refusal → Type 0
    HasFault r = (done : List Piece) (piece : Piece) → events ≡ events_in done → length piece.bytes ≤ limits.line_bytes → line.bytes ≡ line_of piece → fault_behind limits done piece ≡ Some r

    found_fault : (r : Refusal) → HasFault r → IfSome old.left (λ bytes. PrintsBefore limits names list r bytes old_out out)
    found_fault r found = stops r (at (rest_of lines now) (subst (λ n. TakesFirst n (rest_of lines now) (rest_of next_lines after) line.bytes next_lines.has_ended) h.limit gives.3))
      where
        at : (before : Option (List ℕ)) → TakesFirst limits.line_bytes before (rest_of next_lines after) line.bytes next_lines.has_ended → IfSome before (IsNextFault r)
        at None first = tt
        at (Some left) first = (first.2.piece, pieces first.0, first.2.first, λ done are. found done first.2.piece are first.2.within first.2.text)

    number : (done : List Piece) → events ≡ events_in done → length done + 1 ≡ line.number
    number done are = omega (arith, count done are, gives.0, h.given)

    more_cases : (done : List Piece) (piece : Piece) → events ≡ events_in done → line.bytes ≡ line_of piece → has_name cases.found.names (event_of line.bytes).case ≡ false
        → length (cases_of (events_in (done ++ piece ∷ []))) ≡ length cases.found.names + 1
    more_cases done piece are text new =
        let grown : events_in (done ++ piece ∷ []) ≡ events ++ event_of line.bytes ∷ [] =
        map-append (λ (l : Piece). event_of (line_of l)) done (piece ∷ []) ∙ ap₂ (λ l x. l ++ event_of x ∷ []) (sym are) (sym text) in
        ap (λ l. length (cases_of l)) grown ∙ ap length (cases_of-push events (event_of line.bytes)) ∙ ap (λ l. length (with_name l (event_of line.bytes).case)) (sym h.kept.found)
        ∙ with_name-new cases.found.names (event_of line.bytes).case new

    -- the line was refused
    pub line_cause : (r : Refusal) → LineCause limits cases.found.names line r → WatchCause limits names list old after old_out out r
    line_cause (refusal.NotUtf8 n) c =
        found_fault (refusal.NotUtf8 n) (λ done piece are short text.
        fault-not_utf8 limits done piece short (ap is_utf8 (sym text) ∙ c.1) ∙ ap (λ k. Some (refusal.NotUtf8 k)) (number done are ∙ sym c.0))
    line_cause (refusal.NoTab n) c =
        found_fault (refusal.NoTab n) (λ done piece are short text.
        fault-no_tab limits done piece short (ap is_utf8 (sym text) ∙ c.1) (ap has_tab (sym text) ∙ c.2) ∙ ap (λ k. Some (refusal.NoTab k)) (number done are ∙ sym c.0))
    line_cause (refusal.Events n) c = (
      c.0,
      found_fault (refusal.Events n) (λ done piece are short text.
          fault-events limits done piece short (ap is_utf8 (sym text) ∙ c.1) (ap has_tab (sym text) ∙ c.2) (omega (arith, number done are, c.3))
          ∙ ap (λ k. Some (refusal.Events k)) (sym c.0)),
    )
    line_cause (refusal.Traces n) c = (
      c.0,
      found_fault (refusal.Traces n) (λ done piece are short text.
          fault-traces limits done piece short (ap is_utf8 (sym text) ∙ c.1) (ap has_tab (sym text) ∙ c.2) (omega (arith, number done are, c.3))
          (omega (arith, more_cases done piece are text c.5, c.4)) ∙ ap (λ k. Some (refusal.Traces k)) (sym c.0)),
    )
    line_cause refusal.Memory c = prints_some
    line_cause _ c = absurd c

  -- the next line wasn't taken
  pub next_cause : (r : Refusal) → NextCause limits cases.found.names lines next_lines now after r → WatchCause limits names list old after old_out out r
  next_cause r (inl none) = lines_cause r none.0 none.1
  next_cause r (inr at) = line_cause at.0 at.1 r at.2
