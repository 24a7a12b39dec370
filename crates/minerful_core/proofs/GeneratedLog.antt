-- The text that a seed gives is a string log, within the limits of every run.
use Rattle.std.proofs.Common.{◌≡◌, ℕ, zero, suc, ◌+◌, ◌-◌, ◌*◌, ◌%◌, ◌<◌, ◌≤◌, ◌==◌, List, [], ◌∷◌, ◌++◌, Bool, true, false, ◌||◌, cond, None, Ok, fold, length, map, encode_utf8, refl, sym, ap, subst, ◌∙◌, arith, ⊎_elim, append_assoc, append-nil, length-append, take}
use Rattle.std.specs.List.{AllByRecursion, IsDistinct, flat_map, range_with_len, slice_split}
use Rattle.std.specs.Prelude.{slice_index}
use Rattle.std.specs.Str.{bytes_eq, chars, is_utf8, IsAscii}
use Rattle.std.proofs.lemmas.Bool.{cases_lt}
use Rattle.std.proofs.lemmas.Bool.Decides.{nat_tests}
use Rattle.std.proofs.lemmas.Cmp.{nat_list_eq_equiv}
use Rattle.std.proofs.lemmas.List.{length-map, map-append}
use Rattle.std.proofs.lemmas.List.Concat.{flat_map-append}
use Rattle.std.proofs.lemmas.List.Elements.{All-from_recursion}
use Rattle.std.proofs.lemmas.List.Splits.{slice_split_at, length-slice_split}
use Rattle.std.proofs.lemmas.Map.Keys.{IsDistinct-push}
use Rattle.std.proofs.lemmas.Map.Made.{length-le_from_is_member}
use Rattle.std.proofs.lemmas.Nat.{mod_below}
use Rattle.std.specs.Cmp.Lexicographic.{bytes_decides}
use Rattle.std.proofs.lemmas.Str.{chars-IsAscii, IsUtf8-from_ascii, is_utf8-from_IsUtf8, encode_ascii}
use Rattle.std.proofs.Math.Nat.{suc-mul}
use Rattle.decl_base.specs.Limits.{standard}
use Rattle.decl_base.specs.declared.limits.Limits.{Limits}
use Rattle.decl_outside.specs.Lines.{Piece, pieces, pieces_of_parts, line_of}
use Rattle.event_log.specs.Logs.{events_of, first_seen, has_name, with_name}
use Rattle.event_log.proofs.Alphabets.{first_seen-has}
use Rattle.strings_log.specs.StringLog.{fault_behind, log_of_lines, string_log, trace_of}
use Rattle.strings_log.proofs.Faults.{Faultless, Faultless-more, fault-none, string_log-log}
use Rattle.minerful_words.specs.Grammars.{IsBetween, most_letters}
use Rattle.minerful_words.specs.Settings.{CanGenerate}
use Rattle.minerful_core.specs.Generator.{first_state, next_state, drawn_below, state_after, state_behind, byte_of, first_letter, letter_after, letters_after, trace_drawn, traces_drawn, generated_text, generated_log, line_of_trace, log_of_letters, name_of_letter}

-- ---- the letters are among the first 26, and no trace is too long

abbrev AreLetters : List ℕ → Type 0
AreLetters trace = AllByRecursion (λ letter. letter < most_letters) trace

record IsShort (most : ℕ) (trace : List ℕ) : Type 0 where
  pub letters : AreLetters trace
  pub few : length trace ≤ most

module _ (letters : ℕ) (within : IsBetween 1 most_letters letters) where
  below : (n : ℕ) → n % letters < most_letters
  below n = let small = mod_below n letters (omega (arith, within.0)) in omega (arith, small, within.1)

  are_letters : (count before state : ℕ) → AreLetters (letters_after letters count before state)
  unfolding letters_after
  are_letters zero before state = tt
  are_letters (suc count) before state =
      (below (before + drawn_below 3 state), are_letters count (letter_after letters before state) (next_state state))

  length-letters_after : (count before state : ℕ) → length (letters_after letters count before state) ≡ count
  unfolding letters_after
  length-letters_after zero before state = refl
  length-letters_after (suc count) before state = ap suc (length-letters_after count (letter_after letters before state) (next_state state))

  module _ (most : ℕ) (some : 1 ≤ most) where
    is_short : (state : ℕ) → IsShort most (trace_drawn most letters state)
    is_short state =
        let first = first_letter letters (next_state state) in
        let further = drawn_below most state in
        let small : further < most = mod_below (next_state state) most (omega (arith, some)) in
        record {
          letters = (below (drawn_below 2 (next_state state)), are_letters further first (state_after 2 state));
          few = omega (arith, length-letters_after further first (state_after 2 state), small);
        }

    are_short : (count state : ℕ) → AllByRecursion (IsShort most) (traces_drawn most letters count state)
    unfolding traces_drawn
    are_short zero state = tt
    are_short (suc count) state = (is_short state, are_short count (state_behind most state))

    length-traces_drawn : (count state : ℕ) → length (traces_drawn most letters count state) ≡ count
    unfolding traces_drawn
    length-traces_drawn zero state = refl
    length-traces_drawn (suc count) state = ap suc (length-traces_drawn count (state_behind most state))

front : {X : Type 0} (P : X → Type 0) (xs ys : List X) → AllByRecursion P (xs ++ ys) → AllByRecursion P xs
front P [] ys h = tt
front P (x ∷ xs) ys h = (h.0, front P xs ys h.1)

behind : {X : Type 0} (P : X → Type 0) (xs ys : List X) → AllByRecursion P (xs ++ ys) → AllByRecursion P ys
behind P [] ys h = h
behind P (x ∷ xs) ys h = behind P xs ys h.1

-- ---- a line of letters

abbrev line : List ℕ → Piece
line trace = record { bytes = map byte_of trace; is_ended = true }

is_not_return : (n : ℕ) → 13 < n → (n == 13) ≡ false
is_not_return n h = grind (arith, nat_tests)

is_not_feed : (n : ℕ) → 13 < n → (n == 10) ≡ false
is_not_feed n h = grind (arith, nat_tests)

no_return : (trace : List ℕ) (i : ℕ) → (slice_index (map byte_of trace) i == 13) ≡ false
no_return [] i = refl
no_return (letter ∷ trace) zero = is_not_return (97 + letter) (omega arith)
no_return (letter ∷ trace) (suc i) = no_return trace i

no_feed : (trace : List ℕ) → AllByRecursion (λ b. (b == 10) ≡ false) (map byte_of trace)
no_feed [] = tt
no_feed (letter ∷ trace) = (is_not_feed (97 + letter) (omega arith), no_feed trace)

is_ascii : (trace : List ℕ) → AreLetters trace → IsAscii (map byte_of trace)
is_ascii [] h = λ i. omega arith
is_ascii (letter ∷ trace) h = at (is_ascii trace h.1)
  where
    at : IsAscii (map byte_of trace) → (i : ℕ) → slice_index (map byte_of (letter ∷ trace)) i < 128
    at rest zero = omega (arith, h.0)
    at rest (suc i) = rest i

line_of-line : (trace : List ℕ) → line_of (line trace) ≡ map byte_of trace
line_of-line trace =
    let bytes = map byte_of trace in
    ap (λ b. cond b (take (length bytes - 1) bytes) bytes) (no_return trace (length bytes - 1))

encoded : (trace : List ℕ) → AreLetters trace → map encode_utf8 (map byte_of trace) ≡ map name_of_letter trace
encoded [] h = refl
encoded (letter ∷ trace) h =
    ap (λ name. name ∷ map encode_utf8 (map byte_of trace)) (encode_ascii (97 + letter) (omega (arith, h.0)))
    ∙ ap (λ names. name_of_letter letter ∷ names) (encoded trace h.1)

trace_of-line : (trace : List ℕ) → AreLetters trace → trace_of (line trace) ≡ map name_of_letter trace
trace_of-line trace h =
    ap (λ text. map encode_utf8 (chars text)) (line_of-line trace)
    ∙ ap (map encode_utf8) (chars-IsAscii (map byte_of trace) (is_ascii trace h)) ∙ encoded trace h

is_text : (trace : List ℕ) → AreLetters trace → is_utf8 (line_of (line trace)) ≡ true
is_text trace h = ap is_utf8 (line_of-line trace) ∙ is_utf8-from_IsUtf8 (map byte_of trace) (IsUtf8-from_ascii (map byte_of trace) (is_ascii trace h))

module _ (most : ℕ) where
  log_of_lines-letters : (traces : List (List ℕ)) → AllByRecursion (IsShort most) traces → log_of_lines (map line traces) ≡ log_of_letters traces
  log_of_lines-letters [] h = refl
  log_of_lines-letters (trace ∷ traces) h =
      ap (λ t. t ∷ log_of_lines (map line traces)) (trace_of-line trace h.0.letters)
      ∙ ap (λ ts. map name_of_letter trace ∷ ts) (log_of_lines-letters traces h.1)

  few_events : (traces : List (List ℕ)) → AllByRecursion (IsShort most) traces → length (events_of (log_of_letters traces)) ≤ length traces * most
  few_events [] h = omega arith
  few_events (trace ∷ traces) h =
      let rest = few_events traces h.1 in
      let both = length-append (map name_of_letter trace) (events_of (log_of_letters traces)) in
      omega (arith, rest, both, length-map trace name_of_letter, h.0.few, suc-mul (length traces) most)

-- ---- the text is cut into the lines

pieces_of-part : (part : List ℕ) (parts : List (List ℕ)) → 0 < length parts → pieces_of_parts (part ∷ parts) ≡ record { bytes = part; is_ended = true } ∷ pieces_of_parts parts
pieces_of-part part [] h = absurd (omega arith)
pieces_of-part part (next ∷ parts) h = refl

pub pieces-lines : (traces : List (List ℕ)) → pieces (flat_map line_of_trace traces) ≡ map line traces
pieces-lines [] = refl
pieces-lines (trace ∷ traces) =
    let bytes = map byte_of trace in
    let rest = flat_map line_of_trace traces in
    ap pieces (append_assoc bytes (10 ∷ []) rest)
    ∙ ap pieces_of_parts (slice_split_at (λ b. b == 10) bytes 10 rest (All-from_recursion (λ b. (b == 10) ≡ false) bytes (no_feed trace)) refl)
    ∙ pieces_of-part bytes (slice_split (λ b. b == 10) rest) (omega (arith, length-slice_split (λ b. b == 10) rest))
    ∙ ap (λ ps. line trace ∷ ps) (pieces-lines traces)

-- ---- there are at most 26 names

abbrev alphabet : List (List ℕ)
alphabet = map name_of_letter (range_with_len 0 most_letters)

in_alphabet : (start count letter : ℕ) → start ≤ letter → letter < start + count → has_name (map name_of_letter (range_with_len start count)) (name_of_letter letter) ≡ true
in_alphabet start zero letter above below = absurd (omega arith)
in_alphabet start (suc count) letter above below =
    let others = map name_of_letter (range_with_len (start + 1) count) in
    ⊎_elim
    (λ later. ap (λ b. bytes_eq (name_of_letter letter) (name_of_letter start) || b) (in_alphabet (start + 1) count letter (omega (arith, later)) (omega arith))
    ∙ or_true (bytes_eq (name_of_letter letter) (name_of_letter start)))
    (λ here. let same : letter ≡ start = omega (arith, here) in
    ap (λ l. bytes_eq (name_of_letter letter) (name_of_letter l) || has_name others (name_of_letter letter)) (sym same)
    ∙ ap (λ b. b || has_name others (name_of_letter letter)) (nat_list_eq_equiv.refl (name_of_letter letter)))
    (cases_lt start letter)
  where
    or_true : (b : Bool) → (b || true) ≡ true
    or_true true = refl
    or_true false = refl

abbrev AreNames : List (List ℕ) → Type 0
AreNames names = AllByRecursion (λ name. has_name alphabet name ≡ true) names

join : (xs ys : List (List ℕ)) → AreNames xs → AreNames ys → AreNames (xs ++ ys)
join [] ys h k = k
join (x ∷ xs) ys h k = (h.0, join xs ys h.1 k)

are_names : (trace : List ℕ) → AreLetters trace → AreNames (map name_of_letter trace)
are_names [] h = tt
are_names (letter ∷ trace) h = (in_alphabet 0 most_letters letter (omega arith) (omega (arith, h.0)), are_names trace h.1)

same_name : (x y : List ℕ) → bytes_eq x y ≡ true → x ≡ y
same_name x y is = (bytes_decides x y).0 is

has_only : (names : List (List ℕ)) (name : List ℕ) → AreNames names → has_name names name ≡ true → has_name alphabet name ≡ true
has_only [] name h has = absurd (false_is_true has)
  where
    false_is_true : false ≡ true → ⊥
    false_is_true e = cc
has_only (x ∷ names) name h has = go (bytes_eq name x) refl (has_only names name h.1)
  where
    go : (b : Bool) → bytes_eq name x ≡ b → (has_name names name ≡ true → has_name alphabet name ≡ true) → has_name alphabet name ≡ true
    go true is rest = ap (has_name alphabet) (same_name name x is) ∙ h.0
    go false is rest = rest (sym (ap (λ b. b || has_name names name) is) ∙ has)

once : (names more : List (List ℕ)) → IsDistinct bytes_eq names → IsDistinct bytes_eq (fold with_name names more)
once names [] h = h
once names (name ∷ more) h = once (with_name names name) more (step (has_name names name) refl)
  where
    step : (b : Bool) → has_name names name ≡ b → IsDistinct bytes_eq (cond b names (names ++ name ∷ []))
    step true is = h
    step false is = IsDistinct-push nat_list_eq_equiv names name h is

few_names : (names : List (List ℕ)) → AreNames names → length (first_seen names) ≤ most_letters
unfolding IsDistinct
few_names names h =
    length-le_from_is_member nat_list_eq_equiv (first_seen names) alphabet (once [] names tt)
    (λ name has. has_only names name h (sym (first_seen-has names name) ∙ has))

module _ (most : ℕ) where
  events_are_names : (traces : List (List ℕ)) → AllByRecursion (IsShort most) traces → AreNames (events_of (log_of_letters traces))
  events_are_names [] h = tt
  events_are_names (trace ∷ traces) h = join (map name_of_letter trace) (events_of (log_of_letters traces)) (are_names trace h.0.letters) (events_are_names traces h.1)

-- ---- no line is at fault

record Fits (limits : Limits) (most : ℕ) (traces : List (List ℕ)) : Type 0 where
  pub short : AllByRecursion (IsShort most) traces
  pub line_bytes : most ≤ limits.line_bytes
  pub traces_few : length traces ≤ limits.traces
  pub events_few : length (events_of (log_of_letters traces)) ≤ limits.events
  pub names_few : most_letters ≤ limits.activities

module _ (limits : Limits) (most : ℕ) (whole : List (List ℕ)) (fits : Fits limits most whole) where
  no_fault : (before others : List (List ℕ)) (trace : List ℕ) → whole ≡ before ++ trace ∷ others → fault_behind limits (map line before) (line trace) ≡ None
  no_fault before others trace is =
      let P = IsShort most in
      let so_far = before ++ trace ∷ [] in
      let split : whole ≡ so_far ++ others = is ∙ sym (append_assoc before (trace ∷ []) others) in
      let short : AllByRecursion P so_far = front P so_far others (subst (AllByRecursion P) split fits.short) in
      let this : IsShort most trace = (behind P before (trace ∷ []) short).0 in
      let log : log_of_lines (map line before ++ line trace ∷ []) ≡ log_of_letters so_far =
      ap log_of_lines (sym (map-append line before (trace ∷ []))) ∙ log_of_lines-letters most so_far short in
      let parts : events_of (log_of_letters whole) ≡ events_of (log_of_letters so_far) ++ events_of (log_of_letters others) =
      ap (λ ts. events_of (log_of_letters ts)) split ∙ ap events_of (map-append (map name_of_letter) so_far others)
      ∙ flat_map-append (λ t. t) (log_of_letters so_far) (log_of_letters others) in
      let events : length (events_of (log_of_letters so_far)) ≤ limits.events =
      omega (arith, ap length parts, length-append (events_of (log_of_letters so_far)) (events_of (log_of_letters others)), fits.events_few) in
      let names : length (first_seen (events_of (log_of_letters so_far))) ≤ most_letters = few_names (events_of (log_of_letters so_far)) (events_are_names most so_far short) in
      fault-none limits (map line before) (line trace)
      (omega (arith, length-map trace byte_of, this.few, fits.line_bytes))
      (omega (arith, length-map before line, ap length is, length-append before (trace ∷ others), fits.traces_few))
      (is_text trace this.letters)
      (subst (λ l. length (events_of l) ≤ limits.events) (sym log) events)
      (subst (λ l. length (first_seen (events_of l)) ≤ limits.activities) (sym log) (omega (arith, names, fits.names_few)))

  faultless : (before others : List (List ℕ)) → whole ≡ before ++ others → Faultless limits (map line whole) (length (map line before)) → Faultless limits (map line whole) (length (map line whole))
  faultless before [] is h = subst (λ b. Faultless limits (map line whole) (length (map line b))) (sym (is ∙ append-nil before)) h
  faultless before (trace ∷ others) is h =
      let more = Faultless-more limits (map line before) (line trace) (map line others) (map line whole)
      (ap (map line) is ∙ map-append line before (trace ∷ others)) h (no_fault before others trace is) in
      let count : length (map line before) + 1 ≡ length (map line (before ++ trace ∷ [])) =
      omega (arith, length-map before line, length-map (before ++ trace ∷ []) line, length-append before (trace ∷ [])) in
      faultless (before ++ trace ∷ []) others (is ∙ sym (append_assoc before (trace ∷ []) others)) (subst (Faultless limits (map line whole)) count more)

  -- the lines of these traces are a string log
  lines_log : string_log limits (flat_map line_of_trace whole) ≡ Ok (log_of_letters whole)
  lines_log =
      let cut = pieces-lines whole in
      string_log-log limits (flat_map line_of_trace whole)
      (subst (λ ps. Faultless limits ps (length ps)) (sym cut) (faultless [] whole refl (λ place none. absurd (omega (arith, none)))))
      ∙ ap (λ ps. Ok (log_of_lines ps)) cut ∙ ap Ok (log_of_lines-letters most whole fits.short)

-- ---- what a seed gives

-- the text is the log, which is within the limits of every run
pub record IsGenerated (seed traces length_of_trace letters : ℕ) : Type 0 where
  pub log : string_log standard (generated_text seed traces length_of_trace letters) ≡ Ok (generated_log seed traces length_of_trace letters)
  pub trace_count : length (generated_log seed traces length_of_trace letters) ≡ traces
  pub few_traces : length (generated_log seed traces length_of_trace letters) ≤ standard.traces
  pub few_events : length (events_of (generated_log seed traces length_of_trace letters)) ≤ standard.events
  pub few_names : length (first_seen (events_of (generated_log seed traces length_of_trace letters))) ≤ most_letters

pub is_generated : (seed traces length_of_trace letters : ℕ) → CanGenerate seed traces length_of_trace letters → IsGenerated seed traces length_of_trace letters
unfolding generated_text
is_generated seed traces length_of_trace letters can =
    let state = first_state seed in
    let drawn = traces_drawn length_of_trace letters traces state in
    let short = are_short letters can.letters_are_within length_of_trace can.length_is_within.0 traces state in
    let count : length drawn ≡ traces = length-traces_drawn letters can.letters_are_within length_of_trace can.length_is_within.0 traces state in
    let bound : length drawn * length_of_trace ≤ standard.events = subst (λ n. n * length_of_trace ≤ standard.events) (sym count) can.events_are_few in
    let events : length (events_of (log_of_letters drawn)) ≤ standard.events = omega (arith, few_events length_of_trace drawn short, bound) in
    let same : length (log_of_letters drawn) ≡ traces = length-map drawn (map name_of_letter) ∙ count in
    record {
      log = lines_log standard length_of_trace drawn (record {
        short = short;
        line_bytes = omega (arith, can.length_is_within.1);
        traces_few = omega (arith, count, can.traces_are_few);
        events_few = events;
        names_few = omega arith;
      });
      trace_count = same;
      few_traces = omega (arith, same, can.traces_are_few);
      few_events = events;
      few_names = few_names (events_of (log_of_letters drawn)) (events_are_names length_of_trace drawn short);
    }
