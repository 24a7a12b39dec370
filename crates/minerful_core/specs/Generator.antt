-- The log that a seed gives. The state is a whole number, and each draw leads to the next one.
use Rattle.std.specs.Prelude.{ℕ, zero, suc, ◌+◌, ◌*◌, ◌%◌, List, [], ◌∷◌, ◌++◌, map}
use Rattle.std.specs.List.{flat_map}

abbrev pub first_state : ℕ → ℕ
first_state seed = 1 + seed % 2147483646

-- the state after a draw
abbrev pub next_state : ℕ → ℕ
next_state state = 48271 * state % 2147483647

-- the state after so many draws
unfoldable pub state_after : ℕ → ℕ → ℕ
state_after zero state = state
state_after (suc draws) state = state_after draws (next_state state)

-- a number below another, drawn in this state
abbrev pub drawn_below : ℕ → ℕ → ℕ
drawn_below bound state = next_state state % bound

-- the length of a trace is the first draw, its first letter the second, and each further letter one more

abbrev pub trace_length : ℕ → ℕ → ℕ
trace_length length state = 1 + drawn_below length state

abbrev pub first_letter : ℕ → ℕ → ℕ
first_letter letters state = drawn_below 2 state % letters

-- the letter after another
abbrev pub letter_after : ℕ → ℕ → ℕ → ℕ
letter_after letters before state = (before + drawn_below 3 state) % letters

-- so many letters after another, drawn from this state on
unfoldable pub letters_after : ℕ → ℕ → ℕ → ℕ → List ℕ
letters_after letters zero before state = []
letters_after letters (suc count) before state =
    letter_after letters before state ∷ letters_after letters count (letter_after letters before state) (next_state state)

-- the letters of a trace that is drawn from this state on: letter 0 is `a`
abbrev pub trace_drawn : ℕ → ℕ → ℕ → List ℕ
trace_drawn length letters state =
    first_letter letters (next_state state)
    ∷ letters_after letters (drawn_below length state) (first_letter letters (next_state state)) (state_after 2 state)

-- the state after a trace: a draw for its length, and one for each letter
abbrev pub state_behind : ℕ → ℕ → ℕ
state_behind length state = state_after (1 + trace_length length state) state

-- so many traces, drawn from this state on
unfoldable pub traces_drawn : ℕ → ℕ → ℕ → ℕ → List (List ℕ)
traces_drawn length letters zero state = []
traces_drawn length letters (suc count) state =
    trace_drawn length letters state ∷ traces_drawn length letters count (state_behind length state)

-- the traces that a seed gives
abbrev pub generated : ℕ → ℕ → ℕ → ℕ → List (List ℕ)
generated seed traces length letters = traces_drawn length letters traces (first_state seed)

-- letter 0 is `a`
abbrev pub byte_of : ℕ → ℕ
byte_of letter = 97 + letter

-- a trace as its letters and a line feed
abbrev pub line_of_trace : List ℕ → List ℕ
line_of_trace trace = map byte_of trace ++ 10 ∷ []

-- the traces that a seed gives, as the lines of a string log
unfoldable pub generated_text : ℕ → ℕ → ℕ → ℕ → List ℕ
generated_text seed traces length letters = flat_map line_of_trace (generated seed traces length letters)

-- a letter as the name of an event
abbrev pub name_of_letter : ℕ → List ℕ
name_of_letter letter = byte_of letter ∷ []

-- these traces of letters as a log
abbrev pub log_of_letters : List (List ℕ) → List (List (List ℕ))
log_of_letters traces = map (map name_of_letter) traces

-- the log that a seed gives
abbrev pub generated_log : ℕ → ℕ → ℕ → ℕ → List (List (List ℕ))
generated_log seed traces length letters = log_of_letters (generated seed traces length letters)
