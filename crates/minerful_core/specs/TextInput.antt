-- What a text in memory is to the reader of a log.
use Rattle.std.specs.Prelude.{ℕ, List, drop, false, true, None, Some}
use Rattle.decl_outside.specs.Inputs.{InputState}
use Rattle.minerful_core.specs.declared.text_input.TextInput.{TextInput}

-- no fault ever, and what is left of the text; what its name stands for isn't told
abbrev pub state_of : TextInput → InputState
state_of t = record {
  faults = 0;
  asked = t.asked;
  names = None;
  has_failed = false;
  is_open = true;
  contents = None;
  left = Some (drop t.place t.text.items);
}

-- it is open, and nothing of it was read
abbrev pub unread_text : List ℕ → InputState
unread_text text = record {
  faults = 0;
  asked = None;
  names = None;
  has_failed = false;
  is_open = true;
  contents = None;
  left = Some text;
}
