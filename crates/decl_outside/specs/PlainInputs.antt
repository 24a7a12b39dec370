-- What inputs in memory that never fail are to a caller.
use Rattle.std.specs.Prelude.{false, Some}
use Rattle.decl_outside.specs.Asked.{names_of, last_of}
use Rattle.decl_outside.specs.Inputs.{InputState}
use Rattle.decl_outside.specs.MemFiles.{bytes_of, bytes_from}
use Rattle.decl_outside.specs.declared.plain_inputs.PlainInputs.{PlainInputs}

abbrev pub state_of : PlainInputs → InputState
state_of p = record {
  faults = 0;
  asked = last_of p.asked;
  names = names_of p.asked;
  has_failed = false;
  is_open = p.is_open;
  contents = Some (bytes_of p.files.items);
  left = Some (bytes_from p.files.items p.current p.place);
}
