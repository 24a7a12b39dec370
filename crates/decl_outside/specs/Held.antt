-- The bytes that were read and not given.
use Rattle.std.specs.Prelude.{ℕ, List, drop}
use Rattle.decl_outside.specs.declared.held.Held.{Held}

abbrev pub held_bytes : Held → List ℕ
held_bytes held = drop held.start held.bytes.items
