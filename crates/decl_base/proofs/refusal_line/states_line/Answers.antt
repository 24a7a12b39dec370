use Rattle.std.proofs.Common.{refl}
use Rattle.decl_base.proofs.refusal_line.states_line.Goals as goal

pub returns : goal.returns
returns c = rw (c.push_str-2.ensures.bytes, c.push_str.ensures.bytes, c.numbered-line.ensures.text, c.format.ensures.text, c.from.ensures) refl
