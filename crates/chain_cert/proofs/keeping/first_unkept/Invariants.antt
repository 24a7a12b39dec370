use Rattle.std.proofs.Common.{ℕ, ◌<◌}
use Rattle.template_core.specs.Keeping.{KeepsOne}
use Rattle.chain_cert.specs.Parts.{constraint_at}
use Rattle.chain_cert.proofs.keeping.first_unkept.Given as goal

abbrev pub invariant-loop-place : goal.invariant-loop-place
invariant-loop-place l = (i : ℕ) → i < l.place → KeepsOne (constraint_at l.model i) l.trace
