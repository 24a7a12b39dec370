-- What the states of an automaton say that tells how many places are broken, and whether an event before is ready for the next one.
use Rattle.std.proofs.Common.{◌≡◌, ℕ, Bool, true, false, cond, eqb, not, arith}
use Rattle.std.proofs.lemmas.Bool.Decides.{nat_tests}
use Rattle.template_core.specs.Events.{one_if}

-- 2: some place is broken; else whether an event is ready
abbrev pub said : ℕ → Bool → ℕ
said broken ready = cond (eqb broken 0) (one_if ready) 2

pub accepts-said : (n : ℕ) (o : Bool) → not (eqb (said n o) 2) ≡ eqb n 0
accepts-said n true = grind (arith, nat_tests)
accepts-said n false = grind (arith, nat_tests)
