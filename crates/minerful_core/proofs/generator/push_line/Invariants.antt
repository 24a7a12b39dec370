use Rattle.std.proofs.Common.{◌≡◌, ◌<◌, ◌++◌, ◌-◌, ℕ, List, map}
use Rattle.minerful_core.specs.Generator.{byte_of, letters_after, state_after}
use Rattle.minerful_core.proofs.generator.push_line.Given as goal

-- the text so far, with the letters that are left, is the whole, and so is the state
pub record IsDrawn (letters count done last state first_letter first_state : ℕ) (written first_written : List ℕ) : Type 0 where
  pub text : written ++ map byte_of (letters_after letters (count - done) last state) ≡ first_written ++ map byte_of (letters_after letters count first_letter first_state)
  pub states : state_after (count - done) state ≡ state_after count first_state
  pub letter : last < letters

abbrev pub invariant-loop : goal.invariant-loop
invariant-loop l = IsDrawn l.letters l.further l.counter l.letter l.draws.state l.initial.letter l.initial.draws.state l.text.items l.initial.text.items
