use Rattle.std.proofs.Common.{◌≡◌, ◌+◌, ◌-◌, ◌≤◌, ◌++◌, [], ◌∷◌, refl, sym, ap, ◌∙◌, arith, map, append_assoc}
use Rattle.std.proofs.lemmas.Nat.{mod_below}
use Rattle.minerful_core.specs.Generator.{byte_of, letters_after, letter_after}
use Rattle.minerful_core.proofs.Generating.{letters_after-next, letters_after-all, state_after-next, state_after-all, state_behind-is, line_drawn}
use Rattle.minerful_core.proofs.generator.push_line.Goals as goal

pub loop-init : goal.loop-init
loop-init c =
    let none : c.below-further.result - 0 ≡ c.below-further.result = omega arith in
    record { text = rw none refl; states = rw none refl; letter = mod_below c.below.result c.args.letters (omega arith) }

pub overflow_add-letter : goal.overflow_add-letter
overflow_add-letter c =
    let letter = c.loop.invariant.letter in
    let letters = c.requires.letters.1 in
    let drawn = c.below-in-loop.ensures.small in
    omega arith

pub loop-preserved : goal.loop-preserved
loop-preserved c =
    let letters = c.args.letters in
    let count = c.below-further.result in
    let done = c.loop.counter in
    let drawn : c.below-in-loop.result ≡ _ = c.below-in-loop.ensures.value in
    let old = c.loop.invariant in
    record {
      text = rw (c.in_ok-push-2.ensures.items, c.byte_of-in-loop.ensures, c.below-in-loop.ensures.value, c.below-in-loop.ensures.state)
          (append_assoc c.loop.text.items (byte_of (letter_after letters c.loop.letter c.loop.draws.state) ∷ [])
          (map byte_of (letters_after letters (count - (done + 1)) (letter_after letters c.loop.letter c.loop.draws.state) _))
          ∙ ap (λ ls. c.loop.text.items ++ map byte_of ls) (sym (letters_after-next letters count done c.loop.letter c.loop.draws.state c.loop-test.true))
          ∙ old.text);
      states = rw c.below-in-loop.ensures.state (sym (state_after-next count done c.loop.draws.state c.loop-test.true) ∙ old.states);
      letter = mod_below (c.loop.letter + c.below-in-loop.result) letters (omega arith);
    }

pub returns-clause-text : goal.returns-clause-text
returns-clause-text c =
    let all : c.below-further.result ≤ c.loop.counter = omega arith in
    let written = letters_after-all c.args.letters c.below-further.result c.loop.counter c.loop.letter c.loop.draws.state c.loop.text.items _ all c.loop.invariant.text in
    rw c.in_ok-push-3.ensures.items
    (line_drawn c.args.length c.args.letters c.args.draws.now.state c.args.text.now.items c.loop.text.items
    (written ∙ rw (c.in_ok-push.ensures.items, c.byte_of.ensures, c.below.ensures.value, c.below.ensures.state, c.below-further.ensures.value, c.below-further.ensures.state) refl))

pub returns-clause-state : goal.returns-clause-state
returns-clause-state c =
    let all : c.below-further.result ≤ c.loop.counter = omega arith in
    let reached = state_after-all c.below-further.result c.loop.counter c.loop.draws.state _ all c.loop.invariant.states in
    reached ∙ rw (c.below.ensures.state, c.below-further.ensures.value, c.below-further.ensures.state) (sym (state_behind-is c.args.length c.args.draws.now.state))
