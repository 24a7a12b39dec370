-- The definition of a generated log, computed by hand on small rows.
use Rattle.std.proofs.Common.{◌≡◌, [], ◌∷◌, refl}
use Rattle.minerful_core.specs.Generator.{first_state, generated_text, traces_drawn, letters_after, state_after}

-- the first states of seed 0
six_states : (state_after 1 (first_state 0) ∷ state_after 2 (first_state 0) ∷ state_after 3 (first_state 0)
    ∷ state_after 4 (first_state 0) ∷ state_after 5 (first_state 0) ∷ state_after 6 (first_state 0) ∷ [])
    ≡ (48271 ∷ 182605794 ∷ 1291394886 ∷ 1914720637 ∷ 2078669041 ∷ 407355683 ∷ [])
unfolding state_after
six_states = refl

-- two traces of at most three of three letters: `aa` and `ba`
two_traces : generated_text 0 2 3 3 ≡ (97 ∷ 97 ∷ 10 ∷ 98 ∷ 97 ∷ 10 ∷ [])
unfolding generated_text traces_drawn letters_after state_after
two_traces = refl
