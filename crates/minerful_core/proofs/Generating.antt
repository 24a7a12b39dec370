-- The draws that are left, one after the other.
use Rattle.std.proofs.Common.{◌≡◌, ℕ, suc, ◌+◌, ◌-◌, ◌<◌, ◌≤◌, List, [], ◌∷◌, ◌++◌, map, refl, sym, ap, ◌∙◌, arith, append_assoc, append-nil}
use Rattle.std.specs.List.{flat_map}
use Rattle.minerful_core.specs.Generator.{next_state, state_after, drawn_below, byte_of, first_letter, letter_after, letters_after, trace_drawn, line_of_trace, traces_drawn, state_behind}

pub state_after-next : (draws done state : ℕ) → done < draws → state_after (draws - done) state ≡ state_after (draws - (done + 1)) (next_state state)
unfolding state_after
state_after-next draws done state left = let e : draws - done ≡ suc (draws - (done + 1)) = omega arith in rw e refl

pub letters_after-next : (letters count done before state : ℕ) → done < count
    → letters_after letters (count - done) before state
    ≡ letter_after letters before state ∷ letters_after letters (count - (done + 1)) (letter_after letters before state) (next_state state)
unfolding letters_after
letters_after-next letters count done before state left = let e : count - done ≡ suc (count - (done + 1)) = omega arith in rw e refl

pub traces_drawn-next : (length letters count done state : ℕ) → done < count
    → traces_drawn length letters (count - done) state
    ≡ trace_drawn length letters state ∷ traces_drawn length letters (count - (done + 1)) (state_behind length state)
unfolding traces_drawn
traces_drawn-next length letters count done state left = let e : count - done ≡ suc (count - (done + 1)) = omega arith in rw e refl

-- ---- none is left

pub state_after-all : (draws done state whole : ℕ) → draws ≤ done → state_after (draws - done) state ≡ whole → state ≡ whole
unfolding state_after
state_after-all draws done state whole all is = let e : draws - done ≡ 0 = omega arith in ap (λ k. state_after k state) (sym e) ∙ is

pub letters_after-all : (letters count done before state : ℕ) (written whole : List ℕ) → count ≤ done
    → written ++ map byte_of (letters_after letters (count - done) before state) ≡ whole → written ≡ whole
unfolding letters_after
letters_after-all letters count done before state written whole all is =
    let e : count - done ≡ 0 = omega arith in
    sym (append-nil written) ∙ ap (λ k. written ++ map byte_of (letters_after letters k before state)) (sym e) ∙ is

pub traces_drawn-all : (length letters count done state : ℕ) (written whole : List ℕ) → count ≤ done
    → written ++ flat_map line_of_trace (traces_drawn length letters (count - done) state) ≡ whole → written ≡ whole
unfolding traces_drawn
traces_drawn-all length letters count done state written whole all is =
    let e : count - done ≡ 0 = omega arith in
    sym (append-nil written) ∙ ap (λ k. written ++ flat_map line_of_trace (traces_drawn length letters k state)) (sym e) ∙ is

-- ---- a whole trace

pub state_behind-is : (length state : ℕ) → state_behind length state ≡ state_after (drawn_below length state) (next_state (next_state state))
unfolding state_after
state_behind-is length state =
    let e : 1 + (1 + drawn_below length state) ≡ suc (suc (drawn_below length state)) = omega arith in
    ap (λ k. state_after k state) e

pub line_drawn : (length letters state : ℕ) (before written : List ℕ)
    → written ≡ (before ++ byte_of (first_letter letters (next_state state)) ∷ [])
    ++ map byte_of (letters_after letters (drawn_below length state) (first_letter letters (next_state state)) (next_state (next_state state)))
    → written ++ 10 ∷ [] ≡ before ++ line_of_trace (trace_drawn length letters state)
unfolding state_after
line_drawn length letters state before written is =
    let first = byte_of (first_letter letters (next_state state)) in
    let further = map byte_of (letters_after letters (drawn_below length state) (first_letter letters (next_state state)) (next_state (next_state state))) in
    ap (λ text. text ++ 10 ∷ []) is ∙ append_assoc (before ++ first ∷ []) further (10 ∷ []) ∙ append_assoc before (first ∷ []) (further ++ 10 ∷ [])
