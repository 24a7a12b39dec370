use Rattle.std.proofs.Common.{◌≡◌, ℕ, ◌+◌, ◌<◌, List, [], ◌∷◌, ◌++◌, length, true, arith, lit<}
use Rattle.std.proofs.lemmas.List.{length_push}
use Rattle.std.specs.List.{AllByRecursion}
use Rattle.dfa_core.proofs.Runs.{whole-entries}
use Rattle.automata_tests.proofs.least_automata.chain.Goals as goal

all-push : (m : ℕ) (xs : List ℕ) (y : ℕ) → AllByRecursion (λ x. x < m) xs → y < m → AllByRecursion (λ x. x < m) (xs ++ y ∷ [])
all-push m [] y all lt = (lt, tt)
all-push m (x ∷ xs) y all lt = (all.0, all-push m xs y all.1 lt)

pub of-requires : goal.of-requires
of-requires c =
    let last = c.args.last in
    let next = c.loop-state.next.items in
    let accepting = c.loop-state.accepting.items in
    let h = c.loop-state.invariant in
    let end : c.loop-state.state ≡ last = omega (arith, c.loop-state-test.false, c.loop-state.auto.state-end) in
    let states : length (accepting ++ true ∷ []) ≡ last + 1 = omega (arith, length_push accepting true, h.accepting_length, end) in
    let entries : length (next ++ last ∷ []) ≡ last + 1 = omega (arith, length_push next last, h.next_length, end) in
    rw (c.in_ok-push-3.ensures.items, c.in_ok-push-4.ensures.items, c.in_ok-vec.ensures.items)
    (whole-entries (0 ∷ []) 1 0 (next ++ last ∷ []) (accepting ++ true ∷ []) (lit< tt) (lit< tt) (lit< tt, tt) (omega (arith, states)) (omega (arith, states, c.requires)) (omega (arith, states, entries))
    (rw states (all-push (last + 1) next last h.entries (omega arith))))
