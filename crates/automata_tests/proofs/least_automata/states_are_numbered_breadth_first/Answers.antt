use Rattle.std.proofs.Common.{[], ◌∷◌, true, false, refl, lit<}
use Rattle.dfa_core.proofs.Runs.{whole-entries}
use Rattle.automata_tests.proofs.least_automata.states_are_numbered_breadth_first.Goals as goal

pub of-shuffled-requires : goal.of-shuffled-requires
of-shuffled-requires g c =
    rw (c.in_ok-columns.ensures.items, c.in_ok-next.ensures.items, c.in_ok-vec.ensures.items)
    (whole-entries (0 ∷ 1 ∷ []) 2 2 (2 ∷ 1 ∷ 3 ∷ 3 ∷ 2 ∷ 1 ∷ 1 ∷ 3 ∷ []) (false ∷ true ∷ false ∷ true ∷ []) (lit< tt) (lit< tt) (lit< tt, (lit< tt, tt)) (lit< tt) (lit< tt) refl
    (lit< tt, (lit< tt, (lit< tt, (lit< tt, (lit< tt, (lit< tt, (lit< tt, (lit< tt, tt)))))))))
