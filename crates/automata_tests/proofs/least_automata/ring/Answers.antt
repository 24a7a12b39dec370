use Rattle.std.proofs.Common.{[], ◌∷◌, replicate, refl, lit<}
use Rattle.dfa_core.proofs.Runs.{whole-entries}
use Rattle.automata_tests.proofs.least_automata.ring.Goals as goal

pub of-requires : goal.of-requires
of-requires c =
    rw (c.in_ok-next.ensures.items, c.in_ok-vec.ensures.items, c.in_ok-vec-2.ensures.items_if_clones_equal (λ y e. e))
    (whole-entries (0 ∷ []) 1 3 (1 ∷ 2 ∷ 3 ∷ 4 ∷ 5 ∷ 6 ∷ 0 ∷ []) (replicate 7 c.args.accepts) (lit< tt) (lit< tt) (lit< tt, tt) (lit< tt) (lit< tt) refl
    (lit< tt, (lit< tt, (lit< tt, (lit< tt, (lit< tt, (lit< tt, (lit< tt, tt))))))))
