use Rattle.std.proofs.Common.{[], ◌∷◌, true, false, refl, lit<}
use Rattle.dfa_core.proofs.Runs.{whole-entries}
use Rattle.dfa_core.proofs.tests.first_trace_is_shortest.Goals as goal

pub of-dfa-requires : goal.of-dfa-requires
of-dfa-requires g c =
    rw (c.in_ok-columns.ensures.items, c.in_ok-next.ensures.items, c.in_ok-vec.ensures.items)
    (whole-entries (1 ∷ 0 ∷ []) 2 0 (2 ∷ 1 ∷ 2 ∷ 2 ∷ 2 ∷ 2 ∷ []) (false ∷ false ∷ true ∷ []) (lit< tt) (lit< tt) (lit< tt, (lit< tt, tt)) (lit< tt) (lit< tt) refl
    (lit< tt, (lit< tt, (lit< tt, (lit< tt, (lit< tt, (lit< tt, tt)))))))
