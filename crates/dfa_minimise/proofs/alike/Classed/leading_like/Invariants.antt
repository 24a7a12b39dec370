use Rattle.std.proofs.Common.{◌≡◌, ◌<◌, ℕ, ◌&&◌, ltb, eqb, length, get_or}
use Rattle.dfa_minimise.specs.Classes.{class_after}
use Rattle.dfa_minimise.specs.Partitions.{is_in}
use Rattle.dfa_minimise.proofs.alike.Classed.leading_like.Given as goal

abbrev pub invariant-loop-other : goal.invariant-loop-other
invariant-loop-other l = record {
  bound : (i : ℕ) → i < length l.columns.items → get_or l.columns.items i 0 < l.other;
  are : (k : ℕ) → is_in l.columns.items k ≡ (ltb k l.other && eqb (class_after l.self.dfa.now l.self.classes.now.class.items l.fn.state k) l.class);
}
