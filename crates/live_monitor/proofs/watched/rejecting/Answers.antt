use Rattle.std.proofs.Common.{inl, inr, false, not, slice_index_or, ◌∙◌, arith}
use Rattle.std.proofs.lemmas.Bool.{cases_eq}
use Rattle.std.proofs.lemmas.List.{get_or-set_other, get_or-set_same, length-set}
use Rattle.live_monitor.proofs.watched.rejecting.Goals as goal

pub loop-state-preserved : goal.loop-state-preserved
loop-state-preserved c =
    let i = c.loop-state.state in
    let xs = c.loop-state.rejecting in
    let value = not (slice_index_or c.args.table.now.accepting i false) in
    record {
      long = length-set xs i value ∙ c.loop-state.invariant.long;
      are = λ q lq. elim (cases_eq q i) [
        | inl e ↦ rw e (get_or-set_same xs i value false (omega (arith, c.loop-state.invariant.long, c.loop-state-test.true)))
        | inr ne ↦ get_or-set_other xs i q value false ne ∙ c.loop-state.invariant.are q (omega (arith, lq, ne))
      ];
    }
