use Rattle.std.proofs.Common.{◌<◌, inl, inr, [], false, refl, slice_index_or, ◌∙◌, sym, subst, arith}
use Rattle.std.proofs.lemmas.Bool.{cases_eq}
use Rattle.std.proofs.lemmas.List.{get_or-set_other, get_or-set_same, length-set}
use Rattle.live_monitor.specs.Standing.{IsStanding}
use Rattle.live_monitor.specs.Watching.{TableAcceptsFrom}
use Rattle.live_monitor.specs.declared.standing.Standing.TheVariants.{Kept}
use Rattle.live_monitor.proofs.Standings.{standing-marked}
use Rattle.live_monitor.proofs.watched.standings_of.Goals as goal

pub loop-state-preserved : goal.loop-state-preserved
loop-state-preserved c =
    let i = c.loop-state.state in
    let xs = c.loop-state.standings in
    let value = c.standing.result in
    record {
      long = length-set xs i value ∙ c.loop-state.invariant.long;
      are = λ q lq. elim (cases_eq q i) [
        | inl e ↦ rw e (get_or-set_same xs i value Kept (omega (arith, c.loop-state.invariant.long, c.loop-state-test.true)) ∙ c.standing.ensures)
        | inr ne ↦ get_or-set_other xs i q value Kept ne ∙ c.loop-state.invariant.are q (omega (arith, lq, ne))
      ];
    }

pub returns : goal.returns
returns c = λ q lq.
    let t = c.args.table.now in
    let k = c.args.constraint.now in
    let below : q < c.loop-state.state = omega (arith, lq, c.requires.table.few_states, c.loop-state-test.false) in
    subst (IsStanding c.args.symbols (TableAcceptsFrom t k q) []) (sym (c.loop-state.invariant.are q below))
    (standing-marked c.args.symbols t k c.rejecting.result c.requires.table c.rejecting.ensures q
    (slice_index_or t.accepting q false) (slice_index_or c.leading_to-may_keep.result q false) (slice_index_or c.leading_to-may_break.result q false) lq refl
    (c.leading_to-may_keep.ensures.sound q lq) (λ w over. c.leading_to-may_keep.ensures.complete q w lq over)
    (c.leading_to-may_break.ensures.sound q lq) (λ w over. c.leading_to-may_break.ensures.complete q w lq over))
