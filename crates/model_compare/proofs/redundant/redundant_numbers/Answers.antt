use Rattle.std.proofs.Common.{◌≡◌, length, subst, arith}
use Rattle.model_compare.specs.Unused.{IsTold}
use Rattle.model_compare.proofs.Implied.{told-all, told-more, told-skip}
use Rattle.model_compare.proofs.redundant.redundant_numbers.Goals.{then-branch+in_ok-push, else-branch}
use Rattle.model_compare.proofs.redundant.redundant_numbers.Goals as goal

pub loop-place-preserved : goal.loop-place-preserved
loop-place-preserved c =
    let n = c.args.symbols in
    let s = c.args.states in
    let list = c.args.list.now in
    let place = c.loop-place.place in
    let numbers = c.loop-place.redundant.items in
    let told = c.in_ok-is_implied.ensures.ok in
    elim c.if-branch.branch [
      | then-branch+in_ok-push w ↦
          rw (w.redundant-is, w.in_ok-push.ensures.items) (told-more n s list place numbers c.loop-place.invariant c.loop-place-test.true (subst (IsTold n s list place) w.if-branch.true told))
      | else-branch w ↦ rw w.redundant-is (told-skip n s list place numbers c.loop-place.invariant (subst (IsTold n s list place) w.if-branch.false told))
    ]

pub returns-clause-ok : goal.returns-clause-ok
returns-clause-ok c =
    let list = c.args.list.now in
    let place = c.loop-place.place in
    let ge = c.loop-place-test.false in
    let le = c.loop-place.auto.place-end in
    let all : place ≡ length list = omega (arith, ge, le) in told-all c.args.symbols c.args.states list place c.loop-place.redundant.items all c.loop-place.invariant
