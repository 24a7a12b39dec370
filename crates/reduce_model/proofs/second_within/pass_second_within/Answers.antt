use Rattle.std.proofs.Common.{sym, subst, ◌∙◌, List, Bool}
use Rattle.reduce_model.proofs.SecondPasses.{left_old, standing, told-at}
use Rattle.reduce_model.proofs.SecondPassesWithin.{testing-found, testing-inside, testing-missing, testing-on, testing-past, testing-step, testing-wide}
use Rattle.reduce_model.specs.Passes.{AreKeptPrefixes}
use Rattle.reduce_model.proofs.second_within.pass_second_within.Goals as goal
use Rattle.reduce_model.proofs.second_within.pass_second_within.Goals.{then-place-wide, else-place-wide+in_ok-_witness+in-Found, else-place-wide+in_ok-_witness+in-Missing, else-place-wide+in_ok-_witness+in-TooWide}

pub test_at-requires-clause-as_many : goal.test_at-requires-clause-as_many
test_at-requires-clause-as_many c = c.loop-place.invariant.going.as_many

pub test_at-requires-clause-kept : goal.test_at-requires-clause-kept
test_at-requires-clause-kept c =
    let some = c.loop-place-test.true in
    let h = c.loop-place.invariant in
    subst (λ (marks : List Bool). AreKeptPrefixes c.args.symbols c.args.states c.args.list.now marks c.args.prefixes.now) (left_old (testing-inside some h) (testing-step some h).going) c.requires.kept

pub test_at-requires-clause-there : goal.test_at-requires-clause-there
test_at-requires-clause-there c = testing-inside c.loop-place-test.true c.loop-place.invariant

pub test_at-requires-clause-standing : goal.test_at-requires-clause-standing
test_at-requires-clause-standing c =
    let some = c.loop-place-test.true in
    let h = c.loop-place.invariant in
    standing (testing-inside some h) (testing-step some h).going

pub loop-place-preserved-then-is_kept : goal.loop-place-preserved-then-is_kept
loop-place-preserved-then-is_kept c =
    let some = c.loop-place-test.true in
    let within = testing-inside some c.loop-place.invariant in
    let h = testing-step some c.loop-place.invariant in
    let kept = sym c.is_kept.ensures ∙ c.if-is_kept.true in
    elim c.if-place-wide.branch [
      | then-place-wide w ↦ rw w.decision-is (testing-past within h kept c.args.wide c.requires.closed w.if-place-wide.true)
      | else-place-wide+in_ok-_witness+in-Found w ↦
          let sought = told-at within (rw w.in-Found.is at w.in_ok-_witness.ensures.ok) in rw w.decision-is (testing-found within h kept _ sought.0 sought.1)
      | else-place-wide+in_ok-_witness+in-Missing w ↦ let sought = told-at within (rw w.in-Missing.is at w.in_ok-_witness.ensures.ok) in rw w.decision-is (testing-missing within h kept sought.0 sought.1)
      | else-place-wide+in_ok-_witness+in-TooWide w ↦ rw w.decision-is (testing-wide within h kept w.in-TooWide.field-0 (told-at within (rw w.in-TooWide.is at w.in_ok-_witness.ensures.ok)))
    ]

pub loop-place-preserved : goal.loop-place-preserved
loop-place-preserved c =
    let some = c.loop-place-test.true in
    let h = c.loop-place.invariant in
    testing-on (testing-inside some h) (testing-step some h) (sym c.is_kept.ensures ∙ c.if-is_kept.false)
