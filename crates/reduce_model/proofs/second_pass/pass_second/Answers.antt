use Rattle.std.proofs.Common.{refl, reverse, sym, subst, ◌∙◌, List, Bool}
use Rattle.reduce_model.proofs.SecondPasses.{back-end, back-found, back-missing, back-on, back-refused, back-step, back-within, found-more, found-on, found-step, kept-again, left_old, standing, told-at}
use Rattle.reduce_model.specs.Passes.{AreKeptPrefixes}
use Rattle.reduce_model.proofs.second_pass.pass_second.Goals as goal
use Rattle.reduce_model.proofs.second_pass.pass_second.Goals.{in-Found+in_ok-push-in-Found, in-Missing}

pub test_at-requires-clause-as_many : goal.test_at-requires-clause-as_many
test_at-requires-clause-as_many c = c.loop-place.invariant.passing.going.as_many

pub test_at-requires-clause-kept : goal.test_at-requires-clause-kept
test_at-requires-clause-kept c =
    let some = c.loop-place-test.true in
    let h = c.loop-place.invariant.passing in
    subst (λ (marks : List Bool). AreKeptPrefixes c.args.symbols c.args.states c.args.list.now marks c.args.prefixes.now) (left_old (back-within some h) (back-step some h).going) c.requires.kept

pub test_at-requires-clause-there : goal.test_at-requires-clause-there
test_at-requires-clause-there c = back-within c.loop-place-test.true c.loop-place.invariant.passing

pub test_at-requires-clause-standing : goal.test_at-requires-clause-standing
test_at-requires-clause-standing c =
    let some = c.loop-place-test.true in
    let h = c.loop-place.invariant.passing in
    standing (back-within some h) (back-step some h).going

pub returns-in-TooWide-clause-err : goal.returns-in-TooWide-clause-err
returns-in-TooWide-clause-err c =
    let some = c.loop-place-test.true in
    let within = back-within some c.loop-place.invariant.passing in
    let passing = back-step some c.loop-place.invariant.passing in
    let kept = sym c.is_kept.ensures ∙ c.if-is_kept.true in
    back-refused within passing.going kept passing c.in-TooWide.built (told-at within (rw c.in-TooWide.is at c.in_ok-sought.ensures.ok))

pub loop-place-preserved-then-is_kept : goal.loop-place-preserved-then-is_kept
loop-place-preserved-then-is_kept c =
    let some = c.loop-place-test.true in
    let within = back-within some c.loop-place.invariant.passing in
    let passing = back-step some c.loop-place.invariant.passing in
    let kept = sym c.is_kept.ensures ∙ c.if-is_kept.true in
    elim c.match-sought.branch [
      | in-Found+in_ok-push-in-Found w ↦
          let sought = told-at within (rw w.in-Found.is at c.in_ok-sought.ensures.ok) in
          rw (w.decisions-is, kept-again within passing.going kept, w.found-is, w.in_ok-push-in-Found.ensures.items) (record {
            passing = back-found within passing.going kept passing w.in-Found.witness sought.0 sought.1;
            witnesses = found-more within passing.going kept c.loop-place.found.items w.in-Found.witness sought.0 sought.1 (found-step some c.loop-place.invariant.witnesses);
          })
      | in-Missing w ↦
          let sought = told-at within (rw w.in-Missing.is at c.in_ok-sought.ensures.ok) in
          rw (w.decisions-is, w.found-is, w.clear.ensures.items) (record {
            passing = back-missing within passing.going kept passing sought.0 sought.1;
            witnesses = record { witnesses = tt; first = refl };
          })
    ]

pub loop-place-preserved : goal.loop-place-preserved
loop-place-preserved c =
    let some = c.loop-place-test.true in
    let within = back-within some c.loop-place.invariant.passing in
    let passing = back-step some c.loop-place.invariant.passing in
    let lacks = sym c.is_kept.ensures ∙ c.if-is_kept.false in
    record {
      passing = back-on within passing.going passing lacks;
      witnesses = found-on within passing.going (reverse c.loop-place.found.items) lacks (found-step some c.loop-place.invariant.witnesses);
    }

pub returns-clause-ok : goal.returns-clause-ok
returns-clause-ok c = back-end c.loop-place-test.false c.loop-place.invariant.passing
