use Rattle.std.proofs.Common.{◌≡◌, ◌+◌, ◌-◌, ◌<◌, true, false, get_or, length, sym, ap, subst, ◌∙◌, not, arith, ⊎_elim}
use Rattle.std.proofs.lemmas.Bool.{cases_lt}
use Rattle.std.proofs.lemmas.List.Sums.{count_by_more_no, count_by_more_yes}
use Rattle.trace_check.specs.Standing.{IsFirstFailing}
use Rattle.trace_check.specs.declared.side.Side.{Side}
use Rattle.trace_check.proofs.Failing.{first-passed, first-new, first-kept}
use Rattle.trace_check.proofs.side.side_of.Goals as goal
use Rattle.trace_check.proofs.side.side_of.Goals.{then-has_demanded, else-has_demanded+then-is_none, else-has_demanded+else-is_none}

pub loop-i-preserved : goal.loop-i-preserved
loop-i-preserved c =
    let own = c.args.own.now in
    let i = c.loop-i.i in
    let inside : i < length own = c.loop-i-test.true in
    let next : 0 < c.places_before-passed.result → i + 1 < length own → get_or c.args.other.now (c.places_before-passed.result - 1) 0 < get_or own (i + 1) 0 =
    λ some more.
    let up = c.requires.ascends i (i + 1) 0 (omega arith) more in
    ⊎_elim (λ lt. omega (arith, c.places_before-passed.ensures.before lt, up))
    (λ ge.
    omega (
      arith,
      c.loop-i.invariant.before (omega (arith, ge)) inside,
      ap (λ n. get_or c.args.other.now (n - 1) 0) {x = c.places_before-passed.result} {y = c.loop-i.passed} (omega (arith, ge, c.places_before-passed.ensures.least)),
      up,
    ))
    (cases_lt c.loop-i.passed c.places_before-passed.result) in
    elim c.if-has_demanded.branch [
      | then-has_demanded w ↦ record {
        fulfilled = λ test is.
            let passes : test (get_or own i 0) ≡ true = sym (c.has_demanded.ensures test is) ∙ w.if-has_demanded.true in
            omega (arith, ap (λ (s : Side). s.fulfilled) w.side-is, c.loop-i.invariant.fulfilled test is, count_by_more_yes test own i 0 inside passes);
        broken = λ test is.
            let passes : test (get_or own i 0) ≡ true = sym (c.has_demanded.ensures test is) ∙ w.if-has_demanded.true in
            subst (λ (s : Side). IsFirstFailing test own (i + 1) s.broken) (sym w.side-is) (first-passed test own i c.loop-i.side.broken passes (c.loop-i.invariant.broken test is));
        activated = ap (λ (s : Side). s.activated) w.side-is ∙ c.loop-i.invariant.activated;
        within = omega (arith, ap (λ (s : Side). s.fulfilled) w.side-is, c.loop-i.invariant.within);
        most = c.places_before-passed.ensures.most;
        before = next;
      }
      | else-has_demanded+then-is_none w ↦ record {
        fulfilled = λ test is.
            let fails : test (get_or own i 0) ≡ false = sym (c.has_demanded.ensures test is) ∙ w.if-has_demanded.false in
            omega (arith, ap (λ (s : Side). s.fulfilled) w.side-is, c.loop-i.invariant.fulfilled test is, count_by_more_no test own i 0 inside fails);
        broken = λ test is.
            let fails : test (get_or own i 0) ≡ false = sym (c.has_demanded.ensures test is) ∙ w.if-has_demanded.false in
            subst (λ (s : Side). IsFirstFailing test own (i + 1) s.broken) (sym w.side-is) (first-new test own i c.loop-i.side.broken (w.is_none.ensures ∙ ap not w.if-is_none.true) fails (c.loop-i.invariant.broken test is));
        activated = ap (λ (s : Side). s.activated) w.side-is ∙ c.loop-i.invariant.activated;
        within = omega (arith, ap (λ (s : Side). s.fulfilled) w.side-is, c.loop-i.invariant.within);
        most = c.places_before-passed.ensures.most;
        before = next;
      }
      | else-has_demanded+else-is_none w ↦ record {
        fulfilled = λ test is.
            let fails : test (get_or own i 0) ≡ false = sym (c.has_demanded.ensures test is) ∙ w.if-has_demanded.false in
            omega (arith, ap (λ (s : Side). s.fulfilled) w.side-is, c.loop-i.invariant.fulfilled test is, count_by_more_no test own i 0 inside fails);
        broken = λ test is.
            let fails : test (get_or own i 0) ≡ false = sym (c.has_demanded.ensures test is) ∙ w.if-has_demanded.false in
            subst (λ (s : Side). IsFirstFailing test own (i + 1) s.broken) (sym w.side-is) (first-kept test own i c.loop-i.side.broken (w.is_none.ensures ∙ ap not w.if-is_none.false) (c.loop-i.invariant.broken test is));
        activated = ap (λ (s : Side). s.activated) w.side-is ∙ c.loop-i.invariant.activated;
        within = omega (arith, ap (λ (s : Side). s.fulfilled) w.side-is, c.loop-i.invariant.within);
        most = c.places_before-passed.ensures.most;
        before = next;
      }
    ]

pub returns-clause-broken : goal.returns-clause-broken
returns-clause-broken c = λ test is. subst (λ n. IsFirstFailing test c.args.own.now n c.loop-i.side.broken) {x = c.loop-i.i} {y = length c.args.own.now} (omega arith) (c.loop-i.invariant.broken test is)
