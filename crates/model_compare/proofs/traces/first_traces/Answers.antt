use Rattle.std.proofs.Common.{ℕ, ◌+◌, ◌-◌, length, ap, ◌∙◌, arith}
use Rattle.std.specs.List.{slice_get}
use Rattle.std.proofs.lemmas.List.{length_push}
use Rattle.dfa_core.specs.Automaton.{Accepts}
use Rattle.dfa_core.specs.Languages.{HasNoMember, IsLeastMember}
use Rattle.model_compare.specs.Unused.{IsPast}
use Rattle.model_compare.proofs.Firsts.{so_far-end, so_far-more}
use Rattle.model_compare.proofs.traces.first_traces.Goals as goal

pub returns-in_default-clause-ok : goal.returns-in_default-clause-ok
returns-in_default-clause-ok c =
    let a = c.args.dfa.now in
    let traces = c.loop.traces.items in
    let counted = c.loop.invariant.counted in
    let inside = c.loop-test.true in
    let none : HasNoMember a.symbols (λ w. Accepts a w × IsPast (slice_get traces (length traces - 1)) w) = rw (c.in_default.is, c.deref.ensures.value) at c.in_ok-trace.ensures.ok in
    so_far-end a.symbols (Accepts a) traces c.loop.invariant.so_far c.args.count none (omega (arith, counted, inside))

pub loop-preserved : goal.loop-preserved
loop-preserved c =
    let a = c.args.dfa.now in
    let traces = c.loop.traces.items in
    let trace = c.in-Some.trace in
    let least : IsLeastMember a.symbols (λ w. Accepts a w × IsPast (slice_get traces (length traces - 1)) w) trace = rw (c.in-Some.is, c.deref.ensures.value) at c.in_ok-trace.ensures.ok in
    rw c.in_ok-push.ensures.items (record {
      so_far = so_far-more a.symbols (Accepts a) traces c.loop.invariant.so_far trace least;
      counted = length_push traces trace ∙ ap (λ (k : ℕ). k + 1) c.loop.invariant.counted;
    })
