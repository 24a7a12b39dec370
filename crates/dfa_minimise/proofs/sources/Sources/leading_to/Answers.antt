use Rattle.std.proofs.Common.{◌≡◌, ◌+◌, ◌||◌, Bool, inl, inr, eqb, length, get_or, take, refl, ap, ◌∙◌, arith}
use Rattle.std.proofs.lemmas.List.{length_push}
use Rattle.dfa_core.specs.Automaton.{state_count, step_column}
use Rattle.dfa_core.proofs.Places.{pushed}
use Rattle.dfa_minimise.proofs.Progress.{after}
use Rattle.dfa_minimise.specs.Partitions.{is_in}
use Rattle.dfa_minimise.proofs.Splitting.{is_in-push}
use Rattle.dfa_minimise.proofs.Walking.{walk-none, walk-more, leads-greatest, reads-before, reads-greatest, after_le}
use Rattle.dfa_minimise.proofs.sources.Sources.leading_to.Goals as goal

pub sources-init : goal.sources-init
sources-init c =
    let a = c.args.self.now.dfa.now in
    let x = c.args.column in
    let t = get_or c.args.targets.now c.targets.target-index 0 in
    let lt = c.requires.targets c.targets.target-index c.targets-test.true in
    let gr = reads-greatest a c.args.self.now.last.items x t t (state_count a) c.states.result c.index-next.result.now c.requires.sources.last_length c.states.ensures.value c.requires.column lt c.index-next.ensures
    (c.requires.sources.last_of x t c.requires.column lt) in
    record {
      bound = c.targets.invariant.bound;
      leads = leads-greatest a x t (state_count a) c.index-next.result.now gr (omega arith);
      are = λ q lq. c.targets.invariant.are q lq ∙ walk-none a x t c.index-next.result.now (is_in (take c.targets.target-index c.args.targets.now) (step_column a q x)) q gr lq;
    }

pub sources-smaller : goal.sources-smaller
sources-smaller c =
    let a = c.args.self.now.dfa.now in
    let x = c.args.column in
    let t = get_or c.args.targets.now c.targets.target-index 0 in
    let s = c.in-Some.state in
    let leads = rw c.in-Some.is at c.sources.invariant.leads in
    let gr = reads-before a c.args.self.now.last.items c.args.self.now.before.items x s t c.states.result c.index-next-in-Some.result.now c.requires.sources c.states.ensures.value c.requires.column leads.0 leads.1 c.index-next-in-Some.ensures in
    let le = after_le a x t s c.index-next-in-Some.result.now gr in
    let was : after c.sources.next ≡ s + 1 = ap after c.in-Some.is in
    omega (arith, le, was)

pub sources-preserved : goal.sources-preserved
sources-preserved c =
    let a = c.args.self.now.dfa.now in
    let x = c.args.column in
    let t = get_or c.args.targets.now c.targets.target-index 0 in
    let s = c.in-Some.state in
    let sources = c.sources.sources.items in
    let leads = rw c.in-Some.is at c.sources.invariant.leads in
    let gr = reads-before a c.args.self.now.last.items c.args.self.now.before.items x s t c.states.result c.index-next-in-Some.result.now c.requires.sources c.states.ensures.value c.requires.column leads.0 leads.1 c.index-next-in-Some.ensures in
    let grow = length_push sources s in
    record {
      bound = rw c.in_ok-push.ensures.items (λ k l. elim (pushed sources s 0 k (length sources) refl (omega arith)) [ inl p ↦ rw p.1 (c.sources.invariant.bound k p.0) | inr p ↦ rw p.1 leads.0 ]);
      leads = leads-greatest a x t s c.index-next-in-Some.result.now gr (omega (arith, leads.0));
      are = λ q lq.
          let old = rw c.in-Some.is at (c.sources.invariant.are q lq) in
          let taken = is_in (take c.targets.target-index c.args.targets.now) (step_column a q x) in
          rw c.in_ok-push.ensures.items (is_in-push sources s q ∙ (ap (λ (z : Bool). z || eqb s q) old ∙ walk-more a x t s c.index-next-in-Some.result.now taken q leads.1 gr));
    }
