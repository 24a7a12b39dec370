use Rattle.std.proofs.Common.{◌≡◌, ◌<◌, ℕ, length, get_or, ◌∙◌, subst, arith}
use Rattle.dfa_core.specs.Automaton.{state_count}
use Rattle.dfa_minimise.specs.Partitions.{IsCut, IsPartition, members_of}
use Rattle.dfa_minimise.specs.Classes.{AreInClass, LeadTo}
use Rattle.dfa_minimise.proofs.Marking.{classes_few}
use Rattle.dfa_minimise.proofs.Wholes.{many-apart, partition-tidy}
use Rattle.dfa_minimise.proofs.Refining.{sound-accepting, split-more, split-all}
use Rattle.dfa_minimise.proofs.worklist.equivalent_states.Goals as goal

pub splitters-init : goal.splitters-init
splitters-init c =
    let a = c.args.dfa.now in
    let old = c.in_ok-classes.classes in
    let new = c.split.new.self in
    let n : length old.class.items ≡ state_count a = c.in_ok-classes.ensures.states ∙ c.states.ensures.value in
    let cut : IsCut (state_count a) (length old.first.items) c.in_ok-accepting.accepting.items old.class.items new.class.items = rw (n, c.deref.ensures.value) at c.in_ok-split.ensures.cut in
    record {
      tidy = c.in_ok-split.ensures.tidy;
      states = c.in_ok-split.ensures.states ∙ n;
      sound = sound-accepting a (length old.first.items) c.in_ok-accepting.accepting.items old.class.items new.class.items c.in_ok-classes.ensures.one c.in_ok-accepting.ensures cut;
      stable = record { stable = λ q r x lq lr lx e mq mr. absurd (omega arith) };
      within = omega arith;
    }

pub columns-preserved : goal.columns-preserved
columns-preserved c =
    let a = c.args.dfa.now in
    let was = c.splitters.classes in
    let old = c.columns.classes in
    let new = c.split-in-columns.new.self in
    let h = c.columns.invariant in
    let x = c.columns.column in
    let inside = c.in_ok-inside.inside.items in
    let touched = c.in_ok-touched.touched.items in
    let lx : x < a.width = omega (arith, c.columns-test.true, c.columns-column-end.ensures.value) in
    let low : c.splitters.splitter < length was.first.items = omega (arith, c.splitters-test.true, c.count.ensures) in
    let cut : IsCut (state_count a) (length old.first.items) touched old.class.items new.class.items = rw (h.states, c.deref-in-columns-2.ensures.value) at c.in_ok-split-2.ensures.cut in
    let ins : AreInClass (state_count a) c.splitters.splitter was.class.items inside = rw c.splitters.invariant.states at c.in_ok-inside.ensures in
    let to : LeadTo a x inside touched = rw (c.in_ok-sources.ensures.dfa, c.deref-in-columns.ensures.value) at c.in_ok-touched.ensures in
    record {
      tidy = c.in_ok-split-2.ensures.tidy;
      states = c.in_ok-split-2.ensures.states ∙ h.states;
      grows = omega (arith, h.grows, c.in_ok-split-2.ensures.grows);
      split = split-more a (length was.first.items) (length old.first.items) c.splitters.splitter x inside touched was.class.items old.class.items new.class.items c.states.ensures.whole lx h.grows low ins.are c.requires to cut h.split;
    }

pub splitters-smaller : goal.splitters-smaller
splitters-smaller c =
    let le = classes_few _ _ _ _ _ _ c.splitters.invariant.tidy.refinable in
    omega (arith, le, c.splitters.invariant.states, c.splitters-test.true, c.count.ensures)

pub splitters-preserved : goal.splitters-preserved
splitters-preserved c =
    let a = c.args.dfa.now in
    let was = c.splitters.classes in
    let h = c.columns.invariant in
    let low : c.splitters.splitter < length was.first.items = omega (arith, c.splitters-test.true, c.count.ensures) in
    let all : c.columns.column ≡ a.width = omega (arith, c.columns-test.false, c.columns-column-end.ensures.value, c.columns.auto.column-end) in
    let s = rw all at h.split in
    record {
      tidy = h.tidy;
      states = h.states;
      sound = s.sound;
      stable = split-all a (length was.first.items) c.splitters.splitter was.class.items c.columns.classes.class.items c.states.ensures.whole low s;
      within = omega (arith, h.grows, low);
    }

-- more classes than are wanted, before another split and in the end
pub returns-then-count-most : goal.returns-then-count-most
returns-then-count-most c =
    let h = c.columns.invariant in
    many-apart c.args.dfa.now c.args.most c.columns.classes h.tidy h.states h.split.sound (omega (arith, c.if-count-most.true, c.count-in-columns.ensures))

pub returns-then-count-most-2 : goal.returns-then-count-most-2
returns-then-count-most-2 c =
    let h = c.splitters.invariant in
    many-apart c.args.dfa.now c.args.most c.splitters.classes h.tidy h.states h.sound (omega (arith, c.if-count-most-2.true, c.count-2.ensures))

pub returns : goal.returns
returns c =
    let a = c.args.dfa.now in
    let p = c.splitters.classes in
    let h = c.splitters.invariant in
    let whole = c.states.ensures.whole in
    let P : ℕ → Type 0 = λ n. IsPartition n p.class.items (members_of p) in
    let bound : (q : ℕ) → q < state_count a → get_or p.class.items q 0 < c.splitters.splitter = λ q lq.
    let b = h.tidy.refinable.class_bound q (omega (arith, h.states, lq)) in omega (arith, b, c.splitters-test.false, c.count.ensures) in
    record {
      tidy = h.tidy;
      equivalence = record {
        whole = whole;
        partition = subst P h.states (partition-tidy p h.tidy);
        sound = h.sound;
        stable = λ q r x lq lr lx e. h.stable.stable q r x lq lr lx e (bound _ (whole.entry_bound q x lq lx)) (bound _ (whole.entry_bound r x lr lx));
      };
      few = omega (arith, c.if-count-most-2.false, c.count-2.ensures);
    }
