use Rattle.std.proofs.Common.{◌≡◌, ◌<◌, ◌≤◌, length, get_or, refl, arith}
use Rattle.std.proofs.lemmas.List.{length-map}
use Rattle.dfa_core.specs.Automaton.{state_count}
use Rattle.dfa_minimise.specs.Classes.{class_after}
use Rattle.dfa_minimise.specs.Partitions.{IsCut, members_of}
use Rattle.dfa_minimise.proofs.Groups.{alike-all, alike-alone, grouped-split, more-groups}
use Rattle.dfa_minimise.proofs.Marking.{classes_few}
use Rattle.dfa_minimise.proofs.Progress.{AreGroupedBelow}
use Rattle.dfa_minimise.proofs.alike.alike_columns.Goals as goal
use Rattle.dfa_minimise.proofs.alike.alike_columns.Goals.{In_ok-split-in-Some, then-classes-test+else-count-columns, else-classes-test}

-- A split keeps what is known, and makes a group more.
split : (c : In_ok-split-in-Some) → AreGroupedBelow c.args.dfa.now c.args.classes.now.class.items (members_of c.args.classes.now) c.split.new.self c.classes.class
    × (length c.classes.groups.first.items < length c.split.new.self.first.items) × (length c.split.new.self.first.items ≤ c.args.dfa.now.width)
split c =
    let a = c.args.dfa.now in
    let class = c.args.classes.now.class.items in
    let old = c.classes.groups in
    let new = c.split.new.self in
    let q = c.member_of-state.result in
    let k = c.in-Some.column in
    let h = c.classes.invariant in
    let s = c.in_ok-split-in-Some.ensures in
    let alike = c.in_ok-alike-in-Some.alike.items in
    let known : length old.class.items ≡ a.width = h.columns (omega (arith, c.if-count-columns.true, c.columns-in-classes.ensures.value)) in
    let cut : IsCut (length old.class.items) (length old.first.items) alike old.class.items new.class.items = rw c.deref.ensures.value at s.cut in
    let lq : q < state_count a = omega (arith, c.member_of-state.ensures.bound, c.requires.equivalence.partition.states) in
    let few = classes_few _ _ _ _ _ _ s.tidy.refinable in (
      grouped-split a class old new q (class_after a class q k) alike lq c.in_ok-alike-in-Some.ensures s.tidy known s.states cut (members_of c.args.classes.now) c.classes.class h,
      more-groups a class old new q (class_after a class q k) alike lq c.in_ok-alike-in-Some.ensures s.tidy known s.states cut k h.tidy c.in-Some.ensures refl,
      omega (arith, few, known, s.states),
    )

pub classes-smaller-in-Some : goal.classes-smaller-in-Some
classes-smaller-in-Some c = let s = split (goal.at.classes-smaller-in-Some c).In_ok-split-in-Some in omega (arith, s.1, s.2)

pub classes-preserved-in-Some : goal.classes-preserved-in-Some
classes-preserved-in-Some c = let s = split (goal.at.classes-preserved-in-Some c).In_ok-split-in-Some in s.0

pub returns : goal.returns
returns c =
    let a = c.args.dfa.now in
    let p = c.args.classes.now in
    let groups = c.classes.groups in
    let len : length (members_of p) ≡ length p.first.items = length-map p.first.items (λ f. get_or p.order.items f 0) in
    elim c.classes-test.branch [
      | then-classes-test+else-count-columns w ↦
          alike-alone a p.class.items (members_of p) groups c.classes.class (omega (arith, w.if-count-columns.false, w.count-in-classes.ensures, w.columns-in-classes.ensures.value)) c.classes.invariant
      | else-classes-test w ↦ alike-all a p.class.items (members_of p) groups c.classes.class c.requires.equivalence (omega (arith, len, w.classes-test.false, c.count.ensures)) c.classes.invariant
    ]
