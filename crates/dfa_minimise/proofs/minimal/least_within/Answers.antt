use Rattle.std.proofs.Common.{◌≡◌, length, get_or, arith}
use Rattle.std.proofs.lemmas.List.{length-map}
use Rattle.dfa_minimise.specs.Partitions.{members_of}
use Rattle.dfa_minimise.proofs.Quotients.{columns-quotient, distinct-quotient, fewer-columns, language-quotient, least-quotient}
use Rattle.dfa_minimise.proofs.Widths.{wide-from_reached}
use Rattle.dfa_minimise.proofs.minimal.least_within.Goals as goal

pub equivalent_states-requires : goal.equivalent_states-requires
equivalent_states-requires c = c.in_ok-reached.ensures.columns.some

pub returns-in_default-clause-ok : goal.returns-in_default-clause-ok
returns-in_default-clause-ok c = wide-from_reached c.args.dfa.now c.in_ok-reached.reached c.args.limit c.in_ok-reached.ensures.ok (rw c.in_default.is at c.in_ok-partition.ensures)

pub returns-clause-ok : goal.returns-clause-ok
returns-clause-ok c =
    let a = c.in_ok-reached.reached in
    let p = c.in-Some.partition in
    let h = rw c.in-Some.is at c.in_ok-partition.ensures in
    let r = c.in_ok-least.least in
    let is = c.in_ok-least.ensures.ok in
    let len : length (members_of p) ≡ length p.first.items = length-map p.first.items (λ f. get_or p.order.items f 0) in
    record {
      language = language-quotient a p.class.items (members_of p) h.equivalence.whole h.equivalence r is c.args.dfa.now c.in_ok-reached.ensures.ok;
      least = least-quotient a p.class.items (members_of p) h.equivalence.whole h.equivalence r is;
      order = is.in_order;
      columns = fewer-columns c.args.dfa.now a r c.in_ok-groups.groups c.in_ok-reached.ensures.columns h.equivalence.whole is.over c.in_ok-least.ensures.columns;
      distinct = distinct-quotient a p.class.items (members_of p) h.equivalence.whole h.equivalence r c.in_ok-groups.groups is c.in_ok-reached.ensures.ok.in_order c.in_ok-groups.ensures c.in_ok-least.ensures.columns;
      few = omega (arith, is.few, len, h.few);
    }

pub invariant_of-quotient : goal.invariant_of-quotient
invariant_of-quotient c =
    let a = c.in_ok-reached.reached in
    let p = c.in-Some.partition in
    let h = rw c.in-Some.is at c.in_ok-partition.ensures in
    let al = c.in_ok-groups.ensures in
    record {
      tidy = h.tidy;
      states = h.equivalence.partition.states;
      tidy_groups = al.tidy;
      columns = al.columns;
      alike = columns-quotient a p.class.items (members_of p) h.equivalence.whole h.equivalence c.in_ok-groups.groups al;
    }
