use Rattle.std.proofs.Common.{◌≡◌, ◌<◌, ◌≤◌, length, arith, rules, sym, subst, length-drop, ℕ}
use Rattle.decl_outside.specs.Held.{held_bytes}
use Rattle.decl_outside.proofs.Lining.{found_line-between, last_line-between, line_length-within}
use Rattle.decl_outside.proofs.find.take_line.Goals as goal

pub returns-then-end-rest-clause-line : goal.returns-then-end-rest-clause-line
returns-then-end-rest-clause-line g c =
    let held = c.fill.new.held in
    let inside : c.in_ok-end.end < length (held_bytes held) = subst (λ l. c.in_ok-end.end < length l) c.rest.ensures c.if-end-rest.true in
    found_line-between c.args.limit c.in_ok-end.end held.bytes.items held.start (g.I.Inputs.state c.fill.new.inputs).left _ c.in_ok-end.ensures.rest c.in_ok-end.ensures.end c.in_ok-end.ensures.within
    c.text_length.result inside (search rules) (search rules)

-- no line feed is held: the rest is the last line
all_held : (end count : ℕ) → end ≤ count → count ≤ end → end ≡ count
all_held end count h k = omega arith

pub overflow_add-held-2 : goal.overflow_add-held-2
overflow_add-held-2 g c =
    let held = c.fill.new.held in
    let within : c.in_ok-end.end ≤ length (held_bytes held) = subst (λ n. n ≤ length (held_bytes held)) (sym c.in_ok-end.ensures.end) (line_length-within (held_bytes held)) in
    let start : held.start ≤ length held.bytes.items = search rules in
    omega (arith, within, length-drop held.start held.bytes.items, held.bytes.ok.0, held.bytes.ok.1)

pub invariant_of-held-2 : goal.invariant_of-held-2
invariant_of-held-2 g c =
    let held = c.fill.new.held in
    let within : c.in_ok-end.end ≤ length (held_bytes held) = subst (λ n. n ≤ length (held_bytes held)) (sym c.in_ok-end.ensures.end) (line_length-within (held_bytes held)) in
    let start : held.start ≤ length held.bytes.items = search rules in
    record { within = omega (arith, within, length-drop held.start held.bytes.items, held.bytes.ok.0) }

pub returns-clause-line : goal.returns-clause-line
returns-clause-line g c =
    let held = c.fill.new.held in
    let within : c.in_ok-end.end ≤ length (held_bytes held) = subst (λ n. n ≤ length (held_bytes held)) (sym c.in_ok-end.ensures.end) (line_length-within (held_bytes held)) in
    let all : c.in_ok-end.end ≡ length (held_bytes held) = all_held _ _ within (subst (λ l. length l ≤ c.in_ok-end.end) c.rest.ensures c.if-end-rest.false) in
    last_line-between c.args.limit c.in_ok-end.end held.bytes.items held.start (g.I.Inputs.state c.fill.new.inputs).left _ c.in_ok-end.ensures.rest c.in_ok-end.ensures.end c.in_ok-end.ensures.within
    all (c.in_ok-end.ensures.whole all) (omega arith)
