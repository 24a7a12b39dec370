use Rattle.std.proofs.Common.{[], true, ◌∙◌, rules, arith}
use Rattle.std.proofs.lemmas.List.{length-set}
use Rattle.live_monitor.proofs.Marks.{complete, contains-set, leads-one, sound-set, unmarked-set}
use Rattle.live_monitor.proofs.leading.leading_to.Goals as goal

pub loop-state-init : goal.loop-state-init
loop-state-init c = record {
  long = search rules;
  sound = λ q lq is. record { by = []; over = tt; there = is };
  contains = λ q is. is;
}

pub loop-state-preserved : goal.loop-state-preserved
loop-state-preserved c =
    let n = c.args.symbols in
    let t = c.args.table.now in
    let k = c.args.constraint.now in
    let events = c.one_of_each_class-events.result in
    let each = c.one_of_each_class-events.ensures in
    let leading = c.loop-state.leading in
    let state = c.in-Some.state in
    let inv = c.loop-state.invariant in
    let leads = leads-one n t k events c.requires.table each c.args.marked leading state c.in-Some.ensures.bound inv.sound c.in-Some.ensures.leads in
    record {
      long = length-set leading state true ∙ inv.long;
      sound = sound-set n t k events c.requires.table each c.args.marked leading state leads inv.sound;
      contains = contains-set c.args.marked leading state (omega (arith, c.in-Some.ensures.bound, c.requires.table.few_states, inv.long)) inv.contains;
    }

pub loop-state-smaller : goal.loop-state-smaller
loop-state-smaller c =
    unmarked-set c.loop-state.leading c.in-Some.state (omega (arith, c.in-Some.ensures.bound, c.requires.table.few_states, c.loop-state.invariant.long)) c.in-Some.ensures.unmarked

pub returns-clause-sound : goal.returns-clause-sound
returns-clause-sound c = c.loop-state.invariant.sound

pub returns-clause-complete : goal.returns-clause-complete
returns-clause-complete c =
    complete c.args.symbols c.args.table.now c.args.constraint.now c.one_of_each_class-events.result c.requires.table c.one_of_each_class-events.ensures c.args.marked c.loop-state.leading
    c.loop-state.invariant.contains c.in_default.ensures.none
