use Rattle.std.proofs.Common.{◌≡◌, ◌+◌, map, drop, get_or, refl, sym, ◌∙◌, inl, inr, true, arith}
use Rattle.std.proofs.lemmas.List.{take_rest}
use Rattle.std.proofs.lemmas.List.Elements.{All-drop}
use Rattle.template_core.specs.Constraints.{IsWellMadeFor}
use Rattle.reduce_model.proofs.SecondPasses.{all-marked}
use Rattle.reduce_model.proofs.WitnessesWithin.{kept-or-untested, start-length, start-small, step-breakable, step-closed, step-found, step-short, step-skip, step-untested, witnessing-end, witnessing-none}
use Rattle.reduce_model.specs.Deciding.{is_kept}
use Rattle.reduce_model.specs.declared.decision.Decision.TheVariants.{Kept}
use Rattle.reduce_model.proofs.witnesses_within.witnesses_within.Goals as goal
use Rattle.reduce_model.proofs.witnesses_within.witnesses_within.Goals.{in-Kept+in_ok-push_kept+in_ok-witness, in-Some+in_ok-push-in-Some, in-None, in_default, then-is_kept+in_ok-before, else-is_kept}

pub loop-place-init : goal.loop-place-init
loop-place-init c =
    witnessing-none c.args.symbols c.args.states c.args.list.now c.args.decisions.now c.new-told.result.items c.in_ok-empty.field-0 c.new-witnesses.result.items c.requires.asked.some_states c.requires.tested
    c.new-told.ensures.items c.new-witnesses.ensures.items c.in_ok-empty.ensures.ok

pub witness_of-requires-clause-made : goal.witness_of-requires-clause-made
witness_of-requires-clause-made c =
    let list = c.args.list.now in
    let at = c.loop-place.place in
    let made = all-marked (IsWellMadeFor c.args.symbols) (map is_kept (drop (at + 1) c.args.decisions.now)) (drop (at + 1) list) (All-drop (IsWellMadeFor c.args.symbols) (at + 1) list c.requires.asked.made) in
    rw (c.deref.ensures.value, c.in_ok-push_kept.ensures, c.new-after.ensures.items, take_rest list (at + 1), take_rest c.args.decisions.now (at + 1)) made

pub witness_of-requires-clause-few : goal.witness_of-requires-clause-few
witness_of-requires-clause-few c = start-small c.args.symbols c.args.states c.loop-place.invariant.kept c.loop-place.before c.loop-place.invariant.start

pub witness_of-requires-clause-short : goal.witness_of-requires-clause-short
witness_of-requires-clause-short c =
    let list = c.args.list.now in
    let old = c.args.decisions.now in
    let at = c.loop-place.place in
    let short = step-short c.args.symbols c.args.states list old c.loop-place.told.items at c.loop-place.before c.loop-place.witnesses.items c.loop-place-test.true c.requires.as_many c.loop-place.invariant in
    rw (c.deref.ensures.value, c.in_ok-push_kept.ensures, c.new-after.ensures.items, take_rest list (at + 1), take_rest old (at + 1)) (omega (arith, short, c.requires.asked.few))

pub witness_of-requires-clause-breakable : goal.witness_of-requires-clause-breakable
witness_of-requires-clause-breakable c =
    let list = c.args.list.now in
    let old = c.args.decisions.now in
    let at = c.loop-place.place in
    rw (c.deref.ensures.value, c.in_ok-push_kept.ensures, c.new-after.ensures.items, take_rest list (at + 1), take_rest old (at + 1))
    (step-breakable c.args.symbols c.args.states list old c.loop-place.told.items at c.loop-place.before c.loop-place.witnesses.items c.loop-place-test.true c.requires.as_many c.loop-place.invariant c.in-Kept.is)

pub with_next-requires-clause-few : goal.with_next-requires-clause-few
with_next-requires-clause-few c = start-small c.args.symbols c.args.states c.loop-place.invariant.kept c.loop-place.before c.loop-place.invariant.start

pub with_next-requires-clause-room : goal.with_next-requires-clause-room
with_next-requires-clause-room c =
    let short = start-length c.args.symbols c.args.states c.loop-place.invariant.kept c.loop-place.before c.loop-place.invariant.start in
    let few = c.loop-place.invariant.few in
    omega (arith, short, few, c.loop-place-test.true, c.requires.asked.few)

pub loop-place-preserved : goal.loop-place-preserved
loop-place-preserved c =
    let n = c.args.symbols in
    let s = c.args.states in
    let list = c.args.list.now in
    let old = c.args.decisions.now in
    let new = c.loop-place.told.items in
    let at = c.loop-place.place in
    let before = c.loop-place.before in
    let ws = c.loop-place.witnesses.items in
    let inside = c.loop-place-test.true in
    let many = c.requires.as_many in
    let h = c.loop-place.invariant in
    elim c.match-decision.branch [
      | in-Kept+in_ok-push_kept+in_ok-witness w ↦
          let is : get_or old at Kept ≡ Kept = w.in-Kept.is in
          elim w.match-branch-4.branch [
            | in-Some+in_ok-push-in-Some v ↦
                let found = rw (w.deref.ensures.value, w.in_ok-push_kept.ensures, w.new-after.ensures.items, take_rest list (at + 1), take_rest old (at + 1)) at (rw v.in-Some.is at w.in_ok-witness.ensures.ok) in
                elim c.if-is_kept.branch [
                  | then-is_kept+in_ok-before u ↦
                      rw (c.in_ok-push.ensures.items, w.decision-is, v.decision-is, is, w.witnesses-is, v.witnesses-is, v.in_ok-push-in-Some.ensures.items, u.before-is)
                      (step-found n s list old new at before ws inside many h is v.in-Some.witness _ c.requires.asked.few_states found u.in_ok-before.ensures.ok)
                  | else-is_kept u ↦
                      let kept : is_kept c.match-decision.decision ≡ true = rw (w.decision-is, v.decision-is, is) refl in
                      let lacks = sym c.is_kept.ensures ∙ u.if-is_kept.false in
                      absurd (cc (kept, lacks))
                ]
            | in-None v ↦
                let found = rw (w.deref.ensures.value, w.in_ok-push_kept.ensures, w.new-after.ensures.items, take_rest list (at + 1), take_rest old (at + 1)) at (rw v.in-None.is at w.in_ok-witness.ensures.ok) in
                elim c.if-is_kept.branch [
                  | then-is_kept+in_ok-before u ↦
                      rw (c.in_ok-push.ensures.items, w.decision-is, v.decision-is, w.witnesses-is, v.witnesses-is, u.before-is)
                      (step-untested n s list old new at before ws inside many h is _ c.requires.asked.few_states found u.in_ok-before.ensures.ok)
                  | else-is_kept u ↦
                      let kept : is_kept c.match-decision.decision ≡ true = rw (w.decision-is, v.decision-is) refl in
                      let lacks = sym c.is_kept.ensures ∙ u.if-is_kept.false in
                      absurd (cc (kept, lacks))
                ]
          ]
      | in_default w ↦ elim c.if-is_kept.branch [
        | then-is_kept+in_ok-before u ↦
            let kept : is_kept (get_or old at Kept) ≡ true = rw w.decision-is at (sym c.is_kept.ensures ∙ u.if-is_kept.true) in
            elim (kept-or-untested (get_or old at Kept) kept) [
              | inl is ↦ absurd (w.in_default.not-Kept is)
              | inr is ↦
                  rw (c.in_ok-push.ensures.items, w.decision-is, is, w.witnesses-is, u.before-is) (step-closed n s list old new at before ws inside many h is _ c.requires.asked.few_states u.in_ok-before.ensures.ok)
            ]
        | else-is_kept u ↦
            let lacks = rw w.decision-is at (sym c.is_kept.ensures ∙ u.if-is_kept.false) in
            rw (c.in_ok-push.ensures.items, w.decision-is, w.witnesses-is, u.before-is) (step-skip n s list old new at before ws inside many h lacks)
      ]
    ]

pub returns-clause-ok : goal.returns-clause-ok
returns-clause-ok c = witnessing-end c.args.symbols c.args.states c.args.list.now c.args.decisions.now c.loop-place.place c.loop-place.before (record {
  decisions = c.loop-place.told;
  witnesses = c.loop-place.witnesses;
}) c.loop-place-test.false c.requires.as_many c.loop-place.invariant
