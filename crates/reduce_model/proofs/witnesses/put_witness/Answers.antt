use Rattle.std.proofs.Common.{◌+◌, ◌-◌, drop, length, inr, refl, arith}
use Rattle.std.proofs.lemmas.List.Elements.{All-drop, All-take}
use Rattle.template_core.specs.Constraints.{IsWellMadeFor}
use Rattle.reduce_model.proofs.SecondPasses.{at-told}
use Rattle.reduce_model.proofs.Witnessing.{behind-is, but-sought, not-missing}
use Rattle.reduce_model.specs.declared.grown.Sought.TheVariants.{Found, Missing, TooWide}
use Rattle.reduce_model.proofs.witnesses.put_witness.Goals as goal

pub seek-requires-clause-made : goal.seek-requires-clause-made
seek-requires-clause-made c =
    let model = c.args.model.now in
    let next = c.args.place + 1 in
    All-take (IsWellMadeFor c.args.symbols) (length model - next) (drop next model) (All-drop (IsWellMadeFor c.args.symbols) next model c.requires.asked.made)

pub unreachable-requires : goal.unreachable-requires
unreachable-requires c =
    let found = but-sought c.args.model.now c.args.place c.requires.start Missing (rw (behind-is c.args.model.now c.args.place) at (rw c.in-Missing.is at c.in_ok-witness.ensures.ok)) in
    not-missing c.args.symbols c.args.states c.args.model.now c.args.place c.requires.there c.requires.irredundant found.0

pub returns-in-TooWide-clause-err : goal.returns-in-TooWide-clause-err
returns-in-TooWide-clause-err c =
    (refl, at-told (but-sought c.args.model.now c.args.place c.requires.start (TooWide c.in-TooWide.built) (rw (behind-is c.args.model.now c.args.place) at (rw c.in-TooWide.is at c.in_ok-witness.ensures.ok))))

pub returns-in_ok-push-in-Found-clause-ok : goal.returns-in_ok-push-in-Found-clause-ok
returns-in_ok-push-in-Found-clause-ok c =
    let len = c.len.ensures in
    let same = c.if-len-place.true in
    let found = but-sought c.args.model.now c.args.place c.requires.start (Found c.in-Found.witness) (rw (behind-is c.args.model.now c.args.place) at (rw c.in-Found.is at c.in_ok-witness.ensures.ok)) in
    inr (omega (arith, len, same), (c.in-Found.witness, c.in_ok-push-in-Found.ensures.items, at-told found))
