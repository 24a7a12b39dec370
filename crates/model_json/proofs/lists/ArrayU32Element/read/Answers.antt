use Rattle.std.proofs.Common.{ap, arith, map, sym, Some, take, ◌≡◌, ◌∙◌}
use Rattle.std.proofs.lemmas.List.{length-map, take_all}
use Rattle.serde_json.specs.View.{view}
use Rattle.model_json.specs.Certificate.{number_in}
use Rattle.model_json.proofs.Elements.{list_in-is, listed}
use Rattle.model_json.proofs.LinksRead.{tuple-none, tuple-read, tuple-unread}
use Rattle.model_json.proofs.OneByOne.{read-all, read-stop}
use Rattle.model_json.proofs.lists.ArrayU32Element.read.Goals as goal

pub returns-then-list : goal.returns-then-list
returns-then-list g c =
    let elements = c.as_slice-list.result.now in
    tuple-none g.row.N (view c.args.value.now) (map view elements) (list_in-is _ elements (listed c.as_slice-list.ensures.value c.in_ok-as_array.ensures)) (λ same. c.if-list.true (sym (length-map elements view) ∙ same))

pub returns-in_err-tuple : goal.returns-in_err-tuple
returns-in_err-tuple g c =
    let elements = c.as_slice-list.result.now in
    c.from_residual-in_err-tuple.ensures
    ∙ sym (tuple-unread g.row.N (view c.args.value.now) (map view elements) (list_in-is _ elements (listed c.as_slice-list.ensures.value c.in_ok-as_array.ensures))
    (read-stop view number_in elements c.loop-place.place c.index-list-place.result c.loop-place-test.true c.index-list-place.is (take c.loop-place.place c.loop-place.tuple) (sym c.in_err-tuple.ensures) c.loop-place.invariant.0))

pub returns : goal.returns
returns g c =
    let elements = c.as_slice-list.result.now in
    let tuple = c.loop-place.tuple in
    let all : take c.loop-place.place tuple ≡ tuple = take_all c.loop-place.place tuple (omega (arith, c.loop-place-test.false, c.if-list.false, c.loop-place.invariant.1)) in
    sym (tuple-read g.row.N (view c.args.value.now) (map view elements) (list_in-is _ elements (listed c.as_slice-list.ensures.value c.in_ok-as_array.ensures)) tuple
    (read-all view number_in elements c.loop-place.place (take c.loop-place.place tuple) (omega (arith, c.loop-place-test.false)) c.loop-place.invariant.0 ∙ ap Some all) c.loop-place.invariant.1)
