use Rattle.std.proofs.lemmas.List.Elements.{All-push}
use Rattle.serde_json.specs.View.{view}
use Rattle.chain_cert.specs.Forms.{IsAscending}
use Rattle.model_json.specs.Certificate.{list_of, tuple_in}
use Rattle.model_json.proofs.LinksRead.{fails-at}
use Rattle.model_json.proofs.OneByOne.{read-one}
use Rattle.model_json.proofs.links.implied_of.Goals as goal

pub returns-in_default : goal.returns-in_default
returns-in_default c =
    fails-at view (list_of (tuple_in 2)) IsAscending c.args.values.now c.loop-value.value-index c.value-item.result c.loop-value-test.true c.value-item.is (rw c.in_default.is at c.in_ok-pairs.ensures)

pub loop-value-preserved : goal.loop-value-preserved
loop-value-preserved c =
    let made = rw c.in-Some.is at c.in_ok-pairs.ensures in (
      rw c.in_ok-push.ensures.items (read-one view (list_of (tuple_in 2)) c.args.values.now c.loop-value.value-index c.value-item.result c.loop-value-test.true c.value-item.is c.loop-value.implied.items c.in-Some.pairs made.0 c.loop-value.invariant.0),
      rw c.in_ok-push.ensures.items (All-push IsAscending c.loop-value.implied.items c.in-Some.pairs c.loop-value.invariant.1 made.1),
    )
