use Rattle.std.proofs.lemmas.List.Elements.{All-push}
use Rattle.serde_json.specs.View.{view}
use Rattle.chain_cert.specs.Forms.{IsLink}
use Rattle.model_json.specs.Certificate.{link_in}
use Rattle.model_json.proofs.LinksRead.{fails-at}
use Rattle.model_json.proofs.OneByOne.{read-one}
use Rattle.model_json.proofs.links.links_of.Goals as goal

pub returns-in_default : goal.returns-in_default
returns-in_default c =
    fails-at view link_in IsLink c.args.values.now c.loop-value.value-index c.value-item.result c.loop-value-test.true c.value-item.is (rw c.in_default.is at c.in_ok-link.ensures)

pub loop-value-preserved : goal.loop-value-preserved
loop-value-preserved c =
    let made = rw c.in-Some.is at c.in_ok-link.ensures in (
      rw c.in_ok-push.ensures.items (read-one view link_in c.args.values.now c.loop-value.value-index c.value-item.result c.loop-value-test.true c.value-item.is c.loop-value.links.items c.in-Some.link made.0 c.loop-value.invariant.0),
      rw c.in_ok-push.ensures.items (All-push IsLink c.loop-value.links.items c.in-Some.link c.loop-value.invariant.1 made.1),
    )
