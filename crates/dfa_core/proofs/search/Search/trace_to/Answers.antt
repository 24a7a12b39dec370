use Rattle.std.proofs.Common.{◌<◌, length, arith}
use Rattle.std.proofs.lemmas.List.{get_or_read}
use Rattle.dfa_core.proofs.Paths.{path_more, parent_earlier, IsEarlier}
use Rattle.dfa_core.proofs.search.Search.trace_to.Goals as goal

pub loop-at-preserved : goal.loop-at-preserved
loop-at-preserved c =
    let found = c.args.self.now.found.items in
    let low : c.loop-at.at < length found = omega (arith, c.args.self.now.found.ok.0) in
    let place = get_or_read found c.loop-at.at c.index-place.result.now low c.index-place.ensures 0 in
    let earlier : IsEarlier c.args.symbols found (length found) = λ t p l. c.requires.earlier t p (omega (arith, c.args.self.now.found.ok.0)) in
    rw (c.in_ok-push.ensures.items, place) (record {
      in_states = let b = parent_earlier c.args.symbols found (length found) earlier c.loop-at.at c.loop-at-test.true low in omega arith;
      so_far = path_more c.args.symbols found (length found) c.loop-at.at _ c.loop-at.trace.items earlier c.loop-at-test.true low c.loop-at.invariant.so_far;
    })
