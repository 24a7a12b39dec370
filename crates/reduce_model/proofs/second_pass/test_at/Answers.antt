use Rattle.std.proofs.Common.{get_or, arith}
use Rattle.std.proofs.lemmas.Result.{IfOk-weaker}
use Rattle.template_core.specs.Constraints.{IsWellMadeFor}
use Rattle.list_dfa.proofs.Keeping.{anything}
use Rattle.reduce_model.proofs.KeptPrefixes.{first-none, prefix-at, prefix-fits}
use Rattle.reduce_model.proofs.SecondPasses.{all-from, at-told, test-length, test-sought}
use Rattle.reduce_model.proofs.second_pass.test_at.Goals as goal

pub longest-requires-clause-first : goal.longest-requires-clause-first
longest-requires-clause-first c = first-none c.requires.kept

pub seek-requires-clause-made : goal.seek-requires-clause-made
seek-requires-clause-made c =
    rw (c.deref.ensures.value, c.in_ok-others.ensures) (all-from (IsWellMadeFor c.args.symbols) c.args.list.now c.args.decisions.now c.index-prefixes-longest.result.place c.args.place c.requires.asked.made)

pub seek-requires-clause-few : goal.seek-requires-clause-few
seek-requires-clause-few c = let of = prefix-at c.longest.result c.requires.kept c.longest.ensures.within c.index-prefixes-longest.is in of.automaton.few

pub seek-requires-clause-short : goal.seek-requires-clause-short
seek-requires-clause-short c =
    let prefix = c.index-prefixes-longest.result in
    let of = prefix-at c.longest.result c.requires.kept c.longest.ensures.within c.index-prefixes-longest.is in
    let fits = prefix-fits c.args.place _ c.args.prefixes.now c.longest.result prefix c.index-prefixes-longest.is c.longest.ensures.fits in
    let short = test-length c.args.symbols c.args.states c.args.list.now c.args.decisions.now c.args.place c.requires.standing prefix fits.0 of in
    rw (c.deref.ensures.value, c.in_ok-others.ensures) (omega (arith, short, c.requires.asked.few))

pub returns-clause-ok : goal.returns-clause-ok
returns-clause-ok c = IfOk-weaker c.seek.result _ _ (λ r found.
    let n = c.args.symbols in
    let s = c.args.states in
    let list = c.args.list.now in
    let ds = c.args.decisions.now in
    let p = c.args.place in
    let prefix = c.index-prefixes-longest.result in
    let of = prefix-at c.longest.result c.requires.kept c.longest.ensures.within c.index-prefixes-longest.is in
    let fits = prefix-fits p _ c.args.prefixes.now c.longest.result prefix c.index-prefixes-longest.is c.longest.ensures.fits in
    at-told (test-sought n s list ds p c.requires.standing prefix fits.0 of (get_or list p anything) r (rw (c.deref.ensures.value, c.in_ok-others.ensures) at found))) c.seek.ensures.ok
