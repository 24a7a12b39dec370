use Rattle.std.proofs.Common.{◌≡◌, ◌≤◌, [], length, map, sym, ◌∙◌, arith}
use Rattle.std.proofs.lemmas.Result.{IfErr-weaker, IfOk-weaker, err_from_is_err_and}
use Rattle.reduce_model.proofs.FirstPasses.{length-marked}
use Rattle.reduce_model.proofs.KeptPrefixes.{first-none, prefix-at, prefix-fits, start-of}
use Rattle.reduce_model.proofs.Reduces.{irredundant-3, left-second, many-1, many-2, many-3, reduction, refused-2, refused-3, refused-4, sifted-fixed, sifted-many}
use Rattle.reduce_model.proofs.SecondPasses.{asked-marked}
use Rattle.reduce_model.proofs.Witnessing.{known-few}
use Rattle.reduce_model.proofs.Writes.{view_same}
use Rattle.reduce_model.specs.Deciding.{is_kept, is_left, those}
use Rattle.reduce_model.specs.Passes.{IsPrefixOf, IsWitnessed, RefusesWitnesses, before_second_pass}
use Rattle.reduce_model.proofs.reduction.drop_implied.Goals as goal

pub prune-requires-clause-as_many : goal.prune-requires-clause-as_many
prune-requires-clause-as_many c = sifted-many c.args.symbols [] c.args.list.now c.args.decisions.now c.requires.sifted

pub prune-requires-clause-sifted : goal.prune-requires-clause-sifted
prune-requires-clause-sifted c = sifted-fixed c.args.symbols [] c.args.list.now c.args.decisions.now c.requires.sifted

pub pass_first-requires-clause-as_many : goal.pass_first-requires-clause-as_many
pass_first-requires-clause-as_many c = many-1 c.args.symbols c.args.states c.args.list.now c.args.decisions.now c.prune.new.decisions c.requires.sifted c.requires.narrow c.prune.ensures

pub returns-in_err-prefixes-clause-err : goal.returns-in_err-prefixes-clause-err
returns-in_err-prefixes-clause-err c =
    let is = err_from_is_err_and c.from_residual.result c.from_residual.ensures.1 in
    rw (is.1, is.2)
    (refused-2 c.args.symbols c.args.states c.args.list.now c.args.decisions.now c.prune.new.decisions c.requires.sifted c.requires.narrow c.prune.ensures c.in_err-prefixes.field-0.0 c.in_err-prefixes.ensures.err)

pub pass_second-requires-clause-as_many : goal.pass_second-requires-clause-as_many
pass_second-requires-clause-as_many c =
    many-2 c.args.symbols c.args.states c.args.list.now c.args.decisions.now c.prune.new.decisions c.requires.sifted c.requires.narrow c.prune.ensures c.pass_first.new.decisions c.in_ok-prefixes.ensures.ok

pub returns-in_err-found-clause-err : goal.returns-in_err-found-clause-err
returns-in_err-found-clause-err c =
    let is = err_from_is_err_and c.from_residual-in_err-found.result c.from_residual-in_err-found.ensures.1 in
    rw (is.1, is.2)
    (refused-3 c.args.symbols c.args.states c.args.list.now c.args.decisions.now c.prune.new.decisions c.requires.sifted c.requires.narrow c.prune.ensures c.pass_first.new.decisions c.in_ok-prefixes.ensures.ok
    c.in_err-found.field-0.0 c.in_err-found.ensures.err)

pub push_kept-requires : goal.push_kept-requires
push_kept-requires c =
    many-3 c.args.symbols c.args.states c.args.list.now c.args.decisions.now c.prune.new.decisions c.requires.sifted c.requires.narrow c.prune.ensures c.pass_first.new.decisions c.in_ok-prefixes.ensures.ok
    c.pass_second.new.decisions c.in_ok-found.ensures.ok

pub witnesses_of-requires-clause-asked : goal.witnesses_of-requires-clause-asked
witnesses_of-requires-clause-asked c = rw (c.deref-3.ensures.value, c.in_ok-push_kept.ensures, c.new-model.ensures.items) (asked-marked c.requires.asked (map is_kept c.pass_second.new.decisions))

pub witnesses_of-requires-clause-irredundant : goal.witnesses_of-requires-clause-irredundant
witnesses_of-requires-clause-irredundant c =
    let none = irredundant-3 c.args.symbols c.args.states c.args.list.now c.args.decisions.now c.prune.new.decisions c.requires.sifted c.requires.narrow c.prune.ensures c.pass_first.new.decisions c.in_ok-prefixes.ensures.ok
    c.pass_second.new.decisions c.in_ok-found.ensures.ok in
    rw (c.deref-3.ensures.value, c.in_ok-push_kept.ensures, c.new-model.ensures.items) none

pub witnesses_of-requires-clause-known : goal.witnesses_of-requires-clause-known
witnesses_of-requires-clause-known c = rw (c.deref-3.ensures.value, c.in_ok-push_kept.ensures, c.new-model.ensures.items) c.in_ok-found.ensures.found

pub longest-requires-clause-first : goal.longest-requires-clause-first
longest-requires-clause-first c = rw c.deref-2.ensures.value (first-none c.in_ok-prefixes.ensures.kept)

pub overflow_cast-len : goal.overflow_cast-len
overflow_cast-len c =
    let few = known-few c.args.symbols c.args.states [] (those is_kept c.args.list.now c.pass_second.new.decisions) c.in_ok-found.found.items c.in_ok-found.ensures.found in
    let le = length-marked (map is_kept c.pass_second.new.decisions) c.args.list.now in
    let len = c.len.ensures in
    omega (arith, few, le, len, c.requires.asked.few)

pub witnesses_of-requires-clause-start : goal.witnesses_of-requires-clause-start
witnesses_of-requires-clause-start c =
    let n = c.args.symbols in
    let s = c.args.states in
    let list = c.args.list.now in
    let ds = c.pass_second.new.decisions in
    let prefix = c.index-start.result.now in
    let prefixes = c.in_ok-prefixes.prefixes.items in
    let marks : map is_left ds ≡ map is_left c.pass_first.new.decisions = view_same before_second_pass is_left ds c.pass_first.new.decisions left-second c.in_ok-found.ensures.ok.same in
    let within = rw c.deref-2.ensures.value at c.longest.ensures.within in
    let is : IsPrefixOf n s list (map is_left ds) prefix = rw marks (prefix-at c.longest.result c.in_ok-prefixes.ensures.kept within c.index-start.ensures) in
    let fits = prefix-fits _ _ prefixes c.longest.result prefix c.index-start.ensures (rw c.deref-2.ensures.value at c.longest.ensures.fits) in
    let le = fits.1 in
    let len = c.len.ensures in
    let short : prefix.length ≤ length c.in_ok-found.found.items = omega (arith, le, len) in
    rw (c.deref-3.ensures.value, c.in_ok-push_kept.ensures, c.new-model.ensures.items) (start-of n s list ds prefix (length c.in_ok-found.found.items) is short c.in_ok-found.ensures.first)

pub returns-clause-ok : goal.returns-clause-ok
returns-clause-ok c = IfOk-weaker c.witnesses_of.result _ _ (λ ws is.
    let n = c.args.symbols in
    let s = c.args.states in
    let witnessed : IsWitnessed n s (those is_kept c.args.list.now c.pass_second.new.decisions) ws.items = rw (c.deref-3.ensures.value, c.in_ok-push_kept.ensures, c.new-model.ensures.items) at is in
    let many = many-3 n s c.args.list.now c.args.decisions.now c.prune.new.decisions c.requires.sifted c.requires.narrow c.prune.ensures c.pass_first.new.decisions c.in_ok-prefixes.ensures.ok c.pass_second.new.decisions
    c.in_ok-found.ensures.ok in
    let old = sifted-many n [] c.args.list.now c.args.decisions.now c.requires.sifted in
    record {
      as_many = many ∙ sym old;
      reduction = reduction n s c.args.list.now c.args.decisions.now c.prune.new.decisions c.requires.sifted c.requires.narrow c.prune.ensures c.pass_first.new.decisions c.in_ok-prefixes.ensures.ok
          c.pass_second.new.decisions c.in_ok-found.ensures.ok c.requires.asked.made ws.items witnessed;
    }) c.witnesses_of.ensures.ok

pub returns-clause-err : goal.returns-clause-err
returns-clause-err c = IfErr-weaker c.witnesses_of.result _ _ (λ e is.
    let refuses : RefusesWitnesses c.args.symbols c.args.states (those is_kept c.args.list.now c.pass_second.new.decisions) e =
    rw (c.deref-3.ensures.value, c.in_ok-push_kept.ensures, c.new-model.ensures.items) at is in
    refused-4 c.args.symbols c.args.states c.args.list.now c.args.decisions.now c.prune.new.decisions c.requires.sifted c.requires.narrow c.prune.ensures c.pass_first.new.decisions c.in_ok-prefixes.ensures.ok
    c.pass_second.new.decisions c.in_ok-found.ensures.ok e refuses) c.witnesses_of.ensures.err
