use Rattle.std.proofs.Common.{◌<◌, ap, sym, ◌∙◌, take, fold, length, arith}
use Rattle.std.proofs.lemmas.List.Sums.{fold_push}
use Rattle.event_log.specs.Alphabet.{Names}
use Rattle.event_log.specs.Logs.{with_name}
use Rattle.event_log.proofs.Naming.{take-get}
use Rattle.minerful_core.proofs.Refusing.{handed_on}
use Rattle.minerful_core.proofs.Renaming.{named_with, only_memory, room_for_one}
use Rattle.minerful_core.proofs.naming.add_names.Goals as goal

pub loop-id-preserved : goal.loop-id-preserved
loop-id-preserved c =
    let old = c.args.names.now in
    let more = c.args.more.now.names in
    let name = c.name.result.now in
    c.in_ok-add.ensures.ok
    ∙ ap (λ (n : Names). named_with (with_name n.names name) n.limit) c.loop-id.invariant
    ∙ ap (λ l. named_with l old.limit) (sym (fold_push with_name old.names (take c.loop-id.id more) name) ∙ ap (fold with_name old.names) (sym (take-get more c.loop-id.id name c.name.ensures)))

pub returns-in_err-add-clause-err : goal.returns-in_err-add-clause-err
returns-in_err-add-clause-err c =
    let inside : c.loop-id.id < length c.args.more.now.names = omega (arith, c.loop-id-test.true, c.len-id-end.ensures) in
    handed_on c.from_residual.result c.in_err-add.field-0.0 _ c.from_residual.ensures.1
    (only_memory c.loop-id.names c.name.result.now c.in_err-add.field-0.0
    (room_for_one c.args.names.now c.loop-id.names c.args.more.now.names c.loop-id.id c.requires inside c.loop-id.invariant) c.in_err-add.ensures.cause)
