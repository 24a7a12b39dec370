use Rattle.std.proofs.Common.{◌≡◌, ◌++◌, [], cond, eqb, length, string_bytes, sym, ap, ◌∙◌, append-nil, arith}
use Rattle.std.specs.List.{flat_map, range_with_len}
use Rattle.std.proofs.lemmas.Bool.{ne_eqb, eq-eqb}
use Rattle.report_text.specs.KbTable.{pair_line}
use Rattle.report_text.proofs.Joined.{piece_more, same_long}
use Rattle.report_text.proofs.counters.put_pairs.Goals as goal
use Rattle.report_text.proofs.counters.put_pairs.Goals.{then-first-second+in_ok-put_pair, else-first-second}

pub loop-second-preserved : goal.loop-second-preserved
loop-second-preserved c = λ names log texts told.
    let a = c.args.first in
    let b = c.loop-second.second in
    let line = pair_line names log a b in
    let done = c.loop-second.out.items in
    let more : c.if-first-second.out.items ≡ done ++ cond (eqb a b) [] line
    = elim c.if-first-second.branch [
      | then-first-second+in_ok-put_pair w ↦ ap (λ v. v.items) w.out-is ∙ w.in_ok-put_pair.ensures names log texts told ∙ ap (λ v. done ++ cond v [] line) (sym (ne_eqb a b w.if-first-second.true))
      | else-first-second w ↦ ap (λ v. v.items) w.out-is ∙ sym (append-nil done) ∙ ap (λ v. done ++ cond v [] line) (sym (eq-eqb a b w.if-first-second.false))
    ] in
    piece_more (λ b. cond (eqb a b) [] (pair_line names log a b)) _ _ _ b (c.loop-second.invariant names log texts told) more

pub returns : goal.returns
returns c = λ names log texts told.
    let whole : c.loop-second.second ≡ length names = omega (arith, c.loop-second-test.false, c.loop-second.auto.second-end, same_long string_bytes c.args.texts.now names texts) in
    c.loop-second.invariant names log texts told
    ∙ ap (λ n. c.args.out.now.items ++ flat_map (λ b. cond (eqb c.args.first b) [] (pair_line names log c.args.first b)) (range_with_len 0 n)) whole
