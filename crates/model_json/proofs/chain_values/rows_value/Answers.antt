use Rattle.std.proofs.Common.{◌≡◌, ◌/◌, ◌*◌, ◌∙◌, ap, ap₂, drop, length, map, take, arith}
use Rattle.std.specs.List.{range_with_len}
use Rattle.std.proofs.lemmas.List.FromFn.{map-range_with_len_more}
use Rattle.model_json.specs.ChainValue.{numbers_value, row_of}
use Rattle.model_json.proofs.Values.{values-pushed}
use Rattle.model_json.proofs.chain_values.rows_value.Goals as goal

pub loop-state-preserved : goal.loop-state-preserved
loop-state-preserved c =
    let q = c.loop-state.state in
    let row : c.row_at.result.now ≡ row_of c.args.link.now q =
    c.row_at.ensures ∙ ap₂ (λ n a. take (length n / length a) (drop (q * (length n / length a)) n)) c.next-next.ensures c.accepting-states.ensures.value in
    values-pushed numbers_value _ _ (map (row_of c.args.link.now) (range_with_len 0 q)) _ (row_of c.args.link.now q) c.in_ok-numbers_value.field-0 (map-range_with_len_more (row_of c.args.link.now) 0 q q (omega arith))
    (c.in_ok-numbers_value.ensures ∙ ap numbers_value row) c.in_ok-push.ensures.items c.loop-state.invariant
