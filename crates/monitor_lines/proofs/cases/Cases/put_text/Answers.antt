use Rattle.std.proofs.Common.{◌∙◌}
use Rattle.monitor_lines.proofs.Begun.{line_written, text_at}
use Rattle.monitor_lines.proofs.cases.Cases.put_text.Goals as goal

pub returns : goal.returns
returns c =
    let cases = c.args.self.now in
    let put = c.in_ok-put_each.ensures in
    let json = text_at cases.texts.items cases.found.names c.args.case c.index.result.now c.requires.ready.texts c.requires.begun c.index.ensures in (
      c.whole.result,
      put.0,
      line_written c.args.number _ _ c.whole.result put.0 c.letter.result _ _ _ _ _ _ _ _ _ c.clear.ensures.items c.in_ok-put_number.ensures c.in_ok-push.ensures.items c.in_ok-extend_from_slice.ensures.items
          (c.as_bytes.ensures.value ∙ json) c.in_ok-push-2.ensures.items c.letter.ensures c.in_ok-push-3.ensures.items c.in_ok-push-4.ensures.items put.1 c.in_ok-push-5.ensures.items,
      λ traces h. (c.whole.ensures traces h, put.2 traces h),
    )
