use Rattle.std.proofs.Common.{◌+◌, [], ◌∷◌, ◌++◌, codes, take, sym, ap, ◌∙◌}
use Rattle.std.proofs.lemmas.List.{take_more}
use Rattle.report_text.specs.AnalysisText.{word_line}
use Rattle.report_text.specs.OpenTraces.{open_trace_text}
use Rattle.report_text.proofs.Joined.{line_more}
use Rattle.report_text.proofs.analysed.put_traces.Goals as goal

pub loop-trace-preserved : goal.loop-trace-preserved
loop-trace-preserved c =
    let names = c.args.names.now.names in
    let traces = c.args.traces.now in
    let at = c.loop-trace.trace-index in
    let trace = c.trace-item.result in
    line_more (λ t. word_line (codes "trace") (open_trace_text names t)) c.args.out.now.items _ _ (take at traces) (take (at + 1) traces) trace
    (take_more traces at trace c.loop-trace-test.true ∙ ap (λ t. take at traces ++ t ∷ []) (sym c.trace-item.is)) c.loop-trace.invariant c.in_ok-put_trace.ensures
