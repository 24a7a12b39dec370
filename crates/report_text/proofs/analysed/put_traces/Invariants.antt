use Rattle.std.proofs.Common.{◌≡◌, ◌++◌, take}
use Rattle.report_text.specs.AnalysisText.{trace_lines}
use Rattle.report_text.proofs.analysed.put_traces.Given as goal

abbrev pub invariant-loop-trace : goal.invariant-loop-trace
invariant-loop-trace l = l.out.items ≡ l.fn.out.items ++ trace_lines l.names.names (take l.trace-index l.traces)
