use Rattle.model_compare.proofs.Analysing.{analysis}
use Rattle.model_compare.proofs.analysis.analyse.Goals as goal

pub returns-clause-ok : goal.returns-clause-ok
returns-clause-ok c =
    analysis c.args.symbols c.args.states c.args.first c.args.list.now c.in_ok-dfa.dfa c.in_ok-dfa.ensures.ok c.in_ok-first_trace.field-0 c.in_ok-dead_symbols.field-0.items c.in_ok-redundant.redundant.items c.in_ok-first_traces.field-0.items c.in_ok-first_trace.ensures.ok
    c.in_ok-dead_symbols.ensures.ok c.in_ok-redundant.ensures.ok c.in_ok-first_traces.ensures.ok
