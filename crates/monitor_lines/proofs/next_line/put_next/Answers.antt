use Rattle.std.proofs.Common.{◌≡◌, ◌++◌, Some, sym, subst, ◌∙◌, ap}
use Rattle.decl_outside.specs.Lines.{GivesLine}
use Rattle.monitor_lines.specs.Stepping.{TellsStandings}
use Rattle.monitor_lines.proofs.Steps.{id_begun}
use Rattle.monitor_lines.proofs.next_line.put_next.Goals as goal

pub put_text-requires-clause-begun : goal.put_text-requires-clause-begun
put_text-requires-clause-begun g c = id_begun c.args.limits.now c.args.names.now.names c.args.cases.now c.take.new.self c.in-Some.line c.in_ok-case.case c.in_ok-case.ensures.ok

pub returns-clause-ok : goal.returns-clause-ok
returns-clause-ok g c =
    let found : c.next.new.self.line ≡ Some c.in-Some.line = sym c.line.ensures ∙ c.in-Some.is in
    record {
      line = c.in-Some.line;
      id = c.in_ok-case.case;
      text = c.put_text.new.text.items;
      live = c.in_ok-next.ensures.line.live;
      limit = c.in_ok-next.ensures.line.limit;
      gives = subst (GivesLine c.args.lines.now c.next.new.self (g.I.Inputs.state c.args.inputs.now) (g.I.Inputs.state c.next.new.inputs)) found c.in_ok-next.ensures.line.given;
      takes = c.in_ok-case.ensures.ok;
      tells = subst (λ n. TellsStandings c.take.new.self n c.in_ok-case.case c.put_text.new.text.items) c.number.ensures c.in_ok-put_text.ensures;
      waits = c.in_ok-extend_from_slice.ensures.items ∙ ap (λ l. c.args.texts.now.waiting.items ++ l) c.deref.ensures.value;
    }
