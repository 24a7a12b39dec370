use Rattle.std.proofs.Common.{sym, arith}
use Rattle.monitor_lines.proofs.Begun.{HasCase-there, missed, there}
use Rattle.monitor_lines.proofs.cases.Cases.number_of.Goals as goal

pub returns-in-Some-clause-ok : goal.returns-in-Some-clause-ok
returns-in-Some-clause-ok c = HasCase-there c.args.self.now c.args.name.now (there c.args.self.now.found.names c.args.name.now c.in-Some.id c.in-Some.ensures) c.requires.ready

pub returns-then-len-limit-clause-cause : goal.returns-then-len-limit-clause-cause
returns-then-len-limit-clause-cause c =
    (sym c.requires.limit, omega (arith, c.requires.limit, c.len.ensures, c.if-len-limit.true), missed c.args.self.now.found.names c.args.name.now c.in_default.ensures)

pub begin-requires-clause-new : goal.begin-requires-clause-new
begin-requires-clause-new c = missed c.args.self.now.found.names c.args.name.now c.in_default.ensures
