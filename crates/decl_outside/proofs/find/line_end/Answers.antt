use Rattle.std.proofs.Common.{arith, rules}
use Rattle.decl_outside.proofs.Lining.{line_length-within, line_length-found, line_length-none}
use Rattle.decl_outside.proofs.Writing.{take-to_end}
use Rattle.decl_outside.proofs.find.line_end.Goals as goal

pub slice_bounds-memchr-count : goal.slice_bounds-memchr-count
slice_bounds-memchr-count c = omega (arith, line_length-within c.args.bytes.now)

pub slice_bounds-memchr-start : goal.slice_bounds-memchr-start
slice_bounds-memchr-start c = let within = line_length-within c.args.bytes.now in search rules

pub returns-in-Some-clause-value : goal.returns-in-Some-clause-value
returns-in-Some-clause-value c =
    line_length-found c.args.bytes.now _ c.args.searched c.requires (take-to_end c.args.bytes.now c.args.searched) c.in-Some.i c.in-Some.ensures

pub returns-in-None-clause-value : goal.returns-in-None-clause-value
returns-in-None-clause-value c =
    line_length-none c.args.bytes.now _ c.args.searched c.requires (take-to_end c.args.bytes.now c.args.searched) c.in-None.ensures
