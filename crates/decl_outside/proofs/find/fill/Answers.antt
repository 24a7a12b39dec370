use Rattle.std.proofs.Common.{◌≡◌, ◌<◌, refl, ap, ◌∙◌, subst}
use Rattle.decl_outside.specs.Held.{held_bytes}
use Rattle.decl_outside.specs.Lines.{line_length}
use Rattle.decl_outside.proofs.Reading.{IsHeld-more, line_length-more, long_line}
use Rattle.decl_outside.proofs.find.fill.Goals as goal

pub returns-then-end-limit-clause-cause : goal.returns-then-end-limit-clause-cause
returns-then-end-limit-clause-cause g c =
    let end : c.line_end-end.result ≡ line_length (held_bytes c.reads.held) = c.line_end-end.ensures.value ∙ ap line_length c.rest.ensures in
    (refl, long_line c.args.limit (held_bytes c.reads.held) (g.I.Inputs.state c.reads.inputs).left _ c.reads.invariant.0.rest (subst (λ n. c.args.limit < n) end c.if-end-limit.true))

pub reads-preserved : goal.reads-preserved
reads-preserved g c =
    let end : c.line_end-end.result ≡ line_length (held_bytes c.reads.held) = c.line_end-end.ensures.value ∙ ap line_length c.rest.ensures in (
      IsHeld-more _ _ _ _ _ _ _ _ c.reads.invariant.0 c.in-Ok.ensures c.in_ok-add.ensures.ok,
      line_length-more (held_bytes c.reads.held) _ _ _ end c.in_ok-add.ensures.ok,
    )
