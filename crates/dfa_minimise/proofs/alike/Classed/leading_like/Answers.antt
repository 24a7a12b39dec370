use Rattle.std.proofs.Common.{inl, inr, ℕ, length, refl, sym, ◌∙◌, arith}
use Rattle.std.proofs.lemmas.List.{length_push}
use Rattle.dfa_core.proofs.Places.{pushed}
use Rattle.dfa_minimise.specs.Classes.{class_after}
use Rattle.dfa_minimise.proofs.Groups.{leading-one, leading-other}
use Rattle.dfa_minimise.proofs.alike.Classed.leading_like.Goals as goal
use Rattle.dfa_minimise.proofs.alike.Classed.leading_like.Goals.{then-after-class+in_ok-push, else-after-class}

pub loop-other-preserved : goal.loop-other-preserved
loop-other-preserved c =
    let leads : ℕ → ℕ = class_after c.args.self.now.dfa.now c.args.self.now.classes.now.class.items c.args.state in
    let columns = c.loop-other.columns.items in
    let other = c.loop-other.other in
    let class = c.after-class.result in
    let h = c.loop-other.invariant in
    elim c.if-after-class.branch [
      | then-after-class+in_ok-push w ↦ rw (w.columns-is, w.in_ok-push.ensures.items) (record {
        bound = λ i li. elim (pushed columns other 0 i (length columns) refl (omega (arith, length_push columns other))) [ inl p ↦ rw p.1 (omega (arith, h.bound i p.0)) | inr p ↦ rw p.1 (omega arith) ];
        are = leading-one leads other class columns h.are (sym c.after.ensures ∙ w.if-after-class.true);
      })
      | else-after-class w ↦ rw w.columns-is (record {
        bound = λ i li. omega (arith, h.bound i li);
        are = leading-other leads other class columns h.are (λ e. w.if-after-class.false (c.after.ensures ∙ e));
      })
    ]
