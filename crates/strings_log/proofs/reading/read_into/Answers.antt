use Rattle.std.proofs.Common.{◌≡◌, ◌-◌, ◌∷◌, ◌++◌, [], ℕ, List, Some, None, length, ap, sym, subst, ◌∙◌, arith}
use Rattle.std.proofs.lemmas.Result.{err_from_is_err_and}
use Rattle.decl_base.specs.declared.limits.Limits.{Limits}
use Rattle.decl_outside.specs.Lines.{GivesLine}
use Rattle.strings_log.specs.Sink.{HasRoom}
use Rattle.strings_log.proofs.Numbering.{length-numbers}
use Rattle.strings_log.proofs.Steps.{HasRoom-line, IsReading, IsReading-none, IsReading-more, reads_whole, lines_cause, line_cause, no_fault_taken, no_read_fault}
use Rattle.strings_log.proofs.reading.read_into.Goals as goal

pub lines-init : goal.lines-init
lines-init g c = (
  [],
  subst (λ n. g.S.TraceSink.holds c.args.sink.now c.args.limits.now n []) (sym (ap (λ s. length s.names) c.in_ok-numbers.ensures)) c.requires.empty,
  IsReading-none c.args.limits.now _ c.in_ok-lines.lines c.in_ok-numbers.numbers.names c.requires.open c.in_ok-lines.ensures.ok c.in_ok-numbers.ensures,
)

pub returns-in_err-next-clause-cause : goal.returns-in_err-next-clause-cause
returns-in_err-next-clause-cause g c =
    let p = err_from_is_err_and c.from_residual-in_err-next.result c.from_residual-in_err-next.ensures.1 in
    rw (p.1, p.2) (lines_cause _ _ (g.I.Inputs.state c.lines.inputs) _ c.lines.lines c.next.new.self c.lines.numbers.names c.lines.room c.lines.invariant.0 _ c.lines.invariant.2
    c.in_err-next.ensures.line.refused.cause)

pub returns-in_err-next-clause-read_fault : goal.returns-in_err-next-clause-read_fault
returns-in_err-next-clause-read_fault g c =
    let p = err_from_is_err_and c.from_residual-in_err-next.result c.from_residual-in_err-next.ensures.1 in
    rw (p.1, p.2) (no_fault_taken _ _ (g.I.Inputs.state c.lines.inputs) _ c.lines.lines c.next.new.self c.lines.numbers.names c.lines.room c.lines.invariant.0 _ c.lines.invariant.2
    c.in_err-next.ensures.line.refused.cause (λ e. (c.in_err-next.ensures.line.after_last e).0))

pub returns-in_default-clause-log : goal.returns-in_default-clause-log
returns-in_default-clause-log g c =
    let at_end : c.next.new.self.line ≡ None = sym c.line.ensures ∙ c.in_default.is in (
      c.lines.invariant.0,
      c.lines.invariant.1,
      reads_whole c.args.limits.now (g.I.Inputs.state c.args.inputs.now) (g.I.Inputs.state c.lines.inputs) (g.I.Inputs.state c.next.new.inputs) c.lines.lines c.next.new.self c.lines.numbers.names
          c.lines.room c.lines.invariant.0 c.lines.invariant.2
          (subst (GivesLine c.lines.lines c.next.new.self (g.I.Inputs.state c.lines.inputs) (g.I.Inputs.state c.next.new.inputs)) at_end c.in_ok-next.ensures.line.given),
    )

pub returns-in_err-number_line-clause-cause : goal.returns-in_err-number_line-clause-cause
returns-in_err-number_line-clause-cause g c =
    let found : c.next.new.self.line ≡ Some c.in-Some.line = sym c.line.ensures ∙ c.in-Some.is in
    let p = err_from_is_err_and c.from_residual-in_err-number_line.result c.from_residual-in_err-number_line.ensures.1 in
    rw (p.1, p.2) (line_cause _ _ (g.I.Inputs.state c.lines.inputs) _ c.lines.lines c.next.new.self c.lines.numbers.names c.lines.room c.lines.invariant.0 c.in-Some.line _ c.lines.invariant.2
    (subst (GivesLine c.lines.lines c.next.new.self (g.I.Inputs.state c.lines.inputs) (g.I.Inputs.state c.next.new.inputs)) found c.in_ok-next.ensures.line.given)
    c.in_err-number_line.ensures.cause)

pub returns-in_err-number_line-clause-read_fault : goal.returns-in_err-number_line-clause-read_fault
returns-in_err-number_line-clause-read_fault g c =
    let p = err_from_is_err_and c.from_residual-in_err-number_line.result c.from_residual-in_err-number_line.ensures.1 in
    rw (p.1, p.2) (no_read_fault c.args.limits.now _ _ _ _ c.in_err-number_line.ensures.cause)

pub overflow_sub-room : goal.overflow_sub-room
overflow_sub-room g c =
    let numbers = c.in_ok-number_line.ensures.ok in
    omega (arith, length-numbers c.lines.numbers.names c.number_line.new.self.names c.number_line.new.ids.items c.in-Some.line.bytes numbers.numbers, numbers.few)

room_of : (limits : Limits) (before activities known : ℕ) (traces : List (List ℕ)) (ids trace : List ℕ) → known ≡ activities → trace ≡ ids → HasRoom limits before traces activities ids
    → HasRoom limits before traces known trace
room_of limits before activities known traces ids trace same same_ids room =
    subst (λ n. HasRoom limits before traces n trace) (sym same) (subst (HasRoom limits before traces activities) (sym same_ids) room)

pub take-requires : goal.take-requires
take-requires g c =
    let found : c.next.new.self.line ≡ Some c.in-Some.line = sym c.line.ensures ∙ c.in-Some.is in
    let gives = subst (GivesLine c.lines.lines c.next.new.self (g.I.Inputs.state c.lines.inputs) (g.I.Inputs.state c.next.new.inputs)) found c.in_ok-next.ensures.line.given in
    let traces = c.lines.invariant.0 in (
      c.args.limits.now,
      length c.lines.numbers.names.names,
      traces,
      c.lines.invariant.1,
      room_of c.args.limits.now (length c.lines.numbers.names.names) (length c.number_line.new.self.names.names) _ traces c.number_line.new.ids.items _ c.len-in-lines.ensures c.deref.ensures.value
          (HasRoom-line c.args.limits.now (g.I.Inputs.state c.args.inputs.now) (g.I.Inputs.state c.lines.inputs) (g.I.Inputs.state c.next.new.inputs) c.lines.lines c.next.new.self c.lines.numbers.names
          c.number_line.new.self.names c.lines.room traces c.number_line.new.ids.items c.in-Some.line c.lines.invariant.2 gives c.in_ok-number_line.ensures.ok),
    )

pub lines-preserved : goal.lines-preserved
lines-preserved g c =
    let found : c.next.new.self.line ≡ Some c.in-Some.line = sym c.line.ensures ∙ c.in-Some.is in
    let gives = subst (GivesLine c.lines.lines c.next.new.self (g.I.Inputs.state c.lines.inputs) (g.I.Inputs.state c.next.new.inputs)) found c.in_ok-next.ensures.line.given in
    let traces = c.lines.invariant.0 in
    let next = c.number_line.new.self.names in
    let ids = c.number_line.new.ids.items in
    let held = c.in_ok-take.ensures.ok c.args.limits.now (length c.lines.numbers.names.names) traces c.lines.invariant.1
    (room_of c.args.limits.now (length c.lines.numbers.names.names) (length next.names) _ traces ids _ c.len-in-lines.ensures c.deref.ensures.value
    (HasRoom-line c.args.limits.now (g.I.Inputs.state c.args.inputs.now) (g.I.Inputs.state c.lines.inputs) (g.I.Inputs.state c.next.new.inputs) c.lines.lines c.next.new.self c.lines.numbers.names next
    c.lines.room traces ids c.in-Some.line c.lines.invariant.2 gives c.in_ok-number_line.ensures.ok)) in (
      traces ++ ids ∷ [],
      subst (λ (l : List ℕ). g.S.TraceSink.holds c.take.new.self c.args.limits.now (length next.names) (traces ++ l ∷ [])) c.deref.ensures.value
          (subst (λ n. g.S.TraceSink.holds c.take.new.self c.args.limits.now n (traces ++ c.deref.result.now ∷ [])) c.len-in-lines.ensures held),
      subst (λ n. IsReading c.args.limits.now (g.I.Inputs.state c.args.inputs.now) (g.I.Inputs.state c.next.new.inputs) c.next.new.self next (c.lines.room - n) (traces ++ ids ∷ []))
          (sym (c.len.ensures ∙ c.number_line.new.ids.ok.0))
          (IsReading-more c.args.limits.now (g.I.Inputs.state c.args.inputs.now) (g.I.Inputs.state c.lines.inputs) (g.I.Inputs.state c.next.new.inputs) c.lines.lines c.next.new.self c.lines.numbers.names next
          c.lines.room traces ids c.in-Some.line c.lines.invariant.2 c.in_ok-next.ensures.keeps c.in_ok-next.ensures.line.live c.in_ok-next.ensures.line.limit gives c.in_ok-number_line.ensures.ok),
    )
