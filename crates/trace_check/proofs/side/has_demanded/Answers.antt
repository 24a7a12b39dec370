use Rattle.std.proofs.Common.{not, eqb, length, sym, ap, subst, ◌∙◌}
use Rattle.trace_check.specs.Demands.{IsTest}
use Rattle.trace_check.specs.declared.demand.Demand.{Demand}
use Rattle.trace_check.proofs.Asked.{lt-iff, asked-present, asked-later, asked-earlier, asked-next, asked-previous, asked-alternates_later, asked-alternates_earlier, asked-absent, asked-none_later, asked-none_earlier, asked-not_next, asked-not_previous, some-iff, twice}
use Rattle.trace_check.proofs.side.has_demanded.Goals as goal

pub returns-in-Present : goal.returns-in-Present
returns-in-Present c test is =
    ap not c.is_empty.ensures ∙ asked-present c.args.own.now c.args.other.now test c.args.i c.args.passed c.requires.there c.requires.most c.requires.before c.requires.behind (subst (λ (d : Demand). IsTest d c.args.own.now c.args.other.now test) c.in-Present.is is) (not (eqb (length c.args.other.now) 0)) (some-iff c.args.other.now)

pub returns-in-Later : goal.returns-in-Later
returns-in-Later c test is =
    asked-later c.args.own.now c.args.other.now test c.args.i c.args.passed c.requires.there c.requires.most c.requires.before c.requires.behind (subst (λ (d : Demand). IsTest d c.args.own.now c.args.other.now test) c.in-Later.is is) _ (lt-iff c.args.passed (length c.args.other.now))

pub returns-in-Earlier : goal.returns-in-Earlier
returns-in-Earlier c test is =
    asked-earlier c.args.own.now c.args.other.now test c.args.i c.args.passed c.requires.there c.requires.most c.requires.before c.requires.behind (subst (λ (d : Demand). IsTest d c.args.own.now c.args.other.now test) c.in-Earlier.is is) _ (lt-iff 0 c.args.passed)

pub returns-in-Next : goal.returns-in-Next
returns-in-Next c test is =
    asked-next c.args.own.now c.args.other.now test c.args.i c.args.passed c.requires.there c.requires.most c.requires.before c.requires.behind (subst (λ (d : Demand). IsTest d c.args.own.now c.args.other.now test) c.in-Next.is is) _ c.is_next.ensures

pub returns-in-Previous : goal.returns-in-Previous
returns-in-Previous c test is =
    asked-previous c.args.own.now c.args.other.now test c.args.i c.args.passed c.requires.there c.requires.most c.requires.before c.requires.behind (subst (λ (d : Demand). IsTest d c.args.own.now c.args.other.now test) c.in-Previous.is is) _ c.is_previous.ensures

pub returns-in-AlternatesLater : goal.returns-in-AlternatesLater
returns-in-AlternatesLater c test is =
    asked-alternates_later c.args.own.now c.args.other.now test c.args.i c.args.passed c.requires.there c.requires.most c.requires.before c.requires.behind (subst (λ (d : Demand). IsTest d c.args.own.now c.args.other.now test) c.in-AlternatesLater.is is) _ c.alternates_later.ensures

pub returns-in-AlternatesEarlier : goal.returns-in-AlternatesEarlier
returns-in-AlternatesEarlier c test is =
    asked-alternates_earlier c.args.own.now c.args.other.now test c.args.i c.args.passed c.requires.there c.requires.most c.requires.before c.requires.behind (subst (λ (d : Demand). IsTest d c.args.own.now c.args.other.now test) c.in-AlternatesEarlier.is is) _ c.alternates_earlier.ensures

pub returns-in-Absent : goal.returns-in-Absent
returns-in-Absent c test is =
    c.is_empty-in-Absent.ensures ∙ sym (twice (eqb (length c.args.other.now) 0)) ∙ asked-absent c.args.own.now c.args.other.now test c.args.i c.args.passed c.requires.there c.requires.most c.requires.before c.requires.behind (subst (λ (d : Demand). IsTest d c.args.own.now c.args.other.now test) c.in-Absent.is is) (not (eqb (length c.args.other.now) 0)) (some-iff c.args.other.now)

pub returns-in-NoneLater : goal.returns-in-NoneLater
returns-in-NoneLater c test is =
    asked-none_later c.args.own.now c.args.other.now test c.args.i c.args.passed c.requires.there c.requires.most c.requires.before c.requires.behind (subst (λ (d : Demand). IsTest d c.args.own.now c.args.other.now test) c.in-NoneLater.is is) _ (lt-iff c.args.passed (length c.args.other.now))

pub returns-in-NoneEarlier : goal.returns-in-NoneEarlier
returns-in-NoneEarlier c test is =
    asked-none_earlier c.args.own.now c.args.other.now test c.args.i c.args.passed c.requires.there c.requires.most c.requires.before c.requires.behind (subst (λ (d : Demand). IsTest d c.args.own.now c.args.other.now test) c.in-NoneEarlier.is is) _ (lt-iff 0 c.args.passed)

pub returns-in-NotNext : goal.returns-in-NotNext
returns-in-NotNext c test is =
    asked-not_next c.args.own.now c.args.other.now test c.args.i c.args.passed c.requires.there c.requires.most c.requires.before c.requires.behind (subst (λ (d : Demand). IsTest d c.args.own.now c.args.other.now test) c.in-NotNext.is is) _ c.is_next-in-NotNext.ensures

pub returns-in-NotPrevious : goal.returns-in-NotPrevious
returns-in-NotPrevious c test is =
    asked-not_previous c.args.own.now c.args.other.now test c.args.i c.args.passed c.requires.there c.requires.most c.requires.before c.requires.behind (subst (λ (d : Demand). IsTest d c.args.own.now c.args.other.now test) c.in-NotPrevious.is is) _ c.is_previous-in-NotPrevious.ensures
