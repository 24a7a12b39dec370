use Rattle.std.proofs.Common.{◌++◌, ◌∙◌, sym, ap, subst}
use Rattle.std.proofs.lemmas.List.{append-nil}
use Rattle.std.proofs.lemmas.Result.{on_ok_weaker}
use Rattle.scoring.specs.Found.{Holds}
use Rattle.scoring.specs.Search.{reaching_of}
use Rattle.scoring.proofs.Searching.{finds-none, taken-passed, taken-is, reaching_of-some, reaching_of-none}
use Rattle.scoring.proofs.search.Search.visit.Goals as goal

pub returns-then-not-takes-clause-finds : goal.returns-then-not-takes-clause-finds
returns-then-not-takes-clause-finds c =
    finds-none c.args.self.now.counters.now c.args.self.now.thresholds.now c.args.found.now _
    (taken-passed c.args.first c.args.second c.args.kind (sym c.takes.ensures ∙ c.if-not-takes.true))

pub returns-in-Some-clause-finds : goal.returns-in-Some-clause-finds
returns-in-Some-clause-finds c =
    on_ok_weaker c.add.result
    (λ holds. record {
      holds = λ log before told h.
          let one = reaching_of-some log c.args.self.now.thresholds.now _ c.in-Some.scored (sym c.in-Some.is ∙ c.score.ensures log told) in
          let all = ap (reaching_of log c.args.self.now.thresholds.now) (taken-is c.args.first c.args.second c.args.kind (sym c.takes.ensures ∙ c.if-not-takes.false)) ∙ one in
          subst (Holds c.add.new.self) (ap (λ xs. before ++ xs) (sym all)) (holds before h);
    }) c.add.ensures.holds

pub returns-in-None-clause-finds : goal.returns-in-None-clause-finds
returns-in-None-clause-finds c = record {
  holds = λ log before told h.
      let one = reaching_of-none log c.args.self.now.thresholds.now _ (sym c.in-None.is ∙ c.score.ensures log told) in
      let all = ap (reaching_of log c.args.self.now.thresholds.now) (taken-is c.args.first c.args.second c.args.kind (sym c.takes.ensures ∙ c.if-not-takes.false)) ∙ one in
      subst (Holds c.args.found.now) (sym (append-nil before) ∙ ap (λ xs. before ++ xs) (sym all)) h;
}
