use Rattle.std.proofs.Common.{◌≡◌, ◌<◌, ◌≤◌, ℕ, List, length, get_or, take, sym, subst, arith}
use Rattle.std.proofs.lemmas.List.{get_or_read, take_more, take_all}
use Rattle.dfa_minimise.proofs.Progress.{IsMarkedSoFar, IsCutSoFar}
use Rattle.dfa_minimise.proofs.Splitting.{marked-more, cut-none, cut-more, tidy-all, cut-all}
use Rattle.dfa_minimise.proofs.refinable.Refinable.split.Goals as goal

pub marks-preserved : goal.marks-preserved
marks-preserved c =
    let i = c.marks.state-index in
    let lt : i < length c.args.touched.now = c.marks-test.true in
    let P : List ℕ → Type 0 = λ l. IsMarkedSoFar c.args.self.now c.mark.new.self l in
    subst P (sym (take_more c.args.touched.now i 0 lt)) (marked-more c.args.self.now c.marks.self c.mark.new.self (take i c.args.touched.now) (get_or c.args.touched.now i 0) c.marks.invariant c.mark.ensures)

pub cuts-init : goal.cuts-init
cuts-init c =
    let P : List ℕ → Type 0 = λ l. IsMarkedSoFar c.args.self.now c.marks.self l in
    cut-none c.args.self.now c.marks.self c.args.touched.now (subst P (take_all c.marks.state-index c.args.touched.now c.marks-test.false) c.marks.invariant)

pub cuts-preserved : goal.cuts-preserved
cuts-preserved c =
    let i = c.cuts.state-index in
    let low : (j : ℕ) → j ≤ i → get_or c.args.touched.now j 0 < length c.args.self.now.class.items = λ j l. c.requires.states j (omega (arith, l, c.cuts-test.true)) in
    let lt = low i (omega arith) in
    let in_class : get_or c.args.touched.now i 0 < length c.cuts.self.class.items = omega (arith, lt, c.cuts.invariant.class_length) in
    let is_class = get_or_read c.cuts.self.class.items (get_or c.args.touched.now i 0) c.index-class.result.now in_class c.index-class.ensures 0 in
    cut-more c.args.self.now c.cuts.self c.cut.new.self c.args.touched.now i c.index-class.result.now c.cuts.invariant is_class lt (λ j l. low j (omega (arith, l))) c.in_ok-cut.ensures

pub returns-clause-tidy : goal.returns-clause-tidy
returns-clause-tidy c =
    let at : c.cuts.state-index ≡ length c.args.touched.now = omega (arith, c.cuts-test.false, c.cuts.auto.state-index-end) in
    let P : ℕ → Type 0 = λ k. IsCutSoFar c.args.self.now c.cuts.self c.args.touched.now k in
    tidy-all c.args.self.now c.cuts.self c.args.touched.now c.requires.tidy.few (subst P at c.cuts.invariant)

pub returns-clause-cut : goal.returns-clause-cut
returns-clause-cut c =
    let at : c.cuts.state-index ≡ length c.args.touched.now = omega (arith, c.cuts-test.false, c.cuts.auto.state-index-end) in
    let P : ℕ → Type 0 = λ k. IsCutSoFar c.args.self.now c.cuts.self c.args.touched.now k in
    let h = subst P at c.cuts.invariant in
    cut-all c.args.self.now c.cuts.self c.args.touched.now h (tidy-all c.args.self.now c.cuts.self c.args.touched.now c.requires.tidy.few h).no_marks
