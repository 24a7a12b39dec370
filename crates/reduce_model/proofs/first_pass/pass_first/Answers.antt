use Rattle.std.proofs.Common.{map, set, refl, sym, ◌∙◌, arith}
use Rattle.reduce_model.proofs.FirstPasses.{kept-first, marked-later, passing-all, passing-implied, passing-left, passing-none, passing-on, passing-prefix, passing-refused, passing-size}
use Rattle.reduce_model.proofs.KeptPrefixes.{kept-end, kept-later, kept-more}
use Rattle.reduce_model.specs.Deciding.{is_left}
use Rattle.reduce_model.specs.declared.decision.Decision.TheVariants.{FirstPass}
use Rattle.reduce_model.specs.declared.prefixes.Prefix.{Prefix}
use Rattle.reduce_model.proofs.first_pass.pass_first.Goals as goal
use Rattle.reduce_model.proofs.first_pass.pass_first.Goals.{then-is_kept+in_ok-try_candidate+in-Implied, then-is_kept+in_ok-try_candidate+in-Left+in_ok-keep-in-Left, else-is_kept}

pub loop-place-init : goal.loop-place-init
loop-place-init c = record {
  passing = passing-none c.args.symbols c.args.states c.args.list.now c.args.decisions.now c.in_ok-left.left 0 c.requires.as_many c.requires.asked.some_states c.requires.pruned c.in_ok-left.ensures.ok refl;
  kept = kept-first c.args.symbols c.args.states c.args.list.now (map is_left c.args.decisions.now) c.in_ok-prefixes.prefixes.items c.requires.asked.some_states c.in_ok-prefixes.ensures.ok;
}

pub overflow_add-built : goal.overflow_add-built
overflow_add-built c = let le = passing-size c.loop-place.invariant.passing in omega (arith, le, c.requires.asked.few)

pub returns-in-TooWide-clause-err : goal.returns-in-TooWide-clause-err
returns-in-TooWide-clause-err c = λ es many strong told.
    let tried = rw c.in-TooWide.is at c.in_ok-try_candidate.ensures.ok in
    passing-refused c.loop-place-test.true c.loop-place.invariant.passing (sym c.is_kept.ensures ∙ c.if-is_kept.true) es many strong told tried.1 tried.0

pub loop-place-preserved : goal.loop-place-preserved
loop-place-preserved c =
    let n = c.args.symbols in
    let s = c.args.states in
    let list = c.args.list.now in
    let at = c.loop-place.place in
    let inside = c.loop-place-test.true in
    let marks = map is_left c.loop-place.decisions in
    let h = c.loop-place.invariant in
    elim c.if-is_kept.branch [
      | then-is_kept+in_ok-try_candidate+in-Implied w ↦
          let new = passing-implied inside h.passing (sym c.is_kept.ensures ∙ w.if-is_kept.true) (rw w.in-Implied.is at w.in_ok-try_candidate.ensures.ok) in
          rw (w.decisions-is, w.left-is, w.length-is, w.prefixes-is) (record {
            passing = new;
            kept = kept-later n s list marks (map is_left (set c.loop-place.decisions at FirstPass)) at c.loop-place.prefixes.items (marked-later c.loop-place.decisions at FirstPass) h.kept;
          })
      | then-is_kept+in_ok-try_candidate+in-Left+in_ok-keep-in-Left w ↦
          let tried = rw w.in-Left.is at w.in_ok-try_candidate.ensures.ok in
          let new = passing-left inside h.passing (sym c.is_kept.ensures ∙ w.if-is_kept.true) w.in-Left.more c.requires.asked.few_states tried.0 tried.1 in
          let prefix : Prefix = record {
            dfa = c.loop-place.left;
            place = at;
            length = c.loop-place.length;
          } in
          let is = passing-prefix prefix (omega (arith, inside)) h.passing in
          rw (w.decisions-is, w.left-is, w.length-is, w.prefixes-is) (record {
            passing = new;
            kept = kept-later n s list marks marks at w.keep.new.prefixes.items (λ place le. refl)
                (kept-more n s list marks at c.loop-place.prefixes.items w.keep.new.prefixes.items prefix w.in_ok-keep-in-Left.ensures is h.kept);
          })
      | else-is_kept w ↦
          let new = passing-on inside h.passing (sym c.is_kept.ensures ∙ w.if-is_kept.false) in
          rw (w.decisions-is, w.left-is, w.length-is, w.prefixes-is) (record {
            passing = new;
            kept = kept-later n s list marks marks at c.loop-place.prefixes.items (λ place le. refl) h.kept;
          })
    ]

pub returns-clause-ok : goal.returns-clause-ok
returns-clause-ok c = passing-all c.loop-place-test.false c.loop-place.invariant.passing

pub returns-clause-kept : goal.returns-clause-kept
returns-clause-kept c =
    kept-end c.args.symbols c.args.states c.args.list.now (map is_left c.loop-place.decisions) c.loop-place.place c.loop-place.prefixes.items c.loop-place.invariant.kept
