use Rattle.std.proofs.Common.{◌+◌, [], map, length, refl, sym, ◌∙◌, arith}
use Rattle.reduce_model.proofs.FirstPasses.{kept-first}
use Rattle.reduce_model.proofs.FirstPassesWithin.{passed-by, passed-implied, passed-is, passed-left, passed-wide, passing-end, passing-none, passing-prefix, passing-size}
use Rattle.reduce_model.proofs.KeptPrefixes.{kept-more}
use Rattle.reduce_model.specs.Deciding.{is_left}
use Rattle.reduce_model.specs.declared.prefixes.Prefix.{Prefix}
use Rattle.reduce_model.proofs.first_within.pass_first_within.Goals as goal
use Rattle.reduce_model.proofs.first_within.pass_first_within.Goals.{then-is_kept+in_ok-try_candidate+in-Implied, then-is_kept+in_ok-try_candidate+in-Left, then-wide-list+in_ok-keep-in-Left, else-wide-list, then-is_kept+in_ok-try_candidate+in-TooWide, else-is_kept}

pub loop-place-init : goal.loop-place-init
loop-place-init c =
    let n = c.args.symbols in
    let s = c.args.states in
    let list = c.args.list.now in
    let prefixes = c.in_ok-prefixes.prefixes.items in
    passing-none n s list c.args.decisions.now c.new-passed.result.items c.in_ok-joined.joined 0 (length list) prefixes c.requires.asked.some_states c.in_ok-joined.ensures.ok c.new-passed.ensures.items refl refl
    (kept-first n s list [] prefixes c.requires.asked.some_states c.in_ok-prefixes.ensures.ok)

pub overflow_add-length : goal.overflow_add-length
overflow_add-length c = let le = passing-size c.loop-place-test.true c.requires.as_many c.loop-place.invariant c.if-wide-list.true in omega (arith, le, c.requires.asked.few)

pub loop-place-preserved : goal.loop-place-preserved
loop-place-preserved c =
    let at = c.loop-place.place in
    let size = c.loop-place.length in
    let inside = c.loop-place-test.true in
    let many = c.requires.as_many in
    let h = c.loop-place.invariant in
    elim c.if-is_kept.branch [
      | then-is_kept+in_ok-try_candidate+in-Implied w ↦
          let is = passed-is inside many h c.requires.pruned (sym c.is_kept.ensures ∙ w.if-is_kept.true) in
          rw (c.in_ok-push.ensures.items, w.decision-is, w.joined-is, w.length-is, w.wide-is, w.prefixes-is) (passed-implied inside many h is (rw w.in-Implied.is at w.in_ok-try_candidate.ensures.ok))
      | then-is_kept+in_ok-try_candidate+in-Left w ↦
          let is = passed-is inside many h c.requires.pruned (sym c.is_kept.ensures ∙ w.if-is_kept.true) in
          let tried = rw w.in-Left.is at w.in_ok-try_candidate.ensures.ok in
          let prefix : Prefix = record {
            dfa = c.loop-place.joined;
            place = at;
            length = size;
          } in
          rw (c.in_ok-push.ensures.items, w.decision-is, is, w.joined-is, w.length-is, w.wide-is, w.prefixes-is) (elim w.if-wide-list.branch [
            | then-wide-list+in_ok-keep-in-Left v ↦
                rw (v.length-is, v.prefixes-is)
                (passed-left inside many h is w.in-Left.more (size + 1) v.keep.new.prefixes.items c.requires.asked.few_states tried.0 tried.1 (λ e. refl)
                (kept-more c.args.symbols c.args.states c.args.list.now (map is_left c.loop-place.passed.items) at c.loop-place.prefixes.items v.keep.new.prefixes.items prefix v.in_ok-keep-in-Left.ensures
                (passing-prefix inside many h v.if-wide-list.true prefix refl refl refl) h.kept))
            | else-wide-list v ↦
                rw (v.length-is, v.prefixes-is)
                (passed-left inside many h is w.in-Left.more size c.loop-place.prefixes.items c.requires.asked.few_states tried.0 tried.1 (λ e. absurd (v.if-wide-list.false e)) h.kept)
          ])
      | then-is_kept+in_ok-try_candidate+in-TooWide w ↦
          let is = passed-is inside many h c.requires.pruned (sym c.is_kept.ensures ∙ w.if-is_kept.true) in
          let tried = rw w.in-TooWide.is at w.in_ok-try_candidate.ensures.ok in
          rw (c.in_ok-push.ensures.items, w.decision-is, is, w.joined-is, w.length-is, w.wide-is, w.prefixes-is, w.min-wide.ensures)
          (passed-wide inside many h is _ (λ le. omega (arith, le)) (λ le. omega (arith, le)) tried.0 tried.1)
      | else-is_kept w ↦
          rw (c.in_ok-push.ensures.items, w.decision-is, w.joined-is, w.length-is, w.wide-is, w.prefixes-is) (passed-by inside many h c.requires.pruned (sym c.is_kept.ensures ∙ w.if-is_kept.false))
    ]

pub returns-clause-ok : goal.returns-clause-ok
returns-clause-ok c = passing-end c.args.symbols c.args.states c.args.list.now c.args.decisions.now c.loop-place.place c.loop-place.joined c.loop-place.length (record {
  decisions = c.loop-place.passed;
  prefixes = c.loop-place.prefixes;
  wide = c.loop-place.wide;
}) c.loop-place-test.false c.requires.as_many c.loop-place.invariant
