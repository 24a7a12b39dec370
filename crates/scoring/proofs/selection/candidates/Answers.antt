use Rattle.std.proofs.Common.{◌≡◌, ◌∙◌, [], All, length, sym, ap, subst, arith}
use Rattle.std.specs.List.{AllByRecursion}
use Rattle.std.proofs.lemmas.List.Elements.{All-from_recursion}
use Rattle.interplay_kb.specs.Ranks.{TellsOf, rank_count, ranked}
use Rattle.interplay_kb.specs.Stands.{activity_count}
use Rattle.template_core.specs.Constraints.{IsTemplate}
use Rattle.scoring.specs.Candidates.{EachOccurs, mined_kinds, candidates_of}
use Rattle.scoring.specs.Conditions.{HasEachEvent}
use Rattle.scoring.specs.Priority.{priority_cmp, in_order}
use Rattle.scoring.specs.Scores.{IsScored}
use Rattle.scoring.proofs.Members.{mined_few, mined_templates}
use Rattle.scoring.proofs.Searching.{each_told, finds_mined, found-length, found-in_order, found_scored}
use Rattle.scoring.proofs.selection.candidates.Goals as goal

pub all-requires-clause-ready : goal.all-requires-clause-ready
all-requires-clause-ready c =
    let told = c.in_ok-counters.ensures.tells c.requires.stands.0 c.requires.stands.1 in
    let mined = c.deref.ensures.value ∙ c.in_ok-kinds.ensures.kinds in
    record {
      log = ranked c.args.ranks.now c.requires.stands.0;
      tells = told;
      each = each_told c.in_ok-counters.counters _ told (subst HasEachEvent (sym c.in_ok-counters.ensures.kb) c.requires.stands);
      templates = subst (All IsTemplate) (sym mined) (All-from_recursion IsTemplate (mined_kinds c.args.repertoire) (mined_templates c.args.repertoire));
      few_kinds = omega (arith, ap length mined, mined_few c.args.repertoire);
      few = c.requires.thresholds;
    }

pub returns-then-count-limit-clause-cause : goal.returns-then-count-limit-clause-cause
returns-then-count-limit-clause-cause c = λ ended s.
    let log = ranked c.args.ranks.now ended in
    let n = activity_count c.args.kb.now in
    let same : rank_count c.in_ok-counters.counters ≡ n = c.in_ok-counters.ensures.count in
    let found = finds_mined _ _ _ _ _ (c.deref.ensures.value ∙ c.in_ok-kinds.ensures.kinds) c.in_ok-all.ensures.finds in
    let h = found.holds log [] (c.in_ok-counters.ensures.tells ended s) c.new-found.ensures.holds in
    let size : c.all.new.found.count ≡ length (candidates_of log n c.args.repertoire c.args.thresholds.now)
    = h.counted ∙ found-length log (rank_count c.in_ok-counters.counters) c.args.repertoire c.args.thresholds.now ∙ ap (λ n. length (candidates_of log n c.args.repertoire c.args.thresholds.now)) same in
    (size, omega (arith, size))

pub returns-clause-list : goal.returns-clause-list
returns-clause-list c = λ ended s.
    let log = ranked c.args.ranks.now ended in
    let counters = c.in_ok-counters.counters in
    let told : TellsOf counters log = c.in_ok-counters.ensures.tells ended s in
    let each : EachOccurs (rank_count counters) log = each_told counters log told (subst HasEachEvent (sym c.in_ok-counters.ensures.kb) c.requires.stands) in
    let found = finds_mined _ _ _ _ _ (c.deref.ensures.value ∙ c.in_ok-kinds.ensures.kinds) c.in_ok-all.ensures.finds in
    let h = found.holds log [] told c.new-found.ensures.holds in
    let listed = h.listed (omega (arith, h.counted, c.all.ensures.limit, c.new-found.ensures.limit)) in
    c.in_ok-sort.ensures.order log (subst (AllByRecursion (IsScored log)) (sym listed) (found_scored log (rank_count counters) c.args.repertoire c.args.thresholds.now each))
    ∙ ap (in_order priority_cmp) listed
    ∙ found-in_order log (rank_count counters) c.args.repertoire c.args.thresholds.now each
    ∙ ap (λ n. candidates_of log n c.args.repertoire c.args.thresholds.now) c.in_ok-counters.ensures.count

pub returns-clause-within : goal.returns-clause-within
returns-clause-within c =
    let h = c.in_ok-all.ensures.finds.holds _ [] (c.in_ok-counters.ensures.tells c.requires.stands.0 c.requires.stands.1) c.new-found.ensures.holds in
    omega (arith, h.within, c.all.ensures.limit, c.new-found.ensures.limit, c.sort.ensures.length, c.all.new.found.list.ok.0)
