use Rattle.std.proofs.Common.{◌≡◌, ◌++◌, List, ℕ, map, string_bytes}
use Rattle.std.specs.List.{flat_map, range_with_len}
use Rattle.interplay_kb.specs.Ranks.{TellsOf}
use Rattle.report_text.specs.Fields.{quoted}
use Rattle.report_text.specs.KbTable.{activity_line}
use Rattle.report_text.proofs.counters.put_activities.Given as goal

abbrev pub invariant-loop-rank : goal.invariant-loop-rank
invariant-loop-rank l =
    (names log : List (List ℕ)) → map string_bytes l.texts ≡ map quoted names → TellsOf l.counters log
    → l.out.items ≡ l.fn.out.items ++ flat_map (activity_line names log) (range_with_len 0 l.rank)
