use Rattle.std.proofs.Common.{◌≡◌, ◌++◌, List, ℕ, map, string_bytes}
use Rattle.std.specs.List.{flat_map, range_with_len}
use Rattle.interplay_kb.specs.Ranks.{TellsOf}
use Rattle.report_text.specs.Fields.{quoted}
use Rattle.report_text.specs.KbTable.{pair_lines}
use Rattle.report_text.proofs.counters.put_all_pairs.Given as goal

abbrev pub invariant-loop-rank : goal.invariant-loop-rank
invariant-loop-rank l =
    (names log : List (List ℕ)) → map string_bytes l.texts ≡ map quoted names → TellsOf l.counters log
    → l.out.items ≡ l.fn.out.items ++ flat_map (pair_lines names log) (range_with_len 0 l.rank)
