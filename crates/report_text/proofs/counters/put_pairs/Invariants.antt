use Rattle.std.proofs.Common.{◌≡◌, ◌++◌, ◌==◌, List, [], ℕ, map, string_bytes, if◌then◌else◌}
use Rattle.std.specs.List.{flat_map, range_with_len}
use Rattle.interplay_kb.specs.Ranks.{TellsOf}
use Rattle.report_text.specs.Fields.{quoted}
use Rattle.report_text.specs.KbTable.{pair_line}
use Rattle.report_text.proofs.counters.put_pairs.Given as goal

abbrev pub invariant-loop-second : goal.invariant-loop-second
invariant-loop-second l =
    (names log : List (List ℕ)) → map string_bytes l.texts ≡ map quoted names → TellsOf l.counters log
    → l.out.items ≡ l.fn.out.items ++ flat_map (λ b. if l.first == b then [] else pair_line names log l.first b) (range_with_len 0 l.second)
