use Rattle.std.proofs.Common.{◌≡◌, ◌++◌, map, string_bytes, codes, decimal, length, ap, ap₂, ◌∙◌}
use Rattle.std.specs.List.{flat_map, range_with_len}
use Rattle.interplay_kb.specs.Ranks.{TellsOf, ranked}
use Rattle.report_text.specs.Fields.{quoted}
use Rattle.report_text.specs.KbTable.{activity_heading, pair_heading, activity_line, pair_lines, kb_text}
use Rattle.report_text.proofs.Joined.{same_long}
use Rattle.report_text.proofs.counters.kb_table.Goals as goal

pub returns-clause-ok : goal.returns-clause-ok
unfolding kb_text
returns-clause-ok c = λ ended s.
    let names = c.args.names.now.names in
    let log = ranked c.args.ranks.now ended in
    let told : TellsOf c.in_ok-counters.counters log = c.in_ok-counters.ensures.tells ended s in
    let long : length c.in_ok-texts.texts.items ≡ length names = same_long string_bytes c.in_ok-texts.texts.items names c.in_ok-texts.ensures in
    let one : c.extend_from_slice.new.self.items ≡ codes "traces " = c.in_ok-extend_from_slice.ensures.items ∙ ap (λ xs. xs ++ codes "traces ") c.new-out.ensures.items in
    let two : c.put_number.new.out.items ≡ codes "traces " ++ decimal (length log)
    = c.in_ok-put_number.ensures ∙ ap₂ (λ xs n. xs ++ decimal n) one (c.traces.ensures log told) in
    let three : c.extend_from_slice-2.new.self.items ≡ codes "traces " ++ decimal (length log) ++ codes "\n"
    = c.in_ok-extend_from_slice-2.ensures.items ∙ ap (λ xs. xs ++ codes "\n") two in
    let four : c.extend_from_slice-3.new.self.items ≡ codes "traces " ++ decimal (length log) ++ codes "\n" ++ activity_heading
    = c.in_ok-extend_from_slice-3.ensures.items ∙ ap₂ (λ xs ys. xs ++ ys) three c.as_bytes.ensures.value in
    let texts : map string_bytes c.deref.result.now ≡ map quoted names = ap (map string_bytes) c.deref.ensures.value ∙ c.in_ok-texts.ensures in
    let lines : c.put_activities.new.out.items
    ≡ codes "traces " ++ decimal (length log) ++ codes "\n" ++ activity_heading ++ flat_map (activity_line names log) (range_with_len 0 (length names))
    = c.in_ok-put_activities.ensures names log texts told
    ∙ ap₂ (λ xs n. xs ++ flat_map (activity_line names log) (range_with_len 0 n)) four (ap length c.deref.ensures.value ∙ long) in
    let second : c.extend_from_slice-4.new.self.items
    ≡ codes "traces " ++ decimal (length log) ++ codes "\n" ++ activity_heading ++ flat_map (activity_line names log) (range_with_len 0 (length names)) ++ pair_heading
    = c.in_ok-extend_from_slice-4.ensures.items ∙ ap₂ (λ xs ys. xs ++ ys) lines c.as_bytes-2.ensures.value in
    let texts' : map string_bytes c.deref-2.result.now ≡ map quoted names = ap (map string_bytes) c.deref-2.ensures.value ∙ c.in_ok-texts.ensures in
    c.in_ok-put_all_pairs.ensures names log texts' told
    ∙ ap₂ (λ xs n. xs ++ flat_map (pair_lines names log) (range_with_len 0 n)) second (ap length c.deref-2.ensures.value ∙ long)
