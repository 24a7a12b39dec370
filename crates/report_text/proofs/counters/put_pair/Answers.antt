use Rattle.std.proofs.Common.{◌≡◌, ◌++◌, ◌∷◌, [], ap, ◌∙◌, string_bytes}
use Rattle.report_text.specs.Fields.{columns, quoted_at}
use Rattle.report_text.specs.KbTable.{pair_numbers}
use Rattle.report_text.proofs.Joined.{five, name_at}
use Rattle.template_core.specs.Counts.{pair_counts}
use Rattle.report_text.proofs.counters.put_pair.Goals as goal

pub returns : goal.returns
returns c = λ names log texts told.
    let old = c.args.out.now.items in
    let counts : c.pair-counts.result ≡ pair_counts c.args.first c.args.second log = c.pair-counts.ensures log told in
    let first = name_at string_bytes c.args.texts.now names texts c.args.first c.index-texts-first.result c.requires.first c.index-texts-first.is in
    let second = name_at string_bytes c.args.texts.now names texts c.args.second c.index-texts-second.result c.requires.second c.index-texts-second.is in
    let columns_in : c.put_columns.new.out.items ≡ old ++ columns 12 (pair_numbers (pair_counts c.args.first c.args.second log))
    = c.in_ok-put_columns.ensures ∙ ap (λ k. old ++ columns 12 (pair_numbers k)) counts in
    let first_in : c.extend_from_slice.new.self.items ≡ c.put_columns.new.out.items ++ quoted_at names c.args.first
    = c.in_ok-extend_from_slice.ensures.items ∙ ap (λ xs. c.put_columns.new.out.items ++ xs) (c.as_bytes.ensures.value ∙ first) in
    let second_in : c.extend_from_slice-2.new.self.items ≡ c.push.new.self.items ++ quoted_at names c.args.second
    = c.in_ok-extend_from_slice-2.ensures.items ∙ ap (λ xs. c.push.new.self.items ++ xs) (c.as_bytes-2.ensures.value ∙ second) in
    c.in_ok-push-2.ensures.items
    ∙ ap (λ xs. xs ++ 10 ∷ []) (second_in ∙ ap (λ xs. xs ++ quoted_at names c.args.second) (c.in_ok-push.ensures.items ∙ ap (λ xs. xs ++ 32 ∷ []) (first_in ∙ ap (λ xs. xs ++ quoted_at names c.args.first) columns_in)))
    ∙ five old (columns 12 (pair_numbers (pair_counts c.args.first c.args.second log))) (quoted_at names c.args.first) (32 ∷ []) (quoted_at names c.args.second) (10 ∷ [])
