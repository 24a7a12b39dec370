use Rattle.std.proofs.Common.{◌≡◌, ◌++◌, ◌∷◌, [], ap, ◌∙◌, string_bytes}
use Rattle.report_text.specs.Fields.{columns, quoted_at}
use Rattle.report_text.specs.KbTable.{activity_numbers}
use Rattle.report_text.proofs.Joined.{three, name_at}
use Rattle.template_core.specs.Counts.{unary_counts}
use Rattle.report_text.proofs.counters.put_activity.Goals as goal

pub returns : goal.returns
returns c = λ names log texts told.
    let old = c.args.out.now.items in
    let counts : c.unary-counts.result ≡ unary_counts c.args.rank log = c.unary-counts.ensures log told in
    let name = name_at string_bytes c.args.texts.now names texts c.args.rank c.index-texts-rank.result c.requires.rank c.index-texts-rank.is in
    let columns_in : c.put_columns.new.out.items ≡ old ++ columns 12 (activity_numbers (unary_counts c.args.rank log))
    = c.in_ok-put_columns.ensures ∙ ap (λ k. old ++ columns 12 (activity_numbers k)) counts in
    let name_in : c.extend_from_slice.new.self.items ≡ c.put_columns.new.out.items ++ quoted_at names c.args.rank
    = c.in_ok-extend_from_slice.ensures.items ∙ ap (λ xs. c.put_columns.new.out.items ++ xs) (c.as_bytes.ensures.value ∙ name) in
    c.in_ok-push.ensures.items
    ∙ ap (λ xs. xs ++ 10 ∷ []) (name_in ∙ ap (λ xs. xs ++ quoted_at names c.args.rank) columns_in)
    ∙ three old (columns 12 (activity_numbers (unary_counts c.args.rank log))) (quoted_at names c.args.rank) (10 ∷ [])
