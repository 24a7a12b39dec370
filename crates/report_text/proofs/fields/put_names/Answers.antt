use Rattle.std.proofs.Common.{◌++◌, ◌∷◌, [], string_bytes, sym, ap, ap₂, ◌∙◌}
use Rattle.report_text.specs.Fields.{quoted_at}
use Rattle.report_text.proofs.Joined.{name_at, two}
use Rattle.report_text.proofs.Written.{one_name, two_names}
use Rattle.report_text.proofs.fields.put_names.Goals as goal

pub returns-then-arity-eq1 : goal.returns-then-arity-eq1
returns-then-arity-eq1 c = λ names texts.
    let k = c.args.constraint.now in
    let first = name_at string_bytes c.args.texts.now names texts k.first c.index-texts-constraint.result c.requires.first c.index-texts-constraint.is in
    c.in_ok-extend_from_slice.ensures.items
    ∙ ap (λ xs. c.args.out.now.items ++ xs) (c.as_bytes.ensures.value ∙ first ∙ sym (one_name names k (sym c.arity.ensures ∙ c.if-arity-eq1.true)))

pub returns : goal.returns
returns c = λ names texts.
    let k = c.args.constraint.now in
    let old = c.args.out.now.items in
    let first = name_at string_bytes c.args.texts.now names texts k.first c.index-texts-constraint.result c.requires.first c.index-texts-constraint.is in
    let second = name_at string_bytes c.args.texts.now names texts k.second c.index-texts-constraint-2.result c.requires.second c.index-texts-constraint-2.is in
    let one = c.in_ok-extend_from_slice.ensures.items ∙ ap (λ xs. old ++ xs) (c.as_bytes.ensures.value ∙ first) in
    c.in_ok-extend_from_slice-2.ensures.items
    ∙ ap₂ (λ xs ys. xs ++ ys) (c.in_ok-push.ensures.items ∙ ap (λ xs. xs ++ 44 ∷ []) one) (c.as_bytes-2.ensures.value ∙ second)
    ∙ two old (quoted_at names k.first) 44 (quoted_at names k.second)
    ∙ ap (λ xs. old ++ xs) (sym (two_names names k (λ e. c.if-arity-eq1.false (c.arity.ensures ∙ e))))
