use Rattle.std.proofs.Common.{ap, sym, subst, ◌∙◌, arith, option_map}
use Rattle.std.proofs.lemmas.Result.{err_from_is_err_and}
use Rattle.clap.specs.Words.{found_of, rows_of}
use Rattle.minerful_words.specs.Settings.{◌>>=◌, Refuses, settings_in, together, with_texts, without_options}
use Rattle.minerful_words.specs.Table.{options}
use Rattle.minerful_words.proofs.First.{refuses_first}
use Rattle.minerful_words.proofs.Tables.{with_texts-next, with_texts-refused, with_texts-all}
use Rattle.minerful_words.proofs.choices.settings_in.Goals as goal

pub loop-option-init : goal.loop-option-init
loop-option-init c =
    let found = rows_of (found_of c.args.found.now) in
    record {
      left = ap (λ rows. with_texts rows c.args.command found c.in_ok-settings.settings) c.all-option-items.ensures
          ∙ ap (with_texts options c.args.command found) c.in_ok-settings.ensures.value;
      bounded = c.in_ok-settings.ensures.bounded;
    }

pub returns-in_err-give-clause-value : goal.returns-in_err-give-clause-value
unfolding settings_in
returns-in_err-give-clause-value c =
    let p = err_from_is_err_and c.from_residual-in_err-give.result c.from_residual-in_err-give.ensures.1 in
    let found = rows_of (found_of c.args.found.now) in
    let refused = subst (Refuses c.in_err-give.field-0.0) c.loop-option.invariant.left
    (with_texts-refused c.args.command found c.all-option-items.result.now c.loop-option.option-index _ c.loop-option-test.true c.loop-option.settings
    (option_map (λ s. s.now) c.text_for-text.result) c.text_for-text.ensures c.in_err-give.field-0.0 c.in_err-give.ensures.err) in
    rw (p.1, p.2) (refuses_first (with_texts options c.args.command found (without_options c.args.command found)) together c.in_err-give.field-0.0 refused)

pub loop-option-preserved : goal.loop-option-preserved
loop-option-preserved c =
    let found = rows_of (found_of c.args.found.now) in
    record {
      left = sym (with_texts-next c.args.command found c.all-option-items.result.now c.loop-option.option-index _ c.loop-option-test.true c.loop-option.settings
          (option_map (λ s. s.now) c.text_for-text.result) c.text_for-text.ensures c.give.new.self c.in_ok-give.ensures.ok) ∙ c.loop-option.invariant.left;
      bounded = c.in_ok-give.ensures.bounded c.loop-option.invariant.bounded;
    }

pub returns-in_err-fit_together-clause-value : goal.returns-in_err-fit_together-clause-value
unfolding settings_in
returns-in_err-fit_together-clause-value c =
    let p = err_from_is_err_and c.from_residual-in_err-fit_together.result c.from_residual-in_err-fit_together.ensures.1 in
    let found = rows_of (found_of c.args.found.now) in
    let given = with_texts-all c.args.command found c.all-option-items.result.now c.loop-option.option-index c.loop-option.settings _ (omega arith) c.loop-option.invariant.left in
    rw (p.1, p.2, given) c.in_err-fit_together.ensures.err

pub returns-clause-value : goal.returns-clause-value
unfolding settings_in
returns-clause-value c =
    let found = rows_of (found_of c.args.found.now) in
    let given = with_texts-all c.args.command found c.all-option-items.result.now c.loop-option.option-index c.loop-option.settings _ (omega arith) c.loop-option.invariant.left in
    ap (λ r. r >>= together) given ∙ c.in_ok-fit_together.ensures.ok
