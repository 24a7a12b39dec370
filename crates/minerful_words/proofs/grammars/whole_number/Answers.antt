use Rattle.std.proofs.Common.{◌≡◌, true, refl, rules}
use Rattle.minerful_words.specs.Grammars.{is_whole_number, whole_number_of}
use Rattle.minerful_words.proofs.Numerals.{parse-whole}
use Rattle.minerful_words.proofs.grammars.whole_number.Goals as goal

pub returns-then-is_whole_number : goal.returns-then-is_whole_number
unfolding whole_number_of
returns-then-is_whole_number c =
    let whole : is_whole_number c.args.text.now ≡ true = search rules in
    rw (c.ok.ensures.value, parse-whole c.args.text.now c.parse.result c.parse.ensures.value.0 whole, whole) refl
