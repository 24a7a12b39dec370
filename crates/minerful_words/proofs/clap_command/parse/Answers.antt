use Rattle.std.proofs.Common.{rules, ◌≡◌, subst, [], true, map, string_bytes, inl, inr}
use Rattle.clap.specs.Words.{App, HasKind, HasMatchesOf, fault_of, is_simple_and_free}
use Rattle.minerful_words.specs.Apps.{app_for}
use Rattle.minerful_words.specs.Rows.{command_row}
use Rattle.minerful_words.proofs.Taken.{taken-none, taken-some, simple-from_free}
use Rattle.minerful_words.proofs.clap_command.parse.Goals as goal

pub returns-in-Ok-clause-rows : goal.returns-in-Ok-clause-rows
returns-in-Ok-clause-rows c =
    let app = app_for (command_row c.args.form.now) in
    let words = map string_bytes c.args.words.now in
    let P : App → _ = λ a. is_simple_and_free a ≡ true → fault_of a words ≡ [] in
    let none = subst P c.in_ok-command.ensures c.in-Ok.ensures.kinds c.requires in
    let Q : App → _ = λ a. HasMatchesOf a words c.in-Ok.matches in
    let same = subst Q c.in_ok-command.ensures c.in-Ok.ensures.matches (simple-from_free app c.requires) in
    taken-none app words _ none same.0

pub returns-clause-refusal : goal.returns-clause-refusal
returns-clause-refusal c =
    let app = app_for (command_row c.args.form.now) in
    let words = map string_bytes c.args.words.now in
    let P : App → _ = λ a. is_simple_and_free a ≡ true → HasKind (fault_of a words) c.in-Err.error in
    let kinds = subst P c.in_ok-command.ensures c.in-Err.ensures.kinds c.requires in
    elim kinds [
      | inl memory ↦ absurd (search rules)
      | inr among ↦ taken-some app words _ among
    ]
