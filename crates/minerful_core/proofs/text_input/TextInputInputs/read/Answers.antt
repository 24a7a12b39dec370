use Rattle.std.proofs.Common.{rules, Some, take, drop, refl, ap, sym, ◌∙◌}
use Rattle.minerful_core.proofs.Samples.{at_end, copied}
use Rattle.minerful_core.proofs.text_input.TextInputInputs.read.Goals as goal

pub returns : goal.returns
returns c =
    let text = c.args.self.now.text.items in
    let place = c.args.self.now.place in
    let count = c.copy_front-count.result in
    let rest = c.rest_of-rest.ensures ∙ ap (drop place) c.deref.ensures.value in
    record {
      keeps = search rules;
      cause = tt;
      failed = tt;
      as_before = refl;
      bound = search rules;
      bytes = ap (λ l. Some l) (copied text place count _ (c.copy_front-count.ensures.copied ∙ ap (take count) rest));
      at_end = λ e. at_end text place count (sym rest ∙ c.copy_front-count.ensures.none_at_end e);
      unread = tt;
    }
