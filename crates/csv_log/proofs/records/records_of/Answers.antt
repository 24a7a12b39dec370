use Rattle.std.proofs.Common.{◌∙◌, ap, sym, refl, inr, true}
use Rattle.csv.specs.Reading.{Reached, strip_bom, with_flexible}
use Rattle.csv_log.proofs.records.records_of.Goals as goal

pub returns : goal.returns
unfolding Reached
returns c =
    let made = c.from_reader.ensures in
    let setup = c.flexible.ensures ∙ ap (λ b. with_flexible b true) c.has_headers.ensures in
    record {
      plain = rw setup at made.trim ∙ c.new.ensures.trim;
      ready = inr (inr (rw setup at made.has_headers, made.headers));
      setup = rw setup at made.config ∙ c.new.ensures.config;
      flexible = rw setup at made.flexible;
      left = strip_bom c.args.text.now;
      source = made.source;
      reached = (sym made.state, refl);
    }
