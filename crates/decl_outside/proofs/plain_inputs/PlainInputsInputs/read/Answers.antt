use Rattle.std.proofs.Common.{rules, ap, ◌∙◌, refl}
use Rattle.decl_outside.specs.MemFiles.{bytes_from}
use Rattle.decl_outside.proofs.Files.{reads_front}
use Rattle.decl_outside.proofs.plain_inputs.PlainInputsInputs.read.Goals as goal

pub returns-clause-reads : goal.returns-clause-reads
returns-clause-reads c =
    reads_front c.args.self.now.files.items c.args.self.now.current c.args.self.now.place c.copy_front-count.result c.rest_of-rest.result.now _ _ _
    (c.rest_of-rest.ensures ∙ ap (λ files. bytes_from files c.args.self.now.current c.args.self.now.place) c.deref.ensures.value)
    refl refl (search rules) refl c.copy_front-count.ensures.fits c.copy_front-count.ensures.copied c.copy_front-count.ensures.none_at_end
