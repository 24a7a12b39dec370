-- A fact of each repertoire is a fact of both.
use Rattle.template_core.specs.declared.repertoire.Repertoire.{Repertoire}
use Rattle.template_core.specs.declared.repertoire.Repertoire.TheVariants.{First, Second}

pub each_repertoire : (P : Repertoire → Type 0) → P First → P Second → (repertoire : Repertoire) → P repertoire
each_repertoire P first second First = first
each_repertoire P first second Second = second
