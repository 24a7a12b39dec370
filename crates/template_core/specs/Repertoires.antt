-- The two repertoires of templates, and which of their templates are mined.
use Rattle.std.specs.Prelude.{Bool, true, ◌&&◌, not, ◌==◌, nat_le}
use Rattle.template_core.specs.Constraints.{number_of}
use Rattle.template_core.specs.declared.kind.Kind.{Kind}
use Rattle.template_core.specs.declared.kind.Kind.TheVariants.{AtLeast, AtMost}
use Rattle.template_core.specs.declared.repertoire.Repertoire.{Repertoire}
use Rattle.template_core.specs.declared.repertoire.Repertoire.TheVariants.{First, Second}

-- the first has the templates from 1 to 18, the second all
abbrev pub is_of : Repertoire → Kind → Bool
is_of First kind = nat_le (number_of kind) 18
is_of Second kind = true

-- AtLeast 1 and AtMost 1 mean Participation and AtMostOne, and are no candidates
abbrev pub is_candidate : Repertoire → Kind → Bool
is_candidate repertoire (AtLeast n) = is_of repertoire (AtLeast n) && not (n == 1)
is_candidate repertoire (AtMost n) = is_of repertoire (AtMost n) && not (n == 1)
is_candidate repertoire kind = is_of repertoire kind
